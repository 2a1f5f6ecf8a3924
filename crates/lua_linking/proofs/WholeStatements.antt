-- Statements that are raised in a whole program are whole in the joined one.
use Rattle.std.proofs.Common.{◌≡◌, ℕ, ◌+◌, ◌<◌, List, [], ◌∷◌, Vec, Global, Option, Some, None, sym, subst, rules, arith}
use denote.Hole.Carrier.{roll}
use Rattle.std.specs.Prelude.{IfSome}
use Rattle.std.specs.List.{All, AllZip}
use Rattle.std.proofs.lemmas.List.Elements.{All-cons, All-weaker}
use Rattle.lua_ast.specs.declared.expressions.Expr.{Expr}
use Rattle.lua_ast.specs.declared.statements.Stmt.{Stmt}
use Rattle.lua_ast.specs.declared.statements.StmtKind.{StmtKind}
use Rattle.lua_ast.specs.declared.statements.StmtKind as stmt
use Rattle.lua_ast.specs.declared.statements.Arm.{Arm, out-Arm}
use Rattle.lua_ast.specs.declared.statements.Arm as arm
use Rattle.lua_ast.specs.declared.programs.Function.{Function}
use Rattle.lua_ast.specs.WholeProgram.{HasInner, IsWholeExpr, IsWholeStmtKind, IsWholeStmt, IsWholeBlock, AreWholeArms, IsWholeArm}
use Rattle.lua_linking.specs.Raising.{Shared, RaisedExpr, RaisedStep, RaisedStmtKind, RaisedBlock, RaisedArms, RaisedArm, RaisedStmt}
use Rattle.lua_linking.proofs.Lists.{all_zipped, first_of, rest_of}
use Rattle.lua_linking.proofs.Wholes.{expr_whole, expr_stays}

-- a list of whole statements is a whole block, and the same of arms
module _ (gs : List Function) (g : Function) where
  rows_from : {m : _} (r : stmt.Row_of-Stmt m) → All (IsWholeStmt gs g) (stmt.items-the_row-Stmt _ r) → IsWholeBlock gs g r
  rows_from stmt.end_of-Stmt h = tt
  rows_from (stmt.more_of-Stmt l k row) h =
      let s : Stmt = record { line = l; kind = k } in
      let rest = stmt.items-the_row-Stmt _ row in
      (first_of (IsWholeStmt gs g) s rest h, rows_from row (rest_of (IsWholeStmt gs g) s rest h))

  arms_rows_from : {m : _} (r : stmt.Row_of-Arm m) → All (IsWholeArm gs g) (stmt.items-the_row-Arm _ r) → AreWholeArms gs g r
  arms_rows_from stmt.end_of-Arm h = tt
  arms_rows_from (stmt.more_of-Arm a row) h =
      let rest = stmt.items-the_row-Arm _ row in
      (first_of (IsWholeArm gs g) a rest h, arms_rows_from row (rest_of (IsWholeArm gs g) a rest h))

  block_from : (values : Vec Stmt Global) → All (IsWholeStmt gs g) values.items → IsWholeBlock gs g (stmt.TheBlock.hidden-the_row-Stmt-0 values)
  block_from values h =
      let e : stmt.items-the_row-Stmt _ (stmt.TheBlock.hidden-the_row-Stmt-0 values) ≡ values.items = search (rules, stmt.the_lemmas) in
      rows_from (stmt.TheBlock.hidden-the_row-Stmt-0 values) (rw e h)

  arms_from : (values : Vec Arm Global) → All (IsWholeArm gs g) values.items → AreWholeArms gs g (stmt.TheBlock.hidden-the_row-Arm-1 values)
  arms_from values h =
      let e : stmt.items-the_row-Arm _ (stmt.TheBlock.hidden-the_row-Arm-1 values) ≡ values.items = search (rules, stmt.the_lemmas) in
      arms_rows_from (stmt.TheBlock.hidden-the_row-Arm-1 values) (rw e h)

  arm_rolled : (a : Arm) → IsWholeExpr gs g (out-Arm a).test → All (IsWholeStmt gs g) (out-Arm a).body.value.items → IsWholeArm gs g (arm.roll-Arm (out-Arm a))
  unfolding arm.roll-Arm roll
  arm_rolled a p q = (p, block_from (out-Arm a).body.value q)

  arm_from : (a : Arm) → IsWholeExpr gs g (out-Arm a).test → All (IsWholeStmt gs g) (out-Arm a).body.value.items → IsWholeArm gs g a
  arm_from a p q =
      let e : arm.roll-Arm (out-Arm a) ≡ a = search (rules, arm.the_lemmas) in
      subst (IsWholeArm gs g) e (arm_rolled a p q)

module _ (by : ℕ) (fs gs : List Function) (f g : Function) (slots : g.slots ≡ f.slots) (captures : g.captures.items ≡ f.captures.items)
    (inner : (n : ℕ) → HasInner fs f n → HasInner gs g (n + by)) where
  one : (e d : Expr) → RaisedExpr by e d → IsWholeExpr fs f e → IsWholeExpr gs g d
  one = expr_whole by fs gs f g slots captures inner

  each : (es ds : List Expr) → AllZip (RaisedExpr by) es ds → All (IsWholeExpr fs f) es → All (IsWholeExpr gs g) ds
  each es ds = all_zipped (RaisedExpr by) (IsWholeExpr fs f) (IsWholeExpr gs g) es ds one

  fit : (ns : List ℕ) → All (λ n. n < f.slots) ns → All (λ n. n < g.slots) ns
  fit ns = subst (λ m. All (λ n. n < m) ns) (sym slots)

  step_whole : (s t : Option Shared) → RaisedStep by s t → IfSome s (λ x. IsWholeExpr fs f x.value) → IfSome t (λ x. IsWholeExpr gs g x.value)
  step_whole None t r w = rw r tt
  step_whole (Some x) t r w = rw r.1 (one x.value r.0.value r.2 w)

  mutual
    pub kind_whole : (k d : StmtKind) → RaisedStmtKind by k d → IsWholeStmtKind fs f k → IsWholeStmtKind gs g d
    kind_whole (stmt.Local ns values) d r w = rw r.1 (fit ns.value.items w.0, each values.value.items r.0.value.items r.2 w.1)
    kind_whole (stmt.LocalFunction slot n) d r w = rw r (subst (λ m. slot < m) (sym slots) w.0, inner n w.1)
    kind_whole (stmt.Assign targets values) d r w =
        rw r.2 (each targets.value.items r.0.value.items r.3 w.0, each values.value.items r.1.value.items r.4 w.1)
    kind_whole (stmt.Call e) d r w = rw r.1 (one e r.0 r.2 w)
    kind_whole (stmt.Do' p shape row) d r w = rw r.1 (block_from gs g r.0.value (block_whole row r.0.value.items r.2 w))
    kind_whole (stmt.While' test p shape row) d r w =
        rw r.2 (one test.value r.0.value r.3 w.0, block_from gs g r.1.value (block_whole row r.1.value.items r.4 w.1))
    kind_whole (stmt.Repeat' p shape row test) d r w =
        rw r.2 (block_from gs g r.0.value (block_whole row r.0.value.items r.3 w.0), one test.value r.1.value r.4 w.1)
    kind_whole (stmt.If' p shape arms q form row) d r w =
        rw r.2 (arms_from gs g r.0.value (arms_whole arms r.0.value.items r.3 w.0), block_from gs g r.1.value (block_whole row r.1.value.items r.4 w.1))
    kind_whole (stmt.NumericFor' slot from to step p shape row) d r w =
        rw r.4 (
          subst (λ m. slot < m) (sym slots) w.0,
          one from.value r.0.value r.5 w.1,
          one to.value r.1.value r.6 w.2,
          step_whole step r.2 r.7 w.3,
          block_from gs g r.3.value (block_whole row r.3.value.items r.8 w.4),
        )
    kind_whole (stmt.GenericFor' ns values p shape row) d r w =
        rw r.2 (fit ns.value.items w.0, each values.value.items r.0.value.items r.3 w.1, block_from gs g r.1.value (block_whole row r.1.value.items r.4 w.2))
    kind_whole (stmt.Return values) d r w = rw r.1 (each values.value.items r.0.value.items r.2 w)
    kind_whole stmt.Break d r w = rw r tt

    block_whole : {m : _} (row : stmt.Row_of-Stmt m) (ss : List Stmt) → RaisedBlock by row ss → IsWholeBlock fs f row → All (IsWholeStmt gs g) ss
    block_whole stmt.end_of-Stmt ss r w = rw r (λ k d p. absurd (omega arith))
    block_whole (stmt.more_of-Stmt l k row) [] r w = absurd r
    block_whole (stmt.more_of-Stmt l k row) (s ∷ ss) r w = All-cons (IsWholeStmt gs g) s ss (kind_whole k s.kind r.1 w.0) (block_whole row ss r.2 w.1)

    arms_whole : {m : _} (row : stmt.Row_of-Arm m) (those : List Arm) → RaisedArms by row those → AreWholeArms fs f row → All (IsWholeArm gs g) those
    arms_whole stmt.end_of-Arm those r w = rw r (λ k d p. absurd (omega arith))
    arms_whole (stmt.more_of-Arm a row) [] r w = absurd r
    arms_whole (stmt.more_of-Arm a row) (b ∷ those) r w = All-cons (IsWholeArm gs g) b those (arm_whole a b r.0 w.0) (arms_whole row those r.1 w.1)

    arm_whole : (a b : Arm) → RaisedArm by a b → IsWholeArm fs f a → IsWholeArm gs g b
    arm_whole (arm.Arm' test p shape row) b r w = arm_from gs g b (one test (out-Arm b).test r.0 w.0) (block_whole row (out-Arm b).body.value.items r.1 w.1)

  pub stmt_whole : (s t : Stmt) → RaisedStmt by s t → IsWholeStmt fs f s → IsWholeStmt gs g t
  stmt_whole s t r w = kind_whole s.kind t.kind r.1 w

-- a whole statement stays so where functions are added
module _ (fs gs : List Function) (f : Function) (inner : (n : ℕ) → HasInner fs f n → HasInner gs f n) where
  each_stays : (es : List Expr) → All (IsWholeExpr fs f) es → All (IsWholeExpr gs f) es
  each_stays es = All-weaker (IsWholeExpr fs f) (IsWholeExpr gs f) (expr_stays fs gs f inner) es

  step_stays : (s : Option Shared) → IfSome s (λ x. IsWholeExpr fs f x.value) → IfSome s (λ x. IsWholeExpr gs f x.value)
  step_stays None w = tt
  step_stays (Some x) w = expr_stays fs gs f inner x.value w

  mutual
    pub kind_stays : (k : StmtKind) → IsWholeStmtKind fs f k → IsWholeStmtKind gs f k
    kind_stays (stmt.Local ns values) w = (w.0, each_stays values.value.items w.1)
    kind_stays (stmt.LocalFunction slot n) w = (w.0, inner n w.1)
    kind_stays (stmt.Assign targets values) w = (each_stays targets.value.items w.0, each_stays values.value.items w.1)
    kind_stays (stmt.Call e) w = expr_stays fs gs f inner e w
    kind_stays (stmt.Do' p shape row) w = block_stays row w
    kind_stays (stmt.While' test p shape row) w = (expr_stays fs gs f inner test.value w.0, block_stays row w.1)
    kind_stays (stmt.Repeat' p shape row test) w = (block_stays row w.0, expr_stays fs gs f inner test.value w.1)
    kind_stays (stmt.If' p shape arms q form row) w = (arms_stay arms w.0, block_stays row w.1)
    kind_stays (stmt.NumericFor' slot from to step p shape row) w =
        (w.0, expr_stays fs gs f inner from.value w.1, expr_stays fs gs f inner to.value w.2, step_stays step w.3, block_stays row w.4)
    kind_stays (stmt.GenericFor' ns values p shape row) w = (w.0, each_stays values.value.items w.1, block_stays row w.2)
    kind_stays (stmt.Return values) w = each_stays values.value.items w
    kind_stays stmt.Break w = tt

    block_stays : {m : _} (row : stmt.Row_of-Stmt m) → IsWholeBlock fs f row → IsWholeBlock gs f row
    block_stays stmt.end_of-Stmt w = tt
    block_stays (stmt.more_of-Stmt l k row) w = (kind_stays k w.0, block_stays row w.1)

    arms_stay : {m : _} (row : stmt.Row_of-Arm m) → AreWholeArms fs f row → AreWholeArms gs f row
    arms_stay stmt.end_of-Arm w = tt
    arms_stay (stmt.more_of-Arm a row) w = (arm_stays a w.0, arms_stay row w.1)

    arm_stays : (a : Arm) → IsWholeArm fs f a → IsWholeArm gs f a
    arm_stays (arm.Arm' test p shape row) w = (expr_stays fs gs f inner test w.0, block_stays row w.1)

  pub stmt_stays : (s : Stmt) → IsWholeStmt fs f s → IsWholeStmt gs f s
  stmt_stays s w = kind_stays s.kind w
