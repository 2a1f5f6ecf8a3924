-- Blocks and arms as lists, of which all elements are whole.
use Rattle.std.proofs.Common.{◌≡◌, ℕ, ◌<◌, List, arith, IsTrue, ◌↔◌, Bool, Vec, Global, rules, subst, Option, false}
use denote.Hole.Carrier.{roll}
use Rattle.std.specs.Prelude.{IfSome}
use Rattle.std.specs.declared.rc.Rc.{Rc}
use Rattle.std.specs.List.{All}
use Rattle.std.proofs.lemmas.List.Elements.{All-cons}
use Rattle.lua_ast.specs.declared.expressions.Expr.{Expr}
use Rattle.lua_ast.specs.declared.statements.Stmt.{Stmt}
use Rattle.lua_ast.specs.declared.statements.StmtKind.{StmtKind}
use Rattle.lua_ast.specs.declared.statements.StmtKind as stmt
use Rattle.lua_ast.specs.declared.statements.Arm.{Arm, out-Arm}
use Rattle.lua_ast.specs.declared.statements.Arm as arm
use Rattle.lua_ast.specs.declared.programs.Function.{Function}
use Rattle.lua_ast.specs.WholeProgram.{IsWholeExpr, IsWholeStmtKind, IsWholeStmt, IsWholeBlock, AreWholeArms, IsWholeArm}
use Rattle.lua_ast.proofs.WholeLemmas.{first_of, rest_of}

block_all : {m : _} (fs : List Function) (f : Function) (r : stmt.Row_of-Stmt m) →
    IsWholeBlock fs f r ↔ All (IsWholeStmt fs f) (stmt.items-the_row-Stmt _ r)
block_all fs f stmt.end_of-Stmt = (λ _. λ k d h. absurd (omega arith), λ _. tt)
block_all fs f (stmt.more_of-Stmt l k row) =
    let whole = IsWholeStmt fs f in
    let rest = stmt.items-the_row-Stmt _ row in
    let e : Stmt = record { line = l; kind = k } in (
      λ parts. All-cons whole e rest parts.0 ((block_all fs f row).0 parts.1),
      λ all. (first_of whole e rest all, (block_all fs f row).1 (rest_of whole e rest all)),
    )

arms_all : {m : _} (fs : List Function) (f : Function) (r : stmt.Row_of-Arm m) →
    AreWholeArms fs f r ↔ All (IsWholeArm fs f) (stmt.items-the_row-Arm _ r)
arms_all fs f stmt.end_of-Arm = (λ _. λ k d h. absurd (omega arith), λ _. tt)
arms_all fs f (stmt.more_of-Arm a row) =
    let whole = IsWholeArm fs f in
    let rest = stmt.items-the_row-Arm _ row in (
      λ parts. All-cons whole a rest parts.0 ((arms_all fs f row).0 parts.1),
      λ all. (first_of whole a rest all, (arms_all fs f row).1 (rest_of whole a rest all)),
    )

block_whole : (fs : List Function) (f : Function) (body : Vec Stmt Global) →
    IsWholeBlock fs f (stmt.TheBlock.hidden-the_row-Stmt-0 body) ↔ All (IsWholeStmt fs f) body.items
block_whole fs f body =
    let a = block_all fs f (stmt.TheBlock.hidden-the_row-Stmt-0 body) in
    let e : stmt.items-the_row-Stmt _ (stmt.TheBlock.hidden-the_row-Stmt-0 body) ≡ body.items = search (rules, stmt.the_lemmas) in
    rw e at a

arms_whole : (fs : List Function) (f : Function) (arms : Vec Arm Global) →
    AreWholeArms fs f (stmt.TheBlock.hidden-the_row-Arm-1 arms) ↔ All (IsWholeArm fs f) arms.items
arms_whole fs f arms =
    let a = arms_all fs f (stmt.TheBlock.hidden-the_row-Arm-1 arms) in
    let e : stmt.items-the_row-Arm _ (stmt.TheBlock.hidden-the_row-Arm-1 arms) ≡ arms.items = search (rules, stmt.the_lemmas) in
    rw e at a

-- ---- answers on the parts of a statement are one on the statement

module _ (fs : List Function) (f : Function) where
  pub do_answer : (k : StmtKind) (body : Rc (Vec Stmt Global) Global) (seen : List Stmt) (b : Bool) →
      k ≡ stmt.Do body → seen ≡ body.value.items → (IsTrue b ↔ All (IsWholeStmt fs f) seen) → IsTrue b ↔ IsWholeStmtKind fs f k
  do_answer k body seen b is same answer =
      let w = block_whole fs f body.value in
      let a = rw same at answer in
      rw is (λ t. w.1 (a.0 t), λ h. a.1 (w.0 h))

  pub while_answer : (k : StmtKind) (test : Rc Expr Global) (body : Rc (Vec Stmt Global) Global) (e : Expr) (seen : List Stmt) (b : Bool) →
      k ≡ stmt.While test body → e ≡ test.value → IsWholeExpr fs f e → seen ≡ body.value.items → (IsTrue b ↔ All (IsWholeStmt fs f) seen) →
      IsTrue b ↔ IsWholeStmtKind fs f k
  while_answer k test body e seen b is here first same answer =
      let w = block_whole fs f body.value in
      let a = rw same at answer in
      let c : IsWholeExpr fs f test.value = subst (IsWholeExpr fs f) here first in
      rw is (λ t. (c, w.1 (a.0 t)), λ h. a.1 (w.0 h.1))

  pub repeat_answer : (k : StmtKind) (test : Rc Expr Global) (body : Rc (Vec Stmt Global) Global) (e : Expr) (seen : List Stmt) (b : Bool) →
      k ≡ stmt.Repeat body test → e ≡ test.value → IsWholeExpr fs f e → seen ≡ body.value.items → (IsTrue b ↔ All (IsWholeStmt fs f) seen) →
      IsTrue b ↔ IsWholeStmtKind fs f k
  repeat_answer k test body e seen b is here first same answer =
      let w = block_whole fs f body.value in
      let a = rw same at answer in
      let c : IsWholeExpr fs f test.value = subst (IsWholeExpr fs f) here first in
      rw is (λ t. (w.1 (a.0 t), c), λ h. a.1 (w.0 h.0))

  pub if_answer : (k : StmtKind) (arms : Rc (Vec Arm Global) Global) (body : Rc (Vec Stmt Global) Global) (first : List Arm) (seen : List Stmt) (b : Bool) →
      k ≡ stmt.If arms body → first ≡ arms.value.items → All (IsWholeArm fs f) first → seen ≡ body.value.items →
      (IsTrue b ↔ All (IsWholeStmt fs f) seen) → IsTrue b ↔ IsWholeStmtKind fs f k
  if_answer k arms body first seen b is here all same answer =
      let w = block_whole fs f body.value in
      let v = arms_whole fs f arms.value in
      let a = rw same at answer in
      let c = rw here at all in
      rw is (λ t. (v.1 c, w.1 (a.0 t)), λ h. a.1 (w.0 h.1))

  pub if_fails : (k : StmtKind) (arms : Rc (Vec Arm Global) Global) (body : Rc (Vec Stmt Global) Global) (first : List Arm) (b : Bool) →
      k ≡ stmt.If arms body → first ≡ arms.value.items → b ≡ false → (IsTrue b ↔ All (IsWholeArm fs f) first) → IsTrue b ↔ IsWholeStmtKind fs f k
  if_fails k arms body first b is here fails answer =
      let v = arms_whole fs f arms.value in
      let a = rw here at answer in
      rw is (λ t. absurd (cc), λ h. a.1 (v.0 h.0))

  pub numeric_answer : (k : StmtKind) (slot : ℕ) (from to : Rc Expr Global) (step : Option (Rc Expr Global)) (body : Rc (Vec Stmt Global) Global)
      (d e : Expr) (seen : List Stmt) (b : Bool) →
      k ≡ stmt.NumericFor slot from to step body → d ≡ from.value → e ≡ to.value →
      (slot < f.slots) × IsWholeExpr fs f d × IsWholeExpr fs f e × IfSome step (λ s. IsWholeExpr fs f s.value) →
      seen ≡ body.value.items → (IsTrue b ↔ All (IsWholeStmt fs f) seen) → IsTrue b ↔ IsWholeStmtKind fs f k
  numeric_answer k slot from to step body d e seen b is at_from at_to range same answer =
      let w = block_whole fs f body.value in
      let a = rw same at answer in
      let c : IsWholeExpr fs f from.value = subst (IsWholeExpr fs f) at_from range.1 in
      let g : IsWholeExpr fs f to.value = subst (IsWholeExpr fs f) at_to range.2 in
      rw is (λ t. (range.0, c, g, range.3, w.1 (a.0 t)), λ h. a.1 (w.0 h.4))

  pub generic_answer : (k : StmtKind) (slots : Rc (Vec ℕ Global) Global) (values : Rc (Vec Expr Global) Global) (body : Rc (Vec Stmt Global) Global)
      (ns : List ℕ) (es : List Expr) (seen : List Stmt) (b : Bool) →
      k ≡ stmt.GenericFor slots values body → ns ≡ slots.value.items → es ≡ values.value.items →
      All (λ n. n < f.slots) ns × All (IsWholeExpr fs f) es →
      seen ≡ body.value.items → (IsTrue b ↔ All (IsWholeStmt fs f) seen) → IsTrue b ↔ IsWholeStmtKind fs f k
  generic_answer k slots values body ns es seen b is at_slots at_values head same answer =
      let w = block_whole fs f body.value in
      let a = rw same at answer in
      let c = rw at_slots at (head.0) in
      let g = rw at_values at (head.1) in
      rw is (λ t. (c, g, w.1 (a.0 t)), λ h. a.1 (w.0 h.2))

  arm_rolled : (a : _) → IsWholeArm fs f (arm.roll-Arm a) ↔ (IsWholeExpr fs f a.test × All (IsWholeStmt fs f) a.body.value.items)
  unfolding arm.roll-Arm roll
  arm_rolled a =
      let w = block_whole fs f a.body.value in
      (λ h. (h.0, w.0 h.1), λ h. (h.0, w.1 h.1))

  arm_whole : (a : Arm) → IsWholeArm fs f a ↔ (IsWholeExpr fs f (out-Arm a).test × All (IsWholeStmt fs f) (out-Arm a).body.value.items)
  arm_whole a =
      let e : arm.roll-Arm (out-Arm a) ≡ a = search (rules, arm.the_lemmas) in
      let w = arm_rolled (out-Arm a) in
      rw e at w

  pub arm_answer : (a : Arm) (seen : List Stmt) (b : Bool) →
      IsWholeExpr fs f (out-Arm a).test → seen ≡ (out-Arm a).body.value.items → (IsTrue b ↔ All (IsWholeStmt fs f) seen) →
      IsTrue b ↔ IsWholeArm fs f a
  arm_answer a seen b test same answer =
      let w = arm_whole a in
      let g = rw same at answer in
      (λ t. w.1 (test, g.0 t), λ h. g.1 (w.0 h).1)

  pub arm_fails : (a : Arm) (b : Bool) → b ≡ false → (IsTrue b ↔ IsWholeExpr fs f (out-Arm a).test) → IsTrue b ↔ IsWholeArm fs f a
  arm_fails a b fails answer = (λ t. absurd (cc), λ h. answer.1 ((arm_whole a).0 h).0)
