-- What each statement comes to (Lua 5.1 Reference Manual, 2.4).
use Rattle.std.specs.Prelude.{◌≡◌, ℕ, List, [], ◌∷◌, ◌++◌, Bool, true, false, reverse, drop, slice_get, slice_set, pos, Option, Some, None, if◌then◌else◌}
use Rattle.std.specs.declared.rc.Rc.{Rc}
use Rattle.std.specs.declared.vec.Vec.{Vec}
use Rattle.std.specs.declared.alloc.Global.{Global}
use Rattle.lua_ast.specs.declared.expressions.Expr.{Expr}
use Rattle.lua_ast.specs.declared.expressions.ExprKind.{ExprKind, out-ExprKind}
use Rattle.lua_ast.specs.declared.expressions.ExprKind.TheOpen.{ExprKind-F}
use Rattle.lua_ast.specs.declared.expressions.ExprKind.TheOpen as e
use Rattle.lua_ast.specs.declared.expressions.TableItem.{TableItem}
use Rattle.lua_ast.specs.declared.statements.Stmt.{Stmt}
use Rattle.lua_ast.specs.declared.statements.Arm.{Arm, out-Arm}
use Rattle.lua_ast.specs.declared.statements.StmtKind.{StmtKind, out-StmtKind}
use Rattle.lua_ast.specs.declared.statements.StmtKind.TheOpen.{StmtKind-F}
use Rattle.lua_ast.specs.declared.statements.StmtKind.TheOpen as st
use Rattle.lua_values.specs.declared.values.Value.{Value}
use Rattle.lua_values.specs.declared.values.Value.TheVariants.{Nil, Number, Text, Table}
use Rattle.lua_operators.specs.Types.{is_truthy}
use Rattle.lua_meaning.specs.declared.slots.Slot.TheVariants.{Plain}
use Rattle.lua_meaning.specs.Works.{Places, Slots, AnExpr, AStmt, ATurn, ARepeat, ACall, Return, Break}
use Rattle.lua_meaning.specs.Evaluator.{State, Ending, Ended, after, counted, do_work}
use Rattle.lua_meaning.specs.Setting.{Setting}
use Rattle.lua_meaning.specs.Positions.{callers_at}
use Rattle.lua_meaning.specs.Signs.{first, give}
use Rattle.lua_meaning.specs.Variables.{with_locals, write_slot, write_cell}
use Rattle.lua_meaning.specs.Calls.{calling, call_end, returned}
use Rattle.lua_meaning.specs.Assignments.{Target, InSlot, InCapture, AtKey, Nowhere, assigned}
use Rattle.lua_meaning.specs.Nodes.{eval}
use Rattle.lua_meaning.specs.DirectEquations.{with_values, eval_list, eval_block}
use Rattle.lua_meaning_laws.specs.Parts.{gives, eval_one, index_in, store_in}
use Rattle.lua_meaning_laws.specs.Expressions.{Coming, closure_in}
use Rattle.lua_meaning_laws.specs.Loops.{for_in, iterate_in}

-- each statement of this kind counts a step and comes to that
pub record StmtIs (S : Setting) (kind : StmtKind-F StmtKind Arm Stmt) (comes : Coming) : Type 0 where
  pub is : (x : Stmt) (p : Places) (s : Slots) (w : State) → out-StmtKind x.kind ≡ kind
      → eval S (AStmt x) p s w ≡ counted 1 w (λ w'. comes x.line p s w')

-- a value is written to the variable in a slot, or to a captured one; that evaluates nothing
abbrev pub write_in : Setting → ℕ → ℕ → Value → Places → Slots → State → Ending
write_in S line i v p s w = do_work (eval S) (write_slot S (callers_at p line) (slice_get s i) i v s (give [])) w

abbrev pub capture_in : Setting → ℕ → ℕ → Value → Places → Slots → State → Ending
capture_in S line i v p s w = do_work (eval S) (write_cell S (callers_at p line) (slice_get p.cells i) v s (give [] s)) w

-- a target of an assignment, with its object and key evaluated
abbrev pub target_in : Setting → ℕ → ExprKind-F ExprKind TableItem Expr → Places → Slots → State → (Target → Slots → State → Ending) → Ending
target_in S line (e.Slot i) p s w go = go (InSlot line i) s w
target_in S line (e.Captured i) p s w go = go (InCapture line i) s w
target_in S line (e.Global name) p s w go = go (AtKey line (Table w.store.heap.globals) (Text name)) s w
target_in S line (e.Index a b) p s w go = eval_one S a.value p s w (λ v s2 w2. eval_one S b.value p s2 w2 (λ key s3 w3. go (AtKey line v key) s3 w3))
target_in S line kind p s w go = go Nowhere s w

-- further targets, after those that are done; each counts a step
abbrev pub targets_in : Setting → List Expr → Places → List Target → Slots → State → (List Target → Slots → State → Ending) → Ending
targets_in S [] p done s w go = go done s w
targets_in S (x ∷ xs) p done s w go =
    counted 1 w (λ w1. target_in S x.line (out-ExprKind x.kind) p s w1 (λ target s2 w2. targets_in S xs p (done ++ target ∷ []) s2 w2 go))

-- a value is assigned to a target
abbrev pub assign_in : Setting → Target → Value → Places → Slots → State → Ending
assign_in S (InSlot line i) v p s w = write_in S line i v p s w
assign_in S (InCapture line i) v p s w = capture_in S line i v p s w
assign_in S (AtKey line object key) v p s w = store_in S line object key v p s w
assign_in S Nowhere v p s w = gives [] s w

-- one assignment after another
abbrev pub assign_each : Setting → List (Target × Value) → Places → Slots → State → Ending
assign_each S [] p s w = gives [] s w
assign_each S (a ∷ assignments) p s w = with_values (assign_in S a.0 a.1 p s w) (λ vs s2 w2. assign_each S assignments p s2 w2)

-- the first arm whose test holds, or else the last block
abbrev pub arms_in : Setting → List Arm → List Stmt → Places → Slots → State → Ending
arms_in S [] last p s w = eval_block S last p s w
arms_in S (a ∷ arms) last p s w =
    eval_one S (out-Arm a).test p s w (λ v s2 w2. if is_truthy v then eval_block S (out-Arm a).body.value.items p s2 w2 else arms_in S arms last p s2 w2)

-- the step of a `for` that counts is 1 where there is none
abbrev pub step_in : Setting → Option (Rc Expr Global) → Places → Slots → State → (Value → Slots → State → Ending) → Ending
step_in S None p s w go = go (Number (pos 1)) s w
step_in S (Some x) p s w go = eval_one S x.value p s w go

-- a call of what stands after `return` alone is a tail call
abbrev pub is_call : ExprKind-F ExprKind TableItem Expr → Bool
is_call (e.Call f args) = true
is_call (e.Method a name args) = true
is_call kind = false

abbrev pub is_tail : List Expr → Bool
is_tail (x ∷ []) = is_call (out-ExprKind x.kind)
is_tail xs = false

-- a tail call, with which the function returns
abbrev pub return_call_in : Setting → ℕ → Value → List Value → Places → Slots → State → Ending
return_call_in S line f args p s w =
    after (eval S (ACall f args) (calling (callers_at p line) true) [] w) (λ sign s' w'. Ended (returned (call_end sign)) s w')

-- all statements; a `return` of a function's call alone is in `DirectEquations` of `lua_meaning`
pub record StatementsAre (S : Setting) : Type 0 where
  pub local_ : (slots : Rc (Vec ℕ Global) Global) (xs : Rc (Vec Expr Global) Global) → StmtIs S (st.Local slots xs) (λ line p s w.
      with_values (eval_list S xs.value.items p s w) (λ vs s2 w2. gives [] (with_locals slots.value.items vs s2) w2))
  pub local_function : (slot n : ℕ) → StmtIs S (st.LocalFunction slot n) (λ line p s w.
      with_values (closure_in S n line p (slice_set s slot (Plain Nil)) w) (λ fs s2 w2. write_in S line slot (first fs) p s2 w2))
  pub assignment : (targets xs : Rc (Vec Expr Global) Global) → StmtIs S (st.Assign targets xs) (λ line p s w.
      targets_in S targets.value.items p [] s w (λ ts s2 w2. with_values (eval_list S xs.value.items p s2 w2) (λ vs s3 w3.
      assign_each S (reverse (assigned ts vs)) p s3 w3)))
  pub call : (x : Expr) → StmtIs S (st.Call x) (λ line p s w. with_values (eval S (AnExpr x) p s w) (λ vs s2 w2. gives [] s2 w2))
  pub block : (body : Rc (Vec Stmt Global) Global) → StmtIs S (st.Do body) (λ line p s w. eval_block S body.value.items p s w)
  pub while_ : (test : Rc Expr Global) (body : Rc (Vec Stmt Global) Global) → StmtIs S (st.While test body) (λ line p s w.
      eval_one S test.value p s w (λ v s2 w2. if is_truthy v then eval S (ATurn test.value body.value.items) p s2 w2 else gives [] s2 w2))
  pub repeat_ : (body : Rc (Vec Stmt Global) Global) (test : Rc Expr Global) → StmtIs S (st.Repeat body test) (λ line p s w.
      eval S (ARepeat body.value.items test.value) p s w)
  pub if_ : (arms : Rc (Vec Arm Global) Global) (last : Rc (Vec Stmt Global) Global) → StmtIs S (st.If arms last) (λ line p s w.
      arms_in S arms.value.items last.value.items p s w)
  pub numeric_for : (slot : ℕ) (from to : Rc Expr Global) (step : Option (Rc Expr Global)) (body : Rc (Vec Stmt Global) Global)
      → StmtIs S (st.NumericFor slot from to step body) (λ line p s w.
      eval_one S from.value p s w (λ a s2 w2. eval_one S to.value p s2 w2 (λ b s3 w3. step_in S step p s3 w3 (λ c s4 w4.
      for_in S line slot a b c body.value.items p s4 w4))))
  pub generic_for : (slots : Rc (Vec ℕ Global) Global) (xs : Rc (Vec Expr Global) Global) (body : Rc (Vec Stmt Global) Global)
      → StmtIs S (st.GenericFor slots xs body) (λ line p s w. with_values (eval_list S xs.value.items p s w) (λ vs s2 w2.
      iterate_in S line slots.value.items (first vs) (first (drop 1 vs)) (first (drop 2 vs)) body.value.items p s2 w2))
  pub return_ : (xs : Rc (Vec Expr Global) Global) → is_tail xs.value.items ≡ false → StmtIs S (st.Return xs) (λ line p s w.
      with_values (eval_list S xs.value.items p s w) (λ vs s2 w2. Ended (Return vs) s2 w2))
  pub return_method : (xs : Rc (Vec Expr Global) Global) (x : Expr) (a : Rc Expr Global) (name : List ℕ) (args : Rc (Vec Expr Global) Global)
      → xs.value.items ≡ x ∷ [] → out-ExprKind x.kind ≡ e.Method a name args → StmtIs S (st.Return xs) (λ line p s w.
      counted 1 w (λ w1. eval_one S a.value p s w1 (λ object s2 w2. with_values (index_in S x.line object (Text name) p s2 w2) (λ fs s3 w3.
      with_values (eval_list S args.value.items p s3 w3) (λ vs s4 w4. return_call_in S x.line (first fs) (object ∷ vs) p s4 w4)))))
  pub break_ : StmtIs S st.Break (λ line p s w. Ended Break s w)

pub record EachStatementIs : Type 0 where
  pub all : (S : Setting) → StatementsAre S
