-- The works of nodes of the same trees, in programs that are the same, are the same; so threads have the same lives in them.
use Rattle.std.proofs.Common.{◌≡◌, ℕ, ◌+◌, ◌++◌, nat_lt, Bool, true, false, List, [], ◌∷◌, length, drop, reverse, ℤ, pos, Global, Option, Some, None, Result, Ok, Err, slice_get, slice_set, int_eq, if◌then◌else◌, refl, ap, ◌∙◌, subst, subst₂}
use Rattle.std.specs.List.{AllZip}
use Rattle.std.specs.declared.rc.Rc.{Rc}
use Rattle.lua_numbers.specs.declared.faults.NumFault.{NumFault}
use Rattle.lua_ast.specs.SameProgram.{SameKind, SameExpr, SameItem, SameStep, SameStmt, SameArm, SameFunction, SameProgram}
use Rattle.lua_ast.specs.declared.expressions.Expr.{Expr}
use Rattle.lua_ast.specs.declared.expressions.ExprKind.{ExprKind, out-ExprKind}
use Rattle.lua_ast.specs.declared.expressions.TableItem.{TableItem}
use Rattle.lua_ast.specs.declared.expressions.TableItem as item
use Rattle.lua_ast.specs.declared.statements.Stmt.{Stmt}
use Rattle.lua_ast.specs.declared.statements.StmtKind.{out-StmtKind}
use Rattle.lua_ast.specs.declared.statements.Arm.{Arm, out-Arm}
use Rattle.lua_ast.specs.declared.programs.Function.{Function}
use Rattle.lua_ast.specs.declared.programs.Program.{Program}
use Rattle.lua_values.specs.declared.values.Value.{Value}
use Rattle.lua_values.specs.declared.values.Value.TheVariants as value_of
use Rattle.lua_operators.specs.declared.faults.Fault.{Fault}
use Rattle.lua_operators.specs.declared.faults.Fault.TheVariants as fault
use Rattle.lua_operators.specs.declared.faults.OperandFault.TheVariants as operand
use Rattle.lua_operators.specs.Types.{type_of, is_truthy}
use Rattle.lua_meaning.specs.declared.slots.Slot.TheVariants.{Plain}
use Rattle.lua_meaning.specs.Works.{Caller, Places, Slots, Node, ATurn, ARepeat, AFor, AnIter, ACall, Sign, Values, Return, Break, Failed, Work, End, and_then}
use Rattle.lua_meaning.specs.Life.{outcome_of}
use Rattle.site_same_laws.specs.Programs.{LiveAlike, in_setting}
use Rattle.site_same_laws.proofs.SameWorks.{SameNode, one_value, all_values, statement, turn, once_more, counting, iterating, called, indexed, stored, SameWork, ends, evals, looks, writes, counts, then_same, on_same, if_same, eval_same}
use Rattle.site_same_laws.proofs.SameTrees.{Out, OutStmt, SameOut, index, call as call_out, method, unary, binary, both, either, paren, table, nil, yes, no, vararg, number as number_out, text, function, slot, captured, global, out_same}
use Rattle.site_same_laws.proofs.SameTrees.{SameOutStmt, local, local_function as local_function_out, assign, called_alone, do_block, while_loop, repeat_loop, choice, numeric, generic, returned_values, broken, out_stmt, out_arm}
use Rattle.site_same_laws.proofs.SamePositions.{Twins, left, right, SameFound, neither, found, function_same, fault_same, operand_same}
use Rattle.site_same_laws.proofs.SameCalls.{unless_same, cell_write_same, slot_write_same, closure_same, index_same, set_same, store_same, binary_same, unary_same, native_same}
use Rattle.lua_meaning.specs.Assignments.{AtKey, InCapture, InSlot, Nowhere, Target, assign_all, assign_to, assigned, assignment_work, target_of, targets_of}
use Rattle.lua_meaning.specs.Blocks.{block}
use Rattle.lua_meaning.specs.Calls.{around_callee, call, call_closure, call_end, calling, extras_of, function_end, inside, most_callers, run, slots_from, tail_call}
use Rattle.lua_meaning.specs.Expressions.{call_work, expr_work, first_extra, method_work, value_work}
use Rattle.lua_meaning.specs.Indexing.{index_work}
use Rattle.lua_meaning.specs.Loops.{after_body, again, bound, for_from, for_next, for_turn, for_work, is_within, iter_turn, iterate, repeat_work, turn_work, while_work}
use Rattle.lua_meaning.specs.Metatables.{handler}
use Rattle.lua_meaning.specs.Nodes.{call_by, callee_work, work_of}
use Rattle.lua_meaning.specs.Positions.{callers_at}
use Rattle.lua_meaning.specs.Signs.{first, give, give_one, listed, more, on_values, value, values_of}
use Rattle.lua_meaning.specs.Statements.{if_work, return_one, return_work, step_of, stmt_work, tail_work, with_values}
use Rattle.lua_meaning.specs.Tables.{constructor_work, expr_of, fill, items_work}
use Rattle.lua_meaning.specs.Variables.{table_fault, with_locals, write_slot}
use Rattle.lua_operators.specs.ArithmeticOperators.{result_of}
use Rattle.lua_operators.specs.Conversions.{number_of}
use Rattle.lua_operators.specs.declared.arithmetic.ArithmeticOperator.TheVariants.{Add}
use Rattle.lua_operators.specs.declared.events.Event.TheVariants.{Call}
use Rattle.lua_values.specs.Heap.{ClosureView}
use Rattle.lua_values.specs.Values.{is_nil, number, same}

-- ---- lists of expressions, blocks and loops, which know no program

listed_same : (x y : Expr) (xs ys : List Expr) → SameExpr x y → AllZip SameExpr xs ys → SameNode (listed x xs) (listed y ys)
listed_same x y [] [] h g = all_values h
listed_same x y [] (w ∷ ws) h g = absurd g
listed_same x y (z ∷ zs) [] h g = absurd g
listed_same x y (z ∷ zs) (w ∷ ws) h g = one_value h

more_same : (xs ys : List Expr) (p : Places) (done vs : List Value) (s : Slots) → AllZip SameExpr xs ys → SameWork (more xs p done vs s) (more ys p done vs s)
more_same [] [] p done vs s h = ends refl
more_same [] (y ∷ ys) p done vs s h = absurd h
more_same (x ∷ xs) [] p done vs s h = absurd h
more_same (x ∷ xs) (y ∷ ys) p done vs s h =
    evals (listed_same x y xs ys h.0 h.1) (on_same (more xs p (done ++ first vs ∷ [])) (more ys p (done ++ first vs ∷ [])) (λ us s'. more_same xs ys p (done ++ first vs ∷ []) us s' h.1))

values_same : (xs ys : List Expr) (p : Places) (s : Slots) → AllZip SameExpr xs ys → SameWork (values_of xs p s) (values_of ys p s)
values_same [] [] p s h = ends refl
values_same [] (y ∷ ys) p s h = absurd h
values_same (x ∷ xs) [] p s h = absurd h
values_same (x ∷ xs) (y ∷ ys) p s h = evals (listed_same x y xs ys h.0 h.1) (on_same (more xs p []) (more ys p []) (λ us s'. more_same xs ys p [] us s' h.1))

-- goes on with the values of a list of expressions
with_same : (xs ys : List Expr) (p : Places) (s : Slots) (go next : List Value → Slots → Work) → AllZip SameExpr xs ys → ((vs : List Value) (s' : Slots) → SameWork (go vs s') (next vs s'))
    → SameWork (with_values xs p s go) (with_values ys p s next)
with_same xs ys p s go next h each = then_same (on_values go) (on_values next) (values_same xs ys p s h) (on_same go next each)

-- and with one value
value_same : (x y : Expr) (p : Places) (s : Slots) (go next : Value → Slots → Work) → SameExpr x y → ((v : Value) (s' : Slots) → SameWork (go v s') (next v s')) → SameWork (value x p s go) (value y p s next)
value_same x y p s go next h each = evals (one_value h) (on_same (λ vs s'. go (first vs) s') (λ vs s'. next (first vs) s') (λ vs s'. each (first vs) s'))

block_same : (ss rs : List Stmt) (p : Places) (s : Slots) → AllZip SameStmt ss rs → SameWork (block ss p s) (block rs p s)
block_same [] [] p s h = ends refl
block_same [] (r ∷ rs) p s h = absurd h
block_same (st ∷ ss) [] p s h = absurd h
block_same (st ∷ ss) (r ∷ rs) p s h = evals (statement h.0) (on_same (λ vs s'. block ss p s') (λ vs s'. block rs p s') (λ vs s'. block_same ss rs p s' h.1))

again_same : (n m : Node) (p : Places) (s : Slots) → SameNode n m → SameWork (again n p s) (again m p s)
again_same n m p s h = evals h (λ sign s'. ends refl)

body_same : (go next : Slots → Work) → ((s : Slots) → SameWork (go s) (next s)) → (sign : Sign) (s : Slots) → SameWork (after_body go sign s) (after_body next sign s)
body_same go next each (Values vs) s = each s
body_same go next each (Return vs) s = ends refl
body_same go next each Break s = ends refl
body_same go next each (Failed v) s = ends refl

-- a run of a loop's body, and then what the loop goes on with
run_body : (ss rs : List Stmt) (p : Places) (s : Slots) (go next : Slots → Work) → AllZip SameStmt ss rs → ((s' : Slots) → SameWork (go s') (next s'))
    → SameWork (and_then (block ss p s) (after_body go)) (and_then (block rs p s) (after_body next))
run_body ss rs p s go next h each = then_same (after_body go) (after_body next) (block_same ss rs p s h) (body_same go next each)

while_same : (x y : Expr) (ss rs : List Stmt) (p : Places) (s : Slots) → SameExpr x y → AllZip SameStmt ss rs → SameWork (while_work x ss p s) (while_work y rs p s)
while_same x y ss rs p s h g =
    value_same x y p s (λ v s'. if is_truthy v then again (ATurn x ss) p s' else give [] s') (λ v s'. if is_truthy v then again (ATurn y rs) p s' else give [] s') h
    (λ v s'. if_same (is_truthy v) (again_same (ATurn x ss) (ATurn y rs) p s' (turn h g)) (ends refl))

turn_same : (x y : Expr) (ss rs : List Stmt) (p : Places) (s : Slots) → SameExpr x y → AllZip SameStmt ss rs → SameWork (turn_work x ss p s) (turn_work y rs p s)
turn_same x y ss rs p s h g = run_body ss rs p s (while_work x ss p) (while_work y rs p) g (λ s'. while_same x y ss rs p s' h g)

until_same : (x y : Expr) (ss rs : List Stmt) (p : Places) (s : Slots) → SameExpr x y → AllZip SameStmt ss rs
    → SameWork (value x p s (λ v s''. if is_truthy v then give [] s'' else again (ARepeat ss x) p s'')) (value y p s (λ v s''. if is_truthy v then give [] s'' else again (ARepeat rs y) p s''))
until_same x y ss rs p s h g =
    value_same x y p s (λ v s''. if is_truthy v then give [] s'' else again (ARepeat ss x) p s'') (λ v s''. if is_truthy v then give [] s'' else again (ARepeat rs y) p s'') h
    (λ v s'. if_same (is_truthy v) (ends refl) (again_same (ARepeat ss x) (ARepeat rs y) p s' (once_more g h)))

repeat_same : (x y : Expr) (ss rs : List Stmt) (p : Places) (s : Slots) → SameExpr x y → AllZip SameStmt ss rs → SameWork (repeat_work ss x p s) (repeat_work rs y p s)
repeat_same x y ss rs p s h g =
    run_body ss rs p s (λ s'. value x p s' (λ v s''. if is_truthy v then give [] s'' else again (ARepeat ss x) p s'')) (λ s'. value y p s' (λ v s''. if is_truthy v then give [] s'' else again (ARepeat rs y) p s'')) g
    (λ s'. until_same x y ss rs p s' h g)

for_from_same : (line i : ℕ) (from limit step : ℤ) (ss rs : List Stmt) (p : Places) (s : Slots) → AllZip SameStmt ss rs → SameWork (for_from line i from limit step ss p s) (for_from line i from limit step rs p s)
for_from_same line i from limit step ss rs p s h =
    if_same (is_within from limit step) (again_same (AFor line i from limit step ss) (AFor line i from limit step rs) p s (counting h)) (ends refl)

iterate_same : (line : ℕ) (slots : List ℕ) (f state control : Value) (ss rs : List Stmt) (p : Places) (s : Slots) → AllZip SameStmt ss rs
    → SameWork (iterate line slots f state control ss p s) (iterate line slots f state control rs p s)
iterate_same line slots f state control ss rs p s h =
    evals called (λ sign s''. on_same (λ vs s'. if is_nil (first vs) then give [] s' else again (AnIter line slots f state vs ss) p s') (λ vs s'. if is_nil (first vs) then give [] s' else again (AnIter line slots f state vs rs) p s')
    (λ vs s'. if_same (is_nil (first vs)) (ends refl) (again_same (AnIter line slots f state vs ss) (AnIter line slots f state vs rs) p s' (iterating h))) (call_end sign) s)

iter_turn_same : (line : ℕ) (slots : List ℕ) (f state : Value) (vs : List Value) (ss rs : List Stmt) (p : Places) (s : Slots) → AllZip SameStmt ss rs
    → SameWork (iter_turn line slots f state vs ss p s) (iter_turn line slots f state vs rs p s)
iter_turn_same line slots f state vs ss rs p s h =
    run_body ss rs p (with_locals slots vs s) (iterate line slots f state (first vs) ss p) (iterate line slots f state (first vs) rs p) h (λ s'. iterate_same line slots f state (first vs) ss rs p s' h)

step_same : (o o' : Option (Rc Expr Global)) (p : Places) (s : Slots) (go next : Value → Slots → Work) → SameStep o o' → ((v : Value) (s' : Slots) → SameWork (go v s') (next v s'))
    → SameWork (step_of o p s go) (step_of o' p s next)
step_same None None p s go next h each = each (value_of.Number (pos 1)) s
step_same None (Some y) p s go next h each = absurd h
step_same (Some x) None p s go next h each = absurd h
step_same (Some x) (Some y) p s go next h each = value_same x.value y.value p s go next h each

if_arms_same : (arms others : List Arm) (ss rs : List Stmt) (p : Places) (s : Slots) → AllZip SameArm arms others → AllZip SameStmt ss rs → SameWork (if_work arms ss p s) (if_work others rs p s)
if_arms_same [] [] ss rs p s h g = block_same ss rs p s g
if_arms_same [] (b ∷ others) ss rs p s h g = absurd h
if_arms_same (a ∷ arms) [] ss rs p s h g = absurd h
if_arms_same (a ∷ arms) (b ∷ others) ss rs p s h g =
    let both_arms = out_arm a b h.0 in
    value_same (out-Arm a).test (out-Arm b).test p s (λ v s'. if is_truthy v then block (out-Arm a).body.value.items p s' else if_work arms ss p s')
    (λ v s'. if is_truthy v then block (out-Arm b).body.value.items p s' else if_work others rs p s') both_arms.test
    (λ v s'. if_same (is_truthy v) (block_same (out-Arm a).body.value.items (out-Arm b).body.value.items p s' both_arms.body) (if_arms_same arms others ss rs p s' h.1 g))

extra_same : (vs : List Value) (s : Slots) → SameWork (first_extra vs s) (first_extra vs s)
extra_same [] s = ends refl
extra_same (v ∷ vs) s = counts (ends refl)

call_work_same : (line : ℕ) (f : Value) (xs ys : List Expr) (p : Places) (s : Slots) → AllZip SameExpr xs ys → SameWork (call_work line f xs p s) (call_work line f ys p s)
call_work_same line f xs ys p s h =
    with_same xs ys p s (λ vs s'. call (callers_at p line) f vs s') (λ vs s'. call (callers_at p line) f vs s') h (λ vs s'. evals called (λ sign s''. ends refl))

method_work_same : (line : ℕ) (f object : Value) (xs ys : List Expr) (p : Places) (s : Slots) → AllZip SameExpr xs ys → SameWork (method_work line f object xs p s) (method_work line f object ys p s)
method_work_same line f object xs ys p s h =
    with_same xs ys p s (λ vs s'. call (callers_at p line) f (object ∷ vs) s') (λ vs s'. call (callers_at p line) f (object ∷ vs) s') h (λ vs s'. evals called (λ sign s''. ends refl))

tail_same : (line : ℕ) (f : Value) (before : List Value) (xs ys : List Expr) (p : Places) (s : Slots) → AllZip SameExpr xs ys → SameWork (tail_work line f before xs p s) (tail_work line f before ys p s)
tail_same line f before xs ys p s h =
    with_same xs ys p s (λ vs s'. tail_call (callers_at p line) f (before ++ vs) s') (λ vs s'. tail_call (callers_at p line) f (before ++ vs) s') h (λ vs s'. evals called (λ sign s''. ends refl))

-- ---- a function that is called

extras_same : (f g : Function) (args : List Value) → SameFunction f g → extras_of f args ≡ extras_of g args
extras_same f g args h = ap (λ (b : Bool). if b then drop f.params args else []) h.vararg ∙ ap (λ (n : ℕ). if g.vararg then drop n args else []) h.params

inside_same : (number : ℕ) (f g : Function) (cells : List ℕ) (args : List Value) (around : List Caller) → SameFunction f g → inside number f cells args around ≡ inside number g cells args around
inside_same number f g cells args around h =
    ap (λ (extras : List Value). record { lua = true; function = number; cells = cells; extras = extras; around = around; tail = false }) (extras_same f g args h)

slots_same : (f g : Function) (args : List Value) → SameFunction f g → slots_from f.slots 0 f.params args ≡ slots_from g.slots 0 g.params args
slots_same f g args h = ap (λ (n : ℕ). slots_from n 0 f.params args) h.slots ∙ ap (λ (n : ℕ). slots_from g.slots 0 n args) h.params

entered_same : (number : ℕ) (f g : Function) (cells : List ℕ) (args : List Value) (around : List Caller) → SameFunction f g
    → SameWork (block f.body.value.items (inside number f cells args around) (slots_from f.slots 0 f.params args)) (block g.body.value.items (inside number g cells args around) (slots_from g.slots 0 g.params args))
entered_same number f g cells args around h =
    subst₂ (λ (p : Places) (s : Slots). SameWork (block f.body.value.items (inside number f cells args around) (slots_from f.slots 0 f.params args)) (block g.body.value.items p s))
    (inside_same number f g cells args around h) (slots_same f g args h)
    (block_same f.body.value.items g.body.value.items (inside number f cells args around) (slots_from f.slots 0 f.params args) h.body)

module _ (A : Twins) where
  -- ---- tables

  fill_same : (cs : List Caller) (t n : ℕ) (vs : List Value) (s : Slots) (go next : Work) → SameWork go next → SameWork (fill (left A) cs t n vs s go) (fill (right A) cs t n vs s next)
  fill_same cs t n [] s go next h = h
  fill_same cs t n (v ∷ vs) s go next h =
      set_same A cs t (number n) v s (fill (left A) cs t (n + 1) vs s go) (fill (right A) cs t (n + 1) vs s next) (fill_same cs t (n + 1) vs s go next h)

  items_same : (line t n : ℕ) (xs ys : List TableItem) (p : Places) (s : Slots) → AllZip SameItem xs ys → SameWork (items_work (left A) line t n xs p s) (items_work (right A) line t n ys p s)
  unfolding SameKind
  items_same line t n [] [] p s h = ends refl
  items_same line t n [] (y ∷ ys) p s h = absurd h
  items_same line t n (x ∷ xs) [] p s h = absurd h
  items_same line t n (item.Pair' l k m j ∷ xs) (item.Pair' l' k' m' j' ∷ ys) p s h =
      evals (one_value (h.0.0, h.0.1)) (on_same _ _ (λ ks s'. evals (one_value (h.0.2, h.0.3)) (on_same _ _ (λ vs s''.
      set_same A (callers_at p line) t (first ks) (first vs) s'' (items_work (left A) line t n xs p s'') (items_work (right A) line t n ys p s'') (items_same line t n xs ys p s'' h.1)))))
  items_same line t n (item.Pair' l k m j ∷ xs) (item.Item' l' k' ∷ ys) p s h = absurd h.0
  items_same line t n (item.Item' l k ∷ xs) (item.Pair' l' k' m' j' ∷ ys) p s h = absurd h.0
  items_same line t n (item.Item' l k ∷ []) (item.Item' l' k' ∷ []) p s h =
      evals (all_values (h.0.0, h.0.1)) (on_same _ _ (λ vs s'. fill_same (callers_at p line) t n vs s' (give_one (value_of.Table t) s') (give_one (value_of.Table t) s') (ends refl)))
  items_same line t n (item.Item' l k ∷ []) (item.Item' l' k' ∷ y ∷ ys) p s h = absurd h.1
  items_same line t n (item.Item' l k ∷ x ∷ xs) (item.Item' l' k' ∷ []) p s h = absurd h.1
  items_same line t n (item.Item' l k ∷ x ∷ xs) (item.Item' l' k' ∷ y ∷ ys) p s h =
      evals (one_value (h.0.0, h.0.1)) (on_same _ _ (λ vs s'.
      set_same A (callers_at p line) t (number n) (first vs) s' (items_work (left A) line t (n + 1) (x ∷ xs) p s') (items_work (right A) line t (n + 1) (y ∷ ys) p s') (items_same line t (n + 1) (x ∷ xs) (y ∷ ys) p s' h.1)))

  constructor_same : (line : ℕ) (xs ys : List TableItem) (p : Places) (s : Slots) → AllZip SameItem xs ys → SameWork (constructor_work (left A) line xs p s) (constructor_work (right A) line ys p s)
  constructor_same line xs ys p s h = looks (λ heap. unless_same A (callers_at p line) table_fault _ s _ _ (writes (items_same line (length heap.tables) 1 xs ys p s h)))

  -- ---- expressions

  -- what is looked up in an object goes on
  looked_same : (line : ℕ) (object : Value) (name : List ℕ) (p : Places) (s : Slots) (go next : Value → Slots → Work) → ((f : Value) (s' : Slots) → SameWork (go f s') (next f s'))
      → SameWork (and_then (index_work (left A) line object (value_of.Text name) p s) (on_values (λ fs s'. go (first fs) s'))) (and_then (index_work (right A) line object (value_of.Text name) p s) (on_values (λ fs s'. next (first fs) s')))
  looked_same line object name p s go next each =
      then_same (on_values (λ fs s'. go (first fs) s')) (on_values (λ fs s'. next (first fs) s')) (index_same A line object (value_of.Text name) p s)
      (on_same (λ fs s'. go (first fs) s') (λ fs s'. next (first fs) s') (λ fs s'. each (first fs) s'))

  expr_same : (line : ℕ) (a b : Out) (p : Places) (s : Slots) → SameOut a b → SameWork (expr_work (left A) line a p s) (expr_work (right A) line b p s)
  expr_same line a b p s (index h g) = evals (one_value h) (on_same _ _ (λ vs s'. evals (one_value g) (on_same _ _ (λ us s''. index_same A line (first vs) (first us) p s''))))
  expr_same line a b p s (call_out {values = values} {others = others} h g) = evals (one_value h) (on_same _ _ (λ vs s'. call_work_same line (first vs) values.value.items others.value.items p s' g))
  expr_same line a b p s (method {name = name} {values = values} {others = others} h g) =
      evals (one_value h) (on_same _ _ (λ vs s'. looked_same line (first vs) name p s' (λ f s''. method_work line f (first vs) values.value.items p s'') (λ f s''. method_work line f (first vs) others.value.items p s'')
      (λ f s''. method_work_same line f (first vs) values.value.items others.value.items p s'' g)))
  expr_same line a b p s (unary {op = op} h) = evals (one_value h) (on_same _ _ (λ vs s'. unary_same A (callers_at p line) op (first vs) s'))
  expr_same line a b p s (binary {op = op} h g) = evals (one_value h) (on_same _ _ (λ vs s'. evals (one_value g) (on_same _ _ (λ us s''. binary_same A (callers_at p line) op (first vs) (first us) s''))))
  expr_same line a b p s (both h g) = evals (one_value h) (on_same _ _ (λ vs s'. if_same (is_truthy (first vs)) (evals (one_value g) (on_same _ _ (λ us s''. ends refl))) (ends refl)))
  expr_same line a b p s (either h g) = evals (one_value h) (on_same _ _ (λ vs s'. if_same (is_truthy (first vs)) (ends refl) (evals (one_value g) (on_same _ _ (λ us s''. ends refl)))))
  expr_same line a b p s (paren h) = evals (one_value h) (on_same _ _ (λ vs s'. ends refl))
  expr_same line a b p s (table {items = items} {others = others} h) = constructor_same line items.value.items others.value.items p s h
  expr_same line a b p s nil = ends refl
  expr_same line a b p s yes = ends refl
  expr_same line a b p s no = ends refl
  expr_same line a b p s vararg = counts (ends refl)
  expr_same line a b p s number_out = ends refl
  expr_same line a b p s text = ends refl
  expr_same line a b p s (function {n = n}) = closure_same A line n p s give_one give_one (λ v s'. ends refl)
  expr_same line a b p s slot = looks (λ h. ends refl)
  expr_same line a b p s captured = looks (λ h. ends refl)
  expr_same line a b p s (global {name = name}) = looks (λ h. index_same A line (value_of.Table h.globals) (value_of.Text name) p s)

  value_work_same : (line : ℕ) (a b : Out) (p : Places) (s : Slots) → SameOut a b → SameWork (value_work (left A) line a p s) (value_work (right A) line b p s)
  value_work_same line a b p s vararg = extra_same p.extras s
  value_work_same line a b p s h = expr_same line _ _ p s h

  -- ---- assignments

  target_same : (line : ℕ) (a b : Out) (p : Places) (s : Slots) (go next : Target → Slots → Work) → SameOut a b → ((t : Target) (s' : Slots) → SameWork (go t s') (next t s'))
      → SameWork (target_of line a p s go) (target_of line b p s next)
  target_same line a b p s go next (slot {n = n}) each = each (InSlot line n) s
  target_same line a b p s go next (captured {n = n}) each = each (InCapture line n) s
  target_same line a b p s go next (global {name = name}) each = looks (λ h. each (AtKey line (value_of.Table h.globals) (value_of.Text name)) s)
  target_same line a b p s go next (index h g) each = evals (one_value h) (on_same _ _ (λ vs s'. evals (one_value g) (on_same _ _ (λ us s''. each (AtKey line (first vs) (first us)) s''))))
  target_same line a b p s go next h each = each Nowhere s

  target_at : (x y : Expr) (p : Places) (s : Slots) (go next : Target → Slots → Work) → SameExpr x y → ((t : Target) (s' : Slots) → SameWork (go t s') (next t s'))
      → SameWork (target_of x.line (out-ExprKind x.kind) p s go) (target_of y.line (out-ExprKind y.kind) p s next)
  target_at x y p s go next h each =
      subst (λ (line : ℕ). SameWork (target_of x.line (out-ExprKind x.kind) p s go) (target_of line (out-ExprKind y.kind) p s next)) h.0
      (target_same x.line (out-ExprKind x.kind) (out-ExprKind y.kind) p s go next (out_same x.kind y.kind h.1) each)

  targets_same : (xs ys : List Expr) (p : Places) (done : List Target) (s : Slots) (go next : List Target → Slots → Work) → AllZip SameExpr xs ys → ((ts : List Target) (s' : Slots) → SameWork (go ts s') (next ts s'))
      → SameWork (targets_of xs p done s go) (targets_of ys p done s next)
  targets_same [] [] p done s go next h each = each done s
  targets_same [] (y ∷ ys) p done s go next h each = absurd h
  targets_same (x ∷ xs) [] p done s go next h each = absurd h
  targets_same (x ∷ xs) (y ∷ ys) p done s go next h each =
      counts (target_at x y p s (λ target s'. targets_of xs p (done ++ target ∷ []) s' go) (λ target s'. targets_of ys p (done ++ target ∷ []) s' next) h.0
      (λ target s'. targets_same xs ys p (done ++ target ∷ []) s' go next h.1 each))

  assign_to_same : (t : Target) (v : Value) (p : Places) (s : Slots) → SameWork (assign_to (left A) t v p s) (assign_to (right A) t v p s)
  assign_to_same (InSlot line i) v p s = slot_write_same A (callers_at p line) (slice_get s i) i v s (give []) (give []) (λ s'. ends refl)
  assign_to_same (InCapture line i) v p s = cell_write_same A (callers_at p line) (slice_get p.cells i) v s (give [] s) (give [] s) (ends refl)
  assign_to_same (AtKey line object key) v p s = store_same A line object key v p s
  assign_to_same Nowhere v p s = ends refl

  assign_all_same : (assignments : List (Target × Value)) (p : Places) (s : Slots) → SameWork (assign_all (left A) assignments p s) (assign_all (right A) assignments p s)
  assign_all_same [] p s = ends refl
  assign_all_same (a ∷ assignments) p s =
      then_same (on_values (λ vs s'. assign_all (left A) assignments p s')) (on_values (λ vs s'. assign_all (right A) assignments p s')) (assign_to_same a.0 a.1 p s)
      (on_same (λ vs s'. assign_all (left A) assignments p s') (λ vs s'. assign_all (right A) assignments p s') (λ vs s'. assign_all_same assignments p s'))

  assignment_same : (targets targets' xs ys : List Expr) (p : Places) (s : Slots) → AllZip SameExpr targets targets' → AllZip SameExpr xs ys
      → SameWork (assignment_work (left A) targets xs p s) (assignment_work (right A) targets' ys p s)
  assignment_same targets targets' xs ys p s h g =
      targets_same targets targets' p [] s (λ ts s'. with_values xs p s' (λ vs s''. assign_all (left A) (reverse (assigned ts vs)) p s'')) (λ ts s'. with_values ys p s' (λ vs s''. assign_all (right A) (reverse (assigned ts vs)) p s'')) h
      (λ ts s'. with_same xs ys p s' (λ vs s''. assign_all (left A) (reverse (assigned ts vs)) p s'') (λ vs s''. assign_all (right A) (reverse (assigned ts vs)) p s'') g
      (λ vs s''. assign_all_same (reverse (assigned ts vs)) p s''))

  -- ---- numeric loops

  for_next_same : (line i : ℕ) (r : Result ℤ NumFault) (limit step : ℤ) (ss rs : List Stmt) (p : Places) (s : Slots) → AllZip SameStmt ss rs
      → SameWork (for_next (left A) line i r limit step ss p s) (for_next (right A) line i r limit step rs p s)
  for_next_same line i (Ok n) limit step ss rs p s h = for_from_same line i n limit step ss rs p s h
  for_next_same line i (Err n) limit step ss rs p s h = fault_same A (callers_at p line) (fault.Number n) s

  for_turn_same : (line i : ℕ) (n limit step : ℤ) (ss rs : List Stmt) (p : Places) (s : Slots) → AllZip SameStmt ss rs
      → SameWork (for_turn (left A) line i n limit step ss p s) (for_turn (right A) line i n limit step rs p s)
  for_turn_same line i n limit step ss rs p s h =
      run_body ss rs p (slice_set s i (Plain (value_of.Number n))) (for_next (left A) line i (result_of Add n step) limit step ss p) (for_next (right A) line i (result_of Add n step) limit step rs p) h
      (λ s'. for_next_same line i (result_of Add n step) limit step ss rs p s' h)

  bound_same : (cs : List Caller) (fault : Fault) (o : Option ℤ) (s : Slots) (go next : ℤ → Work) → ((n : ℤ) → SameWork (go n) (next n)) → SameWork (bound (left A) cs fault o s go) (bound (right A) cs fault o s next)
  bound_same cs fault (Some n) s go next each = each n
  bound_same cs fault None s go next each = fault_same A cs fault s

  for_work_same : (line i : ℕ) (from to by : Value) (ss rs : List Stmt) (p : Places) (s : Slots) → AllZip SameStmt ss rs → SameWork (for_work (left A) line i from to by ss p s) (for_work (right A) line i from to by rs p s)
  for_work_same line i from to by ss rs p s h =
      bound_same (callers_at p line) fault.ForInitial (number_of from) s _ _ (λ n. bound_same (callers_at p line) fault.ForLimit (number_of to) s _ _ (λ limit. bound_same (callers_at p line) fault.ForStep (number_of by) s _ _ (λ step.
      if_same (int_eq step (pos 0)) (fault_same A (callers_at p line) fault.ForStepZero s) (for_from_same line i n limit step ss rs p s h))))

  -- ---- statements

  return_one_same : (line : ℕ) (k j : ExprKind) (a b : Out) (p : Places) (s : Slots) → SameKind k j → SameOut a b
      → SameWork (return_one (left A) (expr_of line k) a p s) (return_one (right A) (expr_of line j) b p s)
  return_one_same line k j a b p s same (call_out {values = values} {others = others} h g) =
      counts (evals (one_value h) (on_same _ _ (λ vs s'. tail_same line (first vs) [] values.value.items others.value.items p s' g)))
  return_one_same line k j a b p s same (method {name = name} {values = values} {others = others} h g) =
      counts (evals (one_value h) (on_same _ _ (λ vs s'. looked_same line (first vs) name p s' (λ f s''. tail_work line f (first vs ∷ []) values.value.items p s'') (λ f s''. tail_work line f (first vs ∷ []) others.value.items p s'')
      (λ f s''. tail_same line f (first vs ∷ []) values.value.items others.value.items p s'' g))))
  return_one_same line k j a b p s same h =
      with_same (expr_of line k ∷ []) (expr_of line j ∷ []) p s (λ vs s'. End (Return vs) s') (λ vs s'. End (Return vs) s') ((refl, same), tt) (λ vs s'. ends refl)

  return_same : (xs ys : List Expr) (p : Places) (s : Slots) → AllZip SameExpr xs ys → SameWork (return_work (left A) xs p s) (return_work (right A) ys p s)
  return_same [] [] p s h = ends refl
  return_same [] (y ∷ ys) p s h = absurd h
  return_same (x ∷ xs) [] p s h = absurd h
  return_same (x ∷ []) (y ∷ []) p s h =
      subst (λ (line : ℕ). SameWork (return_one (left A) x (out-ExprKind x.kind) p s) (return_one (right A) (expr_of line y.kind) (out-ExprKind y.kind) p s)) h.0.0
      (return_one_same x.line x.kind y.kind (out-ExprKind x.kind) (out-ExprKind y.kind) p s h.0.1 (out_same x.kind y.kind h.0.1))
  return_same (x ∷ []) (y ∷ y' ∷ ys) p s h = absurd h.1
  return_same (x ∷ x' ∷ xs) (y ∷ []) p s h = absurd h.1
  return_same (x ∷ x' ∷ xs) (y ∷ y' ∷ ys) p s h = with_same (x ∷ x' ∷ xs) (y ∷ y' ∷ ys) p s (λ vs s'. End (Return vs) s') (λ vs s'. End (Return vs) s') h (λ vs s'. ends refl)

  stmt_same : (line : ℕ) (a b : OutStmt) (p : Places) (s : Slots) → SameOutStmt a b → SameWork (stmt_work (left A) line a p s) (stmt_work (right A) line b p s)
  stmt_same line a b p s (local {slots = slots} {slots' = slots'} {values = values} {others = others} e h) =
      with_same values.value.items others.value.items p s (λ vs s'. give [] (with_locals slots.value.items vs s')) (λ vs s'. give [] (with_locals slots'.value.items vs s')) h
      (λ vs s'. subst (λ (is : List ℕ). SameWork (give [] (with_locals slots.value.items vs s')) (give [] (with_locals is vs s'))) e (ends refl))
  stmt_same line a b p s (local_function_out {i = i} {n = n}) =
      closure_same A line n p (slice_set s i (Plain value_of.Nil)) (λ f s'. write_slot (left A) (callers_at p line) (slice_get s' i) i f s' (give [])) (λ f s'. write_slot (right A) (callers_at p line) (slice_get s' i) i f s' (give []))
      (λ f s'. slot_write_same A (callers_at p line) (slice_get s' i) i f s' (give []) (give []) (λ s''. ends refl))
  stmt_same line a b p s (assign {targets = targets} {targets' = targets'} {values = values} {others = others} h g) =
      assignment_same targets.value.items targets'.value.items values.value.items others.value.items p s h g
  stmt_same line a b p s (called_alone h) = evals (all_values h) (on_same _ _ (λ vs s'. ends refl))
  stmt_same line a b p s (do_block {body = body} {other = other} h) = block_same body.value.items other.value.items p s h
  stmt_same line a b p s (while_loop {x = x} {y = y} {body = body} {other = other} h g) = while_same x.value y.value body.value.items other.value.items p s h g
  stmt_same line a b p s (repeat_loop {x = x} {y = y} {body = body} {other = other} g h) =
      again_same (ARepeat body.value.items x.value) (ARepeat other.value.items y.value) p s (once_more g h)
  stmt_same line a b p s (choice {arms = arms} {others = others} {body = body} {other = other} h g) = if_arms_same arms.value.items others.value.items body.value.items other.value.items p s h g
  stmt_same line a b p s (numeric {i = i} {z = z} {z' = z'} {body = body} {other = other} h g t r) =
      evals (one_value h) (on_same _ _ (λ vs s1. evals (one_value g) (on_same _ _ (λ us s2. step_same z z' p s2
      (λ c s3. for_work (left A) line i (first vs) (first us) c body.value.items p s3) (λ c s3. for_work (right A) line i (first vs) (first us) c other.value.items p s3) t
      (λ c s3. for_work_same line i (first vs) (first us) c body.value.items other.value.items p s3 r)))))
  stmt_same line a b p s (generic {slots = slots} {slots' = slots'} {values = values} {others = others} {body = body} {other = other} e h r) =
      with_same values.value.items others.value.items p s (λ vs s'. iterate line slots.value.items (first vs) (first (drop 1 vs)) (first (drop 2 vs)) body.value.items p s')
      (λ vs s'. iterate line slots'.value.items (first vs) (first (drop 1 vs)) (first (drop 2 vs)) other.value.items p s') h
      (λ vs s'. subst (λ (is : List ℕ). SameWork (iterate line slots.value.items (first vs) (first (drop 1 vs)) (first (drop 2 vs)) body.value.items p s') (iterate line is (first vs) (first (drop 1 vs)) (first (drop 2 vs)) other.value.items p s')) e
      (iterate_same line slots.value.items (first vs) (first (drop 1 vs)) (first (drop 2 vs)) body.value.items other.value.items p s' r))
  stmt_same line a b p s (returned_values {values = values} {others = others} h) = return_same values.value.items others.value.items p s h
  stmt_same line a b p s broken = ends refl

  -- ---- calls

  run_same : (n : ℕ) (o o' : Option Function) (cells : List ℕ) (args : List Value) (q : Places) (s : Slots) → SameFound o o' → SameWork (run (left A) n o cells args q s) (run (right A) n o' cells args q s)
  run_same n o o' cells args q s neither = operand_same A q.around (operand.Call (type_of value_of.Nil)) s
  run_same n o o' cells args q s (found {f = f} {g = g} h) =
      if_same (nat_lt (length (around_callee q)) most_callers)
      (then_same (λ sign s'. End (function_end sign) s) (λ sign s'. End (function_end sign) s) (entered_same n f g cells args (around_callee q) h) (λ sign s'. ends refl))
      (fault_same A q.around fault.StackOverflow s)

  call_closure_same : (o : Option ClosureView) (args : List Value) (q : Places) (s : Slots) → SameWork (call_closure (left A) o args q s) (call_closure (right A) o args q s)
  call_closure_same None args q s = operand_same A q.around (operand.Call (type_of value_of.Nil)) s
  call_closure_same (Some closure) args q s = run_same closure.function _ _ closure.cells args q s (function_same A closure.function)

  call_by_same : (by f : Value) (args : List Value) (q : Places) (s : Slots) → SameWork (call_by (left A) by f args q s) (call_by (right A) by f args q s)
  call_by_same by f args q s = if_same (is_nil by) (operand_same A q.around (operand.Call (type_of f)) s) (evals called (λ sign s'. ends refl))

  callee_same : (f : Value) (args : List Value) (q : Places) (s : Slots) → SameWork (callee_work (left A) f args q s) (callee_work (right A) f args q s)
  callee_same (value_of.Closure c) args q s = looks (λ h. call_closure_same (slice_get h.closures c) args q s)
  callee_same (value_of.Native n) args q s = native_same A n args q.around s
  callee_same f args q s = looks (λ h. call_by_same (handler h f Call) f args q s)

  -- ---- nodes

  node_same : (n m : Node) → SameNode n m → (p : Places) (s : Slots) → SameWork (work_of (left A) n p s) (work_of (right A) m p s)
  node_same n m (one_value {x = x} {y = y} h) p s =
      subst (λ (line : ℕ). SameWork (value_work (left A) x.line (out-ExprKind x.kind) p s) (value_work (right A) line (out-ExprKind y.kind) p s)) h.0
      (value_work_same x.line (out-ExprKind x.kind) (out-ExprKind y.kind) p s (out_same x.kind y.kind h.1))
  node_same n m (all_values {x = x} {y = y} h) p s =
      subst (λ (line : ℕ). SameWork (expr_work (left A) x.line (out-ExprKind x.kind) p s) (expr_work (right A) line (out-ExprKind y.kind) p s)) h.0
      (expr_same x.line (out-ExprKind x.kind) (out-ExprKind y.kind) p s (out_same x.kind y.kind h.1))
  node_same n m (statement {st = st} {other = other} h) p s =
      subst (λ (line : ℕ). SameWork (stmt_work (left A) st.line (out-StmtKind st.kind) p s) (stmt_work (right A) line (out-StmtKind other.kind) p s)) h.0
      (stmt_same st.line (out-StmtKind st.kind) (out-StmtKind other.kind) p s (out_stmt st.kind other.kind h.1))
  node_same n m (turn {x = x} {y = y} {body = body} {other = other} h g) p s = turn_same x y body other p s h g
  node_same n m (once_more {x = x} {y = y} {body = body} {other = other} g h) p s = repeat_same x y body other p s h g
  node_same n m (counting {line = line} {slot = i} {i = k} {limit = limit} {step = step} {body = body} {other = other} h) p s = for_turn_same line i k limit step body other p s h
  node_same n m (iterating {line = line} {slots = slots} {f = f} {state = state} {vs = vs} {body = body} {other = other} h) p s = iter_turn_same line slots f state vs body other p s h
  node_same n m (called {f = f} {args = args}) p s = callee_same f args p s
  node_same n m (indexed {line = line} {v = v} {key = key}) p s = index_same A line v key p s
  node_same n m (stored {line = line} {v = v} {key = key} {x = x}) p s = store_same A line v key x p s

pub live_alike : (p q : Program) → SameProgram p q → LiveAlike p q
live_alike p q same count lib f args [] = refl
live_alike p q same count lib f args (r ∷ resumes) =
    let twins : Twins = record { p = p; q = q; same = same; count = count; lib = lib } in
    ap outcome_of (eval_same (work_of (in_setting p count lib)) (work_of (in_setting q count lib)) (node_same twins) (ACall f args) (ACall f args) called (calling [] false) [] (record { store = r.store; resumes = resumes }))
