-- What an item does with what it waits for: the work that is left of its node.
use Rattle.std.specs.Prelude.{ℕ, ◌+◌, List, [], ◌∷◌, ◌++◌, drop, map, reverse, if◌then◌else◌}
use Rattle.lua_ast.specs.declared.expressions.TableItem.{TableItem}
use Rattle.lua_ast.specs.declared.expressions.TableItem as item
use Rattle.lua_ast.specs.declared.expressions.Expr.{Expr}
use Rattle.lua_ast.specs.declared.statements.Arm.{Arm, out-Arm}
use Rattle.lua_ast.specs.declared.statements.Stmt.{Stmt}
use Rattle.lua_values.specs.declared.values.Value.{Value}
use Rattle.lua_values.specs.declared.values.Value.TheVariants.{Text, Table}
use Rattle.lua_values.specs.Values.{number, is_nil}
use Rattle.lua_operators.specs.declared.arithmetic.ArithmeticOperator.TheVariants.{Add}
use Rattle.lua_operators.specs.ArithmeticOperators.{result_of}
use Rattle.lua_operators.specs.Types.{is_truthy}
use Rattle.lua_meaning.specs.Works.{Places, Slots, ATurn, ARepeat, AnIter, Sign, Return, Work, End, and_then}
use Rattle.lua_meaning.specs.Setting.{Setting}
use Rattle.lua_meaning.specs.Positions.{callers_at}
use Rattle.lua_meaning.specs.Signs.{first, give, give_one, on_values, value, values_of, more}
use Rattle.lua_meaning.specs.Variables.{with_locals}
use Rattle.lua_meaning.specs.Indexing.{index_work, set_work}
use Rattle.lua_meaning.specs.Blocks.{block}
use Rattle.lua_meaning.specs.Calls.{call, returned, tail_call}
use Rattle.lua_meaning.specs.Comparison.{give_truth}
use Rattle.lua_meaning.specs.Operators.{binary_work, unary_work}
use Rattle.lua_meaning.specs.Expressions.{call_work, method_work}
use Rattle.lua_meaning.specs.Tables.{expr_of, fill, items_work}
use Rattle.lua_meaning.specs.Assignments.{targets_of, assigned, assign_all}
use Rattle.lua_meaning.specs.Assignments as assignment
use Rattle.lua_meaning.specs.Loops.{again, after_body, while_work, for_next, for_work, iterate}
use Rattle.lua_meaning.specs.Statements.{if_work, tail_work, step_of}
use Rattle.lua_frames.specs.declared.items.Item.{Item}
use Rattle.lua_frames.specs.declared.items.Item.TheVariants as i
use Rattle.lua_frames.specs.declared.loops.Bounds.{Bounds}
use Rattle.lua_frames.specs.declared.loops.Counter.{Counter}
use Rattle.lua_frames.specs.declared.loops.Iteration.{Iteration}
use Rattle.lua_frames.specs.declared.targets.Assignment.{Assignment}
use Rattle.lua_frames.specs.declared.targets.Constructor.{Constructor}
use Rattle.lua_frames.specs.declared.targets.Target.{Target}
use Rattle.lua_frames.specs.declared.targets.Target.TheVariants as target

-- the target of an assignment that a machine's target is
abbrev pub target_of : Target → assignment.Target
target_of (target.Slot line i) = assignment.InSlot line i
target_of (target.Captured line i) = assignment.InCapture line i
target_of (target.AtKey line v key) = assignment.AtKey line v key
target_of target.Nowhere = assignment.Nowhere

-- goes on with one value
abbrev pub on_value : (Value → Slots → Work) → Sign → Slots → Work
on_value go sign s = on_values (λ vs s'. go (first vs) s') sign s

-- assigns values to targets
abbrev pub assign_values : Setting → List assignment.Target → List Value → Places → Slots → Work
assign_values S targets vs p s = assign_all S (reverse (assigned targets vs)) p s

-- evaluates the values of an assignment to these targets, and then assigns them
abbrev pub with_targets : Setting → List Expr → Places → List assignment.Target → Slots → Work
with_targets S xs p ts s = and_then (values_of xs p s) (on_values (λ vs s'. assign_values S ts vs p s'))

-- what is left of an assignment once these of its targets are found
abbrev pub targets_left : Setting → Assignment → List assignment.Target → Places → Slots → Work
targets_left S a found p s = targets_of (drop a.next a.targets.value.items) p found s (with_targets S a.values.value.items p)

-- and once one more is found, a value at a key
abbrev pub found_at : Setting → ℕ → Value → Value → Assignment → Places → Slots → Work
found_at S line v key a p s = targets_left S a (map target_of a.found.items ++ assignment.AtKey line v key ∷ []) p s

-- what is left of a constructor, whose next item without a key is the n-th
abbrev pub items_left : Setting → ℕ → Constructor → Places → Slots → Work
items_left S n c p s = items_work S c.line c.table n (drop c.next c.items.value.items) p s

-- the value of the first of some items, at a key that was evaluated, and then the items after it
abbrev pub value_at_key : Setting → Constructor → List TableItem → Value → Places → Slots → Work
value_at_key S c [] key p s = give_one (Table c.table) s
value_at_key S c (item.Pair' l k m j ∷ items) key p s =
    value (expr_of m j) p s (λ v s'. set_work S (callers_at p c.line) c.table key v s' (items_work S c.line c.table c.number items p s'))
value_at_key S c (item.Item' l k ∷ items) key p s = give_one (Table c.table) s

-- the arm at the front of some, whose test gave a value
abbrev pub arm_work : List Arm → List Stmt → Places → Value → Slots → Work
arm_work [] last p v s = block last p s
arm_work (a ∷ arms) last p v s = if is_truthy v then block (out-Arm a).body.value.items p s else if_work arms last p s

-- the test of `repeat` gave a value: the loop ends where that holds
abbrev pub until : List Stmt → Expr → Places → Value → Slots → Work
until body test p v s = if is_truthy v then give [] s else again (ARepeat body test) p s

-- a numeric `for` that has its bounds
abbrev pub counting : Setting → Bounds → Places → Value → Value → Value → Slots → Work
counting S b p from to by s = for_work S b.line b.slot from to by b.body.value.items p s

-- one that has the first two, and then its step
abbrev pub with_step : Setting → Bounds → Places → Value → Value → Slots → Work
with_step S b p from to s = step_of b.step p s (counting S b p from to)

-- a numeric `for` whose body has run
abbrev pub counted : Setting → Counter → Places → Slots → Work
counted S c p s = for_next S c.line c.slot (result_of Add c.at c.step) c.limit c.step c.body.value.items p s

-- a generic `for` whose function is called with this control value
abbrev pub iterating : Iteration → Value → Places → Slots → Work
iterating it control p s = iterate it.line it.slots.value.items it.function it.state control it.body.value.items p s

-- its function gave values: the loop ends where the first is nil
abbrev pub passing : Iteration → Places → List Value → Slots → Work
passing it p vs s =
    if is_nil (first vs) then give [] s else again (AnIter it.line it.slots.value.items it.function it.state vs it.body.value.items) p s

abbrev pub resume_item : Setting → Item → Places → Sign → Slots → Work
resume_item S (i.Call line f args) p sign s = on_values (λ vs s'. call (callers_at p line) f args.items s') sign s
resume_item S (i.Right line o b) p sign s = on_value (λ v s'. value b.value p s' (λ x s''. binary_work S (callers_at p line) o v x s'')) sign s
resume_item S (i.Operate line o v) p sign s = on_value (λ x s'. binary_work S (callers_at p line) o v x s') sign s
resume_item S (i.Unary line o) p sign s = on_value (λ v s'. unary_work S (callers_at p line) o v s') sign s
resume_item S (i.AndThen b) p sign s = on_value (λ v s'. if is_truthy v then value b.value p s' give_one else give_one v s') sign s
resume_item S (i.OrElse b) p sign s = on_value (λ v s'. if is_truthy v then give_one v s' else value b.value p s' give_one) sign s
resume_item S i.First p sign s = on_value give_one sign s
resume_item S (i.Truth wanted) p sign s = on_value (λ v s'. give_truth wanted (is_truthy v) s') sign s
resume_item S (i.Callee line args) p sign s = on_value (λ f s'. call_work line f args.value.items p s') sign s
resume_item S (i.Arguments line f) p sign s = on_values (λ vs s'. call (callers_at p line) f vs s') sign s
resume_item S (i.Key line b) p sign s = on_value (λ v s'. value b.value p s' (λ key s''. index_work S line v key p s'')) sign s
resume_item S (i.At line v) p sign s = on_value (λ key s'. index_work S line v key p s') sign s
resume_item S (i.Method line name args) p sign s =
    on_value (λ object s'. and_then (index_work S line object (Text name) p s') (on_value (λ f s''. method_work line f object args.value.items p s''))) sign s
resume_item S (i.MethodCallee line object args) p sign s = on_value (λ f s'. method_work line f object args.value.items p s') sign s
resume_item S (i.MethodArguments line f object) p sign s = on_values (λ vs s'. call (callers_at p line) f (object ∷ vs) s') sign s
resume_item S (i.More xs next done) p sign s = on_values (more (drop next xs.value.items) p done.items) sign s
resume_item S (i.Locals slots) p sign s = on_values (λ vs s'. give [] (with_locals slots.value.items vs s')) sign s
resume_item S i.Discard p sign s = on_values (λ vs s'. give [] s') sign s
resume_item S i.Return p sign s = on_values (λ vs s'. End (Return vs) s') sign s
resume_item S (i.TailCallee line args) p sign s = on_value (λ f s'. tail_work line f [] args.value.items p s') sign s
resume_item S (i.TailArguments line f) p sign s = on_values (λ vs s'. tail_call (callers_at p line) f vs s') sign s
resume_item S (i.TailMethod line name args) p sign s =
    on_value (λ object s'. and_then (index_work S line object (Text name) p s')
    (on_value (λ f s''. tail_work line f (object ∷ []) args.value.items p s''))) sign s
resume_item S (i.TailMethodCallee line object args) p sign s = on_value (λ f s'. tail_work line f (object ∷ []) args.value.items p s') sign s
resume_item S (i.TailMethodArguments line f object) p sign s = on_values (λ vs s'. tail_call (callers_at p line) f (object ∷ vs) s') sign s
resume_item S i.TailReturn p sign s = End (returned sign) s
resume_item S (i.Rest stmts next) p sign s = on_values (λ vs s'. block (drop next stmts.value.items) p s') sign s
resume_item S (i.Arm arms next last) p sign s = on_value (arm_work (drop next arms.value.items) last.value.items p) sign s
resume_item S (i.While test body) p sign s =
    on_value (λ v s'. if is_truthy v then again (ATurn test.value body.value.items) p s' else give [] s') sign s
resume_item S (i.Turned test body) p sign s = after_body (while_work test.value body.value.items p) sign s
resume_item S (i.Repeated body test) p sign s = after_body (λ s'. value test.value p s' (until body.value.items test.value p)) sign s
resume_item S (i.Until body test) p sign s = on_value (until body.value.items test.value p) sign s
resume_item S (i.ForFrom b) p sign s = on_value (λ from s'. value b.to.value p s' (λ to s''. with_step S b p from to s'')) sign s
resume_item S (i.ForTo b from) p sign s = on_value (λ to s'. with_step S b p from to s') sign s
resume_item S (i.ForStep b from to) p sign s = on_value (counting S b p from to) sign s
resume_item S (i.Counted c) p sign s = after_body (counted S c p) sign s
resume_item S (i.Iterate line slots body) p sign s =
    on_values (λ vs s'. iterate line slots.value.items (first vs) (first (drop 1 vs)) (first (drop 2 vs)) body.value.items p s') sign s
resume_item S (i.Iterated it) p sign s = on_values (passing it p) sign s
resume_item S (i.Passed it control) p sign s = after_body (iterating it control p) sign s
resume_item S (i.Assign targets) p sign s = on_values (λ vs s'. assign_values S (map target_of targets.items) vs p s') sign s
resume_item S (i.AssignSlot line n) p sign s = on_values (λ vs s'. assign_values S (assignment.InSlot line n ∷ []) vs p s') sign s
resume_item S (i.TargetKey line b a) p sign s = on_value (λ v s'. value b.value p s' (λ key s''. found_at S line v key a p s'')) sign s
resume_item S (i.TargetAt line v a) p sign s = on_value (λ key s'. found_at S line v key a p s') sign s
resume_item S (i.Stores targets values) p sign s = on_values (λ vs s'. assign_values S (map target_of targets.items) values.items p s') sign s
resume_item S (i.Items c) p sign s = on_values (λ vs s'. items_left S c.number c p s') sign s
resume_item S (i.ItemKey c) p sign s = on_value (λ key s'. value_at_key S c (drop c.next c.items.value.items) key p s') sign s
resume_item S (i.ItemAtKey c key) p sign s =
    on_value (λ v s'. set_work S (callers_at p c.line) c.table key v s' (items_left S c.number c p s')) sign s
resume_item S (i.ItemAtNumber c) p sign s =
    on_value (λ v s'. set_work S (callers_at p c.line) c.table (number c.number) v s' (items_left S (c.number + 1) c p s')) sign s
resume_item S (i.ItemsAtNumbers c) p sign s =
    on_values (λ vs s'. fill S (callers_at p c.line) c.table c.number vs s' (give_one (Table c.table) s')) sign s
