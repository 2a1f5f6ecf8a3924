-- Items and ends of calls ask nothing of the outside before they evaluate a node.
use Rattle.std.specs.Prelude.{ℕ, ◌+◌, List, [], ◌∷◌, drop, map, ℤ, pos, Option, Some, None, Result, Ok, Err, if◌then◌else◌}
use Rattle.std.specs.Ordering.{int_eq}
use Rattle.std.proofs.Common.{Global}
use Rattle.std.specs.declared.rc.Rc.{Rc}
use Rattle.lua_ast.specs.declared.expressions.Expr.{Expr}
use Rattle.lua_ast.specs.declared.statements.Arm.{Arm, out-Arm}
use Rattle.lua_ast.specs.declared.statements.Stmt.{Stmt}
use Rattle.lua_values.specs.declared.values.Value.{Value}
use Rattle.lua_values.specs.declared.values.Value.TheVariants as value
use Rattle.lua_values.specs.Values.{number, is_nil}
use Rattle.lua_operators.specs.Types.{is_truthy}
use Rattle.lua_meaning.specs.Works.{Caller, Places, Slots, ATurn, ARepeat, AFor, AnIter, Sign, Values, Return, Break, Failed, Work, End, and_then}
use Rattle.lua_meaning.specs.Setting.{Setting}
use Rattle.lua_meaning.specs.Positions.{callers_at}
use Rattle.lua_meaning.specs.Signs.{first, give, give_one, more}
use Rattle.lua_meaning.specs.Signs.{value as one}
use Rattle.lua_meaning.specs.Variables.{with_locals}
use Rattle.lua_meaning.specs.Calls.{call, tail_call}
use Rattle.lua_meaning.specs.Operators.{unary_work, binary_work}
use Rattle.lua_meaning.specs.Indexing.{index_work}
use Rattle.lua_meaning.specs.Blocks.{block}
use Rattle.lua_meaning.specs.Expressions.{call_work}
use Rattle.lua_meaning.specs.Assignments.{InSlot}
use Rattle.lua_numbers.specs.declared.faults.NumFault.{NumFault}
use Rattle.lua_operators.specs.declared.arithmetic.ArithmeticOperator.TheVariants.{Add}
use Rattle.lua_operators.specs.declared.faults.Fault.{Fault}
use Rattle.lua_operators.specs.declared.faults.Fault.TheVariants.{ForInitial, ForLimit, ForStep, ForStepZero}
use Rattle.lua_operators.specs.ArithmeticOperators.{result_of}
use Rattle.lua_operators.specs.Conversions.{number_of}
use Rattle.lua_meaning.specs.Positions.{raise_fault}
use Rattle.lua_meaning.specs.Comparison.{give_truth}
use Rattle.lua_meaning.specs.Loops.{again, after_body, while_work, is_within, for_from, for_next, bound, for_work, iterate}
use Rattle.lua_meaning.specs.Statements.{if_work, tail_work, step_of}
use Rattle.lua_frames.specs.declared.frames.Kind.{Kind}
use Rattle.lua_frames.specs.declared.frames.Kind.TheVariants.{Base, Lua, Guard, Handled, Handling}
use Rattle.lua_frames.specs.declared.items.Item.{Item}
use Rattle.lua_frames.specs.declared.items.Item.TheVariants as i
use Rattle.lua_frames.specs.Items.{target_of, assign_values, arm_work, resume_item}
use Rattle.lua_frames.specs.Frames.{closing}
use Rattle.lua_threads.proofs.StepsRise.{IsQuiet}
use Rattle.lua_meaning.specs.Expressions.{method_work}
use Rattle.lua_meaning.specs.Tables.{fill}
use Rattle.lua_meaning.specs.Indexing.{set_work}
use Rattle.lua_frames.specs.declared.loops.Bounds.{Bounds}
use Rattle.lua_frames.specs.Items.{on_value, found_at, items_left, value_at_key, until, counting, with_step, counted, iterating, passing}
use Rattle.lua_threads.proofs.QuietWorks.{on-quiet, either, binary-quiet, unary-quiet, index-quiet, assigned-quiet, more-quiet, calls-quiet, tail-quiet}
use Rattle.lua_threads.proofs.QuietTables.{named-quiet, callee-quiet, tail-named-quiet, found-quiet, items-quiet, value-quiet, set-items-quiet, fill-quiet}

block-quiet : (stmts : List Stmt) (p : Places) (s : Slots) → IsQuiet (block stmts p s)
block-quiet [] p s = tt
block-quiet (st ∷ stmts) p s = tt

if-quiet : (arms : List Arm) (last : List Stmt) (p : Places) (s : Slots) → IsQuiet (if_work arms last p s)
if-quiet [] last p s = block-quiet last p s
if-quiet (a ∷ arms) last p s = tt

arm-quiet : (arms : List Arm) (last : List Stmt) (p : Places) (v : Value) (s : Slots) → IsQuiet (arm_work arms last p v s)
arm-quiet [] last p v s = block-quiet last p s
arm-quiet (a ∷ arms) last p v s = either (is_truthy v) (block (out-Arm a).body.value.items p s) (if_work arms last p s) (block-quiet (out-Arm a).body.value.items p s) (if-quiet arms last p s)

body-quiet : (go : Slots → Work) (sign : Sign) (s : Slots) → IsQuiet (go s) → IsQuiet (after_body go sign s)
body-quiet go (Values vs) s u = u
body-quiet go (Return vs) s u = tt
body-quiet go Break s u = tt
body-quiet go (Failed v) s u = tt

from-quiet : (line slot : ℕ) (i limit step : ℤ) (body : List Stmt) (p : Places) (s : Slots) → IsQuiet (for_from line slot i limit step body p s)
from-quiet line slot i limit step body p s = either (is_within i limit step) (again (AFor line slot i limit step body) p s) (give [] s) tt tt

next-quiet : (S : Setting) (line slot : ℕ) (next : Result ℤ NumFault) (limit step : ℤ) (body : List Stmt) (p : Places) (s : Slots) → IsQuiet (for_next S line slot next limit step body p s)
next-quiet S line slot (Ok i) limit step body p s = from-quiet line slot i limit step body p s
next-quiet S line slot (Err fault) limit step body p s = tt

bound-quiet : (S : Setting) (callers : List Caller) (fault : Fault) (n : Option ℤ) (s : Slots) (go : ℤ → Work) → ((i : ℤ) → IsQuiet (go i)) → IsQuiet (bound S callers fault n s go)
bound-quiet S callers fault (Some n) s go h = h n
bound-quiet S callers fault None s go h = tt

for-quiet : (S : Setting) (line slot : ℕ) (from to by : Value) (body : List Stmt) (p : Places) (s : Slots) → IsQuiet (for_work S line slot from to by body p s)
for-quiet S line slot from to by body p s =
    bound-quiet S (callers_at p line) ForInitial (number_of from) s (λ i. bound S (callers_at p line) ForLimit (number_of to) s (λ limit. bound S (callers_at p line) ForStep (number_of by) s (λ step. if int_eq step (pos 0) then raise_fault S (callers_at p line) ForStepZero s else for_from line slot i limit step body p s)))
    (λ i. bound-quiet S (callers_at p line) ForLimit (number_of to) s (λ limit. bound S (callers_at p line) ForStep (number_of by) s (λ step. if int_eq step (pos 0) then raise_fault S (callers_at p line) ForStepZero s else for_from line slot i limit step body p s))
    (λ limit. bound-quiet S (callers_at p line) ForStep (number_of by) s (λ step. if int_eq step (pos 0) then raise_fault S (callers_at p line) ForStepZero s else for_from line slot i limit step body p s)
    (λ step. either (int_eq step (pos 0)) (raise_fault S (callers_at p line) ForStepZero s) (for_from line slot i limit step body p s) tt (from-quiet line slot i limit step body p s))))

step-quiet : (S : Setting) (b : Bounds) (p : Places) (from to : Value) (s : Slots) (step : Option (Rc Expr Global)) → IsQuiet (step_of step p s (counting S b p from to))
step-quiet S b p from to s None = for-quiet S b.line b.slot from to (value.Number (pos 1)) b.body.value.items p s
step-quiet S b p from to s (Some x) = tt

pub item-quiet : (S : Setting) (item : Item) (p : Places) (sign : Sign) (s : Slots) → IsQuiet (resume_item S item p sign s)
item-quiet S (i.Call line f args) p sign s = on-quiet (λ vs s'. call (callers_at p line) f args.items s') sign s (λ vs s'. tt)
item-quiet S (i.Right line o b) p sign s = on-quiet (λ vs s'. one b.value p s' (λ x s''. binary_work S (callers_at p line) o (first vs) x s'')) sign s (λ vs s'. tt)
item-quiet S (i.Operate line o v) p sign s = on-quiet (λ vs s'. binary_work S (callers_at p line) o v (first vs) s') sign s (λ vs s'. binary-quiet S (callers_at p line) o v (first vs) s')
item-quiet S (i.Unary line o) p sign s = on-quiet (λ vs s'. unary_work S (callers_at p line) o (first vs) s') sign s (λ vs s'. unary-quiet S (callers_at p line) o (first vs) s')
item-quiet S (i.AndThen b) p sign s =
    on-quiet (λ vs s'. if is_truthy (first vs) then one b.value p s' give_one else give_one (first vs) s') sign s
    (λ vs s'. either (is_truthy (first vs)) (one b.value p s' give_one) (give_one (first vs) s') tt tt)
item-quiet S (i.OrElse b) p sign s =
    on-quiet (λ vs s'. if is_truthy (first vs) then give_one (first vs) s' else one b.value p s' give_one) sign s
    (λ vs s'. either (is_truthy (first vs)) (give_one (first vs) s') (one b.value p s' give_one) tt tt)
item-quiet S i.First p sign s = on-quiet (λ vs s'. give_one (first vs) s') sign s (λ vs s'. tt)
item-quiet S (i.Callee line args) p sign s = on-quiet (λ vs s'. call_work line (first vs) args.value.items p s') sign s (λ vs s'. calls-quiet line (first vs) args.value.items p s')
item-quiet S (i.Arguments line f) p sign s = on-quiet (λ vs s'. call (callers_at p line) f vs s') sign s (λ vs s'. tt)
item-quiet S (i.Key line b) p sign s = on-quiet (λ vs s'. one b.value p s' (λ key s''. index_work S line (first vs) key p s'')) sign s (λ vs s'. tt)
item-quiet S (i.At line v) p sign s = on-quiet (λ vs s'. index_work S line v (first vs) p s') sign s (λ vs s'. index-quiet S line v (first vs) p s')
item-quiet S (i.More xs next done) p sign s = on-quiet (more (drop next xs.value.items) p done.items) sign s (λ vs s'. more-quiet (drop next xs.value.items) p done.items vs s')
item-quiet S (i.Locals slots) p sign s = on-quiet (λ vs s'. give [] (with_locals slots.value.items vs s')) sign s (λ vs s'. tt)
item-quiet S i.Discard p sign s = on-quiet (λ vs s'. give [] s') sign s (λ vs s'. tt)
item-quiet S i.Return p sign s = on-quiet (λ vs s'. End (Return vs) s') sign s (λ vs s'. tt)
item-quiet S (i.TailCallee line args) p sign s = on-quiet (λ vs s'. tail_work line (first vs) [] args.value.items p s') sign s (λ vs s'. tail-quiet line (first vs) [] args.value.items p s')
item-quiet S (i.TailArguments line f) p sign s = on-quiet (λ vs s'. tail_call (callers_at p line) f vs s') sign s (λ vs s'. tt)
item-quiet S i.TailReturn p sign s = tt
item-quiet S (i.Rest stmts next) p sign s = on-quiet (λ vs s'. block (drop next stmts.value.items) p s') sign s (λ vs s'. block-quiet (drop next stmts.value.items) p s')
item-quiet S (i.Arm arms next last) p sign s =
    on-quiet (λ vs s'. arm_work (drop next arms.value.items) last.value.items p (first vs) s') sign s (λ vs s'. arm-quiet (drop next arms.value.items) last.value.items p (first vs) s')
item-quiet S (i.While test body) p sign s =
    on-quiet (λ vs s'. if is_truthy (first vs) then again (ATurn test.value body.value.items) p s' else give [] s') sign s
    (λ vs s'. either (is_truthy (first vs)) (again (ATurn test.value body.value.items) p s') (give [] s') tt tt)
item-quiet S (i.Turned test body) p sign s = body-quiet (while_work test.value body.value.items p) sign s tt
item-quiet S (i.Truth wanted) p sign s = on-quiet (λ vs s'. give_truth wanted (is_truthy (first vs)) s') sign s (λ vs s'. tt)
item-quiet S (i.Repeated body test) p sign s = body-quiet (λ s'. one test.value p s' (until body.value.items test.value p)) sign s tt
item-quiet S (i.Until body test) p sign s =
    on-quiet (λ vs s'. until body.value.items test.value p (first vs) s') sign s
    (λ vs s'. either (is_truthy (first vs)) (give [] s') (again (ARepeat body.value.items test.value) p s') tt tt)
item-quiet S (i.ForFrom b) p sign s = on-quiet (λ vs s'. one b.to.value p s' (λ to s''. with_step S b p (first vs) to s'')) sign s (λ vs s'. tt)
item-quiet S (i.ForTo b from) p sign s = on-quiet (λ vs s'. with_step S b p from (first vs) s') sign s (λ vs s'. step-quiet S b p from (first vs) s' b.step)
item-quiet S (i.ForStep b from to) p sign s =
    on-quiet (λ vs s'. counting S b p from to (first vs) s') sign s (λ vs s'. for-quiet S b.line b.slot from to (first vs) b.body.value.items p s')
item-quiet S (i.Counted c) p sign s =
    body-quiet (counted S c p) sign s (next-quiet S c.line c.slot (result_of Add c.at c.step) c.limit c.step c.body.value.items p s)
item-quiet S (i.Iterate line slots body) p sign s =
    on-quiet (λ vs s'. iterate line slots.value.items (first vs) (first (drop 1 vs)) (first (drop 2 vs)) body.value.items p s') sign s (λ vs s'. tt)
item-quiet S (i.Iterated it) p sign s =
    on-quiet (passing it p) sign s
    (λ vs s'. either (is_nil (first vs)) (give [] s') (again (AnIter it.line it.slots.value.items it.function it.state vs it.body.value.items) p s') tt tt)
item-quiet S (i.Passed it control) p sign s = body-quiet (iterating it control p) sign s tt
item-quiet S (i.Assign targets) p sign s =
    on-quiet (λ vs s'. assign_values S (map target_of targets.items) vs p s') sign s (λ vs s'. assigned-quiet S (map target_of targets.items) vs p s')
item-quiet S (i.AssignSlot line n) p sign s =
    on-quiet (λ vs s'. assign_values S (InSlot line n ∷ []) vs p s') sign s (λ vs s'. assigned-quiet S (InSlot line n ∷ []) vs p s')
item-quiet S (i.Method line name args) p sign s =
    on-quiet (λ vs s'. and_then (index_work S line (first vs) (value.Text name) p s') (on_value (λ f s''. method_work line f (first vs) args.value.items p s''))) sign s (λ vs s'. named-quiet S line (first vs) name args.value.items p s')
item-quiet S (i.MethodCallee line object args) p sign s = callee-quiet line object args.value.items p sign s
item-quiet S (i.MethodArguments line f object) p sign s = on-quiet (λ vs s'. call (callers_at p line) f (object ∷ vs) s') sign s (λ vs s'. tt)
item-quiet S (i.TailMethod line name args) p sign s =
    on-quiet (λ vs s'. and_then (index_work S line (first vs) (value.Text name) p s') (on_value (λ f s''. tail_work line f (first vs ∷ []) args.value.items p s''))) sign s (λ vs s'. tail-named-quiet S line (first vs) name args.value.items p s')
item-quiet S (i.TailMethodCallee line object args) p sign s =
    on-quiet (λ vs s'. tail_work line (first vs) (object ∷ []) args.value.items p s') sign s (λ vs s'. tail-quiet line (first vs) (object ∷ []) args.value.items p s')
item-quiet S (i.TailMethodArguments line f object) p sign s = on-quiet (λ vs s'. tail_call (callers_at p line) f (object ∷ vs) s') sign s (λ vs s'. tt)
item-quiet S (i.TargetKey line b a) p sign s = on-quiet (λ vs s'. one b.value p s' (λ key s''. found_at S line (first vs) key a p s'')) sign s (λ vs s'. tt)
item-quiet S (i.TargetAt line v a) p sign s = on-quiet (λ vs s'. found_at S line v (first vs) a p s') sign s (λ vs s'. found-quiet S line v (first vs) a p s')
item-quiet S (i.Stores targets values) p sign s =
    on-quiet (λ vs s'. assign_values S (map target_of targets.items) values.items p s') sign s (λ vs s'. assigned-quiet S (map target_of targets.items) values.items p s')
item-quiet S (i.Items c) p sign s = on-quiet (λ vs s'. items_left S c.number c p s') sign s (λ vs s'. items-quiet S c.line c.table c.number (drop c.next c.items.value.items) p s')
item-quiet S (i.ItemKey c) p sign s =
    on-quiet (λ vs s'. value_at_key S c (drop c.next c.items.value.items) (first vs) p s') sign s (λ vs s'. value-quiet S c (drop c.next c.items.value.items) (first vs) p s')
item-quiet S (i.ItemAtKey c key) p sign s =
    on-quiet (λ vs s'. set_work S (callers_at p c.line) c.table key (first vs) s' (items_left S c.number c p s')) sign s (λ vs s'. set-items-quiet S c.number c key (first vs) p s')
item-quiet S (i.ItemAtNumber c) p sign s =
    on-quiet (λ vs s'. set_work S (callers_at p c.line) c.table (number c.number) (first vs) s' (items_left S (c.number + 1) c p s')) sign s (λ vs s'. set-items-quiet S (c.number + 1) c (number c.number) (first vs) p s')
item-quiet S (i.ItemsAtNumbers c) p sign s =
    on-quiet (λ vs s'. fill S (callers_at p c.line) c.table c.number vs s' (give_one (value.Table c.table) s')) sign s (λ vs s'. fill-quiet S (callers_at p c.line) c.table c.number vs s')

pub closing-quiet : (S : Setting) (kind : Kind) (around : List Caller) (sign : Sign) → IsQuiet (closing S kind around sign)
closing-quiet S Base around sign = tt
closing-quiet S Lua around sign = tt
closing-quiet S Guard around sign = tt
closing-quiet S (Handled by) around (Values vs) = tt
closing-quiet S (Handled by) around (Return vs) = tt
closing-quiet S (Handled by) around Break = tt
closing-quiet S (Handled by) around (Failed v) = tt
closing-quiet S Handling around sign = tt
