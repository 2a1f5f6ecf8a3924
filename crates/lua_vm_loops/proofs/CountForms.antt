-- Numeric `for` loops that count.
use Rattle.std.specs.Prelude.{◌≡◌, ℕ, ◌+◌, [], drop, min, nat_lt, Bool, true, ℤ, pos, Option, Some, None, Result, Ok, Err}
use Rattle.std.proofs.Common.{sym, ◌∙◌, ap, Vec, Global}
use Rattle.std.specs.declared.rc.Rc.{Rc}
use Rattle.lua_ast.specs.declared.expressions.Expr.{Expr}
use Rattle.lua_ast.specs.declared.statements.Stmt.{Stmt}
use Rattle.lua_numbers.specs.declared.faults.NumFault.{NumFault}
use Rattle.lua_values.specs.declared.values.Value.{Value}
use Rattle.lua_values.specs.declared.values.Value.TheVariants.{Number}
use Rattle.lua_values.specs.Heap.{StoreView, step_limit}
use Rattle.lua_operators.specs.declared.arithmetic.ArithmeticOperator.TheVariants.{Add}
use Rattle.lua_operators.specs.declared.faults.Fault.TheVariants as fault
use Rattle.lua_operators.specs.ArithmeticOperators.{result_of}
use Rattle.lua_meaning.specs.Works.{Places, Slots, AValue, Values, Eval, and_then}
use Rattle.lua_meaning.specs.Evaluator.{do_work}
use Rattle.lua_meaning.specs.Setting.{Setting}
use Rattle.lua_meaning.specs.Positions.{callers_at, raise_fault}
use Rattle.lua_meaning.specs.Blocks.{block}
use Rattle.lua_meaning.specs.Loops.{for_next}
use Rattle.lua_meaning.specs.Nodes.{eval}
use Rattle.lua_vm_fast.specs.declared.counting.Counting.{Counting}
use Rattle.lua_vm_fast.specs.declared.counting.CountEnd.{CountEnd}
use Rattle.lua_vm_fast.specs.declared.counting.CountEnd.TheVariants as count_end
use Rattle.lua_vm_fast.specs.Runs.{Becomes}
use Rattle.lua_vm_fast.specs.Counts.{left_of_count}
use Rattle.lua_meaning.specs.Statements.{step_of}
use Rattle.lua_frames.specs.declared.flow.Flow.{Flow}
use Rattle.lua_frames.specs.declared.items.Item.TheVariants as i
use Rattle.lua_frames.specs.declared.loops.Bounds.{Bounds}
use Rattle.lua_frames.specs.declared.loops.Counter.{Counter}
use Rattle.lua_frames.specs.declared.threads.Frames.{Frames}
use Rattle.lua_frames.specs.Items.{resume_item, with_step, counting, counted}
use Rattle.lua_frames.specs.Frames.{here, slots_of}
use Rattle.lua_frames.specs.Follows.{Works, Enters}
use Rattle.lua_frames.specs.Changes.{Waits, Ends, KeepsAllButSlots}
use Rattle.lua_frames.proofs.FollowLemmas.{works_as, work_under, ends_works, enters_works}
use Rattle.lua_frames.proofs.MovedLemmas.{stays_here, works_moved}
use Rattle.lua_frames.specs.Locals.{PutsPlain}
use Rattle.lua_vm_loops.specs.Ranges.{counts_from, run_of, run_from}
use Rattle.lua_vm_loops.proofs.RunForms.{run_enters}

-- a loop without a step has its bounds
pub unit_step : (S : Setting) (b : Bounds) (from to one : Value) (p : Places) (s : Slots) → b.step ≡ None → one ≡ Number (pos 1) → with_step S b p from to s ≡ counting S b p from to one s
unit_step S b from to one p s e is =
    ap (λ (x : Option (Rc Expr Global)). step_of x p s (counting S b p from to)) e ∙ ap (λ (v : Value). counting S b p from to v s) (sym is)

-- the step of one that has it is evaluated
pub own_step : (S : Setting) (b : Bounds) (step : Rc Expr Global) (from to same : Value) (p : Places) (s : Slots) → b.step ≡ Some step → same ≡ to
    → with_step S b p from to s ≡ Eval (AValue step.value) p s (resume_item S (i.ForStep b from same) p)
own_step S b step from to same p s e is =
    ap (λ (x : Option (Rc Expr Global)). step_of x p s (counting S b p from to)) e ∙ ap (λ (v : Value). Eval (AValue step.value) p s (resume_item S (i.ForStep b from v) p)) (sym is)

-- a run for a counter's number
pub run_counts : {E : Type 0} (S : Setting) (c : Counter) (copy : Rc (Vec Stmt Global) Global) (old changed mid fs : Frames) (before between store : StoreView) (below : Bool) (r : Result Flow E)
    → between ≡ record { heap = before.heap; steps = min step_limit (before.steps + 1) } → below ≡ nat_lt (before.steps + 1) step_limit → below ≡ true
    → PutsPlain c.slot (Number c.at) old changed → copy.value ≡ c.body.value → Waits changed (i.Counted c) mid
    → Works S (block copy.value.items (here mid) (slots_of mid)) mid between fs store r → Enters S (run_of c) old before fs store r
run_counts S c copy old changed mid fs before between store below r is e holds puts same h w =
    run_enters S (run_of c) (i.Counted c) c.body copy old changed mid fs before between store below r is e holds puts.keeps same h
    (ap (λ (s : Slots). and_then (block c.body.value.items (here old) s) (resume_item S (i.Counted c) (here old))) (sym puts.slots)) w

-- the next number
pub next_counts : (S : Setting) (c : Counter) (at : ℤ) (n : Result ℤ NumFault) (p : Places) (s : Slots) → n ≡ result_of Add c.at c.step → n ≡ Ok at
    → counted S c p s ≡ counts_from (record c { at = at }) p s
next_counts S c at n p s e is = ap (λ (x : Result ℤ NumFault). for_next S c.line c.slot x c.limit c.step c.body.value.items p s) (sym e ∙ is)

pub next_faults : (S : Setting) (c : Counter) (f : NumFault) (n : Result ℤ NumFault) (p : Places) (s : Slots) → n ≡ result_of Add c.at c.step → n ≡ Err f
    → counted S c p s ≡ raise_fault S (callers_at p c.line) (fault.Number f) s
next_faults S c f n p s e is = ap (λ (x : Result ℤ NumFault). for_next S c.line c.slot x c.limit c.step c.body.value.items p s) (sym e ∙ is)

-- how far a counter goes
abbrev pub count_of : Counter → Counting
count_of c = record { slot = c.slot; limit = c.limit; step = c.step }

-- a loop whose runs were done as far as that goes at once, and then went on
pub count_goes : {E : Type 0} (S : Setting) (c : Counter) (end was : CountEnd) (old mid fs : Frames) (before between store : StoreView) (r : Result Flow E)
    → KeepsAllButSlots old mid → was ≡ end
    → Becomes S (counts_from c (here old) (slots_of old)) before (left_of_count S c.line (count_of c) was c.body.value.items (here old) (slots_of mid)) between
    → Works S (left_of_count S c.line (count_of c) end c.body.value.items (here mid) (slots_of mid)) mid between fs store r
    → Works S (counts_from c (here old) (slots_of old)) old before fs store r
count_goes S c end was old mid fs before between store r keeps is comes w =
    works_moved S (counts_from c (here old) (slots_of old)) (left_of_count S c.line (count_of c) end c.body.value.items (here mid) (slots_of mid)) old mid fs before between store r keeps
    (λ rs. comes rs ∙ ap (λ (e : CountEnd). do_work (eval S) (left_of_count S c.line (count_of c) e c.body.value.items (here old) (slots_of mid)) (record { store = between; resumes = rs })) is
    ∙ ap (λ (p : Places). do_work (eval S) (left_of_count S c.line (count_of c) end c.body.value.items p (slots_of mid)) (record { store = between; resumes = rs })) (sym (stays_here old mid keeps))) w

-- it is over
pub count_over : {E : Type 0} (S : Setting) (c : Counter) (old new : Frames) (store : StoreView) (r : Result Flow E)
    → Ends (Values []) old new r → Works S (left_of_count S c.line (count_of c) count_end.Over c.body.value.items (here old) (slots_of old)) old store new store r
count_over S c old new store r e = ends_works S (Values []) old new store r e

-- a run for a number comes
pub count_next : {E : Type 0} (S : Setting) (c : Counter) (at : ℤ) (old fs : Frames) (before store : StoreView) (r : Result Flow E)
    → Enters S (run_of (record c { at = at })) old before fs store r → Works S (left_of_count S c.line (count_of c) (count_end.Next at) c.body.value.items (here old) (slots_of old)) old before fs store r
count_next S c at old fs before store r w = enters_works S (run_of (record c { at = at })) old fs before store r w

-- one has begun, whose block goes on
pub run_goes : {E : Type 0} (S : Setting) (c : Counter) (copy : Rc (Vec Stmt Global) Global) (next : ℕ) (old mid fs : Frames) (before store : StoreView) (r : Result Flow E)
    → copy.value ≡ c.body.value → Waits old (i.Counted c) mid → Works S (block (drop next copy.value.items) (here mid) (slots_of mid)) mid before fs store r
    → Works S (run_from S c next (here old) (slots_of old)) old before fs store r
run_goes S c copy next old mid fs before store r same h w =
    work_under S old mid fs (i.Counted c) (λ p s. block (drop next c.body.value.items) p s) before store r h
    (works_as S (block (drop next c.body.value.items) (here mid) (slots_of mid)) (block (drop next copy.value.items) (here mid) (slots_of mid)) mid fs before store r w
    (ap (λ (b : Vec Stmt Global). block (drop next b.items) (here mid) (slots_of mid)) (sym same)))
