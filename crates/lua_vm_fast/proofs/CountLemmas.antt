-- Numeric `for` loops that are run at once.
use Rattle.std.specs.Prelude.{◌≡◌, ℕ, ◌+◌, ◌≤◌, nat_lt, min, Bool, true, false, if◌then◌else◌, List, [], length, drop, slice_set, ℤ, Result, Ok, refl}
use Rattle.std.proofs.Common.{sym, ◌∙◌, ap, subst}
use Rattle.lua_ast.specs.declared.statements.Stmt.{Stmt}
use Rattle.lua_numbers.specs.declared.faults.NumFault.{NumFault}
use Rattle.lua_values.specs.declared.values.Value.TheVariants.{Number}
use Rattle.lua_values.specs.Heap.{StoreView, step_limit}
use Rattle.lua_operators.specs.declared.arithmetic.ArithmeticOperator.TheVariants.{Add}
use Rattle.lua_operators.specs.ArithmeticOperators.{result_of}
use Rattle.lua_meaning.specs.declared.slots.Slot.TheVariants.{Plain}
use Rattle.lua_meaning.specs.Works.{Places, Slots, AFor, Work, and_then}
use Rattle.lua_meaning.specs.Evaluator.{Ending, after, do_work}
use Rattle.lua_meaning.specs.Setting.{Setting}
use Rattle.lua_meaning.specs.Signs.{give}
use Rattle.lua_meaning.specs.Blocks.{block}
use Rattle.lua_meaning.specs.Loops.{after_body, is_within, for_from, for_next}
use Rattle.lua_meaning.specs.Nodes.{eval}
use Rattle.lua_meaning.proofs.EvaluatorLemmas.{work-then}
use Rattle.lua_meaning.specs.EndingLaws.{after_same as after_ended}
use Rattle.lua_vm_fast.specs.declared.counting.Counting.{Counting}
use Rattle.lua_vm_fast.specs.declared.counting.CountEnd.{CountEnd}
use Rattle.lua_vm_fast.specs.declared.calls.Site.{Site}
use Rattle.lua_vm_fast.specs.Calls.{Allows}
use Rattle.lua_vm_fast.specs.Runs.{state, Becomes}
use Rattle.lua_vm_fast.specs.Counts.{run_at, rest_of_run, left_of_count, BeginsRun}
use Rattle.lua_vm_fast.proofs.RunLemmas.{counted, dropped_all, entered}

-- a run that begins
pub run_begins : (c : Counting) (i : ℤ) (s s' : Slots) (before store : StoreView) → nat_lt (before.steps + 1) step_limit ≡ true → s' ≡ slice_set s c.slot (Plain (Number i))
    → store ≡ record { heap = before.heap; steps = min step_limit (before.steps + 1) } → BeginsRun true c i s before s' store
run_begins c i s s' before store few set steps S line body p rs =
    after_ended (eval S (AFor line c.slot i c.limit c.step body) p s (state before rs))
    ∙ entered S (AFor line c.slot i c.limit c.step body) p s (state before rs) few
    ∙ ap (λ (st : StoreView). do_work (eval S) (rest_of_run S line c i 0 body p (slice_set s c.slot (Plain (Number i)))) (state st rs)) (sym (counted 1 before store steps few))
    ∙ ap (λ (t : Slots). do_work (eval S) (rest_of_run S line c i 0 body p t) (state store rs)) (sym set)

-- a loop that has a number within its limit, and one that hasn't
pub within_runs : (line : ℕ) (c : Counting) (i : ℤ) (body : List Stmt) (p : Places) (s : Slots) (t : Bool) → t ≡ is_within i c.limit c.step → t ≡ true → for_from line c.slot i c.limit c.step body p s ≡ run_at line c i body p s
within_runs line c i body p s t e holds = ap (λ (b : Bool). if b then run_at line c i body p s else give [] s) (sym e ∙ holds)

pub beyond_ends : (line : ℕ) (c : Counting) (i : ℤ) (body : List Stmt) (p : Places) (s : Slots) (t : Bool) → t ≡ is_within i c.limit c.step → t ≡ false → for_from line c.slot i c.limit c.step body p s ≡ give [] s
beyond_ends line c i body p s t e fails = ap (λ (b : Bool). if b then run_at line c i body p s else give [] s) (sym e ∙ fails)

-- one form of work becomes another one
pub becomes_as : (S : Setting) (q q' r : Work) (before store : StoreView) → Becomes S q before q' store → q' ≡ r → Becomes S q before r store
becomes_as S q q' r before store h e rs = h rs ∙ ap (λ (t : Work). do_work (eval S) t (state store rs)) e

-- no step was left for a run
pub run_stays : (S : Setting) (line : ℕ) (c : Counting) (i : ℤ) (body : List Stmt) (p : Places) (q : Work) (s s' : Slots) (first before store : StoreView)
    → Becomes S q first (run_at line c i body p s) before → BeginsRun false c i s before s' store → Becomes S q first (run_at line c i body p s') store
run_stays S line c i body p q s s' first before store h stays rs = h rs ∙ rw (stays.0, stays.1) refl

-- a run's statements were run up to an index
pub run_goes : (S : Setting) (line : ℕ) (c : Counting) (i : ℤ) (body : List Stmt) (next : ℕ) (p : Places) (q : Work) (s s1 s2 : Slots) (first before mid store : StoreView)
    → Becomes S q first (run_at line c i body p s) before → BeginsRun true c i s before s1 mid → Becomes S (block (drop 0 body) p s1) mid (block (drop next body) p s2) store
    → Becomes S q first (rest_of_run S line c i next body p s2) store
run_goes S line c i body next p q s s1 s2 first before mid store h t b rs =
    h rs ∙ t S line body p rs ∙ work-then (eval S) (block body p s1) (after_body (for_next S line c.slot (result_of Add i c.step) c.limit c.step body p)) (state mid rs)
    ∙ ap (λ (o : Ending). after o (λ sign s3 w. do_work (eval S) (after_body (for_next S line c.slot (result_of Add i c.step) c.limit c.step body p) sign s3) w)) (b rs)
    ∙ sym (work-then (eval S) (block (drop next body) p s2) (after_body (for_next S line c.slot (result_of Add i c.step) c.limit c.step body p)) (state store rs))

-- all of them were, and the loop comes to its next number
pub run_ends : (S : Setting) (line : ℕ) (c : Counting) (i j : ℤ) (n : Result ℤ NumFault) (body : List Stmt) (next : ℕ) (p : Places) (q : Work) (s : Slots) (first store : StoreView)
    → length body ≤ next → n ≡ result_of Add i c.step → n ≡ Ok j → Becomes S q first (rest_of_run S line c i next body p s) store → Becomes S q first (for_from line c.slot j c.limit c.step body p s) store
run_ends S line c i j n body next p q s first store all e is h rs =
    h rs ∙ ap (λ (t : List Stmt). do_work (eval S) (and_then (block t p s) (after_body (for_next S line c.slot (result_of Add i c.step) c.limit c.step body p))) (state store rs)) (dropped_all body next all)
    ∙ ap (λ (r : Result ℤ NumFault). do_work (eval S) (for_next S line c.slot r c.limit c.step body p s) (state store rs)) (sym e ∙ is)

-- the same statements
pub same_run : (site : Site) (levels : ℕ) (c : Counting) (from : ℤ) (xs ys : List Stmt) (r : CountEnd) (s s' : Slots) (before store : StoreView) → xs ≡ ys
    → ((S : Setting) (line : ℕ) (p : Places) → Allows site levels S p → Becomes S (for_from line c.slot from c.limit c.step xs p s) before (left_of_count S line c r xs p s') store)
    → (S : Setting) (line : ℕ) (p : Places) → Allows site levels S p → Becomes S (for_from line c.slot from c.limit c.step ys p s) before (left_of_count S line c r ys p s') store
same_run site levels c from xs ys r s s' before store e h S line p a =
    subst (λ (zs : List Stmt). Becomes S (for_from line c.slot from c.limit c.step zs p s) before (left_of_count S line c r zs p s') store) e (h S line p a)

-- the same work in the same store
pub becomes_same : (S : Setting) (q r : Work) (before : StoreView) → q ≡ r → Becomes S q before r before
becomes_same S q r before e rs = ap (λ (t : Work). do_work (eval S) t (state before rs)) e
