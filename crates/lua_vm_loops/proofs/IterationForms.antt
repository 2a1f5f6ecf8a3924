-- Generic `for` loops.
use Rattle.std.specs.Prelude.{◌≡◌, ℕ, ◌+◌, List, [], ◌∷◌, drop, slice_get, slice_set, min, nat_lt, Bool, true, false, if◌then◌else◌, Result, refl}
use Rattle.std.proofs.Common.{sym, ◌∙◌, ap, Vec, Global}
use Rattle.std.specs.declared.rc.Rc.{Rc}
use Rattle.lua_ast.specs.declared.statements.Stmt.{Stmt}
use Rattle.lua_values.specs.declared.values.Value.{Value}
use Rattle.lua_values.specs.declared.values.Value.TheVariants.{Nil}
use Rattle.lua_values.specs.Heap.{StoreView, step_limit}
use Rattle.lua_values.specs.Values.{is_nil}
use Rattle.lua_meaning.specs.Works.{Places, Slots, Work, and_then}
use Rattle.lua_meaning.specs.Setting.{Setting}
use Rattle.lua_meaning.specs.Positions.{callers_at}
use Rattle.lua_meaning.specs.Signs.{first, give, or_nil}
use Rattle.lua_meaning.specs.Variables.{with_locals}
use Rattle.lua_meaning.specs.Blocks.{block}
use Rattle.lua_meaning.specs.Calls.{call}
use Rattle.lua_meaning.specs.Loops.{again, iterate}
use Rattle.lua_frames.specs.declared.flow.Flow.{Flow}
use Rattle.lua_frames.specs.declared.items.Item.TheVariants as i
use Rattle.lua_frames.specs.declared.loops.Iteration.{Iteration}
use Rattle.lua_frames.specs.declared.threads.Frames.{Frames}
use Rattle.lua_frames.specs.Items.{resume_item, iterating, passing}
use Rattle.lua_frames.specs.Frames.{here, slots_of}
use Rattle.lua_frames.specs.Follows.{Works, Enters}
use Rattle.lua_frames.specs.Changes.{Waits, KeepsAllButSlots}
use Rattle.lua_frames.proofs.FollowLemmas.{works_as, work_under}
use Rattle.lua_vm_loops.specs.Iterations.{pass_of}
use Rattle.lua_vm_loops.proofs.RunForms.{run_enters}

-- the function is called under the item that takes what it gives
abbrev called : Setting → Iteration → ℕ → Value → List Value → Places → Slots → Work
called S it line f args p s = and_then (call (callers_at p line) f args s) (resume_item S (i.Iterated it) p)

pub iteration_calls : {E : Type 0} (S : Setting) (it : Iteration) (control : Value) (line : ℕ) (f : Value) (args : List Value) (old mid fs : Frames) (before store : StoreView) (r : Result Flow E)
    → line ≡ it.line → f ≡ it.function → args ≡ it.state ∷ control ∷ [] → Waits old (i.Iterated it) mid
    → Works S (call (callers_at (here mid) line) f args (slots_of mid)) mid before fs store r → Works S (iterating it control (here old) (slots_of old)) old before fs store r
iteration_calls S it control line f args old mid fs before store r at is with_ h w =
    works_as S (iterating it control (here old) (slots_of old)) (called S it line f args (here old) (slots_of old)) old fs before store r
    (work_under S old mid fs (i.Iterated it) (λ p s. call (callers_at p line) f args s) before store r h w)
    (sym (ap (λ (n : ℕ). called S it n f args (here old) (slots_of old)) at
    ∙ ap (λ (v : Value). called S it it.line v args (here old) (slots_of old)) is
    ∙ ap (λ (vs : List Value). called S it it.line it.function vs (here old) (slots_of old)) with_))

-- values that were taken out of a list, one after another
first_taken : (vs : List Value) → or_nil (slice_get vs 0) ≡ first vs
first_taken [] = refl
first_taken (v ∷ vs) = refl

second_taken : (vs : List Value) → or_nil (slice_get (slice_set vs 0 Nil) 1) ≡ first (drop 1 vs)
second_taken [] = refl
second_taken (v ∷ []) = refl
second_taken (v ∷ w ∷ vs) = refl

third_taken : (vs : List Value) → or_nil (slice_get (slice_set (slice_set vs 0 Nil) 1 Nil) 2) ≡ first (drop 2 vs)
third_taken [] = refl
third_taken (v ∷ []) = refl
third_taken (v ∷ w ∷ []) = refl
third_taken (v ∷ w ∷ x ∷ vs) = refl

-- a loop whose function, state and control value are the first three of some values
pub iteration_begins : (line : ℕ) (slots : Rc (Vec ℕ Global) Global) (body : Rc (Vec Stmt Global) Global) (it : Iteration) (f state control : Value) (vs us ws : List Value) (p : Places) (s : Slots)
    → it ≡ record { line = line; slots = slots; function = f; state = state; body = body }
    → f ≡ or_nil (slice_get vs 0) → us ≡ slice_set vs 0 Nil → state ≡ or_nil (slice_get us 1) → ws ≡ slice_set us 1 Nil → control ≡ or_nil (slice_get ws 2)
    → iterate line slots.value.items (first vs) (first (drop 1 vs)) (first (drop 2 vs)) body.value.items p s ≡ iterating it control p s
iteration_begins line slots body it f state control vs us ws p s is one left two fewer three =
    sym (ap (λ (t : Iteration). iterating t control p s) is
    ∙ ap (λ (v : Value). iterate line slots.value.items v state control body.value.items p s) (one ∙ first_taken vs)
    ∙ ap (λ (v : Value). iterate line slots.value.items (first vs) v control body.value.items p s) (two ∙ ap (λ (xs : List Value). or_nil (slice_get xs 1)) left ∙ second_taken vs)
    ∙ ap (λ (v : Value). iterate line slots.value.items (first vs) (first (drop 1 vs)) v body.value.items p s)
    (three ∙ ap (λ (xs : List Value). or_nil (slice_get xs 2)) (fewer ∙ ap (λ (xs : List Value). slice_set xs 1 Nil) left) ∙ third_taken vs))

-- what the function gave, by whether its first value is nil
abbrev passing_by : Iteration → Bool → Places → List Value → Slots → Work
passing_by it ends p vs s = if ends then give [] s else again (pass_of it vs) p s

pub passing_ends : (it : Iteration) (control : Value) (ends : Bool) (vs : List Value) (p : Places) (s : Slots) → control ≡ first vs → ends ≡ is_nil control → ends ≡ true
    → passing it p vs s ≡ give [] s
passing_ends it control ends vs p s is e holds = ap (λ (t : Bool). passing_by it t p vs s) (ap (λ (v : Value). is_nil v) (sym is) ∙ sym e ∙ holds)

pub passing_goes : (it : Iteration) (control : Value) (ends : Bool) (vs : List Value) (p : Places) (s : Slots) → control ≡ first vs → ends ≡ is_nil control → ends ≡ false
    → passing it p vs s ≡ again (pass_of it vs) p s
passing_goes it control ends vs p s is e fails = ap (λ (t : Bool). passing_by it t p vs s) (ap (λ (v : Value). is_nil v) (sym is) ∙ sym e ∙ fails)

-- a run with values in the loop's variables
pub run_passes : {E : Type 0} (S : Setting) (it : Iteration) (control : Value) (vs : List Value) (copy : Rc (Vec Stmt Global) Global) (old changed mid fs : Frames) (before between store : StoreView) (below : Bool) (r : Result Flow E)
    → between ≡ record { heap = before.heap; steps = min step_limit (before.steps + 1) } → below ≡ nat_lt (before.steps + 1) step_limit → below ≡ true
    → control ≡ first vs → KeepsAllButSlots old changed → slots_of changed ≡ with_locals it.slots.value.items vs (slots_of old) → copy.value ≡ it.body.value → Waits changed (i.Passed it control) mid
    → Works S (block copy.value.items (here mid) (slots_of mid)) mid between fs store r → Enters S (pass_of it vs) old before fs store r
run_passes S it control vs copy old changed mid fs before between store below r is e holds first_is keeps slots same h w =
    run_enters S (pass_of it vs) (i.Passed it control) it.body copy old changed mid fs before between store below r is e holds keeps same h
    (ap (λ (s : Slots). and_then (block it.body.value.items (here old) s) (resume_item S (i.Passed it (first vs)) (here old))) (sym slots)
    ∙ ap (λ (v : Value). and_then (block it.body.value.items (here old) (slots_of changed)) (resume_item S (i.Passed it v) (here old))) (sym first_is)) w
