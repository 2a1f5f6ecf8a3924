-- Endings that go on alike, and steps that are counted before them.
use Rattle.std.specs.Prelude.{◌≡◌, ℕ, ◌+◌, nat_lt, Bool, true, false, List, if◌then◌else◌, refl}
use Rattle.lua_values.specs.declared.values.Value.{Value}
use Rattle.lua_values.specs.Heap.{step_limit}
use Rattle.lua_meaning.specs.Works.{Slots, Values, Return, Break, Failed, Work}
use Rattle.lua_meaning.specs.Evaluator.{State, Ending, Ended, Parked, Spent, Evaluator, after, counted, do_work}
use Rattle.lua_meaning.specs.Signs.{on_values}
use Rattle.lua_meaning.specs.Loops.{after_body}
use Rattle.lua_meaning.specs.DirectEquations.{with_values, with_body}

-- the same after one and after the other, where each goes on alike
pub values_then : (ev : Evaluator) (x : Ending) (f : List Value → Slots → Work) (go : List Value → Slots → State → Ending)
    → ((vs : List Value) (s : Slots) (w : State) → do_work ev (f vs s) w ≡ go vs s w)
    → after x (λ sign s w. do_work ev (on_values f sign s) w) ≡ with_values x go
values_then ev (Ended (Values vs) s w) f go e = e vs s w
values_then ev (Ended (Return vs) s w) f go e = refl
values_then ev (Ended Break s w) f go e = refl
values_then ev (Ended (Failed v) s w) f go e = refl
values_then ev (Parked number args position store) f go e = refl
values_then ev Spent f go e = refl

-- the same of a loop's body
pub body_then : (ev : Evaluator) (x : Ending) (f : Slots → Work) (go : Slots → State → Ending)
    → ((s : Slots) (w : State) → do_work ev (f s) w ≡ go s w) → after x (λ sign s w. do_work ev (after_body f sign s) w) ≡ with_body x go
body_then ev (Ended (Values vs) s w) f go e = e s w
body_then ev (Ended (Return vs) s w) f go e = refl
body_then ev (Ended Break s w) f go e = refl
body_then ev (Ended (Failed v) s w) f go e = refl
body_then ev (Parked number args position store) f go e = refl
body_then ev Spent f go e = refl

-- an ending with nothing after it
pub after_same : (x : Ending) → after x (λ sign s w. Ended sign s w) ≡ x
after_same (Ended sign s w) = refl
after_same (Parked number args position store) = refl
after_same Spent = refl

-- the same steps before works that end alike
pub counted_then : (n : ℕ) (w : State) (f g : State → Ending) → ((w' : State) → f w' ≡ g w') → counted n w f ≡ counted n w g
counted_then n w f g e = along (nat_lt (w.store.steps + n) step_limit)
  where
    along : (t : Bool) → (if t then f (record w { store = record { heap = w.store.heap; steps = w.store.steps + n } }) else Spent)
        ≡ (if t then g (record w { store = record { heap = w.store.heap; steps = w.store.steps + n } }) else Spent)
    along true = e _
    along false = refl

-- counting leaves the heap as it is
pub counted_there : (n : ℕ) (w : State) (f g : State → Ending) → ((w' : State) → w'.store.heap ≡ w.store.heap → f w' ≡ g w') → counted n w f ≡ counted n w g
counted_there n w f g e = along (nat_lt (w.store.steps + n) step_limit)
  where
    along : (t : Bool) → (if t then f (record w { store = record { heap = w.store.heap; steps = w.store.steps + n } }) else Spent)
        ≡ (if t then g (record w { store = record { heap = w.store.heap; steps = w.store.steps + n } }) else Spent)
    along true = e _ refl
    along false = refl
