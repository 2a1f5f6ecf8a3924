-- What comes of a thread that parks as often as it is told.
use Rattle.std.specs.Prelude.{◌≡◌, ℕ, zero, suc, ◌+◌, ◌-◌, ◌<◌, nat_lt, List, [], ◌∷◌, None, true, false, refl}
use Rattle.std.proofs.Common.{arith}
use Rattle.std.proofs.lemmas.Bool.{ltb-false}
use borrow.Author.Tests.{ltb-true}
use Rattle.lua_values.specs.declared.values.Value.{Value}
use Rattle.lua_values.specs.Heap.{StoreView, step_limit}
use Rattle.lua_meaning.specs.Evaluator.{Resume}
use Rattle.lua_meaning.specs.Life.{Done, OutOfSteps}
use Rattle.lua_machine.specs.declared.slices.Op.{Op}
use Rattle.lua_machine.specs.declared.slices.Slice.TheVariants as slice
use Rattle.lua_machine.specs.Finishes.{Resumes}
use Rattle.machine_tests.specs.Toy.{with_step, plays}

-- no step is left
pub spends : (n : ℕ) (r : Resume) (rs : List Resume) → nat_lt (r.store.steps + 1) step_limit ≡ false → plays n (r ∷ rs) ≡ OutOfSteps
spends zero r rs e = rw e refl
spends (suc n) r [] e = rw e refl
spends (suc n) r (next ∷ rs) e = rw e refl

pub at_limit : (old new : StoreView) → new ≡ with_step old → nat_lt (old.steps + 1) step_limit ≡ false → new.steps ≡ step_limit
at_limit old new is e = rw is (omega (arith, ltb-false _ _ e))

pub has_risen : (old new : StoreView) → new ≡ with_step old → nat_lt (old.steps + 1) step_limit ≡ true → old.steps < new.steps
has_risen old new is e = rw is (omega (arith, ltb-true _ _ e))

-- it is done
pub ends : (n : ℕ) (r : Resume) (rs : List Resume) (vs : List Value) (store : StoreView) → n ≡ 0 → vs ≡ [] → nat_lt (r.store.steps + 1) step_limit ≡ true → store ≡ with_step r.store
    → plays n (r ∷ rs) ≡ Done vs store
ends n r rs vs store z empty e is = rw (z, empty, is, e) refl

-- it parks, where `left` tells how often a thread still does
pub parks : {T : Type 0} (left : T → ℕ) (n : ℕ) (u t : T) (op : Op) (r : Resume) (store : StoreView) → left u ≡ n → 0 < n → left t ≡ n - 1 → op.number ≡ 0 → op.args ≡ [] → op.position ≡ None
    → nat_lt (r.store.steps + 1) step_limit ≡ true → store ≡ with_step r.store → Resumes (λ (v : T). plays (left v)) u r store (slice.Parked t op)
parks left zero u t op r store was h is number args position e new = absurd (omega (arith, h))
parks {T} left (suc n) u t op r store was h is number args position e new = by_resumes
  where
    by_resumes : Resumes (λ (v : T). plays (left v)) u r store (slice.Parked t op)
    by_resumes [] = rw (was, number, args, position, new, e) refl
    by_resumes (next ∷ rs) = let d : left t ≡ n = omega (arith, is) in rw (was, d, e) refl
