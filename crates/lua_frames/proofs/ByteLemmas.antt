-- Steps for bytes, of which no more are told than a number holds: past that no step is left in any case.
use Rattle.std.specs.Prelude.{◌≡◌, ℕ, ◌+◌, ◌-◌, ◌/◌, ◌^◌, ◌<◌, List, nat_lt, min, Bool, true, false, refl}
use Rattle.std.proofs.Common.{sym, ◌∙◌, ap, arith}
use borrow.Author.Tests.{ltb-true, ltb-false}
use Rattle.lua_values.specs.Heap.{StoreView, step_limit}
use Rattle.lua_meaning.specs.Works.{Work, Count}
use Rattle.lua_meaning.specs.Evaluator.{Resume, Spent, do_work}
use Rattle.lua_meaning.specs.Setting.{Setting}
use Rattle.lua_meaning.specs.Nodes.{eval}
use Rattle.lua_frames.proofs.FollowLemmas.{count_goes, count_spent}

same_count : (bytes steps : ℕ) → nat_lt (steps + min bytes (2 ^ 64 - 1) / 64) step_limit ≡ true → min bytes (2 ^ 64 - 1) / 64 ≡ bytes / 64
same_count bytes steps e = let few : steps + min bytes (2 ^ 64 - 1) / 64 < step_limit = ltb-true _ _ e in omega (arith, few)

none_left : (bytes steps : ℕ) → nat_lt (steps + min bytes (2 ^ 64 - 1) / 64) step_limit ≡ false → nat_lt (steps + bytes / 64) step_limit ≡ false
none_left bytes steps e = by_test (nat_lt (steps + bytes / 64) step_limit) refl
  where
    by_test : (t : Bool) → nat_lt (steps + bytes / 64) step_limit ≡ t → t ≡ false
    by_test true h = absurd (omega (arith, ltb-true _ _ h, ltb-false _ _ e))
    by_test false h = refl

-- the steps are counted, and the work goes on
pub bytes_go : (S : Setting) (bytes told : ℕ) (q : Work) (before store : StoreView) (below : Bool) → told ≡ min bytes (2 ^ 64 - 1)
    → store ≡ record { heap = before.heap; steps = min step_limit (before.steps + told / 64) } → below ≡ nat_lt (before.steps + told / 64) step_limit → below ≡ true
    → (rs : List Resume) → do_work (eval S) (Count (bytes / 64) q) (record { store = before; resumes = rs }) ≡ do_work (eval S) q (record { store = store; resumes = rs })
bytes_go S bytes told q before store below t is e holds rs =
    ap (λ (k : ℕ). do_work (eval S) (Count k q) (record { store = before; resumes = rs })) (sym steps) ∙ count_goes S (told / 64) q before store below is e holds rs
  where
    steps : told / 64 ≡ bytes / 64
    steps = ap (λ (k : ℕ). k / 64) t ∙ same_count bytes before.steps (ap (λ (k : ℕ). nat_lt (before.steps + k / 64) step_limit) (sym t) ∙ sym e ∙ holds)

-- or none is left
pub bytes_spent : (S : Setting) (bytes told : ℕ) (q : Work) (before : StoreView) (below : Bool) → told ≡ min bytes (2 ^ 64 - 1)
    → below ≡ nat_lt (before.steps + told / 64) step_limit → below ≡ false → (rs : List Resume) → do_work (eval S) (Count (bytes / 64) q) (record { store = before; resumes = rs }) ≡ Spent
bytes_spent S bytes told q before below t e fails rs =
    count_spent S (bytes / 64) q before false (sym (none_left bytes before.steps (ap (λ (k : ℕ). nat_lt (before.steps + k / 64) step_limit) (sym t) ∙ sym e ∙ fails))) refl rs
