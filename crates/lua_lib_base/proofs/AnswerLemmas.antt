-- The steps of a call, which are counted one after the other.
use Rattle.std.specs.Prelude.{◌≡◌, ℕ, ◌+◌, ◌-◌, ◌/◌, ◌^◌, min, List}
use Rattle.std.proofs.Common.{◌∙◌, ap, arith}
use Rattle.lua_values.specs.declared.values.Value.{Value}
use Rattle.lua_values.specs.Heap.{StoreView, step_limit}
use Rattle.lua_lib_base.specs.declared.work.Work.{Work}
use Rattle.lua_lib_base.specs.Work.{texts_length}
use Rattle.lua_lib_base.specs.Results.{steps_of_gift, steps_of_refusal}

-- three counts in a row are one
three_counts : (s a b c : ℕ) → min step_limit (min step_limit (min step_limit (s + a) + b) + c) ≡ min step_limit (s + (a + b + c))
three_counts s a b c = omega arith

two_counts : (s a b : ℕ) → min step_limit (min step_limit (s + a) + b) ≡ min step_limit (s + (a + b))
two_counts s a b = omega arith

-- bytes that no number holds spend all steps in any case
enough : (s t told b : ℕ) → told ≡ min t (2 ^ 64 - 1) → min step_limit (s + (told / 64 + b)) ≡ min step_limit (s + (t / 64 + b))
enough s t told b e = omega (arith, e)

all_told : (t taken more told : ℕ) → taken ≡ min t (2 ^ 64 - 1) → told ≡ min (taken + more) (2 ^ 64 - 1) → told ≡ min (t + more) (2 ^ 64 - 1)
all_told t taken more told e f = omega (arith, e, f)

-- the steps of a call that gives values
pub gift_counted : (args : List Value) (work : Work) (taken both all : ℕ) (old one two new : StoreView) → taken ≡ min (texts_length args) (2 ^ 64 - 1)
    → both ≡ min (taken + work.taken) (2 ^ 64 - 1) → all ≡ min (both + work.made) (2 ^ 64 - 1) → one ≡ record { heap = old.heap; steps = min step_limit (old.steps + all / 64) }
    → two ≡ record { heap = one.heap; steps = min step_limit (one.steps + work.tests / 16) } → new ≡ record { heap = two.heap; steps = min step_limit (two.steps + work.given) }
    → new ≡ record { heap = old.heap; steps = min step_limit (old.steps + steps_of_gift args work) }
gift_counted args work taken both all old one two new t b a e1 e2 e3 =
    e3 ∙ ap (λ (w : StoreView). record { heap = w.heap; steps = min step_limit (w.steps + work.given) }) e2
    ∙ ap (λ (w : StoreView). record { heap = w.heap; steps = min step_limit (min step_limit (w.steps + work.tests / 16) + work.given) }) e1
    ∙ ap (λ (n : ℕ). record { heap = old.heap; steps = n }) (three_counts old.steps (all / 64) (work.tests / 16) work.given ∙ told)
  where
    whole : all ≡ min (texts_length args + work.taken + work.made) (2 ^ 64 - 1)
    whole = all_told (texts_length args + work.taken) both work.made all (all_told (texts_length args) taken work.taken both t b) a

    told : min step_limit (old.steps + (all / 64 + work.tests / 16 + work.given)) ≡ min step_limit (old.steps + steps_of_gift args work)
    told = omega (arith, enough old.steps (texts_length args + work.taken + work.made) all (work.tests / 16 + work.given) whole)

-- and of one that is refused
pub refusal_counted : (args : List Value) (work : Work) (taken both : ℕ) (old one new : StoreView) → taken ≡ min (texts_length args) (2 ^ 64 - 1)
    → both ≡ min (taken + work.taken) (2 ^ 64 - 1) → one ≡ record { heap = old.heap; steps = min step_limit (old.steps + both / 64) }
    → new ≡ record { heap = one.heap; steps = min step_limit (one.steps + work.tests / 16) } → new ≡ record { heap = old.heap; steps = min step_limit (old.steps + steps_of_refusal args work) }
refusal_counted args work taken both old one new t b e1 e2 =
    e2 ∙ ap (λ (w : StoreView). record { heap = w.heap; steps = min step_limit (w.steps + work.tests / 16) }) e1
    ∙ ap (λ (n : ℕ). record { heap = old.heap; steps = n }) (two_counts old.steps (both / 64) (work.tests / 16) ∙ enough old.steps (texts_length args + work.taken) both (work.tests / 16) (all_told (texts_length args) taken work.taken both t b))
