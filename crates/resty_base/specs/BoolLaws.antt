-- A test that holds, or doesn't.
use Rattle.std.specs.Prelude.{◌≡◌, ◌<◌, Bool, true, false, if◌then◌else◌, refl}
use Rattle.std.proofs.Common.{sym, ◌∙◌, lit<}
use Rattle.std.proofs.lemmas.Bool.{true≢false, false≢true}

-- what follows from either, follows
pub by_test : {C : Type 0} (b : Bool) → (b ≡ true → C) → (b ≡ false → C) → C
by_test true on off = on refl
by_test false on off = off refl

-- both at once never are
pub clash : {C : Type 0} {b : Bool} → b ≡ true → b ≡ false → C
clash on off = absurd (true≢false (sym on ∙ off))

-- one that holds is counted
pub one-falls : (b : Bool) → b ≡ true → 0 < (if b then 1 else 0)
one-falls true on = lit< tt
one-falls false on = absurd (false≢true on)
