-- Two calls, of which the second does its work only where the first went well.
use Rattle.std.proofs.Common.{Result, IsOk, OnOk, true≢false, sym}
use Rattle.std.specs.Prelude.{Ok, Err}
use Rattle.std.proofs.lemmas.Result.{on_ok_weaker}

-- where the second went well, what both promise holds
pub both : {E : Type 0} (P Q : Type 0) (q r : Result (Unit {0}) E) → OnOk r (IsOk q) → OnOk q P → OnOk r Q → OnOk r (P × Q)
both P Q (Ok u) r done p s = on_ok_weaker r (λ h. (p, h)) s
both P Q (Err d) (Ok u) done p s = absurd (true≢false (sym done))
both P Q (Err d) (Err e) done p s = tt

-- what the first promises
pub first : {E : Type 0} (P : Type 0) (q r : Result (Unit {0}) E) → OnOk r (IsOk q) → OnOk q P → OnOk r P
first P (Ok u) (Ok v) done p = p
first P (Ok u) (Err e) done p = tt
first P (Err d) (Ok u) done p = absurd (true≢false (sym done))
first P (Err d) (Err e) done p = tt

-- two promises of one call
pub pair : {E : Type 0} (P Q : Type 0) (r : Result (Unit {0}) E) → OnOk r P → OnOk r Q → OnOk r (P × Q)
pair P Q (Ok u) p s = (p, s)
pair P Q (Err e) p s = tt
