-- The texts of the exchange.
use Rattle.std.proofs.Common.{◌≡◌, ℕ, zero, suc, ◌<◌, Bool, true, nat_lt, List, [], ◌∷◌, Some, refl, subst, lit<, lit≤, arith}
use Rattle.std.proofs.lemmas.Bool.{ltb-true}
use Rattle.std.specs.Fmt.{digits}
use Rattle.std.specs.Prelude.{◌&&◌}
use Rattle.resty_world.specs.declared.event.Event.TheVariants as event
use Rattle.resty_world.specs.declared.schedule_line.SchedLine.{SchedLine}
use Rattle.resty_world.specs.declared.schedule_line.SchedLine.TheVariants as line
use Rattle.schedule_text.specs.Fitting.{Fits, AllFit}
use Rattle.schedule_text.specs.Accepted.{IsRead}
use Rattle.schedule_text.specs.Ranges.{IsBytes}
use Rattle.resty_base.specs.BoolLaws.{clash, by_test}
use Rattle.site_examples.specs.Exchange.{request, at_second_1, arrives, asks, lines}
use Rattle.site_examples.specs.Texts.{schedule_text}

-- each line fits what stands before it
same-line : (before : List SchedLine) (l next : SchedLine) → Fits before l → Some l ≡ Some next → Fits before next
same-line before l next fits e = let same : l ≡ next = cc in subst (Fits before) same fits

-- each number is below 256
abbrev are_bytes : List ℕ → Bool
are_bytes [] = true
are_bytes (b ∷ bytes) = nat_lt b 256 && are_bytes bytes

one-more : (b : ℕ) (bytes : List ℕ) → b < 256 → IsBytes bytes → IsBytes (b ∷ bytes)
one-more b bytes first rest zero d within = first
one-more b bytes first rest (suc k) d within = rest k d (omega arith)

bytes-tell : (bytes : List ℕ) → are_bytes bytes ≡ true → IsBytes bytes
bytes-tell [] h = λ k d within. absurd (omega arith)
bytes-tell (b ∷ bytes) h = by_test (nat_lt b 256)
    (λ on. one-more b bytes (ltb-true b 256 on) (bytes-tell bytes (subst (λ c. (c && are_bytes bytes) ≡ true) on h)))
    (λ off. clash (subst (λ c. (c && are_bytes bytes) ≡ true) off h) refl)

fit : AllFit lines
fit zero next e = same-line [] (line.Given at_second_1) next (record { goes_on = refl; ranged = lit≤ tt; follows = lit≤ tt }) e
fit (suc zero) next e = same-line (line.Given at_second_1 ∷ []) (line.Given arrives) next (record { goes_on = refl; ranged = (lit< tt, lit≤ tt); follows = refl }) e
fit (suc (suc zero)) next e = same-line (line.Given at_second_1 ∷ line.Given arrives ∷ []) (line.Given asks) next (record {
  goes_on = refl;
  ranged = ((lit< tt, lit≤ tt), record { some = lit< tt; within = lit≤ tt; each = bytes-tell request refl });
  follows = tt;
}) e
fit (suc (suc (suc zero))) next e = same-line (line.Given at_second_1 ∷ line.Given arrives ∷ line.Given asks ∷ []) (line.Given event.Stop) next (record { goes_on = refl; ranged = tt; follows = tt }) e
fit (suc (suc (suc (suc i)))) next e = absurd (cc)

pub schedule : IsRead schedule_text lines
unfolding digits
schedule = record { whole = refl; made = record { fit = fit; before = line.Given at_second_1 ∷ line.Given arrives ∷ line.Given asks ∷ []; ends = refl } }
