-- What a sink took, put after put.
use Rattle.std.proofs.Common.{◌≡◌, ℕ, ◌+◌, ◌-◌, ◌≤◌, List, ◌++◌, length, take, drop, Option, Some, None, refl, ap, append_assoc, arith, length-drop, length-append, get_or, ◌<◌, zero, suc, [], ◌∷◌, Bor, ◌∙◌}
use Rattle.std.proofs.Math.Seq.{take-add, take-append-add}
use Rattle.std.proofs.lemmas.List.{take_all, take-append-le}
use Rattle.resty_base.specs.Accounts.{Account}
use Rattle.resty_base.specs.Taking.{with_more, TakesAll, TakesPart, Puts, joined}
use Rattle.resty_base.specs.declared.sinks.Put.TheVariants.{Took}

pub with_more-with_more : (xs ys : List ℕ) (taken : Option (List ℕ)) → with_more ys (with_more xs taken) ≡ with_more (xs ++ ys) taken
with_more-with_more xs ys None = refl
with_more-with_more xs ys (Some taken) = ap Some (append_assoc taken xs ys)

-- what is left after a count of bytes, as a slice
rest-is-drop : (done : ℕ) (bytes : List ℕ) → take (length bytes - done) (drop done bytes) ≡ drop done bytes
rest-is-drop done bytes = take_all (length bytes - done) (drop done bytes) (omega (arith, length-drop done bytes))

-- a put of what is left after a count of bytes goes on to a later count
pub puts_further :
    (done count : ℕ) (bytes : List ℕ) (start before now : Account) → done ≤ length bytes
    → TakesAll (take done bytes) start before → Puts (take (length bytes - done) (drop done bytes)) (Took count) before now
    → (done + count ≤ length bytes) × TakesAll (take (done + count) bytes) start now
puts_further done count bytes start before now within was puts =
    let whole = rest-is-drop done bytes in
    let piece = puts.piece.1 in
    let short : count ≤ length (drop done bytes) = rw whole at piece in (
      omega (arith, length-drop done bytes),
      record {
        told = rw (puts.told, whole, was.told, with_more-with_more, take-add done count bytes) refl;
        faults = puts.faults ∙ was.faults;
      },
    )

-- all of one piece, and all of the next
pub all_then_all : (xs ys : List ℕ) (start before now : Account) → TakesAll xs start before → TakesAll ys before now → TakesAll (xs ++ ys) start now
all_then_all xs ys start before now first second = record {
  told = rw (second.told, first.told, with_more-with_more) refl;
  faults = second.faults ∙ first.faults;
}

-- all of one piece, and a part of the next, with more after it
pub all_then_part :
    (xs ys more : List ℕ) (start before now : Account) → TakesAll xs start before → TakesPart ys before now
    → TakesPart (xs ++ (ys ++ more)) start now
all_then_part xs ys more start before now all part =
    let fewer = part.proper in
    record {
      count = length xs + part.count;
      proper = omega (arith, fewer, length-append xs (ys ++ more), length-append ys more);
      told =
          rw (part.told, all.told, with_more-with_more, take-append-add xs (ys ++ more) part.count, take-append-le part.count ys more (omega (arith, fewer))) refl;
      faults = rw (← all.faults) part.faults;
    }

-- the piece at an index stands between those before it and those after it
pub joined-at : (pieces : List (Bor (List ℕ))) (i : ℕ) (d : Bor (List ℕ)) → i < length pieces
    → joined (take i pieces) ++ ((get_or pieces i d).now ++ joined (drop (suc i) pieces)) ≡ joined pieces
joined-at [] i d within = absurd (omega arith)
joined-at (piece ∷ pieces) zero d within = refl
joined-at (piece ∷ pieces) (suc i) d within =
    append_assoc piece.now (joined (take i pieces)) ((get_or pieces i d).now ++ joined (drop (suc i) pieces))
    ∙ ap (λ t. piece.now ++ t) (joined-at pieces i d (omega (arith, within)))

-- a part of one piece, after all of those before it
pub part-at : (pieces : List (Bor (List ℕ))) (i : ℕ) (d : Bor (List ℕ)) (start before now : Account) → i < length pieces
    → TakesAll (joined (take i pieces)) start before → TakesPart (get_or pieces i d).now before now → TakesPart (joined pieces) start now
part-at pieces i d start before now within all part =
    rw (← joined-at pieces i d within) (all_then_part _ _ _ _ _ _ all part)
