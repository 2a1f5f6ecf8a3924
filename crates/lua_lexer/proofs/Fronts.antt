-- A reading with what was read before it in front.
use Rattle.std.proofs.Common.{◌≡◌, ℕ, zero, suc, ◌-◌, ◌<◌, List, [], ◌∷◌, ◌++◌, drop, Result, Ok, Err, refl, ap, sym, append_assoc, arith}
use Rattle.lua_lexer.specs.Readings.{◌>>=◌}
use Rattle.lua_lexer.specs.declared.tokens.LexFault.{LexFault}

abbrev pub with_front : {A : Type 0} → List A → Result (List A) LexFault → Result (List A) LexFault
with_front front reading = reading >>= (λ more. Ok (front ++ more))

pub with_front-with_front : {A : Type 0} (xs ys : List A) (reading : Result (List A) LexFault)
    → with_front xs (with_front ys reading) ≡ with_front (xs ++ ys) reading
with_front-with_front xs ys (Ok more) = ap Ok (sym (append_assoc xs ys more))
with_front-with_front xs ys (Err fault) = refl

pub with_front-nil : {A : Type 0} (reading : Result (List A) LexFault) → with_front [] reading ≡ reading
with_front-nil (Ok more) = refl
with_front-nil (Err fault) = refl

-- the first byte is among those that are dropped
pub drop_among : (n c : ℕ) (cs : List ℕ) → 0 < n → drop (n - 1) cs ≡ drop n (c ∷ cs)
drop_among zero c cs some = absurd (omega arith)
drop_among (suc n) c cs some = let less : suc n - 1 ≡ n = omega arith in ap (λ k. drop k cs) less
