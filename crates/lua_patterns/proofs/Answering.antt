-- What a search gives, some tests on.
use Rattle.std.proofs.Common.{◌≡◌, ℕ, zero, suc, ◌+◌, ◌<◌, ◌≤◌, List, [], ◌∷◌, ◌++◌, replicate, Some, None, Ok, Err, refl, ◌∙◌, ap, arith, inl, inr}
use Rattle.std.proofs.lemmas.Bool.{lt-ltb, le-ltb, cases_lt}
use Rattle.lua_patterns.specs.declared.answers.PatFault.TheVariants as fault
use Rattle.lua_patterns.specs.Trails.{Match, Event, Test, Whole, Wrong, TooMany}
use Rattle.lua_patterns.specs.Searches.{answer}

-- a test that may be made
pub one_test : (limit t : ℕ) (more : List Event) → t + 1 ≤ limit → answer limit t (Test ∷ more) ≡ answer limit (t + 1) more
unfolding answer
one_test limit t more room = rw (lt-ltb t limit (omega arith)) refl

-- a test too many
pub one_too_many : (limit t : ℕ) (more : List Event) → limit < t + 1 → answer limit t (Test ∷ more) ≡ Err fault.Tests
unfolding answer
one_too_many limit t more full = rw (le-ltb t limit (omega arith)) refl

pub many_tests : (limit t n : ℕ) (more : List Event) → t + n ≤ limit → answer limit t (replicate n Test ++ more) ≡ answer limit (t + n) more
many_tests limit t zero more room = ap (λ k. answer limit k more) (omega arith)
many_tests limit t (suc n) more room =
    one_test limit t (replicate n Test ++ more) (omega arith)
    ∙ many_tests limit (t + 1) n more (omega arith)
    ∙ ap (λ k. answer limit k more) (omega arith)

pub many_too_many : (limit t n : ℕ) (more : List Event) → limit < t + n + 1 → answer limit t (replicate n Test ++ Test ∷ more) ≡ Err fault.Tests
many_too_many limit t zero more full = one_too_many limit t more (omega arith)
many_too_many limit t (suc n) more full =
    elim (cases_lt t limit) [
      | inl less ↦ one_test limit t (replicate n Test ++ Test ∷ more) (omega (arith, less)) ∙ many_too_many limit (t + 1) n more (omega arith)
      | inr most ↦ one_too_many limit t (replicate n Test ++ Test ∷ more) (omega (arith, most))
    ]

-- a wrong item, one capture too many, a match, and nothing more
pub wrong_met : (limit t at : ℕ) (more : List Event) → answer limit t (Wrong at ∷ more) ≡ Err (fault.Malformed at t)
unfolding answer
wrong_met limit t at more = refl

pub too_many_met : (limit t : ℕ) (more : List Event) → answer limit t (TooMany ∷ more) ≡ Err (fault.Captures t)
unfolding answer
too_many_met limit t more = refl

pub match_met : (limit t : ℕ) (found : Match) (more : List Event) → answer limit t (Whole found ∷ more) ≡ Ok (record { tests = t; found = Some found })
unfolding answer
match_met limit t found more = refl

pub nothing_met : (limit t : ℕ) → answer limit t [] ≡ Ok (record { tests = t; found = None })
unfolding answer
nothing_met limit t = refl
