-- The search for a closing long bracket, one step on.
use Rattle.std.proofs.Common.{◌≡◌, ℕ, ◌+◌, ◌<◌, true, List, [], ◌∷◌, length, Option, Some, arith, ap, ◌∙◌}
use Rattle.std.specs.Prelude.{option_map}
use Rattle.lua_lexer.specs.Brackets.{closes, before_closing}

-- the bracket closes here
pub closing_here : (level before : ℕ) (rest : List ℕ) (found : Option ℕ) → 0 < length rest → closes level rest ≡ true
    → option_map (λ n. n + before) (before_closing level rest) ≡ found → Some before ≡ found
unfolding before_closing
closing_here level before [] found some here was = absurd (omega arith)
closing_here level before (c ∷ cs) found some here was =
    let none : before ≡ 0 + before = omega arith in
    ap Some none ∙ (rw here at was)
