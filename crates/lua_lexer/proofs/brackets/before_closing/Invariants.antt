use Rattle.std.proofs.Common.{length, ◌≡◌, ◌≤◌, ◌+◌, ◌-◌}
use Rattle.std.specs.Prelude.{option_map}
use Rattle.lua_lexer.specs.Brackets.{before_closing}
use Rattle.lua_lexer.proofs.brackets.before_closing.Given as goal

abbrev pub invariant-loop-rest : goal.invariant-loop-rest
invariant-loop-rest l =
    (option_map (λ n. n + (length l.text - length l.rest)) (before_closing l.level l.rest) ≡ before_closing l.level l.text)
    × (length l.rest ≤ length l.text)

abbrev pub decreases-loop-rest : goal.decreases-loop-rest
decreases-loop-rest l = length l.rest
