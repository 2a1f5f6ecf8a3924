use Rattle.std.proofs.Common.{length, ◌≡◌, ◌≤◌, ◌+◌}
use Rattle.lua_lexer.specs.Strings.{decoded}
use Rattle.lua_lexer.proofs.Fronts.{with_front}
use Rattle.lua_lexer.proofs.strings.decoded.Given as goal

abbrev pub invariant-loop-rest : goal.invariant-loop-rest
invariant-loop-rest l =
    (with_front l.bytes.items (decoded l.line l.rest) ≡ decoded l.fn.line l.body)
    × (l.line + length l.rest ≤ l.fn.line + length l.body)

abbrev pub decreases-loop-rest : goal.decreases-loop-rest
decreases-loop-rest l = length l.rest
