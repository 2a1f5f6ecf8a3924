use Rattle.std.proofs.Common.{length, ◌≡◌, ◌≤◌, ◌+◌}
use Rattle.lua_lexer.specs.Tokens.{tokens_after}
use Rattle.lua_lexer.proofs.Standing.{StandBefore}
use Rattle.lua_lexer.proofs.Fronts.{with_front}
use Rattle.lua_lexer.proofs.lexer.tokens_of.Given as goal

abbrev pub invariant-loop-alloc : goal.invariant-loop-alloc
invariant-loop-alloc l =
    (with_front l.tokens.items (tokens_after 0 l.line l.start l.rest) ≡ tokens_after 0 l.fn.line 0 l.fn.text)
    × (l.line + length l.rest ≤ l.fn.line + length l.fn.text)
    × (l.start + length l.rest ≡ length l.fn.text)
    × StandBefore l.fn.line 0 l.tokens.items l.line l.start

abbrev pub decreases-loop-alloc : goal.decreases-loop-alloc
decreases-loop-alloc l = length l.rest
