use Rattle.std.proofs.Common.{length, ◌≡◌, ◌++◌}
use Rattle.lua_lexer.specs.Characters.{unified}
use Rattle.lua_lexer.proofs.characters.unified.Given as goal

abbrev pub invariant-loop-rest : goal.invariant-loop-rest
invariant-loop-rest l = l.bytes.items ++ unified l.rest ≡ unified l.text

abbrev pub decreases-loop-rest : goal.decreases-loop-rest
decreases-loop-rest l = length l.rest
