use Rattle.std.proofs.Common.{length}
use Rattle.lua_lexer.proofs.Braces.{IsSearch}
use Rattle.lua_lexer.proofs.blocks.block_end.Given as goal

abbrev pub invariant-loop-rest : goal.invariant-loop-rest
invariant-loop-rest l = IsSearch l.text l.fn.from l.depth l.index l.rest

abbrev pub decreases-loop-rest : goal.decreases-loop-rest
decreases-loop-rest l = length l.rest
