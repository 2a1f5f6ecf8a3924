use Rattle.lua_grammar.proofs.Before.{block_before}
use Rattle.lua_grammar.proofs.laws.a_block_stands_before_the_rest.Goals as goal

pub returns : goal.returns
returns c = block_before
