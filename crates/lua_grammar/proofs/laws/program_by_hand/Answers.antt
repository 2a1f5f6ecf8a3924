use Rattle.lua_grammar.proofs.ByHand.{by_hand}
use Rattle.lua_grammar.proofs.laws.program_by_hand.Goals as goal

pub returns : goal.returns
returns c = by_hand
