use Rattle.lua_grammar.proofs.Names.{newest}
use Rattle.lua_grammar.proofs.laws.a_new_local_is_seen.Goals as goal

pub returns : goal.returns
returns c = newest
