use Rattle.lua_grammar.proofs.Printed.{read_prints}
use Rattle.lua_grammar.proofs.laws.what_is_read_prints_to_its_tokens.Goals as goal

pub returns : goal.returns
returns c = read_prints
