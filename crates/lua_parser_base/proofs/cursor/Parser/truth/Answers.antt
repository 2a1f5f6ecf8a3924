use Rattle.lua_parser_base.proofs.Productions.{true_read}
use Rattle.lua_parser_base.proofs.cursor.Parser.truth.Goals as goal

pub returns-clause-reads : goal.returns-clause-reads
returns-clause-reads c = true_read _ _ _ _ _ c.in_ok-line.ensures.takes c.leaf.ensures
