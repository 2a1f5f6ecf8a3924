use Rattle.lua_parser_base.proofs.Productions.{false_read}
use Rattle.lua_parser_base.proofs.cursor.Parser.falsity.Goals as goal

pub returns-clause-reads : goal.returns-clause-reads
returns-clause-reads c = false_read _ _ _ _ _ c.in_ok-line.ensures.takes c.leaf.ensures
