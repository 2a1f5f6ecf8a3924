use Rattle.lua_parser_base.proofs.Productions.{number_read}
use Rattle.lua_parser_base.proofs.cursor.Parser.number.Goals as goal

pub returns-clause-reads : goal.returns-clause-reads
returns-clause-reads c = number_read _ _ _ _ _ _ c.in_ok-numeral.ensures.takes c.leaf.ensures
