use Rattle.lua_parser_base.proofs.Productions.{text_read}
use Rattle.lua_parser_base.proofs.cursor.Parser.text.Goals as goal

pub returns-clause-reads : goal.returns-clause-reads
returns-clause-reads c = text_read _ _ _ _ _ _ c.in_ok-text.ensures.takes c.into_text.ensures
