use Rattle.lua_parser_base.proofs.Bodies.{line_at}
use Rattle.lua_parser_base.proofs.cursor.Parser.line_of.Goals as goal

pub returns : goal.returns
returns c = line_at _ _ _ c.requires
