use Rattle.lua_parser_base.proofs.Chunks.{line_of_last_token}
use Rattle.lua_parser_base.proofs.cursor.last_line.Goals as goal

pub returns-in-Some : goal.returns-in-Some
returns-in-Some c = line_of_last_token c.args.tokens.now c.in-Some.token.now c.in-Some.ensures.value
