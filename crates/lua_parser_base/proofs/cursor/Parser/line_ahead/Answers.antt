use Rattle.lua_parser_base.proofs.Next.{ended}
use Rattle.lua_parser_base.proofs.cursor.Parser.line_ahead.Goals as goal

pub returns-in-None-clause-ended : goal.returns-in-None-clause-ended
returns-in-None-clause-ended c = ended c.args.tokens.now c.args.self.now _ c.in-None.ensures.lookup.3 c.unfit.ensures
