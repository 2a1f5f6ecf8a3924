use Rattle.lua_parser_base.proofs.Next.{missed}
use Rattle.lua_parser_base.proofs.cursor.Parser.take_sign.Goals as goal

pub returns-in-None-clause-misses : goal.returns-in-None-clause-misses
returns-in-None-clause-misses c =
    missed c.args.tokens.now c.args.self.now c.skip_sign.new.self _ _ c.in-None.ensures.skips c.in-None.ensures.missing c.unfit.ensures
