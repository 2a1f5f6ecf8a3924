use Rattle.std.proofs.Common.{refl}
use Rattle.std.proofs.lemmas.Option.{slice_get_read}
use Rattle.lua_parser_base.proofs.Next.{open_ended}
use Rattle.lua_parser_base.proofs.cursor.Parser.arguments_line.Goals as goal

pub returns-in_default-clause-closed : goal.returns-in_default-clause-closed
returns-in_default-clause-closed c = open_ended c.args.tokens.now c.args.self.now _ c.in_default.ensures.lookup.3 c.unfit.ensures

pub opening_line-requires : goal.opening_line-requires
opening_line-requires c = slice_get_read _ _ _ _ refl c.in-Some.ensures.lookup.3.0 c.in-Some.ensures.lookup.1
