use Rattle.std.proofs.Common.{◌≡◌, Some, slice_get, refl}
use Rattle.std.proofs.lemmas.Option.{slice_get_read}
use Rattle.lua_parser_base.proofs.Next.{tests_next, tests_none}
use Rattle.lua_parser_base.proofs.cursor.Parser.at_sign.Goals as goal

pub returns-in-Some : goal.returns-in-Some
returns-in-Some c =
    let next : slice_get c.args.tokens.now c.args.self.now.index ≡ Some c.in-Some.token.now =
    slice_get_read _ _ _ _ refl c.in-Some.ensures.lookup.3.0 c.in-Some.ensures.lookup.1 in
    tests_next c.args.tokens.now c.args.self.now c.in-Some.token.now _ _ next c.is_sign.ensures

pub returns-in-None : goal.returns-in-None
returns-in-None c = tests_none c.args.tokens.now c.args.self.now _ c.in-None.ensures.lookup.3
