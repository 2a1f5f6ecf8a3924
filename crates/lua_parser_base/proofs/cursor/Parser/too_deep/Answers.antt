use Rattle.std.proofs.Common.{◌≡◌, Some, slice_get, refl}
use Rattle.std.proofs.lemmas.Option.{slice_get_read}
use Rattle.lua_parser_base.proofs.Next.{depth_ended, on_next_line}
use Rattle.lua_parser_base.proofs.cursor.Parser.too_deep.Goals as goal

pub returns-in-None : goal.returns-in-None
returns-in-None c =
    depth_ended c.args.tokens.now c.args.self.now _ c.in-None.ensures.lookup.3 c.unfit.ensures

pub returns-in-Some : goal.returns-in-Some
returns-in-Some c =
    let is : slice_get c.args.tokens.now c.args.self.now.index ≡ Some c.in-Some.token.now =
    slice_get_read _ _ _ _ refl c.in-Some.ensures.lookup.3.0 c.in-Some.ensures.lookup.1 in
    on_next_line c.args.tokens.now c.args.self.now c.in-Some.token.now is
