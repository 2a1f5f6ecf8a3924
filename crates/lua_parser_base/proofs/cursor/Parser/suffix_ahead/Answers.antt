use Rattle.std.proofs.Common.{◌≡◌, Some, slice_get, refl}
use Rattle.std.proofs.lemmas.Option.{slice_get_read}
use Rattle.lua_parser_base.proofs.Calls.{stops_at_end, stops_after}
use Rattle.lua_parser_base.proofs.cursor.Parser.suffix_ahead.Goals as goal

pub returns-in_default : goal.returns-in_default
returns-in_default c = stops_at_end c.args.tokens.now c.args.self.now c.in_default.ensures.lookup.3

pub returns : goal.returns
returns c =
    let next : slice_get c.args.tokens.now c.args.self.now.index ≡ Some c.in-Some.token.now =
    slice_get_read _ _ _ _ refl c.in-Some.ensures.lookup.3.0 c.in-Some.ensures.lookup.1 in
    stops_after c.args.tokens.now c.args.self.now c.in-Some.token.now c.suffix_of.result next c.suffix_of.ensures
