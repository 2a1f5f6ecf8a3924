use Rattle.std.proofs.Common.{◌≡◌, Some, slice_get, refl}
use Rattle.std.proofs.lemmas.Option.{slice_get_read}
use Rattle.lua_parser_base.proofs.Next.{missed, none_next, not_next, no_name}
use Rattle.lua_parser_base.proofs.cursor.Parser.take_name.Goals as goal

pub returns-in_default-clause-misses : goal.returns-in_default-clause-misses
returns-in_default-clause-misses c = missed c.args.tokens.now c.args.self.now c.args.self.now _ _ refl (none_next c.args.tokens.now c.args.self.now _ c.in_default.ensures.lookup.3) c.unfit.ensures

pub advance-requires : goal.advance-requires
advance-requires c = slice_get_read _ _ _ _ refl c.in-Some.ensures.lookup.3.0 c.in-Some.ensures.lookup.1

pub returns-in_default-kind : goal.returns-in_default-kind
returns-in_default-kind c =
    let next : slice_get c.args.tokens.now c.args.self.now.index ≡ Some c.in-Some.token.now = slice_get_read _ _ _ _ refl c.in-Some.ensures.lookup.3.0 c.in-Some.ensures.lookup.1 in
    record {
      takes = tt;
      misses = missed c.args.tokens.now c.args.self.now c.args.self.now _ _ refl (not_next c.args.tokens.now c.args.self.now c.in-Some.token.now _ next (no_name _ c.in_default-kind.not-Name)) c.unfit-in_default-kind.ensures;
      forward = tt;
    }
