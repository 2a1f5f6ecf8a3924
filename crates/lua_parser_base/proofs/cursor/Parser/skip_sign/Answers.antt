use Rattle.std.proofs.Common.{◌≡◌, Some, slice_get, refl}
use Rattle.std.proofs.lemmas.Option.{slice_get_read}
use Rattle.lua_parser_base.proofs.Next.{if_none, none_next, not_next, untested}
use Rattle.lua_parser_base.proofs.cursor.Parser.skip_sign.Goals as goal

pub returns-in_err-token-clause-missing : goal.returns-in_err-token-clause-missing
returns-in_err-token-clause-missing c = if_none _ (none_next c.args.tokens.now c.args.self.now _ c.in_err-token.ensures.lookup.3)

pub advance-requires : goal.advance-requires
advance-requires c = slice_get_read _ _ _ _ refl c.in_ok-token.ensures.lookup.3.0 c.in_ok-token.ensures.lookup.1

pub returns-clause-missing : goal.returns-clause-missing
returns-clause-missing c =
    let next : slice_get c.args.tokens.now c.args.self.now.index ≡ Some c.in_ok-token.token.now = slice_get_read _ _ _ _ refl c.in_ok-token.ensures.lookup.3.0 c.in_ok-token.ensures.lookup.1 in
    not_next c.args.tokens.now c.args.self.now c.in_ok-token.token.now _ next (untested _ _ c.if-is_sign.false c.is_sign.ensures)
