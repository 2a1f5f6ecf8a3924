use Rattle.std.proofs.Common.{◌≡◌, ◌+◌, Some, slice_get, refl}
use Rattle.std.proofs.lemmas.Option.{slice_get_read}
use Rattle.lua_parser_base.proofs.Next.{named_next, named_one, named_none, both, neither}
use Rattle.lua_parser_base.proofs.cursor.Parser.at_named_field.Goals as goal

pub returns-in_default : goal.returns-in_default
returns-in_default c = named_none c.args.tokens.now c.args.self.now c.in_default.ensures.lookup.3

pub returns-in_default-get : goal.returns-in_default-get
returns-in_default-get c =
    let next : slice_get c.args.tokens.now c.args.self.now.index ≡ Some c.in-Some.token.now = slice_get_read _ _ _ _ refl c.in-Some.ensures.lookup.3.0 c.in-Some.ensures.lookup.1 in
    named_one c.args.tokens.now c.args.self.now c.in-Some.token.now next c.in_default-get.ensures.lookup.3

pub returns-then-is_name : goal.returns-then-is_name
returns-then-is_name c =
    let next : slice_get c.args.tokens.now c.args.self.now.index ≡ Some c.in-Some.token.now = slice_get_read _ _ _ _ refl c.in-Some.ensures.lookup.3.0 c.in-Some.ensures.lookup.1 in
    let second : slice_get c.args.tokens.now (c.args.self.now.index + 1) ≡ Some c.in-Some-get.next.now = slice_get_read _ _ _ _ refl c.in-Some-get.ensures.lookup.3.0 c.in-Some-get.ensures.lookup.1 in
    named_next c.args.tokens.now c.args.self.now c.in-Some.token.now c.in-Some-get.next.now _ next second (both _ _ _ (c.if-is_name.ensures.0 refl) c.is_sign.ensures)

pub returns-else-is_name : goal.returns-else-is_name
returns-else-is_name c =
    let next : slice_get c.args.tokens.now c.args.self.now.index ≡ Some c.in-Some.token.now = slice_get_read _ _ _ _ refl c.in-Some.ensures.lookup.3.0 c.in-Some.ensures.lookup.1 in
    let second : slice_get c.args.tokens.now (c.args.self.now.index + 1) ≡ Some c.in-Some-get.next.now = slice_get_read _ _ _ _ refl c.in-Some-get.ensures.lookup.3.0 c.in-Some-get.ensures.lookup.1 in
    named_next c.args.tokens.now c.args.self.now c.in-Some.token.now c.in-Some-get.next.now _ next second (neither _ _ _ c.if-is_name.false c.is_name.ensures)
