use Rattle.std.proofs.Common.{◌∙◌, sym}
use Rattle.uri_args.proofs.Cutting.{decode_plain}
use Rattle.uri_args.proofs.escapes.decoded.Goals as goal

pub returns-then-not-has_byte : goal.returns-then-not-has_byte
returns-then-not-has_byte c =
    let plain = decode_plain c.args.text.now (sym (rw c.deref.ensures at c.has_byte.ensures) ∙ c.if-not-has_byte.true) in
    rw plain c.shared.ensures
