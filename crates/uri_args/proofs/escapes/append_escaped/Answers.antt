use Rattle.uri_args.proofs.Escaping.{escape_is}
use Rattle.uri_args.proofs.escapes.append_escaped.Goals as goal

pub returns : goal.returns
returns c = rw (← escape_is c.args.text.now, ← c.percent_encode.ensures.text) c.append_to.ensures.ok
