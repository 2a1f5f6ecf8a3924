use Rattle.uri_args.proofs.Escaping.{unescape-escape}
use Rattle.uri_args.proofs.laws.unescape_undoes_escape.Goals as goal

pub returns : goal.returns
returns c = unescape-escape
