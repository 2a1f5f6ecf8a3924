use Rattle.std.proofs.Common.{◌≡◌, drop}
use Rattle.http_base.specs.Lent.{texts}
use Rattle.http_in.specs.Options.{is_among}
use Rattle.http_in.proofs.options.is_among.Given as goal

abbrev pub invariant-loop-text : goal.invariant-loop-text
invariant-loop-text l = is_among l.word (texts (drop l.text-index l.list)) ≡ is_among l.word (texts l.list)
