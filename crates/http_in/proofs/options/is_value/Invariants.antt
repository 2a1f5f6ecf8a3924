use Rattle.std.proofs.Common.{◌≡◌, drop}
use Rattle.http_base.specs.Lent.{texts}
use Rattle.http_in.specs.Options.{is_among}
use Rattle.http_in.proofs.options.is_value.Given as goal

abbrev pub invariant-loop-value : goal.invariant-loop-value
invariant-loop-value l = is_among l.word (texts (drop l.value-index l.values)) ≡ is_among l.word (texts l.values)
