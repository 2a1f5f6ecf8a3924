use Rattle.std.proofs.Common.{◌≡◌, drop}
use Rattle.http_base.specs.Lent.{texts}
use Rattle.http_in.specs.Framing.{are_all}
use Rattle.http_in.proofs.framing.are_all.Given as goal

abbrev pub invariant-loop-value : goal.invariant-loop-value
invariant-loop-value l = are_all (texts (drop l.value-index l.values)) l.text ≡ are_all (texts l.values) l.text
