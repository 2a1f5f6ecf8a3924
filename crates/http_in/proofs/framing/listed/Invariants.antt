use Rattle.std.proofs.Common.{◌≡◌, take}
use Rattle.std.specs.Prelude.{flat_map}
use Rattle.http_base.specs.Elements.{elements}
use Rattle.http_base.specs.Lent.{texts}
use Rattle.http_in.proofs.framing.listed.Given as goal

abbrev pub invariant-loop-value : goal.invariant-loop-value
invariant-loop-value l = texts l.list.items ≡ flat_map elements (texts (take l.value-index l.value-items))
