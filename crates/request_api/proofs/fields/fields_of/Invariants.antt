use Rattle.std.proofs.Common.{◌≡◌, take}
use Rattle.request_api.specs.Setting as spec
use Rattle.request_api.proofs.fields.fields_of.Given as goal

abbrev pub invariant-loop-value : goal.invariant-loop-value
invariant-loop-value l = l.fields.items ≡ spec.fields_of l.name (take l.value-index l.values)
