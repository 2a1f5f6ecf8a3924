use Rattle.std.proofs.Common.{◌≡◌, drop}
use Rattle.request_api.specs.Names.{is_value}
use Rattle.request_api.proofs.names.is_value.Given as goal

abbrev pub invariant-loop-byte : goal.invariant-loop-byte
invariant-loop-byte l = is_value (drop l.byte-index l.value) ≡ is_value l.value
