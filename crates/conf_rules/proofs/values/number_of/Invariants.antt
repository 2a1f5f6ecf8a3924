use Rattle.std.proofs.Common.{◌≡◌, drop}
use Rattle.conf_rules.specs.Values as spec
use Rattle.conf_rules.proofs.values.number_of.Given as goal

abbrev pub invariant-loop-byte : goal.invariant-loop-byte
invariant-loop-byte l = spec.with_digits l.number (drop l.byte-index l.text) ≡ spec.with_digits 0 l.text
