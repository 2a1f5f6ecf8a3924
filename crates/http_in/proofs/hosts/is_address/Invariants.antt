use Rattle.std.proofs.Common.{◌≡◌, drop}
use Rattle.std.specs.List.{list_all}
use Rattle.http_in.specs.Hosts as hosts
use Rattle.http_in.proofs.hosts.is_address.Given as goal

abbrev pub invariant-loop-byte : goal.invariant-loop-byte
invariant-loop-byte l = list_all hosts.is_address_byte (drop l.byte-index l.text) ≡ list_all hosts.is_address_byte l.text
