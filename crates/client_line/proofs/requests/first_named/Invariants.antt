use Rattle.std.proofs.Common.{◌≡◌, length}
use Rattle.http_base.specs.FieldLists.{values_of}
use Rattle.client_line.proofs.requests.first_named.Given as goal

abbrev pub invariant-loop-rest : goal.invariant-loop-rest
invariant-loop-rest l = values_of l.rest l.name ≡ values_of l.fields l.name

abbrev pub decreases-loop-rest : goal.decreases-loop-rest
decreases-loop-rest l = length l.rest
