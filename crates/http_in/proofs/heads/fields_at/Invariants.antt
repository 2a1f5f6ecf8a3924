use Rattle.std.proofs.Common.{◌≡◌, take, map}
use Rattle.http_in.specs.Standing.{pair_at}
use Rattle.http_in.proofs.heads.fields_at.Given as goal

abbrev pub invariant-loop-span : goal.invariant-loop-span
invariant-loop-span l = l.fields.items ≡ map (pair_at l.head) (take l.span-index l.spans)
