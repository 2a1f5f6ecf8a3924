use Rattle.std.proofs.Common.{◌≡◌, ◌++◌, map}
use Rattle.std.specs.Option.{option_copied}
use Rattle.resty_base.specs.Ascii.{comma}
use Rattle.http_base.specs.Elements as spec
use Rattle.http_base.specs.Lent.{texts}
use Rattle.http_base.specs.Splitting.{later_pieces}
use Rattle.http_base.proofs.Pieces.{left}
use Rattle.http_base.proofs.lists.elements.Given as goal

abbrev pub invariant-loop-rest : goal.invariant-loop-rest
invariant-loop-rest l = texts l.list.items ++ map spec.trimmed (later_pieces comma (option_copied l.rest)) ≡ spec.elements l.value

abbrev pub decreases-loop-rest : goal.decreases-loop-rest
decreases-loop-rest l = left (option_copied l.rest)
