use Rattle.std.proofs.Common.{◌≡◌, ◌++◌, take}
use Rattle.http_base.specs.Lent.{texts}
use Rattle.http_in.proofs.framing.push_elements.Given as goal

abbrev pub invariant-loop-element : goal.invariant-loop-element
invariant-loop-element l = texts l.list.items ≡ texts l.initial.list.items ++ texts (take l.element-index l.element-items)
