use Rattle.std.proofs.Common.{◌≡◌, ◌-◌}
use Rattle.shared_dict.specs.Zones.{trimmed}
use Rattle.shared_dict.proofs.items.Items.trim.Given as goal

abbrev pub invariant-loop-count : goal.invariant-loop-count
invariant-loop-count l = trimmed (30 - l._count) l.size l.self ≡ trimmed 30 l.size l.fn.self
