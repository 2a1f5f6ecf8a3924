use Rattle.std.proofs.Common.{◌≡◌, drop}
use Rattle.shared_dict.specs.Zones.{without_all}
use Rattle.shared_dict.proofs.items.Items.sweep.Given as goal

abbrev pub invariant-loop-key : goal.invariant-loop-key
invariant-loop-key l = without_all (drop l.key-index l.key-items) l.self ≡ without_all l.key-items l.fn.self
