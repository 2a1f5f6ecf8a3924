-- What is taken out leaves both maps.
use Rattle.std.proofs.Common.{sym, ◌∙◌}
use Rattle.wakes.proofs.Indexed.{takes}
use Rattle.wakes.proofs.deadlines.Deadlines.cancel.Goals as goal

pub invariant_of-self : goal.invariant_of-self
invariant_of-self c = takes c.self.inside.by_number c.self.inside.by_moment c.self.inside.last c.remove.new.self c.remove-was_there.new.self _ c.in-Some.armed c.self.invariant (sym c.remove.ensures.value ∙ c.in-Some.is) c.remove.ensures.updates c.remove-was_there.ensures.updates c.remove.ensures.ordered
