use Rattle.std.proofs.Common.{◌≡◌}
use Rattle.engine_base.specs.declared.seats.ToCome.TheVariants as coming
use Rattle.engine_turns.specs.Turns.{Stands, work}
use Rattle.engine_turns.specs.Worked.{Works}
use Rattle.engine_turns.proofs.turns.Turns.settle.Given as goal

abbrev pub invariant-loop : goal.invariant-loop
invariant-loop g l = record {
  standing : Stands (g.S.StrandContract.meaning l.site) l.self (g.W.World.book l.world);
  works : Works g.W.World.same g.W.World.book l.fn.self l.self l.fn.world l.world;
  to_come : l.self.to_come ≡ coming.Nothing;
}

abbrev pub decreases-loop : goal.decreases-loop
decreases-loop g l = work g.S.StrandContract.left l.self
