use Rattle.std.proofs.Common.{◌≡◌, ◌≤◌, true, length}
use Rattle.engine_base.specs.declared.seats.ToCome.TheVariants as coming
use Rattle.engine_turns.specs.Turns.{Stands, work}
use Rattle.engine_turns.specs.Worked.{Works}
use Rattle.engine_turns.proofs.turns.Turns.offer_next.Given as goal

abbrev pub invariant-loop-who : goal.invariant-loop-who
invariant-loop-who g l = record {
  standing : Stands (g.S.StrandContract.meaning l.site) l.self (g.W.World.book l.world);
  works : Works g.W.World.same g.W.World.book l.fn.self l.self l.fn.world l.world;
  in_offers : l.self.in_offers ≡ true;
  to_come : l.self.to_come ≡ coming.Nothing;
  run_queue : l.self.run_queue.threads ≡ l.fn.self.run_queue.threads;
  less : work g.S.StrandContract.left l.self ≤ work g.S.StrandContract.left l.fn.self;
}

abbrev pub decreases-loop-who : goal.decreases-loop-who
decreases-loop-who g l = length l.self.offer_queue.items
