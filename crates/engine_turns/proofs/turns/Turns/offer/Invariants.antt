use Rattle.std.proofs.Common.{◌+◌, ◌≤◌, [], true}
use Rattle.engine_turns.specs.Turns.{IsBusy, KeepsPhase, work}
use Rattle.engine_turns.specs.Worked.{Works}
use Rattle.engine_turns.proofs.turns.Turns.offer.Given as goal

abbrev pub invariant-loop-piece : goal.invariant-loop-piece
invariant-loop-piece g l = record {
  busy : IsBusy (g.S.StrandContract.meaning l.site) l.connection l.seat [] true l.self (g.W.World.book l.world);
  works : Works g.W.World.same g.W.World.book l.fn.self l.self l.fn.world l.world;
  phase : KeepsPhase l.fn.self l.self;
  work : work g.S.StrandContract.left l.self + g.S.StrandContract.left l.seat.strand ≤ work g.S.StrandContract.left l.fn.self + g.S.StrandContract.left l.fn.seat.strand;
}

abbrev pub decreases-loop-piece : goal.decreases-loop-piece
decreases-loop-piece g l = work g.S.StrandContract.left l.self + g.S.StrandContract.left l.seat.strand
