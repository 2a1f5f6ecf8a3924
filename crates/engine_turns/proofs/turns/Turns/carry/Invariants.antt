use Rattle.std.proofs.Common.{◌+◌, ◌≤◌, length}
use Rattle.engine_turns.specs.Turns.{IsBusy, KeepsPhase, work}
use Rattle.engine_turns.specs.Worked.{Works}
use Rattle.engine_turns.proofs.turns.Turns.carry.Given as goal

abbrev pub invariant-loop-act : goal.invariant-loop-act
invariant-loop-act g l = record {
  site : g.row.S-Site.Denot;
  begun : IsBusy (g.S.StrandContract.meaning site) l.connection l.fn.seat l.fn.acts.items l.going l.fn.self (g.W.World.book l.fn.world);
  busy : (s : g.row.S-Site.Denot) → IsBusy (g.S.StrandContract.meaning s) l.connection l.fn.seat l.fn.acts.items l.going l.fn.self (g.W.World.book l.fn.world)
      → IsBusy (g.S.StrandContract.meaning s) l.connection l.seat l.acts.items l.going l.self (g.W.World.book l.world);
  works : Works g.W.World.same g.W.World.book l.fn.self l.self l.fn.world l.world;
  phase : KeepsPhase l.fn.self l.self;
  work : work g.S.StrandContract.left l.self + g.S.StrandContract.left l.seat.strand + length l.acts.items ≤ work g.S.StrandContract.left l.fn.self + g.S.StrandContract.left l.fn.seat.strand + length l.fn.acts.items;
}

abbrev pub decreases-loop-act : goal.decreases-loop-act
decreases-loop-act g l = length l.acts.items
