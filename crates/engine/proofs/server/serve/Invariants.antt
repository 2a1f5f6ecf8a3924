use Rattle.std.proofs.Common.{◌≡◌, ◌≤◌, ◌-◌, IfSome}
use Rattle.engine.specs.Engine.{Rests}
use Rattle.engine.specs.Endings.{IsSpent, HasNoFailedLog}
use Rattle.engine.proofs.server.serve.Given as goal

abbrev pub invariant-loop-given : goal.invariant-loop-given
invariant-loop-given g l = record {
  rests : Rests (g.S.StrandContract.meaning l.site) l.engine (g.W.World.book l.world);
  same : g.W.World.same l.fn.world l.world;
  spent : IfSome (g.W.World.book l.world).history (IsSpent l.given);
  logs : IfSome (g.W.World.book l.world).history HasNoFailedLog;
  faults : (g.W.World.book l.world).faults ≡ (g.W.World.book l.fn.world).faults;
  port : (g.W.World.book l.world).port ≡ (g.W.World.book l.fn.world).port;
  within : l.given ≤ l.fn.events;
  bound : l.events ≡ l.fn.events;
}

abbrev pub decreases-loop-given : goal.decreases-loop-given
decreases-loop-given g l = l.events - l.given
