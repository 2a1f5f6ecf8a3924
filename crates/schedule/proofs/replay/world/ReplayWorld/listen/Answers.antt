use Rattle.std.proofs.Common.{refl, arith}
use Rattle.schedule.proofs.Standing.{listens, same_faults}
use Rattle.schedule.proofs.replay.world.ReplayWorld.listen.Goals as goal

pub returns-then-self-clause-same : goal.returns-then-self-clause-same
returns-then-self-clause-same c = record {
  schedule = refl;
  passed = omega arith;
  stands = λ s. listens c.args.self.now _ c.args.port s refl refl refl refl (rw c.if-self.true c.one_more-self.ensures.counted) refl refl refl refl refl (rw c.if-self.true refl);
}

pub returns-clause-same : goal.returns-clause-same
returns-clause-same c = record {
  schedule = refl;
  passed = omega arith;
  stands = λ s. listens c.args.self.now _ c.args.port s refl refl refl refl (rw c.if-self.false (same_faults c.args.self.now s)) refl refl refl refl c.if-self.false (rw c.if-self.false refl);
}
