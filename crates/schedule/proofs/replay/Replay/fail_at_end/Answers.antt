use Rattle.std.proofs.Common.{refl, inr, arith}
use Rattle.std.proofs.lemmas.List.{take_all}
use Rattle.schedule.proofs.Standing.{fails_at_end}
use Rattle.schedule.proofs.replay.Replay.fail_at_end.Goals as goal

pub returns-clause-gave : goal.returns-clause-gave
returns-clause-gave c =
    let world = c.args.self.now in
    let end = c.requires.end in
    record {
      history = refl;
      offered = refl;
      schedule = refl;
      passed = omega arith;
      fit = tt;
      caused = inr (take_all world.passed world.course (omega (arith, end)));
      is_open = λ x. refl;
      has_ended = λ x. refl;
      id_aside = λ x. refl;
      strand_aside = λ s. refl;
      arrivals = omega arith;
      dials = refl;
      faults = c.one_more-self.ensures.rose;
      losses = refl;
      port = refl;
    }

pub returns-clause-answered : goal.returns-clause-answered
returns-clause-answered c = record {
  schedule = refl;
  passed = omega arith;
  stands = λ s. fails_at_end c.args.self.now _ s c.requires.whole c.requires.end refl refl refl refl c.one_more-self.ensures.counted refl refl refl refl refl refl;
}
