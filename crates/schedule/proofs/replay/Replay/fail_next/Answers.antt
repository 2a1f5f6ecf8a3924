use Rattle.std.proofs.Common.{◌≡◌, false, take, slice_get, refl, sym, ◌∙◌, inl, arith}
use Rattle.std.proofs.lemmas.Option.{slice_get_within}
use Rattle.resty_world.specs.declared.schedule_line.SchedLine.TheVariants as line
use Rattle.schedule.proofs.NextLine.{fault_ahead}
use Rattle.schedule.proofs.Passing.{arrivals-more, take-more}
use Rattle.schedule.specs.Steps.{within_asking}
use Rattle.schedule.proofs.Standing.{passes}
use Rattle.schedule.proofs.replay.Replay.fail_next.Goals as goal

pub overflow_add-self : goal.overflow_add-self
overflow_add-self c =
    let world = c.args.self.now in
    let here = fault_ahead world.history.entries (slice_get world.course world.passed) c.requires in
    let within = slice_get_within world.course world.passed line.FailNext here in
    omega (arith, world.few)

pub invariant_of-self : goal.invariant_of-self
invariant_of-self c =
    let world = c.args.self.now in
    let here = fault_ahead world.history.entries (slice_get world.course world.passed) c.requires in
    let within = slice_get_within world.course world.passed line.FailNext here in
    record {
      passed_lines = omega arith;
      few = world.few;
      numbered = world.numbered ∙ sym (arrivals-more world.course world.passed line.FailNext here ∙ omega arith);
      known = world.known;
      opened = world.opened;
      strands = world.strands;
      room = world.room;
      counted = world.counted;
    }

pub returns-clause-gave : goal.returns-clause-gave
returns-clause-gave c =
    let world = c.args.self.now in
    let here = fault_ahead world.history.entries (slice_get world.course world.passed) c.requires in
    record {
      history = refl;
      offered = refl;
      schedule = refl;
      passed = omega arith;
      fit = tt;
      caused = inl (take world.passed world.course, take-more world.course world.passed line.FailNext here);
      is_open = λ x. refl;
      has_ended = λ x. refl;
      id_aside = λ x. refl;
      strand_aside = λ s. refl;
      arrivals = omega arith;
      dials = refl;
      faults = c.one_more-self.ensures.rose;
      losses = refl;
      port = refl;
    }

pub returns-clause-answered : goal.returns-clause-answered
returns-clause-answered c =
    let world = c.args.self.now in
    let here = fault_ahead world.history.entries (slice_get world.course world.passed) c.requires in
    record {
      schedule = refl;
      passed = omega arith;
      stands = λ s. passes (λ steps. within_asking steps ≡ false) world _ line.FailNext s refl refl here refl refl refl refl c.one_more-self.ensures.counted refl (λ x. refl) (λ x. omega arith) (omega arith) (omega arith) refl refl refl;
    }
