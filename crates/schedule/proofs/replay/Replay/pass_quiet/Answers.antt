use Rattle.std.proofs.Common.{◌≡◌, slice_get, Some, refl, sym, ap, ◌∙◌, arith, rules}
use Rattle.resty_world.specs.declared.schedule_line.SchedLine.TheVariants as line
use Rattle.std.proofs.lemmas.Option.{slice_get_within}
use Rattle.schedule.proofs.NextLine.{quiet_ahead}
use Rattle.schedule.proofs.Passing.{arrivals-more}
use Rattle.schedule.proofs.Standing.{passes, few-unspent, counted_is}
use Rattle.schedule.specs.Steps.{Dialling, Logging, one_if}
use Rattle.schedule.proofs.replay.Replay.pass_quiet.Goals as goal

pub pass_room-requires-clause-there : goal.pass_room-requires-clause-there
pass_room-requires-clause-there c =
    let world = c.args.self.now in
    (quiet_ahead world.history.entries (line.Room c.in-Room.id c.in-Room.room) (rw (c.line.ensures.here, c.in-Room.is) at c.requires)).known

pub pass_fail_put-requires-clause-there : goal.pass_fail_put-requires-clause-there
pass_fail_put-requires-clause-there c =
    let world = c.args.self.now in
    (quiet_ahead world.history.entries (line.FailPut c.in-FailPut.id) (rw (c.line.ensures.here, c.in-FailPut.is) at c.requires)).known

pub returns-in-Room-clause-past : goal.returns-in-Room-clause-past
returns-in-Room-clause-past c =
    let ok = c.pass_room.ensures.past in
    record {
      book = ok.book;
      passed = ok.passed;
      schedule = ok.schedule;
      entries = ok.entries;
      reached = λ s. ok.reached (record {
        steps = s.steps;
        right = s.right;
        passed = s.passed;
        history = s.history;
        offered = s.offered;
        faults = s.faults;
        losses = s.losses;
        rooms = s.rooms;
        put_fails = s.put_fails;
        dial_fails = s.dial_fails;
        log_fails = s.log_fails;
        listen_fails = s.listen_fails;
        port = s.port;
        kept = tt;
      });
      ready = λ r. ok.ready (record { room = r.room; counted = r.counted; strand = r.strand; connection = r.connection });
    }

pub returns-in-FailPut-clause-past : goal.returns-in-FailPut-clause-past
returns-in-FailPut-clause-past c =
    let ok = c.pass_fail_put.ensures.past in
    record {
      book = ok.book;
      passed = ok.passed;
      schedule = ok.schedule;
      entries = ok.entries;
      reached = λ s. ok.reached (record {
        steps = s.steps;
        right = s.right;
        passed = s.passed;
        history = s.history;
        offered = s.offered;
        faults = s.faults;
        losses = s.losses;
        rooms = s.rooms;
        put_fails = s.put_fails;
        dial_fails = s.dial_fails;
        log_fails = s.log_fails;
        listen_fails = s.listen_fails;
        port = s.port;
        kept = tt;
      });
      ready = λ r. ok.ready (record { room = r.room; counted = r.counted; strand = r.strand; connection = r.connection });
    }

pub overflow_add-self : goal.overflow_add-self
overflow_add-self c =
    let world = c.args.self.now in
    let here : slice_get world.course world.passed ≡ Some (line.FailDial) = rw (← c.in-FailDial.is) c.line.ensures.here in
    let quiet = quiet_ahead world.history.entries (line.FailDial) (rw here at c.requires) in
    let within = slice_get_within world.course world.passed (line.FailDial) here in
    omega (arith, world.few, within)

pub invariant_of-self-in-FailDial : goal.invariant_of-self-in-FailDial
invariant_of-self-in-FailDial c =
    let world = c.args.self.now in
    let here : slice_get world.course world.passed ≡ Some (line.FailDial) = rw (← c.in-FailDial.is) c.line.ensures.here in
    let quiet = quiet_ahead world.history.entries (line.FailDial) (rw here at c.requires) in
    let within = slice_get_within world.course world.passed (line.FailDial) here in
    let more = arrivals-more world.course world.passed (line.FailDial) here in
    let none = ap one_if quiet.no_arrival in
    record {
      passed_lines = omega (arith, within);
      few = world.few;
      numbered = sym (more ∙ omega (arith, world.numbered, none));
      known = world.known;
      opened = world.opened;
      strands = world.strands;
      room = world.room;
      counted = world.counted;
    }

pub returns-in-FailDial-clause-past : goal.returns-in-FailDial-clause-past
returns-in-FailDial-clause-past c =
    let world = c.args.self.now in
    let here : slice_get world.course world.passed ≡ Some (line.FailDial) = rw (← c.in-FailDial.is) c.line.ensures.here in
    let quiet = quiet_ahead world.history.entries (line.FailDial) (rw here at c.requires) in
    let within = slice_get_within world.course world.passed (line.FailDial) here in
    record {
      book = refl;
      passed = omega arith;
      schedule = refl;
      entries = refl;
      reached = λ s. passes (λ steps. Unit {0}) world _ (line.FailDial) s refl refl here quiet.known quiet.silent refl refl (search rules) refl
          (λ x. refl) (λ x. omega arith)
          (omega (arith, s.dial_fails, few-unspent world s Dialling, world.few, within, counted_is c.one_more-self.result world.dial_fails c.one_more-self.ensures.counted)) (omega arith) refl refl tt;
      ready = λ r. record { room = r.room; counted = r.counted; strand = r.strand; connection = r.connection };
    }

pub overflow_add-self-in-FailLog : goal.overflow_add-self-in-FailLog
overflow_add-self-in-FailLog c =
    let world = c.args.self.now in
    let here : slice_get world.course world.passed ≡ Some (line.FailLog) = rw (← c.in-FailLog.is) c.line.ensures.here in
    let quiet = quiet_ahead world.history.entries (line.FailLog) (rw here at c.requires) in
    let within = slice_get_within world.course world.passed (line.FailLog) here in
    omega (arith, world.few, within)

pub invariant_of-self-in-FailLog : goal.invariant_of-self-in-FailLog
invariant_of-self-in-FailLog c =
    let world = c.args.self.now in
    let here : slice_get world.course world.passed ≡ Some (line.FailLog) = rw (← c.in-FailLog.is) c.line.ensures.here in
    let quiet = quiet_ahead world.history.entries (line.FailLog) (rw here at c.requires) in
    let within = slice_get_within world.course world.passed (line.FailLog) here in
    let more = arrivals-more world.course world.passed (line.FailLog) here in
    let none = ap one_if quiet.no_arrival in
    record {
      passed_lines = omega (arith, within);
      few = world.few;
      numbered = sym (more ∙ omega (arith, world.numbered, none));
      known = world.known;
      opened = world.opened;
      strands = world.strands;
      room = world.room;
      counted = world.counted;
    }

pub returns-in-FailLog-clause-past : goal.returns-in-FailLog-clause-past
returns-in-FailLog-clause-past c =
    let world = c.args.self.now in
    let here : slice_get world.course world.passed ≡ Some (line.FailLog) = rw (← c.in-FailLog.is) c.line.ensures.here in
    let quiet = quiet_ahead world.history.entries (line.FailLog) (rw here at c.requires) in
    let within = slice_get_within world.course world.passed (line.FailLog) here in
    record {
      book = refl;
      passed = omega arith;
      schedule = refl;
      entries = refl;
      reached = λ s. passes (λ steps. Unit {0}) world _ (line.FailLog) s refl refl here quiet.known quiet.silent refl refl (search rules) refl
          (λ x. refl) (λ x. omega arith)
          (omega arith) (omega (arith, s.log_fails, few-unspent world s Logging, world.few, within, counted_is c.one_more-self-in-FailLog.result world.log_fails c.one_more-self-in-FailLog.ensures.counted)) refl refl tt;
      ready = λ r. record { room = r.room; counted = r.counted; strand = r.strand; connection = r.connection };
    }

pub overflow_add-self-in-Given : goal.overflow_add-self-in-Given
overflow_add-self-in-Given c =
    let world = c.args.self.now in
    let here : slice_get world.course world.passed ≡ Some (line.Given c.in-Given.field-0) = rw (← c.in-Given.is) c.line.ensures.here in
    let quiet = quiet_ahead world.history.entries (line.Given c.in-Given.field-0) (rw here at c.requires) in
    let within = slice_get_within world.course world.passed (line.Given c.in-Given.field-0) here in
    omega (arith, world.few, within)

pub invariant_of-self-in-Given : goal.invariant_of-self-in-Given
invariant_of-self-in-Given c =
    let world = c.args.self.now in
    let here : slice_get world.course world.passed ≡ Some (line.Given c.in-Given.field-0) = rw (← c.in-Given.is) c.line.ensures.here in
    let quiet = quiet_ahead world.history.entries (line.Given c.in-Given.field-0) (rw here at c.requires) in
    let within = slice_get_within world.course world.passed (line.Given c.in-Given.field-0) here in
    let more = arrivals-more world.course world.passed (line.Given c.in-Given.field-0) here in
    let none = ap one_if quiet.no_arrival in
    record {
      passed_lines = omega (arith, within);
      few = world.few;
      numbered = sym (more ∙ omega (arith, world.numbered, none));
      known = world.known;
      opened = world.opened;
      strands = world.strands;
      room = world.room;
      counted = world.counted;
    }

pub returns-in-Given-clause-past : goal.returns-in-Given-clause-past
returns-in-Given-clause-past c =
    let world = c.args.self.now in
    let here : slice_get world.course world.passed ≡ Some (line.Given c.in-Given.field-0) = rw (← c.in-Given.is) c.line.ensures.here in
    let quiet = quiet_ahead world.history.entries (line.Given c.in-Given.field-0) (rw here at c.requires) in
    let within = slice_get_within world.course world.passed (line.Given c.in-Given.field-0) here in
    record {
      book = refl;
      passed = omega arith;
      schedule = refl;
      entries = refl;
      reached = λ s. passes (λ steps. Unit {0}) world _ (line.Given c.in-Given.field-0) s refl refl here quiet.known quiet.silent refl refl (search rules) refl
          (λ x. refl) (λ x. omega arith)
          (omega arith) (omega arith) refl refl tt;
      ready = λ r. record { room = r.room; counted = r.counted; strand = r.strand; connection = r.connection };
    }

pub overflow_add-self-in-FailListen : goal.overflow_add-self-in-FailListen
overflow_add-self-in-FailListen c =
    let world = c.args.self.now in
    let here : slice_get world.course world.passed ≡ Some (line.FailListen) = rw (← c.in-FailListen.is) c.line.ensures.here in
    let quiet = quiet_ahead world.history.entries (line.FailListen) (rw here at c.requires) in
    let within = slice_get_within world.course world.passed (line.FailListen) here in
    omega (arith, world.few, within)

pub invariant_of-self-in-FailListen : goal.invariant_of-self-in-FailListen
invariant_of-self-in-FailListen c =
    let world = c.args.self.now in
    let here : slice_get world.course world.passed ≡ Some (line.FailListen) = rw (← c.in-FailListen.is) c.line.ensures.here in
    let quiet = quiet_ahead world.history.entries (line.FailListen) (rw here at c.requires) in
    let within = slice_get_within world.course world.passed (line.FailListen) here in
    let more = arrivals-more world.course world.passed (line.FailListen) here in
    let none = ap one_if quiet.no_arrival in
    record {
      passed_lines = omega (arith, within);
      few = world.few;
      numbered = sym (more ∙ omega (arith, world.numbered, none));
      known = world.known;
      opened = world.opened;
      strands = world.strands;
      room = world.room;
      counted = world.counted;
    }

pub returns-in-FailListen-clause-past : goal.returns-in-FailListen-clause-past
returns-in-FailListen-clause-past c =
    let world = c.args.self.now in
    let here : slice_get world.course world.passed ≡ Some (line.FailListen) = rw (← c.in-FailListen.is) c.line.ensures.here in
    let quiet = quiet_ahead world.history.entries (line.FailListen) (rw here at c.requires) in
    let within = slice_get_within world.course world.passed (line.FailListen) here in
    record {
      book = refl;
      passed = omega arith;
      schedule = refl;
      entries = refl;
      reached = λ s. passes (λ steps. Unit {0}) world _ (line.FailListen) s refl refl here quiet.known quiet.silent refl refl (search rules) refl
          (λ x. refl) (λ x. omega arith)
          (omega arith) (omega arith) refl refl tt;
      ready = λ r. record { room = r.room; counted = r.counted; strand = r.strand; connection = r.connection };
    }
