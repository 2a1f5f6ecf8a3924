use Rattle.std.proofs.Common.{◌≡◌, ◌∷◌, take, refl, sym, ap, ◌∙◌, arith}
use Rattle.std.proofs.lemmas.Grind.{common_steps}
use Rattle.resty_world.specs.declared.entry.Entry.TheVariants as entry
use Rattle.resty_world.specs.declared.schedule_line.SchedLine.TheVariants as line
use Rattle.std.proofs.lemmas.Option.{slice_get_within}
use Rattle.schedule.proofs.Passing.{arrivals-more}
use Rattle.schedule.proofs.Standing.{gives}
use Rattle.schedule.specs.Steps.{one_if}
use Rattle.schedule.proofs.Plain.{plain}
use Rattle.schedule.proofs.Standing.{same_losses}
use Rattle.schedule.proofs.replay.Replay.give_next.Goals as goal

pub invariant_of-self : goal.invariant_of-self
invariant_of-self c =
    let world = c.args.self.now in
    let e = c.args.given in
    let p = plain world (take world.passed world.course) e c.requires.fits c.requires.there c.requires.due c.in_default.not-Arrive c.in_default.not-Ended c.in_default.not-Broken in
    let entries : c.push_reserved.new.self.entries ≡ entry.Given e ∷ world.history.entries = rw (← c.requires.copy, c.push_reserved.ensures.entries) refl in
    let within = slice_get_within world.course world.passed (line.Given e) c.requires.here in
    let more = arrivals-more world.course world.passed (line.Given e) c.requires.here in
    let none = ap one_if p.no_arrival in
    record {
      passed_lines = omega (arith, within);
      few = world.few;
      numbered = sym (more ∙ omega (arith, world.numbered, none));
      known = rw entries p.known;
      opened = rw (entries, p.ids) world.opened;
      strands = world.strands;
      room = omega (arith, c.requires.ready.room);
      counted = world.counted;
    }

pub returns-in_default : goal.returns-in_default
returns-in_default c =
    let world = c.args.self.now in
    let e = c.args.given in
    let p = plain world (take world.passed world.course) e c.requires.fits c.requires.there c.requires.due c.in_default.not-Arrive c.in_default.not-Ended c.in_default.not-Broken in
    let entries : c.push_reserved.new.self.entries ≡ entry.Given e ∷ world.history.entries = rw (← c.requires.copy, c.push_reserved.ensures.entries) refl in
    record {
      gave = record {
        history = rw (entries, p.entries) refl;
        offered = refl;
        schedule = refl;
        passed = omega arith;
        fit = p.fit;
        caused = search (p.caused);
        is_open = λ x. rw (entries, p.ids, p.no_id x) refl;
        has_ended = λ x. rw (p.no_id x, p.no_end x) refl;
        id_aside = λ x. rw (entries, p.ids, p.no_id x) refl;
        strand_aside = λ s. rw (p.no_strand s) refl;
        arrivals = rw p.none (omega arith);
        dials = refl;
        faults = rw p.no_fault refl;
        losses = rw p.no_break refl;
        port = refl;
      };
      answered = record {
        schedule = refl;
        passed = omega arith;
        stands = λ s. gives world _ e s refl refl c.requires.here c.requires.there c.requires.due entries refl refl
            (rw p.no_loss (same_losses world s)) (λ x. refl) (λ x. refl) refl refl refl refl;
      };
    }

pub give_arrival-requires-clause-ready : goal.give_arrival-requires-clause-ready
give_arrival-requires-clause-ready c = grind (arith, common_steps)

pub give_arrival-requires-clause-copy : goal.give_arrival-requires-clause-copy
give_arrival-requires-clause-copy c = grind (arith, common_steps)

pub give_arrival-requires-clause-here : goal.give_arrival-requires-clause-here
give_arrival-requires-clause-here c = grind (arith, common_steps)

pub give_arrival-requires-clause-next : goal.give_arrival-requires-clause-next
give_arrival-requires-clause-next c = grind (arith, common_steps)

pub give_end-requires-clause-room : goal.give_end-requires-clause-room
give_end-requires-clause-room c = grind (arith, common_steps)

pub give_end-requires-clause-copy : goal.give_end-requires-clause-copy
give_end-requires-clause-copy c = grind (arith, common_steps)

pub give_end-requires-clause-here : goal.give_end-requires-clause-here
give_end-requires-clause-here c = grind (arith, common_steps)

pub give_end-requires-clause-there : goal.give_end-requires-clause-there
give_end-requires-clause-there c = grind (arith, common_steps)

pub give_end-requires-clause-due : goal.give_end-requires-clause-due
give_end-requires-clause-due c = grind (arith, common_steps)

pub give_break-requires-clause-room : goal.give_break-requires-clause-room
give_break-requires-clause-room c = grind (arith, common_steps)

pub give_break-requires-clause-copy : goal.give_break-requires-clause-copy
give_break-requires-clause-copy c = grind (arith, common_steps)

pub give_break-requires-clause-here : goal.give_break-requires-clause-here
give_break-requires-clause-here c = grind (arith, common_steps)

pub give_break-requires-clause-there : goal.give_break-requires-clause-there
give_break-requires-clause-there c = grind (arith, common_steps)

pub give_break-requires-clause-due : goal.give_break-requires-clause-due
give_break-requires-clause-due c = grind (arith, common_steps)

pub returns-in-Arrive-clause-gave : goal.returns-in-Arrive-clause-gave
returns-in-Arrive-clause-gave c = grind (arith, common_steps)

pub returns-in-Arrive-clause-answered : goal.returns-in-Arrive-clause-answered
returns-in-Arrive-clause-answered c = grind (arith, common_steps)

pub returns-in-Ended-clause-gave : goal.returns-in-Ended-clause-gave
returns-in-Ended-clause-gave c = grind (arith, common_steps)

pub returns-in-Ended-clause-answered : goal.returns-in-Ended-clause-answered
returns-in-Ended-clause-answered c = grind (arith, common_steps)

pub returns-in-Broken-clause-gave : goal.returns-in-Broken-clause-gave
returns-in-Broken-clause-gave c = grind (arith, common_steps)

pub returns-in-Broken-clause-answered : goal.returns-in-Broken-clause-answered
returns-in-Broken-clause-answered c = grind (arith, common_steps)
