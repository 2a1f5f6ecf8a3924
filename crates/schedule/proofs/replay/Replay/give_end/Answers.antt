use Rattle.std.proofs.Common.{◌≡◌, ◌∷◌, Some, refl, sym, ap, ◌∙◌, arith, rules}
use Rattle.std.proofs.lemmas.Grind.{common_steps}
use Rattle.resty_world.specs.declared.event.Event.TheVariants as event
use Rattle.resty_world.specs.declared.entry.Entry.TheVariants as entry
use Rattle.resty_world.specs.declared.schedule_line.SchedLine.TheVariants as line
use Rattle.resty_world.specs.Ids.{same_id}
use Rattle.schedule.specs.Peers.{peer_at, opened, closed, room_in, put_fails_in}
use Rattle.schedule.specs.OpenIds.{has, open_ids, hung_up}
use Rattle.std.proofs.lemmas.Option.{slice_get_within}
use Rattle.schedule.proofs.KnowingLemmas.{knows-changed, ended-after, unseen, own-value}
use Rattle.schedule.proofs.Passing.{arrivals-more}
use Rattle.schedule.proofs.Standing.{gives}
use Rattle.schedule.proofs.replay.Replay.give_end.Goals as goal

pub invariant_of-self : goal.invariant_of-self
invariant_of-self c =
    let world = c.args.self.now in
    let history = world.history.entries in
    let roll = world.peers in
    let here : peer_at roll c.args.id ≡ Some c.in-Some.peer = sym c.get.ensures ∙ c.in-Some.is in
    let next = line.Given (event.Ended c.args.id) in
    let entries : c.push_reserved.new.self.entries ≡ entry.Given (event.Ended c.args.id) ∷ history = rw (← c.requires.copy, c.push_reserved.ensures.entries) refl in
    let within = slice_get_within world.course world.passed next c.requires.here in
    let more = arrivals-more world.course world.passed next c.requires.here in
    record {
      passed_lines = omega arith;
      few = world.few;
      numbered = sym (more ∙ omega (arith, world.numbered, c.set.ensures.connections));
      known = rw entries (knows-changed roll c.set.new.self history (entry.Given (event.Ended c.args.id)) c.args.id _ world.known
          c.set.ensures.set c.set.ensures.connections c.set.ensures.sockets (omega arith) (omega arith)
          (λ x. sym (own-value (λ y. has same_id y (open_ids history)) c.args.id _ (sym (world.known.are_open c.args.id) ∙ ap opened here) x))
          (λ x. sym (own-value (hung_up history) c.args.id _ (sym (world.known.are_closed c.args.id) ∙ ap closed here) x))
          (ended-after roll c.set.new.self history (entry.Given (event.Ended c.args.id)) c.args.id c.in-Some.peer _ world.known here c.set.ensures.set refl (λ x. refl))
          world.known.distinct);
      opened = rw entries world.opened;
      strands = world.strands;
      room = omega arith;
      counted = world.counted;
    }

pub returns-clause-answered : goal.returns-clause-answered
returns-clause-answered c =
    let world = c.args.self.now in
    let here : peer_at world.peers c.args.id ≡ Some c.in-Some.peer = sym c.get.ensures ∙ c.in-Some.is in
    record {
      schedule = refl;
      passed = omega arith;
      stands = λ s. gives world _ (event.Ended c.args.id) s refl refl c.requires.here c.requires.there (search rules) (rw (← c.requires.copy, c.push_reserved.ensures.entries) refl) refl refl (search rules)
          (unseen room_in world.peers c.set.new.self c.args.id _ c.set.ensures.set (ap room_in here))
          (unseen put_fails_in world.peers c.set.new.self c.args.id _ c.set.ensures.set (ap put_fails_in here))
          refl refl refl refl;
    }

pub returns-clause-gave : goal.returns-clause-gave
returns-clause-gave c = grind (arith, common_steps)
