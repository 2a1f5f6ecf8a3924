use Rattle.std.proofs.Common.{◌≡◌, ◌+◌, ◌∷◌, length, Some, refl, sym, ap, ◌∙◌, arith, rules}
use Rattle.std.specs.Bool.{if◌then◌else◌}
use Rattle.resty_base.specs.declared.names.Id.{Id}
use Rattle.resty_base.specs.declared.names.Id.TheVariants as id
use Rattle.resty_world.specs.declared.event.Event.TheVariants as event
use Rattle.resty_world.specs.declared.entry.Entry.TheVariants as entry
use Rattle.resty_world.specs.declared.schedule_line.SchedLine.TheVariants as line
use Rattle.resty_world.specs.Ids.{same_id}
use Rattle.schedule.specs.Peers.{peer_at, room_in, put_fails_in, fresh}
use Rattle.schedule.specs.OpenIds.{open_ids}
use Rattle.std.proofs.lemmas.Option.{slice_get_within}
use Rattle.schedule.proofs.KnowingLemmas.{next-connection, knows-new, unseen}
use Rattle.schedule.proofs.Passing.{arrivals-more}
use Rattle.schedule.proofs.Standing.{gives}
use Rattle.schedule.proofs.replay.Replay.give_arrival.Goals as goal

pub invariant_of-self : goal.invariant_of-self
invariant_of-self c =
    let world = c.args.self.now in
    let number = c.args.number in
    let history = world.history.entries in
    let roll = world.peers in
    let arrive = line.Given (event.Arrive number) in
    let entries : c.push_reserved.new.self.entries ≡ entry.Given (event.Arrive number) ∷ history = rw (← c.requires.copy, c.push_reserved.ensures.entries) refl in
    let within = slice_get_within world.course world.passed arrive c.requires.here in
    let more = arrivals-more world.course world.passed arrive c.requires.here in
    let connections : length c.add_connection.new.self.connections ≡ length roll.connections + 1 = search rules in
    let sockets : length c.add_connection.new.self.sockets ≡ length roll.sockets = search rules in
    record {
      passed_lines = omega arith;
      few = world.few;
      numbered = sym (more ∙ omega (arith, world.numbered, connections));
      known = rw entries (knows-new roll c.add_connection.new.self history (entry.Given (event.Arrive number)) (id.Conn (length roll.connections + 1)) world.known (next-connection roll)
          (search rules) (omega (arith, world.known.arrived, connections)) (omega (arith, world.known.dialled, sockets))
          (ap (λ n. id.Conn n ∷ open_ids history) c.requires.next) (λ x. refl) (λ x. refl));
      opened = rw entries (omega (arith, world.opened));
      strands = omega (arith, c.requires.ready.strand, c.add.ensures.free);
      room = omega (arith, c.requires.ready.room, c.add.ensures.count);
      counted = omega (arith, c.requires.ready.counted, c.add.ensures.count);
    }

pub returns-clause-answered : goal.returns-clause-answered
returns-clause-answered c =
    let world = c.args.self.now in
    let roll = world.peers in
    let at : (x : Id) → peer_at c.add_connection.new.self x ≡ (if same_id x (id.Conn (length roll.connections + 1)) then Some fresh else peer_at roll x) = search rules in
    record {
      schedule = refl;
      passed = omega arith;
      stands = λ s. gives world _ (event.Arrive c.args.number) s refl refl c.requires.here refl refl (rw (← c.requires.copy, c.push_reserved.ensures.entries) refl) refl refl (search rules)
          (unseen room_in roll c.add_connection.new.self (id.Conn (length roll.connections + 1)) (Some fresh) at (ap room_in (next-connection roll)))
          (unseen put_fails_in roll c.add_connection.new.self (id.Conn (length roll.connections + 1)) (Some fresh) at (ap put_fails_in (next-connection roll)))
          refl refl refl refl;
    }
