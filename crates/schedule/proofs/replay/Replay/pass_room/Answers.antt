use Rattle.std.proofs.Common.{◌≡◌, ◌+◌, Some, refl, sym, ap, ◌∙◌, arith, rules}
use Rattle.resty_world.specs.declared.schedule_line.SchedLine.TheVariants as line
use Rattle.schedule.specs.Peers.{peer_at, ended, room_in, put_fails_in}
use Rattle.schedule.specs.ReplayBook.{book_of}
use Rattle.std.proofs.lemmas.Option.{slice_get_within}
use Rattle.schedule.proofs.KnowingLemmas.{knows-same, changed, unseen}
use Rattle.schedule.proofs.Passing.{arrivals-more}
use Rattle.schedule.proofs.Standing.{passes}
use Rattle.schedule.proofs.replay.Replay.pass_room.Goals as goal

pub invariant_of-self : goal.invariant_of-self
invariant_of-self c =
    let world = c.args.self.now in
    let roll = world.peers in
    let here : peer_at roll c.args.id ≡ Some c.in-Some.peer = sym c.get.ensures ∙ c.in-Some.is in
    let within = slice_get_within world.course world.passed (line.Room c.args.id c.args.room) c.requires.here in
    let more = arrivals-more world.course world.passed (line.Room c.args.id c.args.room) c.requires.here in
    record {
      passed_lines = omega arith;
      few = world.few;
      numbered = sym (more ∙ omega (arith, world.numbered, c.set.ensures.connections));
      known = knows-same roll c.set.new.self world.history.entries c.args.id c.in-Some.peer _ world.known here c.set.ensures.set refl refl c.set.ensures.connections c.set.ensures.sockets;
      opened = world.opened;
      strands = world.strands;
      room = world.room;
      counted = world.counted;
    }

pub returns-clause-past : goal.returns-clause-past
returns-clause-past c =
    let world = c.args.self.now in
    let here : peer_at world.peers c.args.id ≡ Some c.in-Some.peer = sym c.get.ensures ∙ c.in-Some.is in
    let within = slice_get_within world.course world.passed (line.Room c.args.id c.args.room) c.requires.here in
    record {
      book = λ i. record (book_of world) {
        passed = world.passed + 1;
        has_ended = λ x. unseen ended world.peers c.set.new.self c.args.id _ c.set.ensures.set (ap ended here) x i;
        arrivals = c.set.ensures.connections i;
        dials = c.set.ensures.sockets i;
      };
      passed = omega arith;
      schedule = refl;
      entries = refl;
      reached = λ s. passes (λ steps. Unit {0}) world _ (line.Room c.args.id c.args.room) s refl refl c.requires.here c.requires.there refl refl refl (search rules) refl
          (λ x. changed room_in world.peers c.set.new.self c.args.id _ c.set.ensures.set x)
          (λ x. unseen put_fails_in world.peers c.set.new.self c.args.id _ c.set.ensures.set (ap put_fails_in here) x ∙ omega arith)
          (omega arith) (omega arith) refl refl tt;
      ready = λ r. record { room = r.room; counted = r.counted; strand = r.strand; connection = rw c.set.ensures.free r.connection };
    }
