use Rattle.std.proofs.Common.{length, refl, ap, ◌∙◌, arith}
use Rattle.schedule.specs.Peers.{room_in, put_fails_in}
use Rattle.schedule.proofs.Running.{same-peers, knows-still, later-still}
use Rattle.schedule.proofs.replay.Replay.make_ready.Goals as goal

pub returns-in_err-make_way-clause-later : goal.returns-in_err-make_way-clause-later
returns-in_err-make_way-clause-later c =
    later-still c.args.self.now _ refl refl c.make_way.ensures.entries refl refl refl (λ x. refl) (λ x. refl) refl refl refl refl

pub invariant_of-self-2 : goal.invariant_of-self-2
invariant_of-self-2 c =
    let world = c.args.self.now in
    let way = c.make_way-2.ensures in
    record {
      passed_lines = world.passed_lines;
      few = world.few;
      numbered = ap length way.connections ∙ world.numbered;
      known = rw c.make_way.ensures.entries (knows-still world.peers c.make_way-2.new.self world.history.entries way.connections way.sockets world.known);
      opened = rw c.make_way.ensures.entries world.opened;
      strands = omega (arith, world.strands, c.reserve.ensures.free);
      room = omega (arith, c.make_way.ensures.kept, c.set_aside-taken.ensures.count, ap length c.reserve.ensures.strands);
      counted = omega (arith, world.counted, ap length c.reserve.ensures.strands);
    }

pub returns-clause-later : goal.returns-clause-later
returns-clause-later c =
    let way = c.make_way-2.ensures in
    later-still c.args.self.now _ refl refl c.make_way.ensures.entries refl refl refl
    (λ x. ap room_in (same-peers c.args.self.now.peers c.make_way-2.new.self way.connections way.sockets x))
    (λ x. ap put_fails_in (same-peers c.args.self.now.peers c.make_way-2.new.self way.connections way.sockets x)) refl refl refl refl
