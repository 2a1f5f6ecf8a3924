use Rattle.std.proofs.Common.{refl, arith}
use Rattle.resty_world.specs.Calls.{uses_aside}
use Rattle.schedule.specs.ReplayBook.{book_of}
use Rattle.schedule.proofs.AsideLemmas.{room-left}
use Rattle.schedule.proofs.Noting.{noted}
use Rattle.schedule.proofs.replay.world.ReplayWorld.note.Goals as goal

pub invariant_of-self : goal.invariant_of-self
invariant_of-self c =
    let world = c.args.self.now in
    let n = noted world.peers world.history.entries c.args.entry world.known c.requires.kind in
    let left = room-left (book_of world) (uses_aside c.args.entry) c.requires.room in
    record {
      passed_lines = world.passed_lines;
      few = world.few;
      numbered = world.numbered;
      known = rw c.push_reserved.ensures.entries n.known;
      opened = rw (c.push_reserved.ensures.entries, n.ids) world.opened;
      strands = omega (arith, world.strands, c.note.ensures.free, c.room_taken.ensures, left);
      room = omega (arith, world.room, c.note.ensures.count, c.room_taken.ensures, left);
      counted = omega (arith, world.counted, c.note.ensures.count, c.room_taken.ensures, left);
    }

pub returns-clause-same : goal.returns-clause-same
returns-clause-same c =
    let world = c.args.self.now in
    let n = noted world.peers world.history.entries c.args.entry world.known c.requires.kind in
    record {
      schedule = refl;
      passed = omega arith;
      stands = λ s. n.stands world _ s refl refl refl c.push_reserved.ensures.entries refl refl refl refl refl refl refl;
    }
