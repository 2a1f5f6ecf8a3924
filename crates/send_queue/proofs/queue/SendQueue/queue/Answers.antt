-- A piece that fills the begun block is put after what waits.
use Rattle.std.proofs.Common.{◌≡◌, ◌+◌, ◌-◌, ◌*◌, ◌/◌, ◌≤◌, false, drop, refl, arith, rules}
use Rattle.send_queue.proofs.Layouts.{queues}
use Rattle.send_queue.proofs.queue.SendQueue.queue.Goals as goal

pub invariant_of-self-2 : goal.invariant_of-self-2
invariant_of-self-2 c =
    let room = c.room-room.result in
    let end = room + (c.len-2.result - room) / 16_384 * 16_384 in
    let rest : c.append-2.new.block.items ≡ drop end c.args.piece.now = search rules in
    let fits : room ≤ c.len-2.result = omega (arith, c.if-len-room.false, c.len.ensures.value, c.len-2.ensures.value) in (
      c.self.invariant.0,
      (queues c.self.inside.phase c.self.inside.taken room end c.len-2.result c.self.inside.pieces.items c.put.new.pieces.items c.self.inside.begun.items c.args.piece.now c.in_ok-whole.whole c.in_ok-middle.middle c.append-2.new.block.items
          c.self.invariant.1 c.room-room.ensures c.len-2.ensures.value fits refl c.in_ok-whole.ensures.whole c.in_ok-middle.ensures.ok rest (search rules)).0,
    )

pub returns-clause-done : goal.returns-clause-done
returns-clause-done c =
    let room = c.room-room.result in
    let end = room + (c.len-2.result - room) / 16_384 * 16_384 in
    let rest : c.append-2.new.block.items ≡ drop end c.args.piece.now = search rules in
    let fits : room ≤ c.len-2.result = omega (arith, c.if-len-room.false, c.len.ensures.value, c.len-2.ensures.value) in
    let bytes = (queues c.self.inside.phase c.self.inside.taken room end c.len-2.result c.self.inside.pieces.items c.put.new.pieces.items c.self.inside.begun.items c.args.piece.now c.in_ok-whole.whole c.in_ok-middle.middle c.append-2.new.block.items
    c.self.invariant.1 c.room-room.ensures c.len-2.ensures.value fits refl c.in_ok-whole.ensures.whole c.in_ok-middle.ensures.ok rest (search rules)).1 in
    rw (← c.self.view_is, c.if-self.false) (λ i. record { bytes = bytes i; phase = c.self.inside.phase; gone = false })
