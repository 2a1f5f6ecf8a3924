-- The thread that stands first is taken out, and its place is free.
use Rattle.std.proofs.Common.{◌≡◌, ◌+◌, ◌-◌, ◌<◌, ◌≤◌, length, ap, ◌∙◌, sym, arith}
use Rattle.std.specs.List.{remove}
use Rattle.std.specs.VecDeque.{deque_len, deque_capacity}
use Rattle.wakes.specs.Queue.{without_thread}
use Rattle.wakes.proofs.Threads.{nowhere, at_index, at_some}
use Rattle.wakes.proofs.run_queue.RunQueue.remove.Goals as goal

pub returns-in-Some : goal.returns-in-Some
returns-in-Some c =
    let old = c.self.inside.threads in
    let new = c.remove-removed.new.self in
    let e = at_index (c.args.strand, c.args.thread) old.items c.in-Some.index c.in-Some.ensures.within c.in-Some.ensures.here c.in-Some.ensures.before in
    let w = c.in-Some.ensures.within in
    let l : c.in-Some.index < deque_len old = omega (arith, old.ok.0) in
    let there = c.remove-removed.ensures.variant.1 l in
    let items = at_some (new.items ≡ remove old.items c.in-Some.index) c.remove-removed.result c.remove-removed.ensures.items there in
    let len = at_some (deque_len new + 1 ≡ deque_len old) c.remove-removed.result c.remove-removed.ensures.len there in
    let threads : new.items ≡ without_thread (c.args.strand, c.args.thread) old.items = items ∙ sym e in
    let long : length new.items ≡ length (without_thread (c.args.strand, c.args.thread) old.items) = ap length threads in
    let small : deque_len old ≤ deque_capacity old = old.small.1 in
    let room : deque_capacity new - deque_len new ≡ deque_capacity old - deque_len old + (length old.items - length (without_thread (c.args.strand, c.args.thread) old.items)) = omega (arith, old.ok.0, new.ok.0, c.remove-removed.ensures.capacity) in
    rw (← c.self.view_is) (λ i. record { threads = threads i; room = room i })

pub returns-in_default : goal.returns-in_default
returns-in_default c =
    let old = c.self.inside.threads in
    let e = nowhere (c.args.strand, c.args.thread) old.items c.in_default.ensures in
    let long : length (without_thread (c.args.strand, c.args.thread) old.items) ≡ length old.items = ap length e in
    let room : deque_capacity old - deque_len old ≡ deque_capacity old - deque_len old + (length old.items - length (without_thread (c.args.strand, c.args.thread) old.items)) = omega arith in
    rw (← c.self.view_is) (λ i. record { threads = sym e i; room = room i })
