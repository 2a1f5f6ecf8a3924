-- What is left after bytes were taken.
use Rattle.std.proofs.Common.{◌≡◌, ◌+◌, ◌-◌, ◌%◌, ◌<◌, ◌≤◌, take, drop, length, not, sym, ap, subst, ◌∙◌, arith}
use Rattle.std.specs.VecDeque.{deque_len}
use Rattle.std.proofs.lemmas.Bool.{eqb-true}
use Rattle.send_queue.specs.Records.{Sending}
use Rattle.send_queue.specs.Layout.{first}
use Rattle.send_queue.specs.Queues.{offered}
use Rattle.send_queue.proofs.Layouts.{bounds, kept, stays, pops, pops-last}
use Rattle.send_queue.proofs.queue.SendQueue.took.Goals as goal

pub invariant_of-self : goal.invariant_of-self
invariant_of-self c =
    let q = c.self.inside in
    let asked : c.args.count ≤ length (take (16_384 - q.phase) (drop q.taken (kept q.pieces.items q.begun.items))) =
    subst (λ (s : Sending). c.args.count ≤ length (offered s)) (sym c.self.view_is) c.requires in
    let b = bounds q.phase q.taken c.args.count q.pieces.items q.begun.items c.self.invariant.0 c.self.invariant.1 asked in
    let left : q.taken + c.args.count < length (first q.pieces.items q.begun.items) = omega (arith, c.if-count-left.true, ap length c.first.ensures) in
    (omega arith, stays q.phase q.taken c.args.count q.pieces.items q.begun.items c.self.invariant.0 c.self.invariant.1 b.0 left)

pub invariant_of-self-else-is_empty : goal.invariant_of-self-else-is_empty
invariant_of-self-else-is_empty c =
    let q = c.self.inside in
    let asked : c.args.count ≤ length (take (16_384 - q.phase) (drop q.taken (kept q.pieces.items q.begun.items))) =
    subst (λ (s : Sending). c.args.count ≤ length (offered s)) (sym c.self.view_is) c.requires in
    let b = bounds q.phase q.taken c.args.count q.pieces.items q.begun.items c.self.invariant.0 c.self.invariant.1 asked in
    let whole : q.taken + c.args.count ≡ length (first q.pieces.items q.begun.items) = omega (arith, b.1, c.if-count-left.false, ap length c.first.ensures) in (
      omega arith,
      (pops q.phase q.taken c.args.count q.pieces.items c.pop_front.new.self.items q.begun.items c.pop_front.result c.self.invariant.0 c.self.invariant.1 b.0 whole
          c.pop_front.ensures.items (c.is_none.ensures ∙ ap not c.if-is_none.false)).0,
    )

pub returns-then-is_empty : goal.returns-then-is_empty
returns-then-is_empty c =
    let q = c.self.inside in
    let asked : c.args.count ≤ length (take (16_384 - q.phase) (drop q.taken (kept q.pieces.items q.begun.items))) =
    subst (λ (s : Sending). c.args.count ≤ length (offered s)) (sym c.self.view_is) c.requires in
    let b = bounds q.phase q.taken c.args.count q.pieces.items q.begun.items c.self.invariant.0 c.self.invariant.1 asked in
    let whole : q.taken + c.args.count ≡ length (first q.pieces.items q.begun.items) = omega (arith, b.1, c.if-count-left.false, ap length c.first.ensures) in
    let empty : deque_len c.pop_front.new.self ≡ 0 = eqb-true (deque_len c.pop_front.new.self) 0 (sym c.is_empty.ensures ∙ c.if-is_empty.true) in
    let none : length c.pop_front.new.self.items ≡ 0 = omega (arith, empty, c.pop_front.new.self.ok.0) in
    let bytes = pops-last q.phase q.taken c.args.count q.pieces.items c.pop_front.new.self.items c.new-then-is_empty.result.items q.begun.items c.pop_front.result c.self.invariant.0 c.self.invariant.1 b.0 whole
    c.pop_front.ensures.items (c.is_none.ensures ∙ ap not c.if-is_none.false) none c.new-then-is_empty.ensures.items in
    rw (← c.self.view_is) (λ i. record { bytes = bytes i; phase = (q.phase + c.args.count) % 16_384; gone = q.is_gone })
