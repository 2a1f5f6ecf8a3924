use Rattle.std.proofs.Common.{length, drop, Some, Bool, ap, sym, ◌∙◌}
use Rattle.std.specs.Bool.{then_some}
use Rattle.http_in.specs.Scanning.{after_bytes}
use Rattle.http_in.proofs.Scans.{end_from, end_from-ended, joined-found, ended-moved, ended-found, over-moved, over-found}
use Rattle.http_in.proofs.scan.HeadScan.read.Goals as goal

pub returns-then-has_ended-clause-moved : goal.returns-then-has_ended-clause-moved
returns-then-has_ended-clause-moved c = ended-moved c.loop-index.self (drop c.loop-index.index c.args.piece.now) (after_bytes c.args.self.now c.args.piece.now) c.loop-index.invariant.moved (sym c.has_ended.ensures ∙ c.if-has_ended.true)

pub returns-then-has_ended-clause-found : goal.returns-then-has_ended-clause-found
returns-then-has_ended-clause-found c = λ taken e none.
    joined-found c.args.self.now taken c.args.piece.now (Some c.loop-index.index) e none
    (ended-found c.loop-index.index c.loop-index.self (drop c.loop-index.index c.args.piece.now) (end_from c.args.self.now c.args.piece.now) c.loop-index.invariant.found (sym c.has_ended.ensures ∙ c.if-has_ended.true))

pub returns-clause-moved : goal.returns-clause-moved
returns-clause-moved c = over-moved c.loop-index.index c.loop-index.self c.args.piece.now (after_bytes c.args.self.now c.args.piece.now) c.loop-index-test.false c.loop-index.invariant.moved

pub returns-clause-found : goal.returns-clause-found
returns-clause-found c = λ taken e none.
    joined-found c.args.self.now taken c.args.piece.now c.then_some.result e none
    (over-found c.loop-index.index c.loop-index.self c.args.piece.now (end_from c.args.self.now c.args.piece.now) c.then_some.result c.loop-index-test.false c.loop-index.auto.index-end c.loop-index.invariant.found
    (c.then_some.ensures ∙ ap (λ (b : Bool). then_some b (length c.args.piece.now)) c.has_ended-2.ensures))

pub returns-then-has_ended-clause-ended : goal.returns-then-has_ended-clause-ended
returns-then-has_ended-clause-ended c = λ ended.
    ended-found c.loop-index.index c.loop-index.self (drop c.loop-index.index c.args.piece.now) (end_from c.args.self.now c.args.piece.now) c.loop-index.invariant.found (sym c.has_ended.ensures ∙ c.if-has_ended.true)
    ∙ end_from-ended c.args.self.now c.args.piece.now ended

pub returns-clause-ended : goal.returns-clause-ended
returns-clause-ended c = λ ended.
    over-found c.loop-index.index c.loop-index.self c.args.piece.now (end_from c.args.self.now c.args.piece.now) c.then_some.result c.loop-index-test.false c.loop-index.auto.index-end c.loop-index.invariant.found
    (c.then_some.ensures ∙ ap (λ (b : Bool). then_some b (length c.args.piece.now)) c.has_ended-2.ensures)
    ∙ end_from-ended c.args.self.now c.args.piece.now ended
