use Rattle.std.proofs.Common.{sym, ◌∙◌, refl, arith}
use Rattle.machine_tests.specs.declared.rows.toy.ToyThread.{ToyThread}
use Rattle.machine_tests.proofs.ToyLemmas.{spends, at_limit, has_risen, ends, parks}
use Rattle.machine_tests.proofs.rows.toy.ToyMachine.resume.Goals as goal

pub returns-then-not-count-clause-goes_on : goal.returns-then-not-count-clause-goes_on
returns-then-not-count-clause-goes_on c = λ rs. spends c.args.thread.left (record { store = c.args.store.now; answer = c.args.given }) rs (sym c.count.ensures.below ∙ c.if-not-count.true)

pub returns-then-not-count-clause-counts : goal.returns-then-not-count-clause-counts
returns-then-not-count-clause-counts c = at_limit c.args.store.now c.count.new.self c.count.ensures.counted (sym c.count.ensures.below ∙ c.if-not-count.true)

pub returns-then-left-eq0-clause-goes_on : goal.returns-then-left-eq0-clause-goes_on
returns-then-left-eq0-clause-goes_on c =
    λ rs. ends c.args.thread.left (record { store = c.args.store.now; answer = c.args.given }) rs c.no_values.result c.count.new.self c.if-left-eq0.true c.no_values.ensures (sym c.count.ensures.below ∙ c.if-not-count.false) c.count.ensures.counted

pub returns-clause-goes_on : goal.returns-clause-goes_on
returns-clause-goes_on c =
    parks (λ (t : ToyThread). t.left) c.args.thread.left c.args.thread _ _ (record { store = c.args.store.now; answer = c.args.given }) c.count.new.self refl (omega (arith, c.if-left-eq0.false)) refl refl c.no_values-2.ensures refl (sym c.count.ensures.below ∙ c.if-not-count.false) c.count.ensures.counted

pub returns-clause-counts : goal.returns-clause-counts
returns-clause-counts c = has_risen c.args.store.now c.count.new.self c.count.ensures.counted (sym c.count.ensures.below ∙ c.if-not-count.false)
