use Rattle.std.proofs.Common.{refl, ap, sym, ◌∙◌, true, false}
use Rattle.strand_contract.proofs.Results.{if-ok}
use Rattle.connection_plan.specs.Clients as stage
use Rattle.connection_plan.specs.Turns.{close_if_taken}
use Rattle.connection_strand.specs.Kept.{kept}
use Rattle.connection_strand.specs.Standing.{plain}
use Rattle.connection_strand.proofs.Ends.{of-ok, done-came}
use Rattle.connection_strand.proofs.Hearing.{refuses-now, closes}
use Rattle.connection_strand.specs.Views.{view_of, service}
use Rattle.connection_plan.specs.Serving.{times}
use Rattle.connection_strand.specs.declared.client.Stage.TheVariants as code
use Rattle.connection_strand.specs.declared.client.Reply.TheVariants as replies
use Rattle.connection_strand.proofs.Costing.{costs-after, ends-within}
use Rattle.connection_strand.proofs.Paying.{refuses-costs}
use Rattle.connection_strand.proofs.state.Connection.refuse_head.Goals as goal

pub returns-then-is_all_taken-clause-moves : goal.returns-then-is_all_taken-clause-moves
returns-then-is_all_taken-clause-moves g c =
    let site = c.args.site.now in
    let v = view_of (g.R.RunContract.meaning site) (g.R.ServiceContract.serving site) in
    let met = g.met.R.RunContract in
    if-ok c.both.result _ _ c.both.ensures (λ over x st free did m h.
    of-ok c.finish.result over _ x.1 c.finish.ensures.moves stage.Flush did (closes v c.args.turn.now.moment.0 (plain stage.Flush) did c.send_refusal-sent.new.self c.send_refusal-sent.new.progress true (sym c.is_all_taken.ensures ∙ c.if-is_all_taken.true)
    (of-ok c.send_refusal-sent.result tt _ x.0 c.send_refusal-sent.ensures.moves (plain stage.Flush) did (close_if_taken (service v) c.args.turn.now.moment.0)
    (refuses-now v c.args.turn.now.moment.0 c.args.code st did c.args.self.now _ c.args.progress.now (v.serving.refusal c.args.code c.args.turn.now.moment.0) free (record { run = refl; waits = refl; sockets = refl; count = refl; keeping = refl; taking = refl })
    (ap (λ t. record (kept c.args.self.now.client) { stage = stage.Flush; times = t; reply = stage.Whole true }) c.default_times-self.ensures) refl h))))

pub returns-else-is_all_taken-clause-moves : goal.returns-else-is_all_taken-clause-moves
returns-else-is_all_taken-clause-moves g c =
    let site = c.args.site.now in
    let v = view_of (g.R.RunContract.meaning site) (g.R.ServiceContract.serving site) in
    let met = g.met.R.RunContract in
    if-ok c.send_refusal-sent.result _ _ c.send_refusal-sent.ensures.moves (λ done sends st free did m h.
    done-came v stage.Flush did c.send_refusal-sent.new.self c.send_refusal-sent.new.progress
    (closes v c.args.turn.now.moment.0 (plain stage.Flush) did c.send_refusal-sent.new.self c.send_refusal-sent.new.progress false (sym c.is_all_taken.ensures ∙ c.if-is_all_taken.false)
    (sends (plain stage.Flush) did (close_if_taken (service v) c.args.turn.now.moment.0)
    (refuses-now v c.args.turn.now.moment.0 c.args.code st did c.args.self.now _ c.args.progress.now (v.serving.refusal c.args.code c.args.turn.now.moment.0) free (record { run = refl; waits = refl; sockets = refl; count = refl; keeping = refl; taking = refl })
    (ap (λ t. record (kept c.args.self.now.client) { stage = stage.Flush; times = t; reply = stage.Whole true }) c.default_times-self.ensures) refl h))))

pub returns-then-is_all_taken-clause-costs : goal.returns-then-is_all_taken-clause-costs
returns-then-is_all_taken-clause-costs g c last =
    let now = record c.args.self.now { client = record c.args.self.now.client { stage = code.Flush; times = c.default_times-self.result; reply = replies.Whole true } } in
    if-ok c.both.result _ _ c.both.ensures (λ done x.
    costs-after g.R.RunContract.left g.R.ServiceContract.bound 0 0 c.args.self.now c.send_refusal-sent.new.self c.finish.new.self c.args.progress.now c.send_refusal-sent.new.progress c.finish.new.progress
    (refuses-costs g.R.RunContract.left g.R.ServiceContract.bound (times c.default_times-self.result) c.args.self.now now c.send_refusal-sent.new.self c.args.progress.now c.send_refusal-sent.new.progress refl refl refl last (of-ok c.send_refusal-sent.result tt _ x.0 c.send_refusal-sent.ensures.costs))
    (of-ok c.finish.result done _ x.1 c.finish.ensures.costs))

pub returns-else-is_all_taken-clause-costs : goal.returns-else-is_all_taken-clause-costs
returns-else-is_all_taken-clause-costs g c last =
    let now = record c.args.self.now { client = record c.args.self.now.client { stage = code.Flush; times = c.default_times-self.result; reply = replies.Whole true } } in
    if-ok c.send_refusal-sent.result _ _ c.send_refusal-sent.ensures.costs (λ done costs.
    ends-within g.R.RunContract.left g.R.ServiceContract.bound 0 c.args.self.now c.send_refusal-sent.new.self c.args.progress.now c.send_refusal-sent.new.progress
    (refuses-costs g.R.RunContract.left g.R.ServiceContract.bound (times c.default_times-self.result) c.args.self.now now c.send_refusal-sent.new.self c.args.progress.now c.send_refusal-sent.new.progress refl refl refl last costs))
