use Rattle.std.proofs.Common.{length, ap, ◌∙◌, arith}
use Rattle.connection_strand.specs.Views.{view_of, service}
use Rattle.connection_strand.specs.declared.state.Progress.{Progress}
use Rattle.connection_strand.proofs.Ends.{ok-map, of-ok}
use Rattle.connection_strand.proofs.Answering.{may-answer, answer-turn, answered-left}
use Rattle.connection_strand.proofs.Turning.{turned, follows-by}
use Rattle.connection_strand.proofs.strand.ConnectionStrandContract.answer.Goals as goal

pub take_answer-done-requires : goal.take_answer-done-requires
take_answer-done-requires g c =
    let site = c.args.site.now in
    let v = view_of (g.R.RunContract.meaning site) (g.R.ServiceContract.serving site) in
    let met = g.met.R.RunContract in
    let u : Progress g.row.R-Job.Denot = record { acts = c.new.result; is_offered = c.is_still_offered.result } in (
      turned (service v) c.requires.1 c.requires.0,
      may-answer v (met.meets site) c.args.now.0 c.args.answer c.requires.1 c.requires.0 c.args.self.now u c.requires.2 c.requires.3 c.requires.4 c.requires.5
          c.is_still_offered.ensures c.new.ensures.items,
    )

pub returns-clause-turn : goal.returns-clause-turn
returns-clause-turn g c =
    let site = c.args.site.now in
    let v = view_of (g.R.RunContract.meaning site) (g.R.ServiceContract.serving site) in
    let met = g.met.R.RunContract in
    let u : Progress g.row.R-Job.Denot = record { acts = c.new.result; is_offered = c.is_still_offered.result } in
    ok-map c.acts_of.result _ _ (λ acts y. λ es x follows at e execution.
    let f = follows-by v x es c.take_answer-done.new.self c.take_answer-done.new.progress (answer-turn v (met.meets site) c.args.answer x es e)
    (of-ok c.take_answer-done.result tt _ y.1 c.take_answer-done.ensures.moves (turned (service v) x es)
    (may-answer v (met.meets site) c.args.now.0 c.args.answer x es c.args.self.now u follows at e execution c.is_still_offered.ensures c.new.ensures.items)) in
    (f.0, y.0 ∙ f.1)) c.acts_of.ensures

pub returns-clause-left : goal.returns-clause-left
returns-clause-left g c =
    let site = c.args.site.now in
    let v = view_of (g.R.RunContract.meaning site) (g.R.ServiceContract.serving site) in
    let met = g.met.R.RunContract in
    let none = ap length c.new.ensures.items in
    let on = answered-left v (met.meets site) g.R.RunContract.left g.R.ServiceContract.bound c.args.answer c.requires.1 c.args.self.now
    c.requires.0 c.requires.2 c.requires.4 c.requires.5 in
    ok-map c.acts_of.result _ _ (λ acts y.
    let is = ap length y.0 in
    let falls = of-ok c.take_answer-done.result tt _ y.1 c.take_answer-done.ensures.falls in
    omega arith) c.acts_of.ensures
