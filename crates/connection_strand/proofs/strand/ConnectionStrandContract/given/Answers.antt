use Rattle.std.proofs.Common.{length, ap, ◌∙◌, arith}
use Rattle.strand_contract.specs.Calls.{action_of}
use Rattle.connection_plan.specs.Connections.{connection_behavior}
use Rattle.connection_strand.specs.declared.state.Progress.{Progress}
use Rattle.connection_strand.proofs.Ends.{ok-map, of-ok}
use Rattle.connection_strand.proofs.Bridge.{shown-left}
use Rattle.connection_strand.proofs.Turning.{turned, follows-by, may-show, shown-turn}
use Rattle.connection_strand.specs.Views.{view_of, service}
use Rattle.connection_strand.proofs.strand.ConnectionStrandContract.given.Goals as goal

pub see-done-requires : goal.see-done-requires
see-done-requires g c =
    let site = c.args.site.now in
    let v = view_of (g.R.RunContract.meaning site) (g.R.ServiceContract.serving site) in
    let met = g.met.R.RunContract in
    let progress : Progress g.row.R-Job.Denot = record { acts = c.new.result; is_offered = c.is_offered.result } in (
      turned (service v) (action_of (connection_behavior (service v)) c.requires.0 c.args.seen) c.requires.0,
      may-show v (met.meets site) c.args.now.0 c.args.seen c.requires.0 c.args.self.now c.takes-self.result progress c.requires.1 c.requires.2 c.requires.3
          c.takes-self.ensures c.is_offered.ensures c.new.ensures.items,
    )

pub returns-clause-turn : goal.returns-clause-turn
returns-clause-turn g c =
    let site = c.args.site.now in
    let v = view_of (g.R.RunContract.meaning site) (g.R.ServiceContract.serving site) in
    let met = g.met.R.RunContract in
    let progress : Progress g.row.R-Job.Denot = record { acts = c.new.result; is_offered = c.is_offered.result } in
    ok-map c.acts_of.result _ _ (λ acts e. λ es follows at execution.
    let action = action_of (connection_behavior (service v)) es c.args.seen in
    let f = follows-by v action es c.see-done.new.self c.see-done.new.progress
    (shown-turn v (met.meets site) c.args.seen es execution)
    (of-ok c.see-done.result tt _ e.1 c.see-done.ensures.moves (turned (service v) action es)
    (may-show v (met.meets site) c.args.now.0 c.args.seen es c.args.self.now c.takes-self.result progress follows at execution
    c.takes-self.ensures c.is_offered.ensures c.new.ensures.items)) in
    (f.0, e.0 ∙ f.1)) c.acts_of.ensures

pub returns-clause-left : goal.returns-clause-left
returns-clause-left g c own =
    let site = c.args.site.now in
    let v = view_of (g.R.RunContract.meaning site) (g.R.ServiceContract.serving site) in
    let met = g.met.R.RunContract in
    let none = ap length c.new.ensures.items in
    let on = shown-left v (met.meets site) g.R.RunContract.left g.R.ServiceContract.bound c.args.self.now c.requires.0 c.args.seen c.requires.1 c.requires.3 in
    ok-map c.acts_of.result _ _ (λ acts e.
    let is = ap length e.0 in
    let falls = of-ok c.see-done.result tt _ e.1 (c.see-done.ensures.falls own) in
    omega arith) c.acts_of.ensures
