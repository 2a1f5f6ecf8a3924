use Rattle.std.proofs.Common.{Bool, true, sym, subst}
use Rattle.run_contract.specs.declared.turns.RunAct.{RunAct}
use Rattle.connection_strand.specs.Views.{view_of}
use Rattle.connection_strand.specs.Costs.{unit}
use Rattle.connection_strand.specs.Turns.{Takes, TakesPart}
use Rattle.connection_strand.proofs.Costing.{unit-some}
use Rattle.connection_strand.proofs.Ends.{ok-map, ok-both, of-ok}
use Rattle.connection_strand.proofs.Parts.{takes-act, takes-word}
use Rattle.connection_strand.proofs.Paying.{act-costs, spends-more}
use Rattle.connection_strand.proofs.state.Connection.take_part.Goals as goal

pub returns-in-Act-clause-moves : goal.returns-in-Act-clause-moves
returns-in-Act-clause-moves g c =
    let site = c.args.site.now in
    let v = view_of (g.R.RunContract.meaning site) (g.R.ServiceContract.serving site) in
    ok-both c.take_act.result _ _ _ (λ on goes acts. subst (λ (x : RunAct g.row.R-Job.Denot). TakesPart v c.args.turn.now.moment.0 on x c.args.self.now c.args.progress.now c.take_act.new.self c.take_act.new.progress) (sym c.in-Act.is)
    (λ rest did m h. subst (λ on. Takes v c.args.turn.now.moment.0 on rest did c.take_act.new.self c.take_act.new.progress m) (sym goes)
    (takes-act v c.args.turn.now.moment.0 c.in-Act.act rest did c.args.self.now c.take_act.new.self c.args.progress.now c.take_act.new.progress m
    (record { sockets = c.take_act.ensures.sockets; keeping = c.take_act.ensures.keeping; kept = c.take_act.ensures.kept; offered = c.take_act.ensures.offered; acts = acts }) h))) c.take_act.ensures.goes_on c.take_act.ensures.acts

pub returns-in-Act-clause-costs : goal.returns-in-Act-clause-costs
returns-in-Act-clause-costs g c =
    ok-map c.take_act.result _ _ (λ on acts. spends-more g.R.RunContract.left g.R.ServiceContract.bound 1 unit c.args.self.now c.take_act.new.self c.args.progress.now c.take_act.new.progress unit-some
    (act-costs g.R.RunContract.left g.R.ServiceContract.bound c.in-Act.act c.args.self.now c.take_act.new.self c.args.progress.now c.take_act.new.progress
    (record { sockets = c.take_act.ensures.sockets; keeping = c.take_act.ensures.keeping; kept = c.take_act.ensures.kept; offered = c.take_act.ensures.offered; acts = acts }))) c.take_act.ensures.acts

pub returns-in-Say-clause-moves : goal.returns-in-Say-clause-moves
returns-in-Say-clause-moves g c =
    let site = c.args.site.now in
    let v = view_of (g.R.RunContract.meaning site) (g.R.ServiceContract.serving site) in
    ok-map c.going.result _ _ (λ on e.
    subst (λ (o : Bool). TakesPart v c.args.turn.now.moment.0 o c.args.part c.args.self.now c.args.progress.now c.hear_word-heard.new.self c.hear_word-heard.new.progress) (sym e.0)
    (subst (λ (x : RunAct g.row.R-Job.Denot). TakesPart v c.args.turn.now.moment.0 true x c.args.self.now c.args.progress.now c.hear_word-heard.new.self c.hear_word-heard.new.progress) (sym c.in-Say.is)
    (λ rest did m h. takes-word v c.args.turn.now.moment.0 c.in-Say.word rest did c.args.self.now c.hear_word-heard.new.self c.args.progress.now c.hear_word-heard.new.progress m
    (of-ok c.hear_word-heard.result tt _ e.1 c.hear_word-heard.ensures.moves) h))) c.going.ensures

pub returns-in-Say-clause-costs : goal.returns-in-Say-clause-costs
returns-in-Say-clause-costs g c = ok-map c.going.result _ _ (λ on e. of-ok c.hear_word-heard.result tt _ e.1 c.hear_word-heard.ensures.costs) c.going.ensures
