use Rattle.std.proofs.Common.{Bool, false, sym, subst}
use Rattle.client_line.specs.declared.requests.LineOut.{LineOut}
use Rattle.client_line.specs.declared.requests.LineOut.TheVariants as out
use Rattle.connection_strand.specs.Views.{view_of}
use Rattle.connection_strand.specs.Costs as costs
use Rattle.connection_strand.specs.Standing.{plain, Went}
use Rattle.connection_strand.proofs.Ends.{ok-map, of-ok}
use Rattle.connection_strand.proofs.Hearing.{heard-as, hears-request, hears-refusal, refused-so}
use Rattle.connection_strand.proofs.state.Connection.heard.Goals as goal

pub returns-in-Request-clause-moves : goal.returns-in-Request-clause-moves
returns-in-Request-clause-moves g c =
    let site = c.args.site.now in
    let v = view_of (g.R.RunContract.meaning site) (g.R.ServiceContract.serving site) in
    ok-map c.begin_request.result _ _ (λ on begins. λ answered st free did m h. begins st free did m
    (hears-request v c.args.turn.now.moment.0 c.args.anew m c.args.out c.in-Request.head c.in-Request.target (plain st) did c.args.self.now c.args.progress.now c.in-Request.is h)) c.begin_request.ensures.moves

pub returns-in-Request-clause-costs : goal.returns-in-Request-clause-costs
returns-in-Request-clause-costs g c last =
    ok-map c.begin_request.result _ _ (λ on spends.
    subst (λ (x : LineOut). costs.Heard g.R.RunContract.left g.R.ServiceContract.bound x on c.args.self.now c.args.progress.now c.begin_request.new.self c.begin_request.new.progress) (sym c.in-Request.is) spends) c.begin_request.ensures.costs

pub returns-in-Refused-clause-moves : goal.returns-in-Refused-clause-moves
returns-in-Refused-clause-moves g c =
    let site = c.args.site.now in
    let v = view_of (g.R.RunContract.meaning site) (g.R.ServiceContract.serving site) in
    ok-map c.going.result _ _ (λ on e. λ answered st free did m h. subst (λ (o : Bool). Went v o did c.refuse.new.self c.refuse.new.progress m) (sym e.0)
    (of-ok c.refuse.result tt _ e.1 c.refuse.ensures.moves (refused-so c.args.out c.in-Refused.code c.args.self.now.client.line.came.at c.in-Refused.is answered) st free did m
    (hears-refusal v c.args.turn.now.moment.0 c.args.anew m c.args.out c.in-Refused.code (plain st) did c.args.self.now c.args.progress.now c.in-Refused.is h))) c.going.ensures

pub returns-in-Refused-clause-costs : goal.returns-in-Refused-clause-costs
returns-in-Refused-clause-costs g c last =
    ok-map c.going.result _ _ (λ on e. subst (λ (o : Bool). costs.Heard g.R.RunContract.left g.R.ServiceContract.bound c.args.out o c.args.self.now c.args.progress.now c.refuse.new.self c.refuse.new.progress) (sym e.0)
    (subst (λ (x : LineOut). costs.Heard g.R.RunContract.left g.R.ServiceContract.bound x false c.args.self.now c.args.progress.now c.refuse.new.self c.refuse.new.progress) (sym c.in-Refused.is)
    (of-ok c.refuse.result tt _ e.1 (c.refuse.ensures.costs last)))) c.going.ensures

pub returns-in-Waiting-clause-moves : goal.returns-in-Waiting-clause-moves
returns-in-Waiting-clause-moves g c =
    let site = c.args.site.now in
    let v = view_of (g.R.RunContract.meaning site) (g.R.ServiceContract.serving site) in
    ok-map c.hear_no_more.result _ _ (λ on hears. λ answered st free did m h. hears st free did m
    (heard-as v c.args.turn.now.moment.0 c.args.anew m c.args.out out.Waiting (plain st) did c.args.self.now c.args.progress.now c.in-Waiting.is h)) c.hear_no_more.ensures.moves

pub returns-in-Waiting-clause-costs : goal.returns-in-Waiting-clause-costs
returns-in-Waiting-clause-costs g c last =
    ok-map c.hear_no_more.result _ _ (λ on paid.
    subst (λ (x : LineOut). costs.Heard g.R.RunContract.left g.R.ServiceContract.bound x on c.args.self.now c.args.progress.now c.hear_no_more.new.self c.hear_no_more.new.progress) (sym c.in-Waiting.is) paid) c.hear_no_more.ensures.costs
