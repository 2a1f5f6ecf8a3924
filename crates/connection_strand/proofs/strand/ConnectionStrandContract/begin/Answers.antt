use Rattle.std.proofs.Common.{◌∷◌, [], refl, sym, ◌∙◌, subst}
use Rattle.strand_contract.specs.Actions.{Did, Began}
use Rattle.connection_strand.specs.Views.{view_of}
use Rattle.connection_strand.specs.declared.state.Connection.{Connection}
use Rattle.connection_strand.specs.Following.{IsNew, Follows}
use Rattle.connection_strand.proofs.Beginning.{begun, follows}
use Rattle.connection_strand.proofs.Ends.{ok-map, of-ok, went-came}
use Rattle.connection_strand.proofs.strand.ConnectionStrandContract.begin.Goals as goal

pub take_first_turn-went-requires-clause-connection : goal.take_first_turn-went-requires-clause-connection
take_first_turn-went-requires-clause-connection g c =
    let new = c.new-connection in
    subst (λ opened. IsNew (g.R.ServiceContract.serving c.args.site.now).default_times opened new.result) c.is_client.ensures
    (record { client = new.ensures.client; waits = new.ensures.waits; sockets = new.ensures.sockets; count = new.ensures.count; keeping = new.ensures.keeping; taking = new.ensures.taking })

pub take_first_turn-went-requires-clause-acts : goal.take_first_turn-went-requires-clause-acts
take_first_turn-went-requires-clause-acts g c = c.new.ensures.items

pub take_first_turn-went-requires-clause-offered : goal.take_first_turn-went-requires-clause-offered
take_first_turn-went-requires-clause-offered g c = refl

pub returns : goal.returns
returns g c =
    let site = c.args.site.now in
    let v = view_of (g.R.RunContract.meaning site) (g.R.ServiceContract.serving site) in
    let now = c.args.now.0 in
    let first = c.take_first_turn-went in
    ok-map c.paired.result _ _ (λ pair e.
    let acts = of-ok c.acts_of.result pair.1 _ e.1 c.acts_of.ensures in
    let went = of-ok c.ended.result tt _ acts.1 c.ended.ensures in
    let f = follows v now c.args.start first.new.self first.new.progress
    (went-came v went.0 (begun v now c.args.start) first.new.self first.new.progress (of-ok first.result went.0 _ went.1 first.ensures)) in
    (subst (λ (k : Connection g.row.R.Denot). Follows v k (Did (Began now c.args.start) ∷ [])) (sym e.0) f.0, acts.0 ∙ f.1)) c.paired.ensures
