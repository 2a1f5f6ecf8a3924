use Rattle.std.proofs.Common.{Some, None, refl, sym, ◌∙◌}
use Rattle.connection_plan.specs.Clients as stage
use Rattle.connection_strand.specs.Views.{view_of}
use Rattle.connection_strand.specs.Kept.{kept}
use Rattle.connection_strand.specs.Costs.{unit}
use Rattle.connection_strand.proofs.Costing.{pays-settles, pays-after, settles-less}
use Rattle.connection_strand.proofs.Reading.{asked-costs}
use Rattle.connection_strand.proofs.Asking.{asks-body, asked-at, hears-waiting}
use Rattle.connection_strand.proofs.Ends.{ok-map, done-came}
use Rattle.connection_strand.proofs.state.Connection.ask_body.Goals as goal

pub tell_body-requires-clause-within : goal.tell_body-requires-clause-within
tell_body-requires-clause-within g c =
    let site = c.args.site.now in
    let v = view_of (g.R.RunContract.meaning site) (g.R.ServiceContract.serving site) in
    let met = g.met.R.RunContract in
    let old = c.args.self.now in
    let now = record old { client = c.body_seen.new.self } in
    asked-at v (met.meets site) (met.apart site) c.args.turn.now.moment.0 old now c.args.progress.now _ (record { run = refl; waits = refl; sockets = refl; count = refl; keeping = refl; taking = refl }) c.in_ok-seen.ensures.taken c.in_ok-seen.ensures.seen c.requires.within

pub tell_body-requires-clause-body : goal.tell_body-requires-clause-body
tell_body-requires-clause-body g c = hears-waiting (view_of (g.R.RunContract.meaning c.args.site.now) (g.R.ServiceContract.serving c.args.site.now)) c.args.self.now c.requires.body c.requires.unasked

pub tell_body-requires-clause-seen : goal.tell_body-requires-clause-seen
tell_body-requires-clause-seen g c = (kept c.args.self.now.client, sym c.in_ok-seen.ensures.seen ∙ c.in-Some.is)

pub returns-in-Some-clause-moves : goal.returns-in-Some-clause-moves
returns-in-Some-clause-moves g c =
    let site = c.args.site.now in
    let v = view_of (g.R.RunContract.meaning site) (g.R.ServiceContract.serving site) in
    let met = g.met.R.RunContract in
    let old = c.args.self.now in
    let now = record old { client = c.body_seen.new.self } in
    ok-map c.tell_body.result _ _ (λ on goes. λ did m h. goes did m
    (asks-body v (met.meets site) (met.apart site) c.args.turn.now.moment.0 m did old now c.args.progress.now (Some c.in-Some.seen) (record { run = refl; waits = refl; sockets = refl; count = refl; keeping = refl; taking = refl })
    c.in_ok-seen.ensures.taken (sym c.in-Some.is ∙ c.in_ok-seen.ensures.seen) h)) c.tell_body.ensures.moves

pub returns-in-None-clause-moves : goal.returns-in-None-clause-moves
returns-in-None-clause-moves g c = λ did m h.
    let site = c.args.site.now in
    let v = view_of (g.R.RunContract.meaning site) (g.R.ServiceContract.serving site) in
    let met = g.met.R.RunContract in
    let old = c.args.self.now in
    let now = record old { client = c.body_seen.new.self } in
    done-came v stage.Busy did now c.args.progress.now
    (asks-body v (met.meets site) (met.apart site) c.args.turn.now.moment.0 m did old now c.args.progress.now None (record { run = refl; waits = refl; sockets = refl; count = refl; keeping = refl; taking = refl })
    c.in_ok-seen.ensures.taken (sym c.in-None.is ∙ c.in_ok-seen.ensures.seen) h)

pub returns-in-Some-clause-costs : goal.returns-in-Some-clause-costs
returns-in-Some-clause-costs g c =
    let old = c.args.self.now in
    let now = record old { client = c.body_seen.new.self } in
    ok-map c.tell_body.result _ _ (λ on paid. pays-settles g.R.RunContract.left g.R.ServiceContract.bound on old c.tell_body.new.self c.args.progress.now c.tell_body.new.progress
    (pays-after g.R.RunContract.left g.R.ServiceContract.bound unit old now c.tell_body.new.self c.args.progress.now c.args.progress.now c.tell_body.new.progress
    (asked-costs g.R.RunContract.left g.R.ServiceContract.bound old now c.args.progress.now c.in_ok-seen.ensures.taken refl refl) paid)) c.tell_body.ensures.costs

pub returns-in-None-clause-costs : goal.returns-in-None-clause-costs
returns-in-None-clause-costs g c =
    let old = c.args.self.now in
    let now = record old { client = c.body_seen.new.self } in
    settles-less g.R.RunContract.left g.R.ServiceContract.bound old now c.args.progress.now c.args.progress.now (asked-costs g.R.RunContract.left g.R.ServiceContract.bound old now c.args.progress.now c.in_ok-seen.ensures.taken refl refl)
