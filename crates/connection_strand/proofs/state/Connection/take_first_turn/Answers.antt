use Rattle.std.proofs.Common.{Bool, Some, refl, sym, subst}
use Rattle.strand_contract.specs.declared.turns.Start.TheVariants as start
use Rattle.strand_plans.specs.Moves.{Done}
use Rattle.connection_plan.specs.Clients as stage
use Rattle.connection_strand.specs.Views.{view_of}
use Rattle.connection_strand.specs.declared.client.Stage.TheVariants as code
use Rattle.connection_strand.specs.Following.{IsNew, is_client}
use Rattle.connection_strand.specs.Standing.{plain, Went}
use Rattle.connection_strand.proofs.Ends.{ok-map, of-ok}
use Rattle.connection_strand.proofs.Beginning.{begun, begins-client, begins-job}
use Rattle.connection_strand.proofs.state.Connection.take_first_turn.Goals as goal

pub returns-in-Client : goal.returns-in-Client
returns-in-Client g c =
    let site = c.args.site.now in
    let v = view_of (g.R.RunContract.meaning site) (g.R.ServiceContract.serving site) in
    let met = g.met.R.RunContract in
    let now = c.args.turn.now.moment.0 in
    let to = begun v now (start.Client c.in-Client.field-0) in
    let new = subst (λ begin. IsNew v.serving.default_times (is_client begin) c.args.self.now) c.in-Client.is c.requires.connection in
    ok-map c.going.result _ _ (λ on e.
    subst (λ begin. Went v on (begun v now begin) c.begin_timer.new.self c.begin_timer.new.progress Done) (sym c.in-Client.is)
    (subst (λ (o : Bool). Went v o to c.begin_timer.new.self c.begin_timer.new.progress Done) (sym e.0) (
      stage.Head,
      of-ok c.begin_timer.result tt _ e.1 c.begin_timer.ensures.moves (plain stage.Head) to Done
          (begins-client v now c.in-Client.field-0 c.args.self.now c.args.progress.now new.client new.sockets new.count new.keeping new.taking c.requires.acts c.requires.offered),
    ))) c.going.ensures

pub returns-in-Job : goal.returns-in-Job
returns-in-Job g c =
    let site = c.args.site.now in
    let v = view_of (g.R.RunContract.meaning site) (g.R.ServiceContract.serving site) in
    let met = g.met.R.RunContract in
    let now = c.args.turn.now.moment.0 in
    let begin = start.Job c.in-Job.field-0 c.in-Job.premature c.in-Job.job in
    let old = c.args.self.now in
    let new = subst (λ begin. IsNew v.serving.default_times (is_client begin) c.args.self.now) c.in-Job.is c.requires.connection in
    ok-map c.take_run.result _ _ (λ on x.
    subst (λ begin. Went v on (begun v now begin) c.take_run.new.self c.take_run.new.progress Done) (sym c.in-Job.is)
    (x.3 (begun v now begin) Done
    (begins-job v now (met.meets site) c.in-Job.field-0 c.in-Job.premature c.in-Job.job x.0 x.1 old (record old { client = record old.client { stage = code.Busy }; run = Some x.0 }) c.args.progress.now (of-ok c.begin_job-begun.result (x.0, x.1) _ x.2 c.begin_job-begun.ensures)
    new.client new.waits new.sockets new.count new.keeping refl refl refl refl refl refl c.requires.acts))) c.take_run.ensures
