use Rattle.std.proofs.Common.{◌∷◌, None, refl}
use Rattle.run_contract.specs.declared.turns.Said.TheVariants as said
use Rattle.run_contract.specs.declared.turns.RunAct.TheVariants as made
use Rattle.run_contract.specs.Deeds.{Say}
use Rattle.connection_plan.specs.Clients as stage
use Rattle.connection_plan.specs.Turns.{change}
use Rattle.connection_strand.specs.Views.{view_of}
use Rattle.connection_strand.specs.declared.client.Stage.TheVariants as code
use Rattle.connection_strand.specs.Standing.{taking}
use Rattle.connection_strand.proofs.Ends.{ok-map}
use Rattle.connection_strand.proofs.Speaking.{flushes}
use Rattle.connection_strand.proofs.state.Connection.end_run.Goals as goal

pub returns-clause-moves : goal.returns-clause-moves
returns-clause-moves g c =
    let site = c.args.site.now in
    let v = view_of (g.R.RunContract.meaning site) (g.R.ServiceContract.serving site) in
    let met = g.met.R.RunContract in
    let ended = c.end_timer-body.new.self in
    let new = record ended { client = record ended.client { stage = code.Flush }; run = None } in
    ok-map c.end_timer-body.result _ _ (λ done ends. λ st ds a rest did m h.
    flushes v (met.meets site) (met.apart site) st ds a rest did ended new c.end_timer-body.new.progress m refl refl refl refl refl
    (ends (taking st (Say said.Over ∷ ds) a (made.Say said.Over ∷ rest)) did (change (λ k. record k { stage = stage.Flush }) m) h)) c.end_timer-body.ensures.moves
