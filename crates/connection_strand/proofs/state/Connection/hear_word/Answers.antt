use Rattle.std.proofs.Common.{◌+◌, ◌*◌, ◌∷◌, false, length, refl, sym, ap, subst, arith}
use Rattle.run_contract.specs.declared.turns.Said.TheVariants as said
use Rattle.run_contract.specs.declared.turns.RunAct.TheVariants as made
use Rattle.run_contract.specs.Deeds.{Say}
use Rattle.connection_plan.specs.Clients.{begun, with_times, Whole}
use Rattle.connection_plan.specs.Timers as timer
use Rattle.connection_plan.specs.Turns.{send, end_timer}
use Rattle.connection_strand.specs.Views.{view_of, service}
use Rattle.connection_strand.specs.declared.client.Reply.TheVariants as replies
use Rattle.connection_strand.specs.Costs.{unit, units, client_left}
use Rattle.connection_strand.specs.Kept.{kept}
use Rattle.connection_strand.specs.Kept as keeps
use Rattle.connection_strand.specs.Standing.{taking}
use Rattle.connection_strand.specs.Turns.{HearsWord}
use Rattle.connection_strand.proofs.Costing.{spends-nothing}
use Rattle.connection_strand.proofs.Ends.{ok-map}
use Rattle.connection_strand.proofs.Paying.{unit-holds, unit-some, spends-more, spends-same, begins-reply}
use Rattle.connection_strand.proofs.Speaking.{changes, said-so}
use Rattle.connection_strand.proofs.state.Connection.hear_word.Goals as goal

pub returns-in-Send-clause-moves : goal.returns-in-Send-clause-moves
returns-in-Send-clause-moves g c =
    let site = c.args.site.now in
    let v = view_of (g.R.RunContract.meaning site) (g.R.ServiceContract.serving site) in
    let met = g.met.R.RunContract in
    let old = c.args.self.now in
    let bytes = c.in-Send.bytes in
    let new = record old { client = record old.client { reply = c.begun-self.result } } in
    ok-map c.send.result _ _ (λ done goes. subst (λ w. HearsWord v c.args.turn.now.moment.0 w old c.args.progress.now c.send.new.self c.send.new.progress) (sym c.in-Send.is) (λ st ds a rest did m h.
    goes (taking st ds a rest) did m
    (said-so v (met.meets site) (met.apart site) (said.Send bytes) st ds a rest did new new c.args.progress.now (send (service v) 0 bytes m) tt refl refl
    (changes v (met.meets site) (met.apart site) (λ k. record k { reply = begun k.reply }) (λ k. record k { reply = begun k.reply }) (taking st (Say (said.Send bytes) ∷ ds) a (made.Say (said.Send bytes) ∷ rest))
    did old new c.args.progress.now (send (service v) 0 bytes m) (λ b x. refl) (λ x. refl) (record { run = refl; waits = refl; sockets = refl; count = refl; keeping = refl; taking = refl }) (ap (λ y. record (kept old.client) { reply = y }) c.begun-self.ensures) h)))) c.send.ensures.moves

pub returns-in-WantsNoBody-clause-moves : goal.returns-in-WantsNoBody-clause-moves
returns-in-WantsNoBody-clause-moves g c =
    let site = c.args.site.now in
    let v = view_of (g.R.RunContract.meaning site) (g.R.ServiceContract.serving site) in
    let met = g.met.R.RunContract in
    let old = c.args.self.now in
    let new = record old { waits = record old.waits { body = false } } in
    ok-map c.end_timer.result _ _ (λ done goes. subst (λ w. HearsWord v c.args.turn.now.moment.0 w old c.args.progress.now c.end_timer.new.self c.end_timer.new.progress) (sym c.in-WantsNoBody.is) (λ st ds a rest did m h.
    goes (taking st ds a rest) did m
    (said-so v (met.meets site) (met.apart site) said.WantsNoBody st ds a rest did old new c.args.progress.now (end_timer (service v) 0 timer.Body m) tt refl refl h))) c.end_timer.ensures.moves

pub returns-in-Times-clause-moves : goal.returns-in-Times-clause-moves
returns-in-Times-clause-moves g c =
    let site = c.args.site.now in
    let v = view_of (g.R.RunContract.meaning site) (g.R.ServiceContract.serving site) in
    let met = g.met.R.RunContract in
    let old = c.args.self.now in
    let times = c.in-Times.times in
    let new = record old { client = c.set_times.new.self } in
    subst (λ w. HearsWord v c.args.turn.now.moment.0 w old c.args.progress.now new c.args.progress.now) (sym c.in-Times.is) (λ st ds a rest did m h.
    said-so v (met.meets site) (met.apart site) (said.Times times) st ds a rest did new new c.args.progress.now m tt refl refl
    (changes v (met.meets site) (met.apart site) (with_times times) (keeps.with_times times) (taking st (Say (said.Times times) ∷ ds) a (made.Say (said.Times times) ∷ rest))
    did old new c.args.progress.now m (λ b x. refl) (λ x. refl) (record { run = refl; waits = refl; sockets = refl; count = refl; keeping = refl; taking = refl }) c.set_times.ensures h))

pub returns-in-Ended-clause-moves : goal.returns-in-Ended-clause-moves
returns-in-Ended-clause-moves g c =
    let site = c.args.site.now in
    let v = view_of (g.R.RunContract.meaning site) (g.R.ServiceContract.serving site) in
    let met = g.met.R.RunContract in
    let old = c.args.self.now in
    let closes = c.in-Ended.closes in
    let new = record old { client = record old.client { reply = replies.Whole closes } } in
    subst (λ w. HearsWord v c.args.turn.now.moment.0 w old c.args.progress.now new c.args.progress.now) (sym c.in-Ended.is) (λ st ds a rest did m h.
    said-so v (met.meets site) (met.apart site) (said.Ended closes) st ds a rest did new new c.args.progress.now m tt refl refl
    (changes v (met.meets site) (met.apart site) (λ k. record k { reply = Whole closes }) (λ k. record k { reply = Whole closes }) (taking st (Say (said.Ended closes) ∷ ds) a (made.Say (said.Ended closes) ∷ rest))
    did old new c.args.progress.now m (λ b x. refl) (λ x. refl) (record { run = refl; waits = refl; sockets = refl; count = refl; keeping = refl; taking = refl }) refl h))

pub returns-in-Over-clause-moves : goal.returns-in-Over-clause-moves
returns-in-Over-clause-moves g c =
    let site = c.args.site.now in
    let v = view_of (g.R.RunContract.meaning site) (g.R.ServiceContract.serving site) in
    ok-map c.end_run.result _ _ (λ done hears. subst (λ w. HearsWord v c.args.turn.now.moment.0 w c.args.self.now c.args.progress.now c.end_run.new.self c.end_run.new.progress) (sym c.in-Over.is) hears) c.end_run.ensures.moves

pub returns-in-Send-clause-costs : goal.returns-in-Send-clause-costs
returns-in-Send-clause-costs g c =
    let size = length c.in-Send.bytes in
    let now = record c.args.self.now { client = record c.args.self.now.client { reply = c.begun-self.result } } in
    ok-map c.send.result _ _ (λ done spends.
    spends-more g.R.RunContract.left g.R.ServiceContract.bound (16 * size + 1) unit c.args.self.now c.send.new.self c.args.progress.now c.send.new.progress
    (unit-holds size (let e = c.len.ensures.value in let l = c.len.ensures.bound in omega arith))
    (begins-reply g.R.RunContract.left g.R.ServiceContract.bound (16 * size + 1) c.args.self.now now c.send.new.self c.args.progress.now c.send.new.progress (ap (λ y. record (kept c.args.self.now.client) { reply = y }) c.begun-self.ensures) refl refl
    spends)) c.send.ensures.costs

pub returns-in-WantsNoBody-clause-costs : goal.returns-in-WantsNoBody-clause-costs
returns-in-WantsNoBody-clause-costs g c =
    let old = c.args.self.now in
    ok-map c.end_timer.result _ _ (λ done spends.
    spends-more g.R.RunContract.left g.R.ServiceContract.bound 0 unit old c.end_timer.new.self c.args.progress.now c.end_timer.new.progress (unit-some 0 (omega arith)) spends) c.end_timer.ensures.costs

pub returns-in-Times-clause-costs : goal.returns-in-Times-clause-costs
returns-in-Times-clause-costs g c =
    let old = c.args.self.now in
    let new = record old { client = c.set_times.new.self } in
    let left = g.R.RunContract.left in
    let bound = g.R.ServiceContract.bound in
    spends-more left bound 0 unit old new c.args.progress.now c.args.progress.now (unit-some 0 (omega arith))
    (spends-same left bound 0 old new new c.args.progress.now c.args.progress.now refl refl (ap (λ k. units left bound k old.run) c.set_times.ensures) (ap client_left c.set_times.ensures) (spends-nothing left bound new c.args.progress.now))
