use Rattle.std.proofs.Common.{Some, None, ap, ◌∙◌}
use Rattle.run_contract.specs.declared.turns.Asking.{Asking}
use Rattle.run_contract.specs.declared.turns.Asking.TheVariants as asking
use Rattle.run_contract.specs.Calls.{is_own_turn}
use Rattle.connection_plan.specs.Clients as stage
use Rattle.connection_plan.specs.Turns.{settle}
use Rattle.connection_strand.specs.Views.{view_of, service}
use Rattle.connection_strand.specs.Kept.{kept}
use Rattle.connection_strand.proofs.Asking.{may-be-taken, taken-own}
use Rattle.connection_strand.proofs.Ends.{ok-map, done-came}
use Rattle.connection_strand.proofs.Costing.{settles-nothing, pays-settles}
use Rattle.connection_strand.proofs.Losing.{may-tell, tells, has-run}
use Rattle.connection_strand.proofs.Facing.{busy-at, stage-is}
use Rattle.connection_strand.proofs.Settled.{busy-as, asked-taken, settles-busy, settles-flush, settles-not, flush-at, not-at, rest-of, is-busy}
use Rattle.connection_strand.proofs.state.Connection.settle_once.Goals as goal

pub answer_body-requires-clause-within : goal.answer_body-requires-clause-within
answer_body-requires-clause-within g c =
    let site = c.args.site.now in
    let v = view_of (g.R.RunContract.meaning site) (g.R.ServiceContract.serving site) in
    let met = g.met.R.RunContract in
    let now = c.args.turn.now.moment.0 in
    let self = c.args.self.now in
    let progress = c.args.progress.now in
    is-busy v (met.meets site) (met.apart site) self progress c.requires.0 c.requires.1 c.in-Busy.is

pub answer_body-requires-clause-asks : goal.answer_body-requires-clause-asks
answer_body-requires-clause-asks g c = c.in-Some.is ∙ ap (λ (q : Asking). Some q) c.in-Body.is

pub returns-in-Body-clause-moves : goal.returns-in-Body-clause-moves
returns-in-Body-clause-moves g c =
    let site = c.args.site.now in
    let v = view_of (g.R.RunContract.meaning site) (g.R.ServiceContract.serving site) in
    let met = g.met.R.RunContract in
    let now = c.args.turn.now.moment.0 in
    let self = c.args.self.now in
    let progress = c.args.progress.now in
    ok-map c.answer_body.result _ _ (λ on goes. λ st did h. goes did (settle (service v) now)
    (busy-as v (met.meets site) (met.apart site) now (settle (service v) now) did self progress (Some (asking.Body c.in-Body.max)) (c.in-Some.is ∙ ap (λ (q : Asking). Some q) c.in-Body.is)
    (settles-busy v (met.meets site) (met.apart site) now did self progress (busy-at v (met.meets site) (met.apart site) st did self progress (settle (service v) now) c.in-Busy.is h)))) c.answer_body.ensures.moves

pub tell-requires : goal.tell-requires
tell-requires g c =
    let site = c.args.site.now in
    let v = view_of (g.R.RunContract.meaning site) (g.R.ServiceContract.serving site) in
    let met = g.met.R.RunContract in
    let now = c.args.turn.now.moment.0 in
    let self = c.args.self.now in
    let progress = c.args.progress.now in
    may-tell v now c.taken_seen-seen.result self progress (may-be-taken v now self c.taken_seen-seen.result c.taken_seen-seen.ensures (c.in-Some.is ∙ ap (λ (q : Asking). Some q) c.in-AllTaken.is))
    (is-busy v (met.meets site) (met.apart site) self progress c.requires.0 c.requires.1 c.in-Busy.is)

pub returns-in-AllTaken-clause-moves : goal.returns-in-AllTaken-clause-moves
returns-in-AllTaken-clause-moves g c =
    let site = c.args.site.now in
    let v = view_of (g.R.RunContract.meaning site) (g.R.ServiceContract.serving site) in
    let met = g.met.R.RunContract in
    let now = c.args.turn.now.moment.0 in
    let self = c.args.self.now in
    let progress = c.args.progress.now in
    let seen = c.taken_seen-seen.result in
    ok-map c.tell.result _ _ (λ on goes. λ st did h. goes did (settle (service v) now)
    (tells v now seen did self progress (settle (service v) now) (may-be-taken v now self seen c.taken_seen-seen.ensures (c.in-Some.is ∙ ap (λ (q : Asking). Some q) c.in-AllTaken.is))
    (asked-taken v (met.meets site) (met.apart site) now (settle (service v) now) did self progress seen c.taken_seen-seen.ensures
    (busy-as v (met.meets site) (met.apart site) now (settle (service v) now) did self progress (Some asking.AllTaken) (c.in-Some.is ∙ ap (λ (q : Asking). Some q) c.in-AllTaken.is)
    (settles-busy v (met.meets site) (met.apart site) now did self progress (busy-at v (met.meets site) (met.apart site) st did self progress (settle (service v) now) c.in-Busy.is h)))))) c.tell.ensures.moves

pub returns-in-AllTaken-clause-costs : goal.returns-in-AllTaken-clause-costs
returns-in-AllTaken-clause-costs g c =
    let site = c.args.site.now in
    let v = view_of (g.R.RunContract.meaning site) (g.R.ServiceContract.serving site) in
    let met = g.met.R.RunContract in
    let now = c.args.turn.now.moment.0 in
    let self = c.args.self.now in
    let progress = c.args.progress.now in
    ok-map c.tell.result _ _ (λ on paid. pays-settles g.R.RunContract.left g.R.ServiceContract.bound on self c.tell.new.self progress c.tell.new.progress paid)
    (c.tell.ensures.costs (ap is_own_turn c.taken_seen-seen.ensures ∙ taken-own v (kept self.client)) (has-run v self progress (is-busy v (met.meets site) (met.apart site) self progress c.requires.0 c.requires.1 c.in-Busy.is)))

pub waiting-requires-clause-within : goal.waiting-requires-clause-within
waiting-requires-clause-within g c =
    let site = c.args.site.now in
    let v = view_of (g.R.RunContract.meaning site) (g.R.ServiceContract.serving site) in
    let met = g.met.R.RunContract in
    let now = c.args.turn.now.moment.0 in
    let self = c.args.self.now in
    let progress = c.args.progress.now in
    is-busy v (met.meets site) (met.apart site) self progress c.requires.0 c.requires.1 c.in-Busy.is

pub waiting-requires-clause-unasked : goal.waiting-requires-clause-unasked
waiting-requires-clause-unasked g c = c.in-None.is

pub returns-in-None-clause-moves : goal.returns-in-None-clause-moves
returns-in-None-clause-moves g c =
    let site = c.args.site.now in
    let v = view_of (g.R.RunContract.meaning site) (g.R.ServiceContract.serving site) in
    let met = g.met.R.RunContract in
    let now = c.args.turn.now.moment.0 in
    let self = c.args.self.now in
    let progress = c.args.progress.now in
    ok-map c.waiting.result _ _ (λ on goes. λ st did h. goes did (settle (service v) now)
    (busy-as v (met.meets site) (met.apart site) now (settle (service v) now) did self progress None c.in-None.is
    (settles-busy v (met.meets site) (met.apart site) now did self progress (busy-at v (met.meets site) (met.apart site) st did self progress (settle (service v) now) c.in-Busy.is h)))) c.waiting.ensures.moves

pub returns-in-Flush-clause-moves : goal.returns-in-Flush-clause-moves
returns-in-Flush-clause-moves g c =
    let site = c.args.site.now in
    let v = view_of (g.R.RunContract.meaning site) (g.R.ServiceContract.serving site) in
    let met = g.met.R.RunContract in
    ok-map c.flush.result _ _ (λ on goes. λ st did h. goes stage.Flush tt did (settle (service v) c.args.turn.now.moment.0)
    (settles-flush v (met.meets site) (met.apart site) c.args.turn.now.moment.0 did c.args.self.now c.args.progress.now
    (flush-at v (met.meets site) (met.apart site) st did c.args.self.now c.args.progress.now (settle (service v) c.args.turn.now.moment.0) c.in-Flush.is h))) c.flush.ensures.moves

pub returns-in-Idle-clause-moves : goal.returns-in-Idle-clause-moves
returns-in-Idle-clause-moves g c = λ st did h.
    let site = c.args.site.now in
    let v = view_of (g.R.RunContract.meaning site) (g.R.ServiceContract.serving site) in
    let met = g.met.R.RunContract in
    let rest = rest-of v (met.meets site) (met.apart site) c.args.self.now.client.stage c.in-Idle.is in
    let not = not-at v (met.meets site) (met.apart site) c.args.self.now.client.stage st (stage-is v (met.meets site) (met.apart site) st did c.args.self.now c.args.progress.now (settle (service v) c.args.turn.now.moment.0) h) rest.0 rest.1 in
    done-came v st did c.args.self.now c.args.progress.now
    (settles-not v (met.meets site) (met.apart site) c.args.turn.now.moment.0 st did c.args.self.now c.args.progress.now not.0 not.1 h)

pub returns-in-Idle-clause-costs : goal.returns-in-Idle-clause-costs
returns-in-Idle-clause-costs g c = settles-nothing g.R.RunContract.left g.R.ServiceContract.bound c.args.self.now c.args.progress.now
