use Rattle.std.proofs.Common.{Bool, inl, inr, sym, ap, subst}
use Rattle.strand_plans.specs.Moves.{Look}
use Rattle.connection_plan.specs.Clients as stage
use Rattle.connection_plan.specs.Turns.{settle}
use Rattle.connection_strand.specs.Kept.{stage_of}
use Rattle.connection_strand.specs.Shown.{heard_at}
use Rattle.connection_strand.specs.Standing.{Went}
use Rattle.connection_strand.proofs.Ends.{ok-map, of-ok, done-came}
use Rattle.connection_strand.proofs.Facing.{from-here}
use Rattle.connection_strand.proofs.Coming.{hears-at}
use Rattle.connection_strand.specs.Views.{view_of, service}
use Rattle.connection_strand.proofs.state.Connection.hear_at.Goals as goal

pub settle_on-requires : goal.settle_on-requires
settle_on-requires g c =
    let site = c.args.site.now in
    let v = view_of (g.R.RunContract.meaning site) (g.R.ServiceContract.serving site) in
    let met = g.met.R.RunContract in
    let now = c.args.turn.now.moment.0 in
    let x = from-here v (met.meets site) (met.apart site) c.requires.within.0 c.args.self.now c.args.progress.now c.requires.within.1
    (Look (λ b s. heard_at (service v) now s.client.stage c.args.out s.client.came s.client.ended)) in
    let t = hears-at v (met.meets site) (met.apart site) now stage.Busy c.args.out c.requires.within.0 x.0 c.args.self.now c.args.progress.now (ap stage_of c.in-Busy.is) x.1 in
    ok-map c.going-went.result _ _ (λ on e goes.
    let h = of-ok c.await_body.result tt _ e.1 c.await_body.ensures x.0 (settle (service v) now) (record { ledger = t.ledger; inner = t.inner; within = t.within; leads = t.leads }) in
    (stage.Busy, (h.ledger, h.inner, h.within))) c.going-went.ensures

pub returns-in-Busy : goal.returns-in-Busy
returns-in-Busy g c =
    let site = c.args.site.now in
    let v = view_of (g.R.RunContract.meaning site) (g.R.ServiceContract.serving site) in
    let met = g.met.R.RunContract in
    let now = c.args.turn.now.moment.0 in
    ok-map c.settle_on.result _ _ (λ done s. λ st did h.
    let t = hears-at v (met.meets site) (met.apart site) now stage.Busy c.args.out st did c.args.self.now c.args.progress.now (ap stage_of c.in-Busy.is) h in
    let e = of-ok c.going-went.result s.0 _ s.1 c.going-went.ensures in
    s.2 did (subst (λ (on : Bool). Went v on did c.await_body.new.self c.await_body.new.progress (settle (service v) now)) (sym e.0) (
      stage.Busy,
      of-ok c.await_body.result tt _ e.1 c.await_body.ensures did (settle (service v) now) (record { ledger = t.ledger; inner = t.inner; within = t.within; leads = t.leads }),
    ))) c.settle_on.ensures.moves

pub hear-requires-clause-within : goal.hear-requires-clause-within
hear-requires-clause-within g c =
    let site = c.args.site.now in
    let v = view_of (g.R.RunContract.meaning site) (g.R.ServiceContract.serving site) in
    let met = g.met.R.RunContract in
    let now = c.args.turn.now.moment.0 in
    let x = from-here v (met.meets site) (met.apart site) c.requires.within.0 c.args.self.now c.args.progress.now c.requires.within.1
    (Look (λ b s. heard_at (service v) now s.client.stage c.args.out s.client.came s.client.ended)) in
    let t = hears-at v (met.meets site) (met.apart site) now stage.Head c.args.out c.requires.within.0 x.0 c.args.self.now c.args.progress.now (ap stage_of c.in-Head.is) x.1 in
    (stage.Head, tt, (t.ledger, t.inner, t.within))

pub returns-in-Head : goal.returns-in-Head
returns-in-Head g c =
    let site = c.args.site.now in
    let v = view_of (g.R.RunContract.meaning site) (g.R.ServiceContract.serving site) in
    let met = g.met.R.RunContract in
    let now = c.args.turn.now.moment.0 in
    ok-map c.hear.result _ _ (λ done hears. λ st did h. hears stage.Head tt did (settle (service v) now)
    (let t = hears-at v (met.meets site) (met.apart site) now stage.Head c.args.out st did c.args.self.now c.args.progress.now (ap stage_of c.in-Head.is) h in
    record { ledger = t.ledger; inner = t.inner; within = t.within; leads = t.leads })) c.hear.ensures

pub hear-requires-in-Idle-clause-within : goal.hear-requires-in-Idle-clause-within
hear-requires-in-Idle-clause-within g c =
    let site = c.args.site.now in
    let v = view_of (g.R.RunContract.meaning site) (g.R.ServiceContract.serving site) in
    let met = g.met.R.RunContract in
    let now = c.args.turn.now.moment.0 in
    let x = from-here v (met.meets site) (met.apart site) c.requires.within.0 c.args.self.now c.args.progress.now c.requires.within.1
    (Look (λ b s. heard_at (service v) now s.client.stage c.args.out s.client.came s.client.ended)) in
    elim c.in-Idle.is [
      | inl e ↦ let t = hears-at v (met.meets site) (met.apart site) now stage.Idle c.args.out c.requires.within.0 x.0 c.args.self.now c.args.progress.now (ap stage_of e) x.1 in
          (stage.Idle, tt, (t.ledger, t.inner, t.within))
      | inr e ↦ let t = hears-at v (met.meets site) (met.apart site) now stage.Drop c.args.out c.requires.within.0 x.0 c.args.self.now c.args.progress.now (ap stage_of e) x.1 in
          (stage.Drop, tt, (t.ledger, t.inner, t.within))
    ]

pub returns-in-Idle : goal.returns-in-Idle
returns-in-Idle g c =
    let site = c.args.site.now in
    let v = view_of (g.R.RunContract.meaning site) (g.R.ServiceContract.serving site) in
    let met = g.met.R.RunContract in
    let now = c.args.turn.now.moment.0 in
    ok-map c.hear-in-Idle.result _ _ (λ done hears. λ st did h. elim c.in-Idle.is [
      | inl e ↦ let t = hears-at v (met.meets site) (met.apart site) now stage.Idle c.args.out st did c.args.self.now c.args.progress.now (ap stage_of e) h in
          hears stage.Idle tt did (settle (service v) now) (record { ledger = t.ledger; inner = t.inner; within = t.within; leads = t.leads })
      | inr e ↦ let t = hears-at v (met.meets site) (met.apart site) now stage.Drop c.args.out st did c.args.self.now c.args.progress.now (ap stage_of e) h in
          hears stage.Drop tt did (settle (service v) now) (record { ledger = t.ledger; inner = t.inner; within = t.within; leads = t.leads })
    ]) c.hear-in-Idle.ensures

pub returns-in-Flush : goal.returns-in-Flush
returns-in-Flush g c = λ st did h.
    let site = c.args.site.now in
    let v = view_of (g.R.RunContract.meaning site) (g.R.ServiceContract.serving site) in
    let met = g.met.R.RunContract in
    let now = c.args.turn.now.moment.0 in
    elim c.in-Flush.is [
      | inl e ↦ let t = hears-at v (met.meets site) (met.apart site) now stage.Flush c.args.out st did c.args.self.now c.args.progress.now (ap stage_of e) h in
          done-came v stage.Flush did c.args.self.now c.args.progress.now (record { ledger = t.ledger; inner = t.inner; within = t.within; leads = t.leads })
      | inr e ↦ let t = hears-at v (met.meets site) (met.apart site) now stage.Over c.args.out st did c.args.self.now c.args.progress.now (ap stage_of e) h in
          done-came v stage.Over did c.args.self.now c.args.progress.now (record { ledger = t.ledger; inner = t.inner; within = t.within; leads = t.leads })
    ]
