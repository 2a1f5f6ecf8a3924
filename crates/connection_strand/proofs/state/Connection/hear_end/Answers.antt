use Rattle.std.proofs.Common.{true, false, refl, ap}
use Rattle.strand_plans.specs.Moves.{Look}
use Rattle.connection_plan.specs.Clients as stage
use Rattle.connection_plan.specs.Connections.{ends_at}
use Rattle.connection_strand.specs.Kept.{stage_of}
use Rattle.connection_strand.specs.Views.{view_of, service}
use Rattle.connection_strand.proofs.Ends.{ok-map, done-came}
use Rattle.connection_strand.proofs.Facing.{from-here}
use Rattle.connection_strand.proofs.Showing.{ends-busy, tells-end, ends-flush, ends-else}
use Rattle.connection_strand.proofs.state.Connection.hear_end.Goals as goal

pub go_on-requires : goal.go_on-requires
go_on-requires g c =
    let site = c.args.site.now in
    let v = view_of (g.R.RunContract.meaning site) (g.R.ServiceContract.serving site) in
    let met = g.met.R.RunContract in
    let now = c.args.turn.now.moment.0 in
    let old = c.args.self.now in
    let new = record old { client = record old.client { has_ended = true } } in
    let t = from-here v (met.meets site) (met.apart site) c.requires.within.0 old c.args.progress.now c.requires.within.1 (Look (λ b s. ends_at (service v) now s.client.stage s)) in (
      t.0,
      tells-end v (met.meets site) (met.apart site) now t.0 new c.args.progress.now c.if-self.true (c.requires.unasked (ap stage_of c.in-Busy.is))
          (ends-busy v (met.meets site) (met.apart site) now c.requires.within.0 t.0 old new c.args.progress.now true c.in-Busy.is c.if-self.true (record { run = refl; waits = refl; sockets = refl; count = refl; keeping = refl; taking = refl }) refl t.1),
    )

pub returns-then-self : goal.returns-then-self
returns-then-self g c =
    let site = c.args.site.now in
    let v = view_of (g.R.RunContract.meaning site) (g.R.ServiceContract.serving site) in
    let met = g.met.R.RunContract in
    let now = c.args.turn.now.moment.0 in
    let old = c.args.self.now in
    let new = record old { client = record old.client { has_ended = true } } in
    ok-map c.go_on.result _ _ (λ done goes. λ st did h. goes did (tells-end v (met.meets site) (met.apart site) now did new c.args.progress.now c.if-self.true (c.requires.unasked (ap stage_of c.in-Busy.is))
    (ends-busy v (met.meets site) (met.apart site) now st did old new c.args.progress.now true c.in-Busy.is c.if-self.true (record { run = refl; waits = refl; sockets = refl; count = refl; keeping = refl; taking = refl }) refl h))) c.go_on.ensures.moves

pub settle_all-requires : goal.settle_all-requires
settle_all-requires g c =
    let site = c.args.site.now in
    let v = view_of (g.R.RunContract.meaning site) (g.R.ServiceContract.serving site) in
    let met = g.met.R.RunContract in
    let now = c.args.turn.now.moment.0 in
    let old = c.args.self.now in
    let new = record old { client = record old.client { has_ended = true } } in
    let t = from-here v (met.meets site) (met.apart site) c.requires.within.0 old c.args.progress.now c.requires.within.1 (Look (λ b s. ends_at (service v) now s.client.stage s)) in
    let h = ends-busy v (met.meets site) (met.apart site) now c.requires.within.0 t.0 old new c.args.progress.now false c.in-Busy.is c.if-self.false (record { run = refl; waits = refl; sockets = refl; count = refl; keeping = refl; taking = refl }) refl t.1 in
    (stage.Busy, (h.ledger, h.inner, h.within))

pub returns-else-self : goal.returns-else-self
returns-else-self g c =
    let site = c.args.site.now in
    let v = view_of (g.R.RunContract.meaning site) (g.R.ServiceContract.serving site) in
    let met = g.met.R.RunContract in
    let now = c.args.turn.now.moment.0 in
    let old = c.args.self.now in
    let new = record old { client = record old.client { has_ended = true } } in
    ok-map c.settle_all.result _ _ (λ done ends. λ st did h. ends stage.Busy did (ends-busy v (met.meets site) (met.apart site) now st did old new c.args.progress.now false c.in-Busy.is c.if-self.false (record { run = refl; waits = refl; sockets = refl; count = refl; keeping = refl; taking = refl }) refl h)) c.settle_all.ensures.moves

pub returns-in-Flush : goal.returns-in-Flush
returns-in-Flush g c = λ st did h.
    let site = c.args.site.now in
    let v = view_of (g.R.RunContract.meaning site) (g.R.ServiceContract.serving site) in
    let met = g.met.R.RunContract in
    let now = c.args.turn.now.moment.0 in
    let old = c.args.self.now in
    let new = record old { client = record old.client { has_ended = true } } in
    done-came v stage.Flush did new c.args.progress.now (ends-flush v (met.meets site) (met.apart site) now st did old new c.args.progress.now c.in-Flush.is (record { run = refl; waits = refl; sockets = refl; count = refl; keeping = refl; taking = refl }) refl h)

pub returns-in_default : goal.returns-in_default
returns-in_default g c =
    let site = c.args.site.now in
    let v = view_of (g.R.RunContract.meaning site) (g.R.ServiceContract.serving site) in
    let met = g.met.R.RunContract in
    let now = c.args.turn.now.moment.0 in
    let old = c.args.self.now in
    let new = record old { client = record old.client { has_ended = true } } in
    ok-map c.finish.result _ _ (λ done ends. λ st did h. ends st did (ends-else v (met.meets site) (met.apart site) now st did old c.args.progress.now c.in_default.not-Busy c.in_default.not-Flush h)) c.finish.ensures.moves
