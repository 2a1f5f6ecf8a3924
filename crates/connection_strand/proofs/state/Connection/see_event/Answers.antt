use Rattle.std.proofs.Common.{◌≡◌, true, false, refl, sym, ap, ◌∙◌, subst}
use Rattle.strand_contract.specs.declared.turns.Seen.{Seen}
use Rattle.strand_contract.specs.Calls.{is_own_turn}
use Rattle.connection_strand.specs.Views.{view_of}
use Rattle.connection_strand.specs.Shown.{Shown, seen_of_event}
use Rattle.connection_strand.proofs.Ends.{ok-map}
use Rattle.connection_strand.proofs.Showing.{is-unasked, shown-run, shown-ended, shown-broken, shown-stop}
use Rattle.connection_strand.proofs.state.Connection.see_event.Goals as goal

pub hear_end-requires-clause-within : goal.hear_end-requires-clause-within
hear_end-requires-clause-within g c =
    let site = c.args.site.now in
    let v = view_of (g.R.RunContract.meaning site) (g.R.ServiceContract.serving site) in
    let met = g.met.R.RunContract in
    let now = c.args.turn.now.moment.0 in
    let h = (subst (λ (s : Seen). Shown v now s c.requires.0 c.args.self.now c.args.progress.now) (ap seen_of_event c.in-Ended.is) c.requires.1) in
    let t = shown-ended v (met.meets site) (met.apart site) now c.requires.0 c.args.self.now c.args.progress.now h in
    (h.inner.client.stage, (t.ledger, t.inner, t.within))

pub hear_end-requires-clause-unasked : goal.hear_end-requires-clause-unasked
hear_end-requires-clause-unasked g c =
    let site = c.args.site.now in
    let v = view_of (g.R.RunContract.meaning site) (g.R.ServiceContract.serving site) in
    let met = g.met.R.RunContract in
    is-unasked v (met.meets site) (met.apart site) c.args.turn.now.moment.0 (seen_of_event c.args.event) c.requires.0 c.args.self.now c.args.progress.now c.requires.1 c.args.self.now refl refl

pub returns-in-Ended-clause-moves : goal.returns-in-Ended-clause-moves
returns-in-Ended-clause-moves g c =
    let site = c.args.site.now in
    let v = view_of (g.R.RunContract.meaning site) (g.R.ServiceContract.serving site) in
    let met = g.met.R.RunContract in
    let now = c.args.turn.now.moment.0 in
    ok-map c.hear_end.result _ _ (λ done ends. λ did h.
    let k = (subst (λ (s : Seen). Shown v now s did c.args.self.now c.args.progress.now) (ap seen_of_event c.in-Ended.is) h) in
    ends k.inner.client.stage did (shown-ended v (met.meets site) (met.apart site) now did c.args.self.now c.args.progress.now k)) c.hear_end.ensures

pub returns-in-Ended-clause-falls : goal.returns-in-Ended-clause-falls
returns-in-Ended-clause-falls g c own = absurd (let e : false ≡ true = sym (ap is_own_turn (ap seen_of_event c.in-Ended.is)) ∙ own in cc)

pub lose-requires-clause-unasked : goal.lose-requires-clause-unasked
lose-requires-clause-unasked g c =
    let site = c.args.site.now in
    let v = view_of (g.R.RunContract.meaning site) (g.R.ServiceContract.serving site) in
    let met = g.met.R.RunContract in
    is-unasked v (met.meets site) (met.apart site) c.args.turn.now.moment.0 (seen_of_event c.args.event) c.requires.0 c.args.self.now c.args.progress.now c.requires.1 c.args.self.now refl refl

pub lose-requires-clause-within : goal.lose-requires-clause-within
lose-requires-clause-within g c =
    let site = c.args.site.now in
    let v = view_of (g.R.RunContract.meaning site) (g.R.ServiceContract.serving site) in
    let met = g.met.R.RunContract in
    let now = c.args.turn.now.moment.0 in
    let h = (subst (λ (s : Seen). Shown v now s c.requires.0 c.args.self.now c.args.progress.now) (ap seen_of_event c.in-Broken.is) c.requires.1) in
    let t = shown-broken v (met.meets site) (met.apart site) now c.requires.0 c.args.self.now c.args.progress.now h in
    (h.inner.client.stage, (t.ledger, t.inner, t.within))

pub returns-in-Broken-clause-moves : goal.returns-in-Broken-clause-moves
returns-in-Broken-clause-moves g c =
    let site = c.args.site.now in
    let v = view_of (g.R.RunContract.meaning site) (g.R.ServiceContract.serving site) in
    let met = g.met.R.RunContract in
    let now = c.args.turn.now.moment.0 in
    ok-map c.lose.result _ _ (λ done ends. λ did h.
    let k = (subst (λ (s : Seen). Shown v now s did c.args.self.now c.args.progress.now) (ap seen_of_event c.in-Broken.is) h) in
    ends k.inner.client.stage did (shown-broken v (met.meets site) (met.apart site) now did c.args.self.now c.args.progress.now k)) c.lose.ensures.moves

pub returns-in-Broken-clause-falls : goal.returns-in-Broken-clause-falls
returns-in-Broken-clause-falls g c own = absurd (let e : false ≡ true = sym (ap is_own_turn (ap seen_of_event c.in-Broken.is)) ∙ own in cc)

pub due-requires : goal.due-requires
due-requires g c =
    let site = c.args.site.now in
    let v = view_of (g.R.RunContract.meaning site) (g.R.ServiceContract.serving site) in
    let met = g.met.R.RunContract in
    let now = c.args.turn.now.moment.0 in
    (c.requires.0, (subst (λ (s : Seen). Shown v now s c.requires.0 c.args.self.now c.args.progress.now) (ap seen_of_event c.in-Due.is) c.requires.1))

pub returns-in-Due-clause-moves : goal.returns-in-Due-clause-moves
returns-in-Due-clause-moves g c =
    let site = c.args.site.now in
    let v = view_of (g.R.RunContract.meaning site) (g.R.ServiceContract.serving site) in
    let met = g.met.R.RunContract in
    let now = c.args.turn.now.moment.0 in
    ok-map c.due.result _ _ (λ done goes. λ did h. goes did (subst (λ (s : Seen). Shown v now s did c.args.self.now c.args.progress.now) (ap seen_of_event c.in-Due.is) h)) c.due.ensures.moves

pub returns-in-Due-clause-falls : goal.returns-in-Due-clause-falls
returns-in-Due-clause-falls g c own = c.due.ensures.falls

pub go_on-requires : goal.go_on-requires
go_on-requires g c =
    let site = c.args.site.now in
    let v = view_of (g.R.RunContract.meaning site) (g.R.ServiceContract.serving site) in
    let met = g.met.R.RunContract in
    let now = c.args.turn.now.moment.0 in
    (c.requires.0, shown-run v (met.meets site) (met.apart site) now c.in-Run.thread c.requires.0 c.args.self.now c.args.progress.now (subst (λ (s : Seen). Shown v now s c.requires.0 c.args.self.now c.args.progress.now) (ap seen_of_event c.in-Run.is) c.requires.1))

pub returns-in-Run-clause-moves : goal.returns-in-Run-clause-moves
returns-in-Run-clause-moves g c =
    let site = c.args.site.now in
    let v = view_of (g.R.RunContract.meaning site) (g.R.ServiceContract.serving site) in
    let met = g.met.R.RunContract in
    let now = c.args.turn.now.moment.0 in
    ok-map c.go_on.result _ _ (λ done goes. λ did h. goes did (shown-run v (met.meets site) (met.apart site) now c.in-Run.thread did c.args.self.now c.args.progress.now (subst (λ (s : Seen). Shown v now s did c.args.self.now c.args.progress.now) (ap seen_of_event c.in-Run.is) h))) c.go_on.ensures.moves

pub returns-in-Run-clause-falls : goal.returns-in-Run-clause-falls
returns-in-Run-clause-falls g c own = c.go_on.ensures.falls refl refl

pub returns-in-Stop-clause-moves : goal.returns-in-Stop-clause-moves
returns-in-Stop-clause-moves g c =
    let site = c.args.site.now in
    let v = view_of (g.R.RunContract.meaning site) (g.R.ServiceContract.serving site) in
    let met = g.met.R.RunContract in
    let now = c.args.turn.now.moment.0 in
    ok-map c.finish.result _ _ (λ done ends. λ did h.
    let k = (subst (λ (s : Seen). Shown v now s did c.args.self.now c.args.progress.now) (ap seen_of_event c.in-Stop.is) h) in
    ends k.inner.client.stage did (shown-stop v (met.meets site) (met.apart site) now did c.args.self.now c.args.progress.now k)) c.finish.ensures.moves

pub returns-in-Stop-clause-falls : goal.returns-in-Stop-clause-falls
returns-in-Stop-clause-falls g c own = c.finish.ensures.falls
