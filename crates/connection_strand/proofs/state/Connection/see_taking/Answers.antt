use Rattle.std.proofs.Common.{◌≡◌, true, false, refl, sym, ap, ◌∙◌, subst}
use Rattle.strand_contract.specs.declared.turns.Seen.{Seen}
use Rattle.strand_contract.specs.Calls.{is_own_turn}
use Rattle.connection_strand.specs.Views.{view_of}
use Rattle.connection_strand.specs.Shown.{Shown, seen_of_taking}
use Rattle.connection_strand.proofs.Ends.{ok-map}
use Rattle.connection_strand.proofs.Showing.{is-unasked, shown-lost}
use Rattle.connection_strand.proofs.state.Connection.see_taking.Goals as goal

pub returns-in-Ready-clause-moves : goal.returns-in-Ready-clause-moves
returns-in-Ready-clause-moves g c =
    let site = c.args.site.now in
    let v = view_of (g.R.RunContract.meaning site) (g.R.ServiceContract.serving site) in
    let met = g.met.R.RunContract in
    let now = c.args.turn.now.moment.0 in
    ok-map c.resume.result _ _ (λ done goes. λ did h. goes did (subst (λ (s : Seen). Shown v now s did c.args.self.now c.args.progress.now) (ap seen_of_taking c.in-Ready.is) h)) c.resume.ensures

pub returns-in-Ready-clause-falls : goal.returns-in-Ready-clause-falls
returns-in-Ready-clause-falls g c own = absurd (let e : false ≡ true = sym (ap is_own_turn (ap seen_of_taking c.in-Ready.is)) ∙ own in cc)

pub took-requires : goal.took-requires
took-requires g c =
    let site = c.args.site.now in
    let v = view_of (g.R.RunContract.meaning site) (g.R.ServiceContract.serving site) in
    let met = g.met.R.RunContract in
    let now = c.args.turn.now.moment.0 in
    (c.requires.0, (subst (λ (s : Seen). Shown v now s c.requires.0 c.args.self.now c.args.progress.now) (ap seen_of_taking c.in-Took.is) c.requires.1))

pub returns-in-Took-clause-moves : goal.returns-in-Took-clause-moves
returns-in-Took-clause-moves g c =
    let site = c.args.site.now in
    let v = view_of (g.R.RunContract.meaning site) (g.R.ServiceContract.serving site) in
    let met = g.met.R.RunContract in
    let now = c.args.turn.now.moment.0 in
    ok-map c.took.result _ _ (λ done goes. λ did h. goes did (subst (λ (s : Seen). Shown v now s did c.args.self.now c.args.progress.now) (ap seen_of_taking c.in-Took.is) h)) c.took.ensures.moves

pub returns-in-Took-clause-falls : goal.returns-in-Took-clause-falls
returns-in-Took-clause-falls g c own = c.took.ensures.falls

pub put_off-requires : goal.put_off-requires
put_off-requires g c =
    let site = c.args.site.now in
    let v = view_of (g.R.RunContract.meaning site) (g.R.ServiceContract.serving site) in
    let met = g.met.R.RunContract in
    let now = c.args.turn.now.moment.0 in
    (c.requires.0, (subst (λ (s : Seen). Shown v now s c.requires.0 c.args.self.now c.args.progress.now) (ap seen_of_taking c.in-Later.is) c.requires.1))

pub returns-in-Later-clause-moves : goal.returns-in-Later-clause-moves
returns-in-Later-clause-moves g c =
    let site = c.args.site.now in
    let v = view_of (g.R.RunContract.meaning site) (g.R.ServiceContract.serving site) in
    let met = g.met.R.RunContract in
    let now = c.args.turn.now.moment.0 in
    ok-map c.put_off.result _ _ (λ done goes. λ did h. goes did (subst (λ (s : Seen). Shown v now s did c.args.self.now c.args.progress.now) (ap seen_of_taking c.in-Later.is) h)) c.put_off.ensures.moves

pub returns-in-Later-clause-falls : goal.returns-in-Later-clause-falls
returns-in-Later-clause-falls g c own = c.put_off.ensures.falls

pub lose-requires-clause-unasked : goal.lose-requires-clause-unasked
lose-requires-clause-unasked g c =
    let site = c.args.site.now in
    let v = view_of (g.R.RunContract.meaning site) (g.R.ServiceContract.serving site) in
    let met = g.met.R.RunContract in
    is-unasked v (met.meets site) (met.apart site) c.args.turn.now.moment.0 (seen_of_taking c.args.taking) c.requires.0 c.args.self.now c.args.progress.now c.requires.1 c.args.self.now refl refl

pub lose-requires-clause-within : goal.lose-requires-clause-within
lose-requires-clause-within g c =
    let site = c.args.site.now in
    let v = view_of (g.R.RunContract.meaning site) (g.R.ServiceContract.serving site) in
    let met = g.met.R.RunContract in
    let now = c.args.turn.now.moment.0 in
    let h = (subst (λ (s : Seen). Shown v now s c.requires.0 c.args.self.now c.args.progress.now) (ap seen_of_taking c.in-Lost.is) c.requires.1) in
    let t = shown-lost v (met.meets site) (met.apart site) now c.requires.0 c.args.self.now c.args.progress.now h in
    (h.inner.client.stage, (t.ledger, t.inner, t.within))

pub returns-in-Lost-clause-moves : goal.returns-in-Lost-clause-moves
returns-in-Lost-clause-moves g c =
    let site = c.args.site.now in
    let v = view_of (g.R.RunContract.meaning site) (g.R.ServiceContract.serving site) in
    let met = g.met.R.RunContract in
    let now = c.args.turn.now.moment.0 in
    ok-map c.lose.result _ _ (λ done ends. λ did h.
    let k = (subst (λ (s : Seen). Shown v now s did c.args.self.now c.args.progress.now) (ap seen_of_taking c.in-Lost.is) h) in
    ends k.inner.client.stage did (shown-lost v (met.meets site) (met.apart site) now did c.args.self.now c.args.progress.now k)) c.lose.ensures.moves
