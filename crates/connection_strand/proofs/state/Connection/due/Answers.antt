use Rattle.std.proofs.Common.{ℕ, false, refl, ap, ◌∙◌, subst}
use Rattle.strand_contract.specs.declared.turns.Seen.TheVariants as seens
use Rattle.strand_plans.specs.Moves.{Done}
use Rattle.connection_strand.specs.Views.{view_of}
use Rattle.connection_strand.specs.Kept.{Kept}
use Rattle.connection_strand.specs.Shown.{Shown}
use Rattle.connection_strand.proofs.Ends.{ok-map, of-ok, went-came}
use Rattle.connection_strand.proofs.Showing.{is-unasked, shown-due, shown-waited, shown-sent, two-up}
use Rattle.connection_strand.proofs.Falling.{due-armed, waited-falls, sent-falls, told-falls}
use Rattle.connection_strand.proofs.state.Connection.due.Goals as goal

pub lose-requires-clause-unasked : goal.lose-requires-clause-unasked
lose-requires-clause-unasked g c =
    let site = c.args.site.now in
    let v = view_of (g.R.RunContract.meaning site) (g.R.ServiceContract.serving site) in
    let met = g.met.R.RunContract in
    let old = c.args.self.now in
    is-unasked v (met.meets site) (met.apart site) c.args.turn.now.moment.0 (seens.Due c.args.number) c.requires.0 old c.args.progress.now c.requires.1 (record old { client = record old.client { is_waiting = false } }) refl refl

pub lose-requires-clause-within : goal.lose-requires-clause-within
lose-requires-clause-within g c =
    let site = c.args.site.now in
    let v = view_of (g.R.RunContract.meaning site) (g.R.ServiceContract.serving site) in
    let met = g.met.R.RunContract in
    let now = c.args.turn.now.moment.0 in
    let h = subst (λ (n : ℕ). Shown v now (seens.Due n) c.requires.0 c.args.self.now c.args.progress.now) c.if-number-eq0.true c.requires.1 in
    let t = shown-waited v (met.meets site) (met.apart site) now c.requires.0 c.args.self.now _ c.args.progress.now h (record { run = refl; waits = refl; sockets = refl; count = refl; keeping = refl; taking = refl }) refl in
    (h.inner.client.stage, (t.ledger, t.inner, t.within))

pub returns-then-number-eq0-clause-moves : goal.returns-then-number-eq0-clause-moves
returns-then-number-eq0-clause-moves g c =
    let site = c.args.site.now in
    let v = view_of (g.R.RunContract.meaning site) (g.R.ServiceContract.serving site) in
    let met = g.met.R.RunContract in
    let now = c.args.turn.now.moment.0 in
    ok-map c.lose.result _ _ (λ done ends. λ did h.
    let t = subst (λ (n : ℕ). Shown v now (seens.Due n) did c.args.self.now c.args.progress.now) c.if-number-eq0.true h in
    ends t.inner.client.stage did (shown-waited v (met.meets site) (met.apart site) now did c.args.self.now _ c.args.progress.now t (record { run = refl; waits = refl; sockets = refl; count = refl; keeping = refl; taking = refl }) refl)) c.lose.ensures.moves

pub returns-then-number-eq0-clause-falls : goal.returns-then-number-eq0-clause-falls
returns-then-number-eq0-clause-falls g c =
    let site = c.args.site.now in
    let v = view_of (g.R.RunContract.meaning site) (g.R.ServiceContract.serving site) in
    let met = g.met.R.RunContract in
    let now = c.args.turn.now.moment.0 in
    let h = subst (λ (n : ℕ). Shown v now (seens.Due n) c.requires.0 c.args.self.now c.args.progress.now) c.if-number-eq0.true c.requires.1 in
    ok-map c.lose.result _ _ (λ done costs. waited-falls g.R.RunContract.left g.R.ServiceContract.bound c.args.self.now c.lose.new.self c.args.progress.now c.lose.new.progress
    (ap (λ (k : Kept). k.waits) h.client ∙ due-armed now 0 h.comes.at h.ledger.armed h.comes.first) costs) c.lose.ensures.costs

pub lose-requires-then-number-eq1-clause-unasked : goal.lose-requires-then-number-eq1-clause-unasked
lose-requires-then-number-eq1-clause-unasked g c =
    let site = c.args.site.now in
    let v = view_of (g.R.RunContract.meaning site) (g.R.ServiceContract.serving site) in
    let met = g.met.R.RunContract in
    let old = c.args.self.now in
    is-unasked v (met.meets site) (met.apart site) c.args.turn.now.moment.0 (seens.Due c.args.number) c.requires.0 old c.args.progress.now c.requires.1 (record old { client = record old.client { is_sending = false } }) refl refl

pub lose-requires-then-number-eq1-clause-within : goal.lose-requires-then-number-eq1-clause-within
lose-requires-then-number-eq1-clause-within g c =
    let site = c.args.site.now in
    let v = view_of (g.R.RunContract.meaning site) (g.R.ServiceContract.serving site) in
    let met = g.met.R.RunContract in
    let now = c.args.turn.now.moment.0 in
    let h = subst (λ (n : ℕ). Shown v now (seens.Due n) c.requires.0 c.args.self.now c.args.progress.now) c.if-number-eq1.true c.requires.1 in
    let t = shown-sent v (met.meets site) (met.apart site) now c.requires.0 c.args.self.now _ c.args.progress.now h (record { run = refl; waits = refl; sockets = refl; count = refl; keeping = refl; taking = refl }) refl in
    (h.inner.client.stage, (t.ledger, t.inner, t.within))

pub returns-then-number-eq1-clause-moves : goal.returns-then-number-eq1-clause-moves
returns-then-number-eq1-clause-moves g c =
    let site = c.args.site.now in
    let v = view_of (g.R.RunContract.meaning site) (g.R.ServiceContract.serving site) in
    let met = g.met.R.RunContract in
    let now = c.args.turn.now.moment.0 in
    ok-map c.lose-then-number-eq1.result _ _ (λ done ends. λ did h.
    let t = subst (λ (n : ℕ). Shown v now (seens.Due n) did c.args.self.now c.args.progress.now) c.if-number-eq1.true h in
    ends t.inner.client.stage did (shown-sent v (met.meets site) (met.apart site) now did c.args.self.now _ c.args.progress.now t (record { run = refl; waits = refl; sockets = refl; count = refl; keeping = refl; taking = refl }) refl)) c.lose-then-number-eq1.ensures.moves

pub returns-then-number-eq1-clause-falls : goal.returns-then-number-eq1-clause-falls
returns-then-number-eq1-clause-falls g c =
    let site = c.args.site.now in
    let v = view_of (g.R.RunContract.meaning site) (g.R.ServiceContract.serving site) in
    let met = g.met.R.RunContract in
    let now = c.args.turn.now.moment.0 in
    let h = subst (λ (n : ℕ). Shown v now (seens.Due n) c.requires.0 c.args.self.now c.args.progress.now) c.if-number-eq1.true c.requires.1 in
    ok-map c.lose-then-number-eq1.result _ _ (λ done costs. sent-falls g.R.RunContract.left g.R.ServiceContract.bound c.args.self.now c.lose-then-number-eq1.new.self c.args.progress.now c.lose-then-number-eq1.new.progress
    (ap (λ (k : Kept). k.sends) h.client ∙ due-armed now 1 h.comes.at h.ledger.armed h.comes.first) costs) c.lose-then-number-eq1.ensures.costs

pub to_run-requires : goal.to_run-requires
to_run-requires g c =
    let site = c.args.site.now in
    let v = view_of (g.R.RunContract.meaning site) (g.R.ServiceContract.serving site) in
    let met = g.met.R.RunContract in
    let now = c.args.turn.now.moment.0 in
    (c.requires.0, Done, shown-due v (met.meets site) (met.apart site) now c.args.number (two-up c.args.number c.if-number-eq0.false c.if-number-eq1.false) c.requires.0 c.args.self.now c.args.progress.now c.requires.1)

pub returns-clause-moves : goal.returns-clause-moves
returns-clause-moves g c =
    let site = c.args.site.now in
    let v = view_of (g.R.RunContract.meaning site) (g.R.ServiceContract.serving site) in
    let met = g.met.R.RunContract in
    let now = c.args.turn.now.moment.0 in
    ok-map c.ended.result _ _ (λ done e. λ did h.
    went-came v e.0 did c.to_run.new.self c.to_run.new.progress (of-ok c.to_run.result e.0 _ e.1 c.to_run.ensures.moves did Done
    (shown-due v (met.meets site) (met.apart site) now c.args.number (two-up c.args.number c.if-number-eq0.false c.if-number-eq1.false) did c.args.self.now c.args.progress.now h))) c.ended.ensures

pub returns-clause-falls : goal.returns-clause-falls
returns-clause-falls g c =
    ok-map c.ended.result _ _ (λ done e.
    told-falls g.R.RunContract.left g.R.ServiceContract.bound c.args.self.now c.to_run.new.self c.args.progress.now c.to_run.new.progress (of-ok c.to_run.result e.0 _ e.1 (c.to_run.ensures.costs refl refl))) c.ended.ensures
