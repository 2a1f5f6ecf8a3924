use Rattle.std.proofs.Common.{◌≡◌, true, false, sym, ap, ◌∙◌, subst}
use Rattle.strand_contract.specs.declared.turns.Seen.{Seen}
use Rattle.strand_contract.specs.Calls.{is_own_turn}
use Rattle.connection_strand.specs.Views.{view_of}
use Rattle.connection_strand.specs.Shown.{Shown, seen_of}
use Rattle.connection_strand.proofs.Ends.{ok-map}
use Rattle.connection_strand.proofs.Falling.{own-sock}
use Rattle.connection_strand.proofs.Showing.{shown-bytes}
use Rattle.connection_strand.proofs.state.Connection.see.Goals as goal

pub sock-requires : goal.sock-requires
sock-requires g c =
    let site = c.args.site.now in
    let v = view_of (g.R.RunContract.meaning site) (g.R.ServiceContract.serving site) in
    let met = g.met.R.RunContract in
    let now = c.args.turn.now.moment.0 in
    (c.requires.0, (subst (λ (s : Seen). Shown v now s c.requires.0 c.args.self.now c.args.progress.now) (c.sight_of.ensures ∙ ap seen_of c.in-Sock.is) c.requires.1))

pub returns-in-Sock-clause-moves : goal.returns-in-Sock-clause-moves
returns-in-Sock-clause-moves g c =
    let site = c.args.site.now in
    let v = view_of (g.R.RunContract.meaning site) (g.R.ServiceContract.serving site) in
    let met = g.met.R.RunContract in
    let now = c.args.turn.now.moment.0 in
    ok-map c.sock.result _ _ (λ done goes. λ did h. goes did (subst (λ (s : Seen). Shown v now s did c.args.self.now c.args.progress.now) (c.sight_of.ensures ∙ ap seen_of c.in-Sock.is) h)) c.sock.ensures.moves

pub returns-in-Sock-clause-falls : goal.returns-in-Sock-clause-falls
returns-in-Sock-clause-falls g c own = c.sock.ensures.falls (sym (own-sock c.in-Sock.k c.in-Sock.shown) ∙ sym (ap is_own_turn (c.sight_of.ensures ∙ ap seen_of c.in-Sock.is)) ∙ own)

pub came-requires : goal.came-requires
came-requires g c =
    let site = c.args.site.now in
    let v = view_of (g.R.RunContract.meaning site) (g.R.ServiceContract.serving site) in
    let met = g.met.R.RunContract in
    let now = c.args.turn.now.moment.0 in
    let h = (subst (λ (s : Seen). Shown v now s c.requires.0 c.args.self.now c.args.progress.now) (c.sight_of.ensures ∙ ap seen_of c.in-Bytes.is) c.requires.1) in
    let t = shown-bytes v (met.meets site) (met.apart site) now c.in-Bytes.bytes c.requires.0 c.args.self.now c.args.progress.now h in
    (h.inner.client.stage, (t.ledger, t.inner, t.within))

pub returns-in-Bytes-clause-moves : goal.returns-in-Bytes-clause-moves
returns-in-Bytes-clause-moves g c =
    let site = c.args.site.now in
    let v = view_of (g.R.RunContract.meaning site) (g.R.ServiceContract.serving site) in
    let met = g.met.R.RunContract in
    let now = c.args.turn.now.moment.0 in
    ok-map c.came.result _ _ (λ done ends. λ did h.
    let k = (subst (λ (s : Seen). Shown v now s did c.args.self.now c.args.progress.now) (c.sight_of.ensures ∙ ap seen_of c.in-Bytes.is) h) in
    ends k.inner.client.stage did
    (shown-bytes v (met.meets site) (met.apart site) now c.in-Bytes.bytes did c.args.self.now c.args.progress.now k)) c.came.ensures

pub returns-in-Bytes-clause-falls : goal.returns-in-Bytes-clause-falls
returns-in-Bytes-clause-falls g c own = absurd (let e : false ≡ true = sym (ap is_own_turn (c.sight_of.ensures ∙ ap seen_of c.in-Bytes.is)) ∙ own in cc)

pub see_taking-requires : goal.see_taking-requires
see_taking-requires g c =
    let site = c.args.site.now in
    let v = view_of (g.R.RunContract.meaning site) (g.R.ServiceContract.serving site) in
    let met = g.met.R.RunContract in
    let now = c.args.turn.now.moment.0 in
    (c.requires.0, (subst (λ (s : Seen). Shown v now s c.requires.0 c.args.self.now c.args.progress.now) (c.sight_of.ensures ∙ ap seen_of c.in-Taking.is) c.requires.1))

pub returns-in-Taking-clause-moves : goal.returns-in-Taking-clause-moves
returns-in-Taking-clause-moves g c =
    let site = c.args.site.now in
    let v = view_of (g.R.RunContract.meaning site) (g.R.ServiceContract.serving site) in
    let met = g.met.R.RunContract in
    let now = c.args.turn.now.moment.0 in
    ok-map c.see_taking.result _ _ (λ done goes. λ did h. goes did (subst (λ (s : Seen). Shown v now s did c.args.self.now c.args.progress.now) (c.sight_of.ensures ∙ ap seen_of c.in-Taking.is) h)) c.see_taking.ensures.moves

pub returns-in-Taking-clause-falls : goal.returns-in-Taking-clause-falls
returns-in-Taking-clause-falls g c own = c.see_taking.ensures.falls (sym (ap is_own_turn (c.sight_of.ensures ∙ ap seen_of c.in-Taking.is)) ∙ own)

pub see_event-requires : goal.see_event-requires
see_event-requires g c =
    let site = c.args.site.now in
    let v = view_of (g.R.RunContract.meaning site) (g.R.ServiceContract.serving site) in
    let met = g.met.R.RunContract in
    let now = c.args.turn.now.moment.0 in
    (c.requires.0, (subst (λ (s : Seen). Shown v now s c.requires.0 c.args.self.now c.args.progress.now) (c.sight_of.ensures ∙ ap seen_of c.in-Event.is) c.requires.1))

pub returns-in-Event-clause-moves : goal.returns-in-Event-clause-moves
returns-in-Event-clause-moves g c =
    let site = c.args.site.now in
    let v = view_of (g.R.RunContract.meaning site) (g.R.ServiceContract.serving site) in
    let met = g.met.R.RunContract in
    let now = c.args.turn.now.moment.0 in
    ok-map c.see_event.result _ _ (λ done goes. λ did h. goes did (subst (λ (s : Seen). Shown v now s did c.args.self.now c.args.progress.now) (c.sight_of.ensures ∙ ap seen_of c.in-Event.is) h)) c.see_event.ensures.moves

pub returns-in-Event-clause-falls : goal.returns-in-Event-clause-falls
returns-in-Event-clause-falls g c own = c.see_event.ensures.falls (sym (ap is_own_turn (c.sight_of.ensures ∙ ap seen_of c.in-Event.is)) ∙ own)
