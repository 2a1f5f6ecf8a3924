-- Bytes come from the client.
use Rattle.std.proofs.Common.{◌≡◌, ℕ, List, refl, sym, ap, ◌∙◌, subst}
use Rattle.client_line.specs.declared.requests.LineOut.{LineOut}
use Rattle.client_line.specs.Lines.{IsFed}
use Rattle.client_line.specs.Feeding.{Fed, fed}
use Rattle.client_line.proofs.FeedAnswers.{fed-only}
use Rattle.strand_plans.specs.Ledgers.{Ledger}
use Rattle.strand_plans.specs.Moves.{Look, Performed, perform}
use Rattle.run_contract.specs.Alike.{AreAlike}
use Rattle.run_contract.specs.Conditions.{IsRun}
use Rattle.connection_plan.specs.Clients.{Stage}
use Rattle.connection_plan.specs.Clients as stage
use Rattle.connection_plan.specs.Services.{Service, Both}
use Rattle.connection_plan.specs.Turns.{change}
use Rattle.connection_plan.specs.Connections.{came_at}
use Rattle.connection_strand.specs.Views.{View, service}
use Rattle.connection_strand.specs.declared.state.Connection.{Connection}
use Rattle.connection_strand.specs.declared.state.Progress.{Progress}
use Rattle.connection_strand.specs.Kept.{Kept, kept}
use Rattle.connection_strand.specs.Standing.{Moment, plain, before}
use Rattle.connection_strand.specs.Shown.{heard_at}
use Rattle.connection_strand.proofs.Moving.{IsSameRun}
use Rattle.connection_strand.proofs.Speaking.{changes}
use Rattle.connection_strand.proofs.Losing.{To}

came-is : {J I : Type 0} (site : Service J I) (now : ℕ) (st : Stage) (f : Fed) (s : Both I)
    → came_at site now st f s ≡ change (λ c. record c { came = f.after }) (heard_at site now st f.answer f.after s.client.ended)
came-is site now stage.Busy f s = refl
came-is site now stage.Head f s = refl
came-is site now stage.Idle f s = refl
came-is site now stage.Drop f s = refl
came-is site now stage.Flush f s = refl
came-is site now stage.Over f s = refl

module _ {R J I : Type 0} (v : View R J I)
    (lawful : IsRun v.meaning.plan v.meaning.holds) (apart : (x : R) (b c : Ledger J) (r : I) → AreAlike b c → v.meaning.stands x b r → v.meaning.stands x c r) (now : ℕ) where
  abbrev pub Hearing : LineOut → Moment J → Performed J (Both I) → Connection R → Progress J → Type 0
  Hearing out e did c u = To v e did c u (Look (λ b s. heard_at (service v) now s.client.stage out s.client.came s.client.ended))

  pub comes : (bytes : List ℕ) (answer : LineOut) (st : Stage) (did : Performed J (Both I)) (c c' : Connection R) (u : Progress J) → IsSameRun c c'
      → IsFed (kept c.client).came bytes answer (kept c'.client).came → kept c'.client ≡ record (kept c.client) { came = (kept c'.client).came }
      → To v (plain st) did c u (Look (λ b s. came_at (service v) now s.client.stage (fed s.client.came bytes) s)) → Hearing answer (plain st) did c' u
  comes bytes answer st did c c' u same is client h =
      let s = h.inner in
      let f = fed s.client.came bytes in
      let e : record { answer = answer; after = (kept c'.client).came } ≡ f =
      fed-only (kept c.client).came (kept c'.client).came bytes answer is ∙ ap (λ (k : Kept). fed k.came bytes) h.within.serves.client in
      let after : (kept c'.client).came ≡ f.after = ap (λ (x : Fed). x.after) e in
      let rest = heard_at (service v) now s.client.stage f.answer f.after s.client.ended in
      let g = changes v lawful apart (λ k. record k { came = f.after }) (λ k. record k { came = f.after }) (plain st) did c c' u rest
      (λ b x. refl) (λ x. refl) same (client ∙ ap (λ k. record (kept c.client) { came = k }) after)
      (record { ledger = h.ledger; inner = s; within = h.within; leads = h.leads ∙ ap (λ m. before u.acts.items (perform m h.ledger s)) (came-is (service v) now s.client.stage f s) }) in
      let at : s.client.stage ≡ g.inner.client.stage = h.within.at ∙ sym g.within.at in
      let ended : s.client.ended ≡ g.inner.client.ended =
      sym (ap (λ (k : Kept). k.ended) h.within.serves.client) ∙ sym (ap (λ (k : Kept). k.ended) client) ∙ ap (λ (k : Kept). k.ended) g.within.serves.client in
      record {
        ledger = g.ledger;
        inner = g.inner;
        within = g.within;
        leads = g.leads ∙ (λ i. before u.acts.items (perform (heard_at (service v) now (at i) (sym (ap (λ (x : Fed). x.answer) e) i) ((sym after ∙ ap (λ (k : Kept). k.came) g.within.serves.client) i) (ended i)) g.ledger g.inner));
      }

  -- by the stage
  pub hears-at : (x : Stage) (answer : LineOut) (st : Stage) (did : Performed J (Both I)) (c : Connection R) (u : Progress J) → (kept c.client).stage ≡ x → Hearing answer (plain st) did c u
      → To v (plain x) did c u (Look (λ b s. heard_at (service v) now x answer s.client.came s.client.ended))
  hears-at x answer st did c u is h =
      let s = h.inner in
      let at : s.client.stage ≡ x = sym (ap (λ (k : Kept). k.stage) h.within.serves.client) ∙ is in
      subst (λ (y : Stage). To v (plain y) did c u (Look (λ b s. heard_at (service v) now x answer s.client.came s.client.ended))) (sym h.within.at ∙ at)
      (record {
        ledger = h.ledger;
        inner = s;
        within = h.within;
        leads = h.leads ∙ ap (λ (y : Stage). before u.acts.items (perform (heard_at (service v) now y answer s.client.came s.client.ended) h.ledger s)) at;
      })
