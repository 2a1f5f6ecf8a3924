-- The reply is taken: the rest of the body is dropped, and what follows it is read.
use Rattle.std.proofs.Common.{◌≡◌, ℕ, true, List, [], refl, sym, ap, ◌∙◌, subst}
use Rattle.http_bodies.specs.declared.states.BodyState.{BodyState}
use Rattle.http_bodies.specs.declared.states.BodyState.TheVariants as state
use Rattle.client_line.specs.declared.requests.LineOut.{LineOut}
use Rattle.client_line.specs.declared.requests.LineOut.TheVariants as out
use Rattle.client_line.specs.Records.{At, Came}
use Rattle.client_line.specs.Records as line
use Rattle.client_line.specs.Lines.{after_answer, answer_dropping, IsFed, done}
use Rattle.client_line.specs.Feeding.{Fed, led, fed}
use Rattle.client_line.proofs.FeedAnswers.{fed-only}
use Rattle.strand_plans.specs.Ledgers.{Ledger}
use Rattle.strand_plans.specs.Moves.{Move, Performed, Look, perform}
use Rattle.run_contract.specs.Alike.{AreAlike}
use Rattle.run_contract.specs.Conditions.{IsRun}
use Rattle.connection_plan.specs.Clients.{Stage}
use Rattle.connection_plan.specs.Services.{Both}
use Rattle.connection_plan.specs.Turns.{heard_by, next}
use Rattle.connection_strand.specs.Views.{View, service}
use Rattle.connection_strand.specs.declared.state.Connection.{Connection}
use Rattle.connection_strand.specs.declared.state.Progress.{Progress}
use Rattle.connection_strand.specs.Kept.{Kept, kept}
use Rattle.connection_strand.specs.Standing.{plain, before}
use Rattle.connection_strand.specs.Turns.{IsAnswered}
use Rattle.connection_strand.proofs.Moving.{IsSameRun}
use Rattle.connection_strand.proofs.Speaking.{changes}
use Rattle.connection_strand.proofs.Hearing.{To, Heard}

dropping-answered : (far : BodyState) → IsAnswered (answer_dropping far) (line.Dropping far)
dropping-answered (state.Refused code) = tt
dropping-answered far = tt

head-answered : (answer : LineOut) (bytes : List ℕ) → IsAnswered answer (after_answer answer bytes).at
head-answered (out.Refused code) bytes = tt
head-answered answer bytes = tt

led-answered : (at : At) (bytes : List ℕ) → IsAnswered (led at bytes).answer (led at bytes).after.at
led-answered line.Head bytes = head-answered _ bytes
led-answered (line.Present body kind skips) bytes = tt
led-answered (line.Dropping far) bytes = dropping-answered far
led-answered (line.Over code) bytes = tt

pub fed-answered : (before after : Came) (piece : List ℕ) (answer : LineOut) → IsFed before piece answer after → IsAnswered answer after.at
fed-answered before after piece answer h =
    let e = fed-only before after piece answer h in
    subst (λ (f : Fed). IsAnswered f.answer f.after.at) (sym e) (led-answered _ _)

module _ {R J I : Type 0} (v : View R J I)
    (lawful : IsRun v.meaning.plan v.meaning.holds) (apart : (x : R) (b c : Ledger J) (r : I) → AreAlike b c → v.meaning.stands x b r → v.meaning.stands x c r) where
  pub nexts : (now : ℕ) (answer : LineOut) (st : Stage) (did : Performed J (Both I)) (c c' : Connection R) (u : Progress J) (m : Move J (Both I)) → IsSameRun c c'
      → IsFed (done (kept c.client).came) [] answer (kept c'.client).came → kept c'.client ≡ record (kept c.client) { came = (kept c'.client).came }
      → To v (plain st) did c u (Look (λ b s. next (service v) now m s.client)) → Heard v now true m answer (plain st) did c' u
  nexts now answer st did c c' u m same is client h =
      let s = h.inner in
      let f = fed (done s.client.came) [] in
      let came : (kept c.client).came ≡ s.client.came = ap (λ (k : Kept). k.came) h.within.serves.client in
      let e : record { answer = answer; after = (kept c'.client).came } ≡ f =
      fed-only (done (kept c.client).came) (kept c'.client).came [] answer is ∙ ap (λ (k : Came). fed (done k) []) came in
      let after : (kept c'.client).came ≡ f.after = ap (λ (x : Fed). x.after) e in
      let rest = heard_by (service v) now true m f.after s.client.ended f.answer in
      let g = changes v lawful apart (λ k. record k { came = f.after }) (λ k. record k { came = f.after }) (plain st) did c c' u rest
      (λ b x. refl) (λ x. refl) same (client ∙ ap (λ k. record (kept c.client) { came = k }) after)
      (record { ledger = h.ledger; inner = s; within = h.within; leads = h.leads }) in
      let ended : s.client.ended ≡ g.inner.client.ended =
      sym (ap (λ (k : Kept). k.ended) h.within.serves.client) ∙ sym (ap (λ (k : Kept). k.ended) client) ∙ ap (λ (k : Kept). k.ended) g.within.serves.client in
      record {
        ledger = g.ledger;
        inner = g.inner;
        within = g.within;
        leads = g.leads ∙ (λ i. before u.acts.items (perform (heard_by (service v) now true m ((sym after ∙ ap (λ (k : Kept). k.came) g.within.serves.client) i) (ended i) (sym (ap (λ (x : Fed). x.answer) e) i)) g.ledger g.inner));
      }
