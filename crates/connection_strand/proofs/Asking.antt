-- A run that waits for the body of its request is told of it.
use Rattle.std.specs.Prelude.{is_some}
use Rattle.std.proofs.Common.{◌≡◌, ℕ, Bool, true, false, not, ◌&&◌, Option, Some, None, if◌then◌else◌, refl, sym, ap, ◌∙◌, subst}
use Rattle.http_bodies.specs.declared.bodies.BodyRead.{BodyRead}
use Rattle.http_bodies.specs.declared.bodies.BodyRead.TheVariants as body
use Rattle.client_line.specs.Lines.{after_asked, body_answer}
use Rattle.strand_plans.specs.Ledgers.{Ledger}
use Rattle.strand_plans.specs.Moves.{Move, Done, Look, Performed, perform}
use Rattle.run_contract.specs.declared.turns.RunSeen.{RunSeen}
use Rattle.run_contract.specs.declared.turns.RunSeen.TheVariants as seen
use Rattle.run_contract.specs.declared.turns.Asking.{Asking}
use Rattle.run_contract.specs.declared.turns.Asking.TheVariants as asking
use Rattle.run_contract.specs.Runs.{Waits}
use Rattle.run_contract.specs.Calls.{is_own_turn}
use Rattle.run_contract.specs.Alike.{AreAlike}
use Rattle.run_contract.specs.Conditions.{IsRun, MayCome, MayHear, asks_body, asks_taken, entered_as}
use Rattle.connection_plan.specs.Clients.{Client}
use Rattle.connection_plan.specs.Clients as stage
use Rattle.connection_plan.specs.Services.{Both}
use Rattle.connection_plan.specs.Turns.{is_there, body_told, tell_body, ask_body, answer_body, answer_asked}
use Rattle.connection_strand.specs.Views.{View, service}
use Rattle.connection_strand.specs.declared.state.Connection.{Connection}
use Rattle.connection_strand.specs.declared.state.Progress.{Progress}
use Rattle.connection_strand.specs.Kept.{Kept, kept, kept_of, waits_of, client_of, all_taken, seen_of_body, seen_of_taken}
use Rattle.connection_strand.specs.Standing.{plain, IsAt, before}
use Rattle.connection_strand.proofs.Moving.{IsSameRun}
use Rattle.connection_strand.proofs.Speaking.{changes}
use Rattle.connection_strand.proofs.Losing.{To, MayTell}

-- ---- what it is told

same-told : {J : Type 0} (may : Bool) (b : Ledger J) (c : Client) (answer : BodyRead) → body_told may (client_of (kept_of b c)) answer ≡ body_told may c answer
same-told may b c (body.Whole n) = refl
same-told may b c (body.Refused code) = refl
same-told may b c body.More = refl
same-told may b c body.Memory = refl

-- it is of the body
abbrev IsOfBody : RunSeen → Type 0
IsOfBody (seen.Body content waited) = Unit {0}
IsOfBody (seen.BodyRefused code) = Unit {0}
IsOfBody s = ⊥

some-is : (x y : RunSeen) → Some x ≡ Some y → x ≡ y
some-is x y e = cc

of-body : (may : Bool) (c : Client) (answer : BodyRead) (x : RunSeen) → body_told may c answer ≡ Some x → IsOfBody x
of-body may c (body.Whole n) x e = subst IsOfBody (some-is _ x e) tt
of-body may c (body.Refused code) x e = subst IsOfBody (some-is _ x e) tt
of-body true c body.More x e = absurd (let f : None ≡ Some x = e in cc)
of-body false c body.More x e = subst IsOfBody (some-is _ x e) tt
of-body true c body.Memory x e = absurd (let f : None ≡ Some x = e in cc)
of-body false c body.Memory x e = subst IsOfBody (some-is _ x e) tt

own-body : (x : RunSeen) → IsOfBody x → is_own_turn x ≡ true
own-body (seen.Body content waited) h = refl
own-body (seen.BodyRefused code) h = refl
own-body x h = absurd h

pub is-own : (k : Kept) (x : RunSeen) → seen_of_body k ≡ Some x → is_own_turn x ≡ true
is-own k x e = own-body x (of-body (k.opened && not k.ended) (client_of k) (body_answer k.came k.limit) x e)

module _ {R J I : Type 0} (v : View R J I) where
  -- it may be told of the body
  abbrev pub HearsBody : Connection R → Type 0
  HearsBody c = let w = waits_of c.waits in MayHear (asks_body w.asks) w.body w.asks

  may-body : (now : ℕ) (x : RunSeen) (b : Ledger J) (r : I) → IsOfBody x → b.asked ≡ None → (let w = v.meaning.plan.waits r in MayHear (asks_body w.asks) w.body w.asks)
      → (entered_as x b ≡ b) × MayCome v.meaning.plan now x b r
  may-body now (seen.Body content waited) b r h asked hears = (refl, (asked, hears))
  may-body now (seen.BodyRefused code) b r h asked hears = (refl, (asked, hears))
  may-body now x b r h asked hears = absurd h

  pub may-be-asked : (now : ℕ) (k : Kept) (x : RunSeen) (c : Connection R) → seen_of_body k ≡ Some x → HearsBody c → MayTell v now x c
  may-be-asked now k x c e hears = λ b r asked same.
      may-body now x b r (of-body (k.opened && not k.ended) (client_of k) (body_answer k.came k.limit) x e) asked
      (subst (λ (w : Waits). MayHear (asks_body w.asks) w.body w.asks) same hears)

  -- it waits for the body, or asks for it
  pub hears-waiting : (c : Connection R) → c.waits.body ≡ true → c.waits.asks ≡ None → HearsBody c
  hears-waiting c body asks = subst (λ (q : Option Asking). MayHear (asks_body q) c.waits.body q) (sym asks) (body, refl)

  pub hears-asking : (c : Connection R) (max : ℕ) → c.waits.asks ≡ Some (asking.Body max) → HearsBody c
  hears-asking c max asks = subst (λ (q : Option Asking). MayHear (asks_body q) c.waits.body q) (sym asks) tt

  -- what it asks for isn't there yet
  pub may-be-put-off : (now : ℕ) (c : Connection R) → is_some c.waits.asks ≡ true → MayTell v now seen.NotYet c
  may-be-put-off now c asks b r asked same = (refl, (asked, sym (ap (λ (w : Waits). is_some w.asks) same) ∙ asks))

  -- whether all is taken
  pub may-be-taken : (now : ℕ) (c : Connection R) (x : RunSeen) → x ≡ seen_of_taken (kept c.client) → c.waits.asks ≡ Some asking.AllTaken → MayTell v now x c
  may-be-taken now c x is asks = subst (λ (y : RunSeen). MayTell v now y c) (sym is) (by (all_taken (kept c.client)))
    where
      by : (o : Bool) → MayTell v now (if o then seen.AllTaken else seen.NotYet) c
      by true = λ b r asked same. (refl, (asked, subst (λ (q : Option Asking). MayHear (asks_taken q) (v.meaning.plan.waits r).taken q) (sym asks ∙ ap (λ (w : Waits). w.asks) same) tt))
      by false = may-be-put-off now c (ap is_some asks)

  pub may-be-taken-by : (now : ℕ) (c : Connection R) → c.waits.taken ≡ true → c.waits.asks ≡ None → MayTell v now seen.AllTaken c
  may-be-taken-by now c taken asks b r asked same =
      let hears = subst (λ (q : Option Asking). MayHear (asks_taken q) c.waits.taken q) (sym asks) (taken, refl) in
      (refl, (asked, subst (λ (w : Waits). MayHear (asks_taken w.asks) w.taken w.asks) same hears))

  pub taken-own : (k : Kept) → is_own_turn (seen_of_taken k) ≡ true
  taken-own k = by (all_taken k)
    where
      by : (o : Bool) → is_own_turn (if o then seen.AllTaken else seen.NotYet) ≡ true
      by true = refl
      by false = refl

  -- what is there of the body is taken
  module _ (lawful : IsRun v.meaning.plan v.meaning.holds) (apart : (x : R) (b c : Ledger J) (r : I) → AreAlike b c → v.meaning.stands x b r → v.meaning.stands x c r) where
    -- by a run that waits for it
    pub asks-body : (now : ℕ) (m : Move J (Both I)) (did : Performed J (Both I)) (c c' : Connection R) (u : Progress J) (x : Option RunSeen) → IsSameRun c c'
        → kept c'.client ≡ record (kept c.client) { came = after_asked (kept c.client).came (kept c.client).limit } → x ≡ seen_of_body (kept c.client)
        → To v (plain stage.Busy) did c u (Look (λ b s. ask_body (service v) now m b s.client)) → To v (plain stage.Busy) did c' u (tell_body (service v) now m x)
    asks-body now m did c c' u x same client is h =
        let b = h.ledger in
        let s = h.inner in
        let told = body_told (is_there b && not s.client.ended) s.client (body_answer s.client.came s.client.limit) in
        let e : told ≡ x =
        sym (same-told (is_there b && not s.client.ended) b s.client (body_answer s.client.came s.client.limit)) ∙ sym (ap seen_of_body h.within.serves.client) ∙ sym is in
        subst (λ (y : Option RunSeen). To v (plain stage.Busy) did c' u (tell_body (service v) now m y)) e
        (changes v lawful apart (λ k. record k { came = after_asked k.came k.limit }) (λ k. record k { came = after_asked k.came k.limit }) (plain stage.Busy) did c c' u
        (tell_body (service v) now m told) (λ b x. refl) (λ x. refl) same client (record { ledger = b; inner = s; within = h.within; leads = h.leads }))

    pub asked-at : (now : ℕ) (c c' : Connection R) (u : Progress J) (x : Option RunSeen) → IsSameRun c c'
        → kept c'.client ≡ record (kept c.client) { came = after_asked (kept c.client).came (kept c.client).limit } → x ≡ seen_of_body (kept c.client)
        → IsAt v stage.Busy c u → IsAt v stage.Busy c' u
    asked-at now c c' u x same client is h =
        let m : Move J (Both I) = Look (λ b s. ask_body (service v) now Done b s.client) in
        let t = asks-body now Done (before u.acts.items (perform m h.0 h.1)) c c' u x same client is (record { ledger = h.0; inner = h.1; within = h.2; leads = refl }) in
        (t.ledger, t.inner, t.within)

    -- by one that asks for it
    pub answers-body : (now max : ℕ) (m : Move J (Both I)) (did : Performed J (Both I)) (c c' : Connection R) (u : Progress J) (x : Option RunSeen) → IsSameRun c c'
        → kept c'.client ≡ record (kept c.client) { limit = max; came = after_asked (kept c.client).came max } → x ≡ seen_of_body (record (kept c.client) { limit = max })
        → To v (plain stage.Busy) did c u (Look (λ b s. answer_asked (service v) now m b s.client (asking.Body max))) → To v (plain stage.Busy) did c' u (answer_body (service v) now m x)
    answers-body now max m did c c' u x same client is h =
        let b = h.ledger in
        let s = h.inner in
        let k = record s.client { limit = max } in
        let told = body_told (is_there b && not k.ended) k (body_answer k.came max) in
        let e : told ≡ x =
        sym (same-told (is_there b && not k.ended) b k (body_answer k.came max)) ∙ sym (ap (λ (k : Kept). seen_of_body (record k { limit = max })) h.within.serves.client) ∙ sym is in
        subst (λ (y : Option RunSeen). To v (plain stage.Busy) did c' u (answer_body (service v) now m y)) e
        (changes v lawful apart (λ k. record k { limit = max; came = after_asked k.came max }) (λ k. record k { limit = max; came = after_asked k.came max }) (plain stage.Busy) did c c' u
        (answer_body (service v) now m told) (λ b x. refl) (λ x. refl) same client (record { ledger = b; inner = s; within = h.within; leads = h.leads }))

    pub answered-at : (now max : ℕ) (c c' : Connection R) (u : Progress J) (x : Option RunSeen) → IsSameRun c c'
        → kept c'.client ≡ record (kept c.client) { limit = max; came = after_asked (kept c.client).came max } → x ≡ seen_of_body (record (kept c.client) { limit = max })
        → IsAt v stage.Busy c u → IsAt v stage.Busy c' u
    answered-at now max c c' u x same client is h =
        let m : Move J (Both I) = Look (λ b s. answer_asked (service v) now Done b s.client (asking.Body max)) in
        let t = answers-body now max Done (before u.acts.items (perform m h.0 h.1)) c c' u x same client is (record { ledger = h.0; inner = h.1; within = h.2; leads = refl }) in
        (t.ledger, t.inner, t.within)
