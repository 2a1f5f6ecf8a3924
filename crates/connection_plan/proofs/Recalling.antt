-- A run whose reply tells what was sent before meets the contract.
use Rattle.std.proofs.Common.{◌≡◌, ℕ, ◌≤◌, ◌<◌, Bool, true, false, List, [], ◌∷◌, drop, Some, None, if◌then◌else◌, refl, sym, ap, ◌∙◌, subst}
use Rattle.strand_contract.specs.declared.turns.Place.TheVariants as place
use Rattle.strand_contract.specs.declared.turns.Answer.{Answer}
use Rattle.strand_contract.specs.Actions.{Action, Did, Offer}
use Rattle.strand_contract.specs.Calls.{answered}
use Rattle.strand_plans.specs.Questions.{asking_if}
use Rattle.strand_plans.specs.Ledgers.{Ledger, has, entered}
use Rattle.run_contract.specs.declared.turns.RunSeen.{RunSeen}
use Rattle.run_contract.specs.declared.turns.RunSeen.TheVariants as seen
use Rattle.run_contract.specs.declared.turns.SockSeen.{SockSeen}
use Rattle.run_contract.specs.declared.turns.SockSeen.TheVariants as at
use Rattle.run_contract.specs.Runs.{waits_told, is_of_client, waits_at_first}
use Rattle.run_contract.specs.Alike.{AreAlike}
use Rattle.run_contract.specs.Conditions.{IsBlank, MayComeAt, MayCome, Leaves, entered_as, IsRun}
use Rattle.run_contract.specs.StoredLaws.{own-due, not-below}
use Rattle.connection_plan.specs.Recalls.{recalls_turn, recalls_plan, RecallsHolds, recalls_site, recalled}
use Rattle.std.specs.Prelude.{codes, suc, length}
use Rattle.resty_base.specs.BoolLaws.{one-falls}
use Rattle.http_in.specs.declared.framing.BodyKind.TheVariants as kind
use Rattle.http_bodies.specs.declared.states.BodyState.TheVariants as state
use Rattle.client_line.specs.Records.{Came}
use Rattle.client_line.specs.Records as line
use Rattle.client_line.specs.Lines.{came_at, nothing, done}
use Rattle.client_line.specs.Feeding.{Fed, fed}
use Rattle.strand_plans.specs.Moves.{State, perform}
use Rattle.strand_plans.specs.Plans.{Plan, state_of, stepped}
use Rattle.connection_plan.specs.Clients as stage
use Rattle.connection_plan.specs.Services.{Both}
use Rattle.connection_plan.specs.Turns.{heard, settle_for}
use Rattle.connection_plan.specs.Connections.{connection_plan}
use Rattle.connection_plan.specs.Connections as turns
use Rattle.connection_plan.specs.Examples.{Asks, request, to, began, came, took}
use Rattle.connection_plan.proofs.Rows.{asked, asked-is, fed-head, done-whole}

never : {C : Type 0} → false ≡ true → C
never e = absurd (cc)

none-some : {A C : Type 0} (x : A) → None ≡ Some x → C
none-some x e = absurd (let g : None ≡ Some x = e in cc)

shut : (J C : Type 0) (b : Ledger J) (k : ℕ) → has (place.Sock k) b.opened ≡ false → has (place.Sock k) b.opened ≡ true → C
shut J C b k h f = absurd (let e : false ≡ true = sym h ∙ f in cc)

none-comes : {J C : Type 0} (b : Ledger J) (r : Bool) (k : ℕ) (s : SockSeen) → RecallsHolds b r → MayComeAt k s b → C
none-comes {J} {C} b r k (at.Took n) h x = shut J C b k (h.no_socket k) x.taking.opened
none-comes {J} {C} b r k at.Later h x = shut J C b k (h.no_socket k) x.opened
none-comes {J} {C} b r k at.Lost h x = shut J C b k (h.no_socket k) x.opened
none-comes {J} {C} b r k (at.Bytes bytes) h x = shut J C b k (h.no_socket k) x.0.opened
none-comes {J} {C} b r k s h x = shut J C b k (h.no_socket k) x.opened

blank : {J : Type 0} (b : Ledger J) (r : Bool) → IsBlank b → RecallsHolds b r
blank b r h = record { threads = ap (drop 1) h.no_thread; asked = h.none_asked; no_deadline = h.no_deadline; no_socket = h.no_socket; unused = h.unused }

stays : {J : Type 0} (now : ℕ) (s : RunSeen) (b : Ledger J) (r : Bool) → RecallsHolds b r → MayCome recalls_plan now s b r
    → Leaves recalls_plan RecallsHolds (waits_told s (waits_at_first r)) (recalls_turn now s (entered_as s b) r) (entered_as s b)
stays now (seen.Run k) b r h x = record {
  known = record { threads = ap (drop 1) h.threads; asked = refl; no_deadline = h.no_deadline; no_socket = h.no_socket; unused = h.unused };
  waits = refl;
  over = λ e. (record { no_thread = h.threads; no_deadline = h.no_deadline; no_socket = h.no_socket; none_asked = refl; unused = h.unused }, refl);
}
stays now seen.ClientGone b r h x = record {
  known = record { threads = h.threads; asked = h.asked; no_deadline = h.no_deadline; no_socket = h.no_socket; unused = h.unused };
  waits = refl;
  over = λ e. never e;
}
stays now (seen.Due n) b r h x = absurd (own-due now n x.0.at b.armed x.0.first (not-below n x.1) h.no_deadline)
stays now (seen.Sock k s) b r h x = none-comes b r k s h x.0
stays now (seen.Body content waited) b r h x = never x.1.0
stays now (seen.BodyRefused code) b r h x = never x.1.0
stays now seen.AllTaken b r h x = never x.1.0
stays now seen.NotYet b r h x = never x.1
stays now seen.ClientEnded b r h x = record {
  known = record { threads = h.threads; asked = h.asked; no_deadline = h.no_deadline; no_socket = h.no_socket; unused = h.unused };
  waits = refl;
  over = λ e. never e;
}

unanswered : {J C : Type 0} (b : Ledger J) (r : Bool) (x : Action J) (a : Answer) → RecallsHolds b r → answered (asking_if b.asked) a ≡ Some x → C
unanswered b r x a h e = none-some x (sym (ap (λ o. answered (asking_if o) a) h.asked) ∙ e)

falls : {J : Type 0} (now : ℕ) (s : RunSeen) (b : Ledger J) (r : Bool) → RecallsHolds b r → MayCome recalls_plan now s b r → is_of_client s ≡ true
    → (if (recalls_turn now s (entered_as s b) r).run then 1 else 0) < (if r then 1 else 0)
falls now seen.ClientGone b r h x e = one-falls r x.1
falls now (seen.Run k) b r h x e = never e
falls now (seen.Due n) b r h x e = never e
falls now (seen.Sock k s) b r h x e = never e
falls now (seen.Body content waited) b r h x e = never x.1.0
falls now (seen.BodyRefused code) b r h x e = never x.1.0
falls now seen.AllTaken b r h x e = never x.1.0
falls now seen.NotYet b r h x e = never x.1
falls now seen.ClientEnded b r h x e = never e

apart : {J : Type 0} (b c : Ledger J) (r : Bool) → AreAlike b c → RecallsHolds b r → RecallsHolds c r
apart b c r same h = record {
  threads = ap (drop 1) (sym same.threads) ∙ h.threads;
  asked = sym same.asked ∙ h.asked;
  no_deadline = sym same.armed ∙ h.no_deadline;
  no_socket = λ k. sym (same.opened k) ∙ h.no_socket k;
  unused = λ k low. let u = h.unused k (subst (λ (n : ℕ). n ≤ k) (sym same.count) low) in
      (sym (same.sent k) ∙ u.0, sym (same.taken k) ∙ u.1, sym (same.put_off k) ∙ u.2);
}

pub recalls-is-run : (J : Type 0) → IsRun {J = J} recalls_plan RecallsHolds
recalls-is-run J = record {
  begins = λ now head target b h. record { known = blank b true h; waits = refl; over = λ e. (h, refl) };
  begins_job = λ now premature job b h. rw h.no_thread (record {
    known = record { threads = refl; asked = h.none_asked; no_deadline = h.no_deadline; no_socket = h.no_socket; unused = h.unused };
    waits = refl;
    over = λ e. never e;
  });
  stays = λ now s b r h x. stays now s b r h x;
  answers = λ now x given b r h e. unanswered b r x given h e;
  falls = λ now s b r h x e. falls now s b r h x e;
  apart = λ b c r same h. apart b c r same h;
  asks = λ b r x h e. none-some x (sym h.asked ∙ e);
  job = λ now premature job b. (tt, refl);
  due = λ now n b r. (tt, refl);
  gone = λ now b r. (tt, refl);
  lost = λ now k b r h x. none-comes b r k at.Lost h x.0;
  again = λ now k b r h x. none-comes b r k at.Ready h x.0;
}

-- ---- two requests that ask the same

abbrev plan : Plan ℕ (Both Bool)
plan = connection_plan recalls_site

abbrev first : Fed → State ℕ (Both Bool)
first f = let st = state_of plan (began ∷ []) in (perform (turns.came_at recalls_site 1_000 stage.Head f st.inner) (entered (came []) st.ledger) st.inner).state

abbrev offered : State ℕ (Both Bool) → State ℕ (Both Bool)
offered st = (stepped plan 1_000 (Did (Offer place.Client)) st).state

abbrev next : ℕ → Fed → State ℕ (Both Bool) → State ℕ (Both Bool)
next n f st = let s = offered st in (perform (heard recalls_site 1_000 true (settle_for recalls_site 1_000 n) false f) (entered (took (1 ∷ [])) s.ledger) s.inner).state

module _ (bytes more rest : List ℕ) (b : ℕ) (h : Asks kind.Nothing false (codes "/a") bytes (b ∷ more)) (second : Asks kind.Nothing false (codes "/a") (b ∷ more) rest) where
  one-is : asked (request kind.Nothing false (codes "/a") h.headers) (to (codes "/a")) (b ∷ more) ≡ fed nothing bytes
  one-is = asked-is kind.Nothing false (codes "/a") bytes (b ∷ more) h

  two-is : asked (request kind.Nothing false (codes "/a") second.headers) (to (codes "/a")) rest ≡ fed (done (came_at (line.Present None kind.Nothing state.Whole) (b ∷ more))) []
  two-is = asked-is kind.Nothing false (codes "/a") (b ∷ more) rest second ∙ fed-head (b ∷ more) ∙ ap (λ (c : Came). fed c []) (done-whole (b ∷ more))

  pub one-byte : recalled (came bytes ∷ began ∷ []) ≡ 1 ∷ []
  one-byte = subst (λ (f : Fed). (first f).ledger.sent place.Client ≡ 1 ∷ []) one-is refl

  pub two-more : recalled (took (1 ∷ []) ∷ Did (Offer place.Client) ∷ came bytes ∷ began ∷ []) ≡ 1 ∷ 1 ∷ 1 ∷ []
  two-more =
      subst (λ (f : Fed). (stepped plan 1_000 (took (1 ∷ [])) (offered (first f))).state.ledger.sent place.Client ≡ 1 ∷ 1 ∷ 1 ∷ []) one-is
      (subst (λ (f : Fed). (next (suc (length more)) f (first (asked (request kind.Nothing false (codes "/a") h.headers) (to (codes "/a")) (b ∷ more)))).ledger.sent place.Client ≡ 1 ∷ 1 ∷ 1 ∷ []) two-is refl)
