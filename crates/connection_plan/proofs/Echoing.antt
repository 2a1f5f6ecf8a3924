-- The runs of the worked rows meet the contract of a run.
use Rattle.std.proofs.Common.{◌≡◌, ℕ, ◌≤◌, ◌<◌, Bool, true, false, List, [], ◌∷◌, drop, Some, None, refl, sym, ap, ◌∙◌, subst, lit<}
use Rattle.uri_args.specs.declared.targets.Target.{Target}
use Rattle.http_in.specs.declared.heads.Head.{Head}
use Rattle.strand_contract.specs.declared.turns.Place.TheVariants as place
use Rattle.strand_contract.specs.Alone.{IsPrefixOf}
use Rattle.strand_contract.specs.Calls.{answered}
use Rattle.strand_plans.specs.Questions.{asking_if}
use Rattle.strand_plans.specs.Ledgers.{Ledger, has}
use Rattle.run_contract.specs.declared.turns.RunSeen.{RunSeen}
use Rattle.run_contract.specs.declared.turns.RunSeen.TheVariants as seen
use Rattle.run_contract.specs.declared.turns.SockSeen.{SockSeen}
use Rattle.run_contract.specs.declared.turns.SockSeen.TheVariants as at
use Rattle.run_contract.specs.Runs.{waits_told, is_of_client, waits_at_first}
use Rattle.run_contract.specs.Alike.{AreAlike}
use Rattle.run_contract.specs.Conditions.{IsBlank, MayComeAt, MayCome, Leaves, entered_as, IsRun}
use Rattle.run_contract.specs.StoredLaws.{own-due, not-below}
use Rattle.connection_plan.specs.Examples.{Echo, Fresh, Asked, Reading, Replied, Left, echo_waits, echo_told, echo_begun, echo_turn, echo_plan, IsQueued, EchoHolds}

never : {C : Type 0} → false ≡ true → C
never e = absurd (cc)

none-some : {A C : Type 0} (x : A) → None ≡ Some x → C
none-some x e = absurd (let g : None ≡ Some x = e in cc)

shut : (J C : Type 0) (b : Ledger J) (k : ℕ) → has (place.Sock k) b.opened ≡ false → has (place.Sock k) b.opened ≡ true → C
shut J C b k h f = absurd (let e : false ≡ true = sym h ∙ f in cc)

none-comes : {J C : Type 0} (b : Ledger J) (r : Echo) (k : ℕ) (s : SockSeen) → EchoHolds b r → MayComeAt k s b → C
none-comes {J} {C} b r k (at.Took n) h x = shut J C b k (h.no_socket k) x.taking.opened
none-comes {J} {C} b r k at.Later h x = shut J C b k (h.no_socket k) x.opened
none-comes {J} {C} b r k at.Lost h x = shut J C b k (h.no_socket k) x.opened
none-comes {J} {C} b r k (at.Bytes bytes) h x = shut J C b k (h.no_socket k) x.0.opened
none-comes {J} {C} b r k s h x = shut J C b k (h.no_socket k) x.opened

none-runs : {C : Type 0} (k : ℕ) (threads : List ℕ) → threads ≡ [] → IsPrefixOf (k ∷ []) threads → C
none-runs k threads e p = absurd (let h : k ∷ p.0 ≡ [] = p.1 ∙ e in cc)

-- where nothing is queued the ledger is blank
blank : {J : Type 0} (b : Ledger J) (r : Echo) → b.threads ≡ [] → EchoHolds b r → IsBlank b
blank b r e h = record { no_thread = e; no_deadline = h.no_deadline; no_socket = h.no_socket; none_asked = h.asked; unused = h.unused }

-- and known, whatever the run is at
known : {J : Type 0} (b : Ledger J) (r : Echo) → IsQueued r b.threads → IsBlank b → EchoHolds b r
known b r e h = record { threads = e; asked = h.none_asked; no_deadline = h.no_deadline; no_socket = h.no_socket; unused = h.unused }

-- its client is gone: the thread is queued
leaves : {J : Type 0} (reads : Bool) (now : ℕ) (b : Ledger J) (r : Echo) → b.threads ≡ [] → EchoHolds b r
    → Leaves (echo_plan reads) EchoHolds (waits_at_first false) (echo_turn now seen.ClientGone b r) b
leaves reads now b r e h = rw e (record {
  known = record { threads = refl; asked = h.asked; no_deadline = h.no_deadline; no_socket = h.no_socket; unused = h.unused };
  waits = refl;
  over = λ o. never o;
})

stays : {J : Type 0} (reads : Bool) (now : ℕ) (s : RunSeen) (b : Ledger J) (r : Echo) → EchoHolds b r → MayCome (echo_plan reads) now s b r
    → Leaves (echo_plan reads) EchoHolds (waits_told s (echo_waits r)) (echo_turn now s (entered_as s b) r) (entered_as s b)
stays reads now (seen.Run k) b Left h x = record {
  known = record { threads = ap (drop 1) h.threads; asked = refl; no_deadline = h.no_deadline; no_socket = h.no_socket; unused = h.unused };
  waits = refl;
  over = λ e. (record { no_thread = h.threads; no_deadline = h.no_deadline; no_socket = h.no_socket; none_asked = refl; unused = h.unused }, refl);
}
stays reads now (seen.Run k) b Fresh h x = none-runs k b.threads h.threads x.0
stays reads now (seen.Run k) b (Reading keep) h x = none-runs k b.threads h.threads x.0
stays reads now (seen.Run k) b (Asked keep) h x = none-runs k b.threads h.threads x.0
stays reads now (seen.Run k) b Replied h x = none-runs k b.threads h.threads x.0
stays reads now seen.ClientGone b Fresh h x = leaves reads now b Fresh h.threads h
stays reads now seen.ClientGone b (Reading keep) h x = leaves reads now b (Reading keep) h.threads h
stays reads now seen.ClientGone b (Asked keep) h x = leaves reads now b (Asked keep) h.threads h
stays reads now seen.ClientGone b Replied h x = leaves reads now b Replied h.threads h
stays reads now seen.ClientGone b Left h x = never x.1
stays reads now (seen.Body content waited) b (Reading keep) h x = record {
  known = known b Replied h.threads (blank b (Reading keep) h.threads h);
  waits = refl;
  over = λ e. (blank b (Reading keep) h.threads h, refl);
}
stays reads now (seen.Body content waited) b (Asked keep) h x = record {
  known = known b Replied h.threads (blank b (Asked keep) h.threads h);
  waits = refl;
  over = λ e. (blank b (Asked keep) h.threads h, refl);
}
stays reads now (seen.Body content waited) b Fresh h x = never x.1.0
stays reads now (seen.Body content waited) b Replied h x = never x.1.0
stays reads now (seen.Body content waited) b Left h x = never x.1.0
stays reads now (seen.BodyRefused code) b (Reading keep) h x = record {
  known = known b Replied h.threads (blank b (Reading keep) h.threads h);
  waits = refl;
  over = λ e. (blank b (Reading keep) h.threads h, refl);
}
stays reads now (seen.BodyRefused code) b (Asked keep) h x = record {
  known = known b Replied h.threads (blank b (Asked keep) h.threads h);
  waits = refl;
  over = λ e. (blank b (Asked keep) h.threads h, refl);
}
stays reads now (seen.BodyRefused code) b Fresh h x = never x.1.0
stays reads now (seen.BodyRefused code) b Replied h x = never x.1.0
stays reads now (seen.BodyRefused code) b Left h x = never x.1.0
stays reads now (seen.Due n) b r h x = absurd (own-due now n x.0.at b.armed x.0.first (not-below n x.1) h.no_deadline)
stays reads now (seen.Sock k s) b r h x = none-comes b r k s h x.0
stays reads now seen.AllTaken b (Reading keep) h x = never x.1.0
stays reads now seen.AllTaken b Fresh h x = never x.1.0
stays reads now seen.AllTaken b Replied h x = never x.1.0
stays reads now seen.AllTaken b (Asked keep) h x = never x.1.0
stays reads now seen.AllTaken b Left h x = never x.1.0
stays reads now seen.NotYet b (Asked keep) h x = record { known = known b (Reading keep) h.threads (blank b (Asked keep) h.threads h); waits = refl; over = λ e. never e }
stays reads now seen.NotYet b (Reading keep) h x = never x.1
stays reads now seen.NotYet b Fresh h x = never x.1
stays reads now seen.NotYet b Replied h x = never x.1
stays reads now seen.NotYet b Left h x = never x.1
stays reads now seen.ClientEnded b (Asked keep) h x = none-some _ (sym x.0.within)
stays reads now seen.ClientEnded b (Reading keep) h x = record { known = h; waits = refl; over = λ e. never e }
stays reads now seen.ClientEnded b Fresh h x = record { known = h; waits = refl; over = λ e. never e }
stays reads now seen.ClientEnded b Replied h x = record { known = h; waits = refl; over = λ e. never e }
stays reads now seen.ClientEnded b Left h x = never x.1

falls : {J : Type 0} (reads : Bool) (now : ℕ) (s : RunSeen) (b : Ledger J) (r : Echo) → MayCome (echo_plan reads) now s b r → is_of_client s ≡ true
    → echo_told (echo_turn now s (entered_as s b) r).run < echo_told r
falls reads now seen.ClientGone b Fresh x e = lit< tt
falls reads now seen.ClientGone b (Reading keep) x e = lit< tt
falls reads now seen.ClientGone b Replied x e = lit< tt
falls reads now seen.ClientGone b Left x e = never x.1
falls reads now (seen.Body content waited) b (Reading keep) x e = lit< tt
falls reads now (seen.Body content waited) b (Asked keep) x e = lit< tt
falls reads now (seen.Body content waited) b Fresh x e = never x.1.0
falls reads now (seen.Body content waited) b Replied x e = never x.1.0
falls reads now (seen.Body content waited) b Left x e = never x.1.0
falls reads now (seen.BodyRefused code) b (Reading keep) x e = lit< tt
falls reads now (seen.BodyRefused code) b (Asked keep) x e = lit< tt
falls reads now (seen.BodyRefused code) b Fresh x e = never x.1.0
falls reads now (seen.BodyRefused code) b Replied x e = never x.1.0
falls reads now (seen.BodyRefused code) b Left x e = never x.1.0
falls reads now seen.AllTaken b (Reading keep) x e = never x.1.0
falls reads now seen.AllTaken b Fresh x e = never x.1.0
falls reads now seen.AllTaken b Replied x e = never x.1.0
falls reads now seen.AllTaken b (Asked keep) x e = never x.1.0
falls reads now seen.AllTaken b Left x e = never x.1.0
falls reads now seen.NotYet b (Asked keep) x e = lit< tt
falls reads now seen.NotYet b (Reading keep) x e = never x.1
falls reads now seen.NotYet b Fresh x e = never x.1
falls reads now seen.NotYet b Replied x e = never x.1
falls reads now seen.NotYet b Left x e = never x.1
falls reads now seen.ClientEnded b r x e = never e
falls reads now seen.ClientGone b (Asked keep) x e = lit< tt
falls reads now (seen.Run k) b r x e = never e
falls reads now (seen.Due n) b r x e = never e
falls reads now (seen.Sock k s) b r x e = never e

queued-apart : (r : Echo) (xs ys : List ℕ) → xs ≡ ys → IsQueued r xs → IsQueued r ys
queued-apart r xs ys e h = subst (λ (zs : List ℕ). IsQueued r zs) e h

apart : {J : Type 0} (b c : Ledger J) (r : Echo) → AreAlike b c → EchoHolds b r → EchoHolds c r
apart b c r same h = record {
  threads = queued-apart r b.threads c.threads same.threads h.threads;
  asked = sym same.asked ∙ h.asked;
  no_deadline = sym same.armed ∙ h.no_deadline;
  no_socket = λ k. sym (same.opened k) ∙ h.no_socket k;
  unused = λ k low. let u = h.unused k (subst (λ (n : ℕ). n ≤ k) (sym same.count) low) in
      (sym (same.sent k) ∙ u.0, sym (same.taken k) ∙ u.1, sym (same.put_off k) ∙ u.2);
}

begins : {J : Type 0} (reads : Bool) (head : Head) (target : Target) (b : Ledger J) → IsBlank b
    → Leaves (echo_plan reads) EchoHolds (waits_at_first true) (echo_begun reads head target) b
begins true head target b h = record { known = known b (Asked head.keep) h.no_thread h; waits = refl; over = λ e. never e }
begins false head target b h = record { known = known b Replied h.no_thread h; waits = refl; over = λ e. (h, refl) }

pub echo-is-run : (J : Type 0) (reads : Bool) → IsRun {J = J} (echo_plan reads) EchoHolds
echo-is-run J reads = record {
  begins = λ now head target b h. begins reads head target b h;
  begins_job = λ now premature job b h. rw h.no_thread (record {
    known = record { threads = refl; asked = h.none_asked; no_deadline = h.no_deadline; no_socket = h.no_socket; unused = h.unused };
    waits = refl;
    over = λ e. never e;
  });
  stays = λ now s b r h x. stays reads now s b r h x;
  answers = λ now x given b r h e. none-some x (sym (ap (λ o. answered (asking_if o) given) h.asked) ∙ e);
  falls = λ now s b r h x e. falls reads now s b r x e;
  apart = λ b c r same h. apart b c r same h;
  asks = λ b r x h e. none-some x (sym h.asked ∙ e);
  job = λ now premature job b. (tt, refl);
  due = λ now n b r. (tt, refl);
  gone = λ now b r. (tt, refl);
  lost = λ now k b r h x. none-comes b r k at.Lost h x.0;
  again = λ now k b r h x. none-comes b r k at.Ready h x.0;
}
