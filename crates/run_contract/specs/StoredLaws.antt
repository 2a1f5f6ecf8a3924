-- That a run which answers with what a dictionary keeps meets the conditions of a run.
use Rattle.std.proofs.Common.{◌≡◌, ℕ, ◌≤◌, ◌<◌, Bool, true, false, ◌&&◌, List, [], ◌∷◌, drop, Option, Some, None}
use Rattle.std.proofs.Common.{refl, sym, ap, ◌∙◌, subst, arith, lit<}
use Rattle.std.specs.Prelude.{nat_lt, nat_le, if◌then◌else◌}
use Rattle.resty_base.specs.declared.dictionary.DictCall.TheVariants as dict
use Rattle.resty_base.specs.declared.dictionary.DictAnswer.{DictAnswer}
use Rattle.resty_base.specs.BoolLaws.{one-falls}
use Rattle.strand_contract.specs.declared.turns.Place.TheVariants as place
use Rattle.strand_contract.specs.declared.turns.Answer.{Answer}
use Rattle.strand_contract.specs.declared.turns.Answer.TheVariants as answer
use Rattle.strand_contract.specs.Actions.{Action, Did, Dict}
use Rattle.strand_contract.specs.Calls.{answered}
use Rattle.strand_contract.specs.Alone.{sooner, due}
use Rattle.strand_plans.specs.Questions.{Question, asking_if}
use Rattle.strand_plans.specs.Ledgers.{Ledger, has, entered}
use Rattle.strand_plans.specs.Turns.{IsDue}
use Rattle.run_contract.specs.declared.stored.Progress.{Progress}
use Rattle.run_contract.specs.declared.stored.Progress.TheVariants.{Queued, Asked, Replied}
use Rattle.run_contract.specs.declared.turns.RunSeen.{RunSeen}
use Rattle.run_contract.specs.declared.turns.RunSeen.TheVariants as seen
use Rattle.run_contract.specs.declared.turns.SockSeen.{SockSeen}
use Rattle.run_contract.specs.declared.turns.SockSeen.TheVariants as at
use Rattle.run_contract.specs.Runs.{waits_told, is_of_client}
use Rattle.run_contract.specs.Alike.{own_deadlines, AreAlike}
use Rattle.run_contract.specs.Conditions.{IsBlank, MayComeAt, MayCome, Leaves, Fits, entered_as, IsRun}
use Rattle.run_contract.specs.Stored.{Stored, stored_plan, StoredHolds, threads_at, asked_at}

never-over : {C : Type 0} → false ≡ true → C
never-over e = absurd (cc)

-- nothing comes at a socket where none is open
shut : (J : Type 0) (b : Ledger J) (k : ℕ) (C : Type 0) → has (place.Sock k) b.opened ≡ false → has (place.Sock k) b.opened ≡ true → C
shut J b k C h f = absurd (let e : false ≡ true = sym h ∙ f in cc)

pub none-comes : {J C : Type 0} (key : List ℕ) (b : Ledger J) (r : Stored) (k : ℕ) (s : SockSeen) → StoredHolds key b r → MayComeAt k s b → C
none-comes {J} {C} key b r k (at.Took n) h x = shut J b k C (h.no_socket k) x.taking.opened
none-comes {J} {C} key b r k at.Later h x = shut J b k C (h.no_socket k) x.opened
none-comes {J} {C} key b r k at.Lost h x = shut J b k C (h.no_socket k) x.opened
none-comes {J} {C} key b r k (at.Bytes bytes) h x = shut J b k C (h.no_socket k) x.0.opened
none-comes {J} {C} key b r k s h x = shut J b k C (h.no_socket k) x.opened

-- a deadline of its own that is due is armed
pub own-due : (now n at : ℕ) (ds : List (ℕ × ℕ)) → due now ds ≡ Some (n, at) → nat_lt n 2 ≡ false → own_deadlines ds ≡ [] → ⊥
own-due now n at [] e f h = cc
own-due now n at (d ∷ ds) e f h = by (λ x y. own-due now n at ds x f y) (due now ds) refl (nat_lt d.0 2) refl
  where
    rest : nat_lt d.0 2 ≡ true → own_deadlines ds ≡ []
    rest i = sym (ap (λ (c : Bool). if c then own_deadlines ds else d ∷ own_deadlines ds) i) ∙ h

    first : nat_lt d.0 2 ≡ true → d ≡ (n, at) → ⊥
    first g same = let x : true ≡ false = sym g ∙ ap (λ (k : ℕ × ℕ). nat_lt k.0 2) same ∙ f in cc

    at-none : nat_lt d.0 2 ≡ true → (c : Bool) → (if c then Some d else None) ≡ Some (n, at) → ⊥
    at-none i true x = first i (cc)
    at-none i false x = cc

    at-some : (due now ds ≡ Some (n, at) → own_deadlines ds ≡ [] → ⊥) → nat_lt d.0 2 ≡ true → (y : ℕ × ℕ) → due now ds ≡ Some y → (c : Bool)
        → (if c then Some d else Some y) ≡ Some (n, at) → ⊥
    at-some later i y g true x = first i (cc)
    at-some later i y g false x = later (g ∙ x) (rest i)

    by : (due now ds ≡ Some (n, at) → own_deadlines ds ≡ [] → ⊥) → (o : Option (ℕ × ℕ)) → due now ds ≡ o → (c : Bool) → nat_lt d.0 2 ≡ c → ⊥
    by later o g false i = let x : d ∷ own_deadlines ds ≡ [] = sym (ap (λ (c : Bool). if c then own_deadlines ds else d ∷ own_deadlines ds) i) ∙ h in cc
    by later None g true i = at-none i (nat_le d.1 now) (sym (ap (sooner now d) g) ∙ e)
    by later (Some y) g true i = at-some later i y g (nat_le d.1 now && nat_le d.1 y.1) (sym (ap (sooner now d) g) ∙ e)

pub not-below : (n : ℕ) → 2 ≤ n → nat_lt n 2 ≡ false
not-below n h = grind (arith, h)

pub none-due : {J C : Type 0} (key : List ℕ) (b : Ledger J) (r : Stored) (now n : ℕ) → StoredHolds key b r → IsDue now b n → 2 ≤ n → C
none-due key b r now n h x low = absurd (own-due now n x.at b.armed x.first (not-below n low) h.no_deadline)

-- ---- what it is told

-- a thread that runs is its own, before it asked
queued-runs : (k : ℕ) (rest line : List ℕ) (p : Progress) → line ≡ k ∷ rest → line ≡ threads_at p → p ≡ Queued
queued-runs k rest line Queued e h = refl
queued-runs k rest line Asked e h = absurd (let f : k ∷ rest ≡ [] = sym e ∙ h in cc)
queued-runs k rest line Replied e h = absurd (let f : k ∷ rest ≡ [] = sym e ∙ h in cc)

pub runs-once : {J : Type 0} (name key otherwise : List ℕ) (now k : ℕ) (b : Ledger J) (r : Stored) → StoredHolds key b r
    → MayCome (stored_plan name key otherwise) now (seen.Run k) b r → r.progress ≡ Queued
runs-once name key otherwise now k b r h x = queued-runs k x.0.0 b.threads r.progress (sym x.0.1) h.threads

-- else all that it is told is that its client ends or is gone
abbrev pub IsElse : RunSeen → Type 0
IsElse (seen.Run k) = ⊥
IsElse seen.ClientEnded = ⊥
IsElse seen.ClientGone = ⊥
IsElse s = Unit {0}

pub none-else : {J C : Type 0} (name key otherwise : List ℕ) (now : ℕ) (s : RunSeen) (b : Ledger J) (r : Stored) → StoredHolds key b r
    → MayCome (stored_plan name key otherwise) now s b r → IsElse s → C
none-else name key otherwise now (seen.Run k) b r h x e = absurd e
none-else name key otherwise now seen.ClientGone b r h x e = absurd e
none-else name key otherwise now (seen.Due n) b r h x e = none-due key b r now n h x.0 x.1
none-else name key otherwise now (seen.Sock k s) b r h x e = none-comes key b r k s h x.0
none-else name key otherwise now (seen.Body content waited) b r h x e = never-over x.1.0
none-else name key otherwise now (seen.BodyRefused code) b r h x e = never-over x.1.0
none-else name key otherwise now seen.AllTaken b r h x e = never-over x.1.0
none-else name key otherwise now seen.NotYet b r h x e = never-over x.1
none-else name key otherwise now seen.ClientEnded b r h x e = absurd e

-- the answer is one of the dictionary, after it asked
pub record IsAnswered {J : Type 0} (key : List ℕ) (r : Stored) (x : Action J) (a : Answer) : Type 0 where
  pub given : DictAnswer
  pub answer : a ≡ answer.Dict given
  pub action : x ≡ Dict 0 (dict.Get key) given
  pub asked : r.progress ≡ Asked

none-some : {A C : Type 0} (x : A) → None ≡ Some x → C
none-some x e = absurd (let g : None ≡ Some x = e in cc)

some-some : {A : Type 0} (x y : A) → Some x ≡ Some y → y ≡ x
some-some x y e = cc

answers-of : {J : Type 0} (key : List ℕ) (client : Bool) (x : Action J) (a : Answer) (p : Progress) → answered (asking_if (asked_at key p)) a ≡ Some x
    → IsAnswered key (record { progress = p; client = client }) x a
answers-of key client x (answer.Dict given) Asked e = record { given = given; answer = refl; action = some-some _ _ e; asked = refl }
answers-of key client x (answer.Took uses) Asked e = none-some x e
answers-of key client x (answer.Dialled done) Asked e = none-some x e
answers-of key client x answer.Kept Asked e = none-some x e
answers-of key client x (answer.Timer given) Asked e = none-some x e
answers-of key client x a Queued e = none-some x e
answers-of key client x a Replied e = none-some x e

pub is-answered : {J : Type 0} (key : List ℕ) (b : Ledger J) (r : Stored) (x : Action J) (a : Answer) → StoredHolds key b r
    → answered (asking_if b.asked) a ≡ Some x → IsAnswered key r x a
is-answered key b r x a h e = answers-of key r.client x a r.progress (sym (ap (λ o. answered (asking_if o) a) h.asked) ∙ e)

-- ---- the conditions

stays : {J : Type 0} (name key otherwise : List ℕ) (now : ℕ) (s : RunSeen) (b : Ledger J) (r : Stored) → StoredHolds key b r
    → MayCome (stored_plan name key otherwise) now s b r
    → Leaves (stored_plan name key otherwise) (StoredHolds key) (waits_told s ((stored_plan {J = J} name key otherwise).waits r))
    ((stored_plan name key otherwise).turn now s (entered_as s b) r) (entered_as s b)
stays name key otherwise now (seen.Run k) b r h x =
    let queued = runs-once name key otherwise now k b r h x in
    record {
      known = record {
        threads = ap (drop 1) (h.threads ∙ ap threads_at queued);
        asked = refl;
        no_deadline = h.no_deadline;
        no_socket = h.no_socket;
        unused = h.unused;
      };
      waits = refl;
      over = λ e. never-over e;
    }
stays name key otherwise now seen.ClientGone b r h x =
    record {
      known = record { threads = h.threads; asked = h.asked; no_deadline = h.no_deadline; no_socket = h.no_socket; unused = h.unused };
      waits = refl;
      over = λ e. never-over e;
    }
stays name key otherwise now seen.ClientEnded b r h x =
    record {
      known = record { threads = h.threads; asked = h.asked; no_deadline = h.no_deadline; no_socket = h.no_socket; unused = h.unused };
      waits = refl;
      over = λ e. never-over e;
    }
stays name key otherwise now seen.NotYet b r h x = none-else name key otherwise now seen.NotYet b r h x tt
stays name key otherwise now (seen.Due n) b r h x = none-else name key otherwise now (seen.Due n) b r h x tt
stays name key otherwise now (seen.Sock k s) b r h x = none-else name key otherwise now (seen.Sock k s) b r h x tt
stays name key otherwise now (seen.Body content waited) b r h x = none-else name key otherwise now (seen.Body content waited) b r h x tt
stays name key otherwise now (seen.BodyRefused code) b r h x = none-else name key otherwise now (seen.BodyRefused code) b r h x tt
stays name key otherwise now seen.AllTaken b r h x = none-else name key otherwise now seen.AllTaken b r h x tt

answers : {J : Type 0} (name key otherwise : List ℕ) (now : ℕ) (x : Action J) (a : Answer) (b : Ledger J) (r : Stored) → StoredHolds key b r
    → answered (asking_if b.asked) a ≡ Some x
    → Leaves (stored_plan name key otherwise) (StoredHolds key) ((stored_plan {J = J} name key otherwise).waits r)
    ((stored_plan name key otherwise).answered now x (entered (Did x) b) r) (entered (Did x) b)
answers {J} name key otherwise now x a b r h e =
    let w = is-answered key b r x a h e in
    let idle = h.threads ∙ ap threads_at w.asked in
    let leaves : Action J → Type 0 = λ x. Leaves (stored_plan name key otherwise) (StoredHolds key) ((stored_plan {J = J} name key otherwise).waits r)
    ((stored_plan name key otherwise).answered now x (entered (Did x) b) r) (entered (Did x) b) in
    subst leaves (sym w.action) (record {
      known = record { threads = idle; asked = refl; no_deadline = h.no_deadline; no_socket = h.no_socket; unused = h.unused };
      waits = refl;
      over = λ e. (record { no_thread = idle; no_deadline = h.no_deadline; no_socket = h.no_socket; unused = h.unused; none_asked = refl }, refl);
    })

apart : {J : Type 0} (key : List ℕ) (b c : Ledger J) (r : Stored) → AreAlike b c → StoredHolds key b r → StoredHolds key c r
apart key b c r same h = record {
  threads = sym same.threads ∙ h.threads;
  asked = sym same.asked ∙ h.asked;
  no_deadline = sym same.armed ∙ h.no_deadline;
  no_socket = λ k. sym (same.opened k) ∙ h.no_socket k;
  unused = λ k low. let u = h.unused k (subst (λ (n : ℕ). n ≤ k) (sym same.count) low) in
      (sym (same.sent k) ∙ u.0, sym (same.taken k) ∙ u.1, sym (same.put_off k) ∙ u.2);
}

begins : {J : Type 0} (key : List ℕ) (b : Ledger J) (client : Bool) → IsBlank b
    → StoredHolds key (record b { threads = 0 ∷ [] }) (record { progress = Queued; client = client })
begins key b client h = record { threads = refl; asked = h.none_asked; no_deadline = h.no_deadline; no_socket = h.no_socket; unused = h.unused }

fits : {J : Type 0} (name key otherwise : List ℕ) (p : Progress) (x : Question J) → asked_at key p ≡ Some x → Fits (stored_plan name key otherwise) x
fits name key otherwise Asked x e = subst (Fits (stored_plan name key otherwise)) (sym (some-some _ _ e)) (lit< tt, tt)
fits name key otherwise Queued x e = none-some x e
fits name key otherwise Replied x e = none-some x e

falls : {J : Type 0} (name key otherwise : List ℕ) (now : ℕ) (s : RunSeen) (b : Ledger J) (r : Stored) → StoredHolds key b r
    → MayCome (stored_plan name key otherwise) now s b r → is_of_client s ≡ true
    → let p = stored_plan {J = J} name key otherwise in let c = entered_as s b in
    p.tells_left (p.turn now s c r).run < p.tells_left r
falls name key otherwise now seen.ClientGone b r h x e = one-falls r.client x.1
falls name key otherwise now (seen.Run k) b r h x e = never-over e
falls name key otherwise now (seen.Due n) b r h x e = never-over e
falls name key otherwise now (seen.Sock k s) b r h x e = never-over e
falls name key otherwise now (seen.Body content waited) b r h x e = never-over x.1.0
falls name key otherwise now (seen.BodyRefused code) b r h x e = never-over x.1.0
falls name key otherwise now seen.AllTaken b r h x e = never-over x.1.0
falls name key otherwise now seen.NotYet b r h x e = never-over x.1
falls name key otherwise now seen.ClientEnded b r h x e = never-over e

pub stored-is-run : {J : Type 0} (name key otherwise : List ℕ) → IsRun {J = J} (stored_plan name key otherwise) (StoredHolds key)
stored-is-run name key otherwise = record {
  begins = λ now head target b h. rw h.no_thread (record { known = begins key b true h; waits = refl; over = λ e. never-over e });
  begins_job = λ now premature job b h. rw h.no_thread (record { known = begins key b false h; waits = refl; over = λ e. never-over e });
  stays = λ now s b r h x. stays name key otherwise now s b r h x;
  answers = λ now x given b r h e. answers name key otherwise now x given b r h e;
  falls = λ now s b r h x e. falls name key otherwise now s b r h x e;
  apart = λ b c r same h. apart key b c r same h;
  asks = λ b r x h e. fits name key otherwise r.progress x (sym h.asked ∙ e);
  job = λ now premature job b. (tt, refl);
  due = λ now n b r. (tt, refl);
  gone = λ now b r. (tt, refl);
  lost = λ now k b r h x. none-comes key b r k at.Lost h x.0;
  again = λ now k b r h x. none-comes key b r k at.Ready h x.0;
}
