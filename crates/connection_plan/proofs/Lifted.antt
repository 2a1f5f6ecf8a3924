-- Deeds of a run among the words of its connection: no act of the run depends on what a word changes.
use Rattle.std.proofs.Common.{◌≡◌, ℕ, suc, ◌==◌, ◌||◌, ◌&&◌, not, Bool, true, false, List, [], ◌∷◌, ◌++◌, drop, if◌then◌else◌, refl, sym, ap, ◌∙◌, subst, eqb-true, append-nil, arith}
use Rattle.std.specs.Prelude.{nat_lt}
use Rattle.strand_contract.specs.declared.turns.Place.{Place}
use Rattle.strand_contract.specs.declared.turns.Place.TheVariants as place
use Rattle.strand_contract.specs.Actions.{same_place}
use Rattle.strand_contract.specs.declared.turns.Act.TheVariants as act
use Rattle.strand_contract.specs.Alone.{is_some_left, without, without_place, disarmed}
use Rattle.strand_plans.specs.Ledgers.{Ledger, has, has_number, is_place, wants_offer}
use Rattle.strand_plans.specs.Moves.{Move, added_if, with_sent, with_offer}
use Rattle.strand_plans.specs.Conditions.{OnlyWakes}
use Rattle.strand_plans.proofs.Places.{has-without, has-append}
use Rattle.run_contract.specs.Alike.{AreAlike, own_deadlines}
use Rattle.run_contract.specs.Deeds.{Deed, Ready, Unready, Arm, Cancel, HangUp, Send, Log, Say, ledger_by, made_if, made_by}
use Rattle.run_contract.specs.Deeds as deeds
use Rattle.run_contract.specs.declared.turns.Said.{Said}
use Rattle.connection_plan.specs.Services.{Both}
use Rattle.connection_plan.specs.Lifts.{lifted}
use Rattle.connection_plan.proofs.Alike.{alike-refl, alike-trans}

-- ledgers that are alike, in which also the same sockets are in the offer queue and under offer
pub record SameRun {J : Type 0} (b c : Ledger J) : Type 0 where
  pub alike : AreAlike b c
  pub places : (k : ℕ) → has (place.Sock k) b.places ≡ has (place.Sock k) c.places
  pub begun : (k : ℕ) → is_place (place.Sock k) b.begun ≡ is_place (place.Sock k) c.begun

pub same-run-refl : {J : Type 0} (b : Ledger J) → SameRun b b
same-run-refl b = record { alike = alike-refl b; places = λ k. refl; begun = λ k. refl }

pub same-run-trans : {J : Type 0} (b c d : Ledger J) → SameRun b c → SameRun c d → SameRun b d
same-run-trans b c d x y = record { alike = alike-trans b c d x.alike y.alike; places = λ k. x.places k ∙ y.places k; begun = λ k. x.begun k ∙ y.begun k }

-- ---- the deadlines of a run among all

high : (k : ℕ) → nat_lt (suc (suc k)) 2 ≡ false
high k = grind arith

own-append : (ds es : List (ℕ × ℕ)) → own_deadlines (ds ++ es) ≡ own_deadlines ds ++ own_deadlines es
own-append [] es = refl
own-append (d ∷ ds) es = by (own-append ds es) (nat_lt d.0 2)
  where
    by : own_deadlines (ds ++ es) ≡ own_deadlines ds ++ own_deadlines es → (c : Bool) → (if c then own_deadlines (ds ++ es) else d ∷ own_deadlines (ds ++ es)) ≡ (if c then own_deadlines ds else d ∷ own_deadlines ds) ++ own_deadlines es
    by rest true = rest
    by rest false = ap (λ (xs : List (ℕ × ℕ)). d ∷ xs) rest

-- to cancel one of a run's cancels it among those
own-taken-out : (n : ℕ) → nat_lt n 2 ≡ false → (ds : List (ℕ × ℕ)) → own_deadlines (disarmed n ds) ≡ disarmed n (own_deadlines ds)
own-taken-out n h [] = refl
own-taken-out n h (d ∷ ds) = by (own-taken-out n h ds) (n == d.0) refl (nat_lt d.0 2) refl
  where
    by : own_deadlines (disarmed n ds) ≡ disarmed n (own_deadlines ds) → (c : Bool) → (n == d.0) ≡ c → (l : Bool) → nat_lt d.0 2 ≡ l
        → own_deadlines (if c then ds else d ∷ disarmed n ds) ≡ disarmed n (if l then own_deadlines ds else d ∷ own_deadlines ds)
    by rest true e true f = absurd (let x : true ≡ false = sym f ∙ subst (λ (m : ℕ). nat_lt m 2 ≡ false) (eqb-true n d.0 e) h in cc)
    by rest true e false f = sym (ap (λ (c : Bool). if c then own_deadlines ds else d ∷ disarmed n (own_deadlines ds)) e)
    by rest false e true f = ap (λ (c : Bool). if c then own_deadlines (disarmed n ds) else d ∷ own_deadlines (disarmed n ds)) f ∙ rest
    by rest false e false f =
        ap (λ (c : Bool). if c then own_deadlines (disarmed n ds) else d ∷ own_deadlines (disarmed n ds)) f
        ∙ ap (λ (xs : List (ℕ × ℕ)). d ∷ xs) rest
        ∙ sym (ap (λ (c : Bool). if c then own_deadlines ds else d ∷ disarmed n (own_deadlines ds)) e)

own-cancels : (k : ℕ) (ds es : List (ℕ × ℕ)) → own_deadlines ds ≡ own_deadlines es → own_deadlines (disarmed (suc (suc k)) ds) ≡ own_deadlines (disarmed (suc (suc k)) es)
own-cancels k ds es h = own-taken-out (suc (suc k)) (high k) ds ∙ ap (disarmed (suc (suc k))) h ∙ sym (own-taken-out (suc (suc k)) (high k) es)

own-arms : (k at : ℕ) (ds es : List (ℕ × ℕ)) → own_deadlines ds ≡ own_deadlines es
    → own_deadlines (disarmed (suc (suc k)) ds ++ (suc (suc k), at) ∷ []) ≡ own_deadlines (disarmed (suc (suc k)) es ++ (suc (suc k), at) ∷ [])
own-arms k at ds es h =
    let one : List (ℕ × ℕ) = (suc (suc k), at) ∷ [] in
    own-append (disarmed (suc (suc k)) ds) one ∙ ap (λ (xs : List (ℕ × ℕ)). xs ++ own_deadlines one) (own-cancels k ds es h)
    ∙ sym (own-append (disarmed (suc (suc k)) es) one)

-- ---- a deed in two such ledgers

has-added : (c d : Bool) (k j : ℕ) (ps qs : List Place) → c ≡ d → has (place.Sock j) ps ≡ has (place.Sock j) qs
    → has (place.Sock j) (added_if c (place.Sock k) ps) ≡ has (place.Sock j) (added_if d (place.Sock k) qs)
has-added c d k j ps qs e h = by c d e
  where
    by : (c d : Bool) → c ≡ d → has (place.Sock j) (added_if c (place.Sock k) ps) ≡ has (place.Sock j) (added_if d (place.Sock k) qs)
    by true true e =
        has-append (place.Sock j) (place.Sock k) ps ∙ ap (λ (x : Bool). same_place (place.Sock j) (place.Sock k) || x) h ∙ sym (has-append (place.Sock j) (place.Sock k) qs)
    by false false e = ap (has (place.Sock j)) (append-nil ps) ∙ h ∙ sym (ap (has (place.Sock j)) (append-nil qs))
    by true false e = absurd (cc)
    by false true e = absurd (cc)

wants-same : {J : Type 0} (k : ℕ) (b c : Ledger J) → SameRun b c → wants_offer (place.Sock k) b ≡ wants_offer (place.Sock k) c
wants-same k b c x =
    let f : Bool → ℕ → List ℕ → Bool → Bool → Bool → Bool = λ o n s p q r. o && is_some_left (drop n s) && not (p || (q || r)) in
    ap (λ (o : Bool). f o (b.taken (place.Sock k)) (b.sent (place.Sock k)) (b.put_off (place.Sock k)) (has (place.Sock k) b.places) (is_place (place.Sock k) b.begun)) (x.alike.opened k)
    ∙ ap (λ (n : ℕ). f (has (place.Sock k) c.opened) n (b.sent (place.Sock k)) (b.put_off (place.Sock k)) (has (place.Sock k) b.places) (is_place (place.Sock k) b.begun)) (x.alike.taken k)
    ∙ ap (λ (s : List ℕ). f (has (place.Sock k) c.opened) (c.taken (place.Sock k)) s (b.put_off (place.Sock k)) (has (place.Sock k) b.places) (is_place (place.Sock k) b.begun)) (x.alike.sent k)
    ∙ ap (λ (p : Bool). f (has (place.Sock k) c.opened) (c.taken (place.Sock k)) (c.sent (place.Sock k)) p (has (place.Sock k) b.places) (is_place (place.Sock k) b.begun)) (x.alike.put_off k)
    ∙ ap (λ (q : Bool). f (has (place.Sock k) c.opened) (c.taken (place.Sock k)) (c.sent (place.Sock k)) (c.put_off (place.Sock k)) q (is_place (place.Sock k) b.begun)) (x.places k)
    ∙ ap (λ (r : Bool). f (has (place.Sock k) c.opened) (c.taken (place.Sock k)) (c.sent (place.Sock k)) (c.put_off (place.Sock k)) (has (place.Sock k) c.places) r) (x.begun k)

sent-same : {J : Type 0} (k : ℕ) (bytes : List ℕ) (b c : Ledger J) → SameRun b c → SameRun (with_sent (place.Sock k) bytes b) (with_sent (place.Sock k) bytes c)
sent-same k bytes b c x = record {
  alike = record {
    threads = x.alike.threads;
    armed = x.alike.armed;
    put_off = x.alike.put_off;
    taken = x.alike.taken;
    sent = λ j. ap (λ (o : Bool). if o && same_place (place.Sock j) (place.Sock k) then b.sent (place.Sock j) ++ bytes else b.sent (place.Sock j)) (x.alike.opened k)
        ∙ ap (λ (s : List ℕ). if has (place.Sock k) c.opened && same_place (place.Sock j) (place.Sock k) then s ++ bytes else s) (x.alike.sent j);
    opened = x.alike.opened;
    count = x.alike.count;
    asked = x.alike.asked;
  };
  places = x.places;
  begun = x.begun;
}

offered-same : {J : Type 0} (k : ℕ) (b c : Ledger J) → SameRun b c → SameRun (with_offer (place.Sock k) b) (with_offer (place.Sock k) c)
offered-same k b c x = record {
  alike = record { threads = x.alike.threads; armed = x.alike.armed; put_off = x.alike.put_off; taken = x.alike.taken; sent = x.alike.sent; opened = x.alike.opened; count = x.alike.count; asked = x.alike.asked };
  places = λ j. has-added (wants_offer (place.Sock k) b) (wants_offer (place.Sock k) c) k j b.places c.places (wants-same k b c x) (x.places j);
  begun = x.begun;
}

shut-same : (k j : ℕ) (ps qs : List Place) → has (place.Sock j) ps ≡ has (place.Sock j) qs
    → has (place.Sock j) (without_place (place.Sock k) ps) ≡ has (place.Sock j) (without_place (place.Sock k) qs)
shut-same k j ps qs h =
    has-without (place.Sock j) (place.Sock k) ps ∙ ap (λ (x : Bool). if same_place (place.Sock j) (place.Sock k) then false else x) h
    ∙ sym (has-without (place.Sock j) (place.Sock k) qs)

pub deed-same : {J : Type 0} (d : Deed) (b c : Ledger J) → SameRun b c → SameRun (ledger_by d b) (ledger_by d c)
deed-same (Ready k) b c x = record {
  alike = record {
    threads = ap (λ (ts : List ℕ). added_if (not (has_number k ts)) k ts) x.alike.threads;
    armed = x.alike.armed;
    put_off = x.alike.put_off;
    taken = x.alike.taken;
    sent = x.alike.sent;
    opened = x.alike.opened;
    count = x.alike.count;
    asked = x.alike.asked;
  };
  places = x.places;
  begun = x.begun;
}
deed-same (Unready k) b c x = record {
  alike = record {
    threads = ap (without k) x.alike.threads;
    armed = x.alike.armed;
    put_off = x.alike.put_off;
    taken = x.alike.taken;
    sent = x.alike.sent;
    opened = x.alike.opened;
    count = x.alike.count;
    asked = x.alike.asked;
  };
  places = x.places;
  begun = x.begun;
}
deed-same (Arm k at) b c x = record {
  alike = record {
    armed = own-arms k at.0 b.armed c.armed x.alike.armed;
    threads = x.alike.threads;
    put_off = x.alike.put_off;
    taken = x.alike.taken;
    sent = x.alike.sent;
    opened = x.alike.opened;
    count = x.alike.count;
    asked = x.alike.asked;
  };
  places = x.places;
  begun = x.begun;
}
deed-same (Cancel k) b c x = record {
  alike = record {
    armed = own-cancels k b.armed c.armed x.alike.armed;
    threads = x.alike.threads;
    put_off = x.alike.put_off;
    taken = x.alike.taken;
    sent = x.alike.sent;
    opened = x.alike.opened;
    count = x.alike.count;
    asked = x.alike.asked;
  };
  places = x.places;
  begun = x.begun;
}
deed-same (HangUp k) b c x = record {
  alike = record {
    opened = λ j. shut-same k j b.opened c.opened (x.alike.opened j);
    armed = x.alike.armed;
    threads = x.alike.threads;
    put_off = x.alike.put_off;
    taken = x.alike.taken;
    sent = x.alike.sent;
    count = x.alike.count;
    asked = x.alike.asked;
  };
  places = x.places;
  begun = x.begun;
}
deed-same (Send k bytes) b c x = offered-same k (with_sent (place.Sock k) bytes b) (with_sent (place.Sock k) bytes c) (sent-same k bytes b c x)
deed-same (Log line) b c x = x
deed-same (Say w) b c x = x

-- it is the same act in both
pub made-same : {J : Type 0} (d : Deed) (b c : Ledger J) → SameRun b c → made_by d b ≡ made_by d c
made-same (Ready k) b c x = ap (λ (ts : List ℕ). made_if (not (has_number k ts)) (act.Ready k)) x.alike.threads
made-same (HangUp k) b c x = ap (λ (o : Bool). made_if o (act.HangUp (place.Sock k))) (x.alike.opened k)
made-same (Send k bytes) b c x =
    ap (λ (o : Bool). made_if o (act.Offer (place.Sock k))) (wants-same k (with_sent (place.Sock k) bytes b) (with_sent (place.Sock k) bytes c) (sent-same k bytes b c x))
made-same (Unready k) b c x = refl
made-same (Arm k at) b c x = refl
made-same (Cancel k) b c x = refl
made-same (Log line) b c x = refl
made-same (Say w) b c x = refl

-- ---- deeds that only wake

pub lifted-wakes : {J R : Type 0} (says : Said → Move J (Both R) → Move J (Both R)) (ds : List Deed) (m : Move J (Both R)) → deeds.OnlyWakes ds → OnlyWakes m → OnlyWakes (lifted says ds m)
lifted-wakes says [] m h k = k
lifted-wakes says (Ready n ∷ ds) m h k = lifted-wakes says ds m h k
lifted-wakes says (Unready n ∷ ds) m h k = lifted-wakes says ds m h k
lifted-wakes says (Cancel n ∷ ds) m h k = lifted-wakes says ds m h k
lifted-wakes says (Arm n at ∷ ds) m h k = absurd h
lifted-wakes says (HangUp n ∷ ds) m h k = absurd h
lifted-wakes says (Send n bytes ∷ ds) m h k = absurd h
lifted-wakes says (Log line ∷ ds) m h k = absurd h
lifted-wakes says (Say w ∷ ds) m h k = absurd h
