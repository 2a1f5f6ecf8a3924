-- What deeds of a run leave as it was, since they have no name for it: the client's place, what was sent to it and taken, its offer, and deadlines 0 and 1.
use Rattle.std.proofs.Common.{◌≡◌, ℕ, suc, ◌<◌, ◌≤◌, Bool, true, false, ◌||◌, ◌==◌, List, [], ◌∷◌, ◌++◌, if◌then◌else◌, refl, sym, ap, ◌∙◌, eqb-true, arith}
use Rattle.resty_base.specs.declared.names.Ms.{Ms}
use Rattle.strand_contract.specs.declared.turns.Place.{Place}
use Rattle.strand_contract.specs.declared.turns.Place.TheVariants as place
use Rattle.strand_contract.specs.Actions.{same_place}
use Rattle.strand_contract.specs.Alone.{disarmed}
use Rattle.strand_plans.specs.Ledgers.{Ledger, has, has_number, numbers, wants_offer}
use Rattle.strand_plans.specs.Moves.{added_if, sends, with_sent, with_offer, with_thread, without_thread, with_deadline, without_deadline, hung_up}
use Rattle.strand_plans.proofs.Places.{has-without, has-append}
use Rattle.run_contract.specs.Deeds as deed
use Rattle.run_contract.specs.Deeds.{Deed, ledger_by, ledger_after}

pub record LeavesClient {J : Type 0} (b c : Ledger J) : Type 0 where
  pub opened : has place.Client c.opened ≡ has place.Client b.opened
  pub sent : c.sent place.Client ≡ b.sent place.Client
  pub taken : c.taken ≡ b.taken
  pub put_off : c.put_off ≡ b.put_off
  pub places : has place.Client c.places ≡ has place.Client b.places
  pub begun : c.begun ≡ b.begun
  pub armed : (n : ℕ) → n < 2 → has_number n (numbers c.armed) ≡ has_number n (numbers b.armed)
  pub count : c.count ≡ b.count
  pub ended : c.ended ≡ b.ended

leaves-all : {J : Type 0} (b : Ledger J) → LeavesClient b b
leaves-all b = record { opened = refl; sent = refl; taken = refl; put_off = refl; places = refl; begun = refl; armed = λ n low. refl; count = refl; ended = refl }

and-then : {J : Type 0} (b c d : Ledger J) → LeavesClient b c → LeavesClient c d → LeavesClient b d
and-then b c d x y = record {
  opened = y.opened ∙ x.opened;
  sent = y.sent ∙ x.sent;
  taken = y.taken ∙ x.taken;
  put_off = y.put_off ∙ x.put_off;
  places = y.places ∙ x.places;
  begun = y.begun ∙ x.begun;
  armed = λ n low. y.armed n low ∙ x.armed n low;
  count = y.count ∙ x.count;
  ended = y.ended ∙ x.ended;
}

-- ---- one deadline apart from another

apart : (n k : ℕ) → n < 2 → 2 ≤ k → (n == k) ≡ false
apart n k low high = by (n == k) refl
  where
    by : (c : Bool) → (n == k) ≡ c → c ≡ false
    by true e = absurd (let f : n ≡ k = eqb-true n k e in omega (arith, f, low, high))
    by false e = refl

none-or : (c d : Bool) → c ≡ false → d ≡ (c || d)
none-or true d h = absurd (let e : true ≡ false = h in cc)
none-or false d h = refl

disarmed-apart : (n k : ℕ) → n < 2 → 2 ≤ k → (ds : List (ℕ × ℕ)) → has_number n (numbers (disarmed k ds)) ≡ has_number n (numbers ds)
disarmed-apart n k low high [] = refl
disarmed-apart n k low high (d ∷ ds) = by (disarmed-apart n k low high ds) (k == d.0) refl
  where
    by : has_number n (numbers (disarmed k ds)) ≡ has_number n (numbers ds) → (c : Bool) → (k == d.0) ≡ c
        → has_number n (numbers (if c then ds else d ∷ disarmed k ds)) ≡ ((n == d.0) || has_number n (numbers ds))
    by rest true e = none-or (n == d.0) (has_number n (numbers ds)) (apart n d.0 low (let f : k ≡ d.0 = eqb-true k d.0 e in omega (arith, f, high)))
    by rest false e = ap (λ (x : Bool). (n == d.0) || x) rest

armed-apart : (n k at : ℕ) → n < 2 → 2 ≤ k → (ds : List (ℕ × ℕ)) → has_number n (numbers (ds ++ (k, at) ∷ [])) ≡ has_number n (numbers ds)
armed-apart n k at low high [] = sym (none-or (n == k) false (apart n k low high))
armed-apart n k at low high (d ∷ ds) = ap (λ (x : Bool). (n == d.0) || x) (armed-apart n k at low high ds)

-- ---- each move

arm-leaves : {J : Type 0} (k : ℕ) (at : Ms) (b : Ledger J) → 2 ≤ k → LeavesClient b (with_deadline k at b)
arm-leaves k at b high = record {
  opened = refl;
  sent = refl;
  taken = refl;
  put_off = refl;
  places = refl;
  begun = refl;
  armed = λ n low. armed-apart n k at.0 low high (disarmed k b.armed) ∙ disarmed-apart n k low high b.armed;
  count = refl;
  ended = refl;
}

cancel-leaves : {J : Type 0} (k : ℕ) (b : Ledger J) → 2 ≤ k → LeavesClient b (without_deadline k b)
cancel-leaves k b high =
    record { opened = refl; sent = refl; taken = refl; put_off = refl; places = refl; begun = refl; armed = λ n low. disarmed-apart n k low high b.armed; count = refl; ended = refl }

hang-leaves : {J : Type 0} (k : ℕ) (b : Ledger J) → LeavesClient b (hung_up (place.Sock k) b)
hang-leaves k b =
    record { opened = has-without place.Client (place.Sock k) b.opened; sent = refl; taken = refl; put_off = refl; places = refl; begun = refl; armed = λ n low. refl; count = refl; ended = refl }

not-added : (c : Bool) (k : ℕ) (qs : List Place) → has place.Client (added_if c (place.Sock k) qs) ≡ has place.Client qs
not-added true k qs = has-append place.Client (place.Sock k) qs
not-added false k qs = by qs
  where
    by : (qs : List Place) → has place.Client (qs ++ []) ≡ has place.Client qs
    by [] = refl
    by (q ∷ qs) = ap (λ (x : Bool). same_place place.Client q || x) (by qs)

not-sent : (c : Bool) (k : ℕ) (bytes : List ℕ) (sent : Place → List ℕ) → sends c (place.Sock k) bytes sent place.Client ≡ sent place.Client
not-sent true k bytes sent = refl
not-sent false k bytes sent = refl

send-leaves : {J : Type 0} (k : ℕ) (bytes : List ℕ) (b : Ledger J) → LeavesClient b (with_offer (place.Sock k) (with_sent (place.Sock k) bytes b))
send-leaves k bytes b = record {
  opened = refl;
  sent = not-sent (has (place.Sock k) b.opened) k bytes b.sent;
  taken = refl;
  put_off = refl;
  places = not-added (wants_offer (place.Sock k) (with_sent (place.Sock k) bytes b)) k b.places;
  begun = refl;
  armed = λ n low. refl;
  count = refl;
  ended = refl;
}

same-client : {J : Type 0} (b : Ledger J) (threads : List ℕ) → LeavesClient b (record b { threads = threads })
same-client b threads = record { opened = refl; sent = refl; taken = refl; put_off = refl; places = refl; begun = refl; armed = λ n low. refl; count = refl; ended = refl }

own : (k : ℕ) → 2 ≤ suc (suc k)
own k = omega arith

pub deed-leaves-client : {J : Type 0} (d : Deed) (b : Ledger J) → LeavesClient b (ledger_by d b)
deed-leaves-client (deed.Ready k) b = same-client b (with_thread k b).threads
deed-leaves-client (deed.Unready k) b = same-client b (without_thread k b).threads
deed-leaves-client (deed.Send k bytes) b = send-leaves k bytes b
deed-leaves-client (deed.Arm k at) b = arm-leaves (suc (suc k)) at b (own k)
deed-leaves-client (deed.Cancel k) b = cancel-leaves (suc (suc k)) b (own k)
deed-leaves-client (deed.HangUp k) b = hang-leaves k b
deed-leaves-client (deed.Log line) b = leaves-all b
deed-leaves-client (deed.Say w) b = leaves-all b

pub deeds-leave-client : {J : Type 0} (ds : List Deed) (b : Ledger J) → LeavesClient b (ledger_after ds b)
deeds-leave-client [] b = leaves-all b
deeds-leave-client (d ∷ ds) b = let c = ledger_by d b in and-then b c _ (deed-leaves-client d b) (deeds-leave-client ds c)
