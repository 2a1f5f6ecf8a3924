-- What concerns only the client, or only the queue of offers, leaves the ledger as it is to a run.
use Rattle.std.proofs.Common.{◌≡◌, ℕ, ◌≤◌, nat_lt, ◌==◌, ◌&&◌, Bool, true, false, List, [], ◌∷◌, ◌++◌, Some, None, if◌then◌else◌, refl, sym, ap, ◌∙◌, subst, eqb-true}
use Rattle.resty_base.specs.declared.names.Ms.{Ms}
use Rattle.strand_contract.specs.declared.turns.Place.TheVariants as place
use Rattle.strand_contract.specs.Actions.{Action, LocalAction, Told, Did, Bytes, Ended, Broken, Ready, Put, Later, Lost, Close, Log, Dropped, Offer, Due, Gone}
use Rattle.strand_contract.specs.Alone.{disarmed}
use Rattle.strand_contract.specs.Laws.{is_still}
use Rattle.strand_plans.specs.Questions.{Question}
use Rattle.strand_plans.specs.Questions as question
use Rattle.strand_plans.specs.Ledgers.{Ledger, has, entered}
use Rattle.strand_plans.specs.Moves.{with_sent, with_offer, with_deadline, without_deadline, hung_up, asked_of}
use Rattle.strand_plans.proofs.Places.{has-without}
use Rattle.run_contract.specs.Alike.{own_deadlines, AreAlike}
use Rattle.run_contract.specs.Conditions.{IsBlank}

pub alike-refl : {J : Type 0} (b : Ledger J) → AreAlike b b
alike-refl b = record { threads = refl; armed = refl; put_off = λ k. refl; taken = λ k. refl; sent = λ k. refl; opened = λ k. refl; count = refl; asked = refl }

pub alike-trans : {J : Type 0} (b c d : Ledger J) → AreAlike b c → AreAlike c d → AreAlike b d
alike-trans b c d x y = record {
  threads = x.threads ∙ y.threads;
  armed = x.armed ∙ y.armed;
  put_off = λ k. x.put_off k ∙ y.put_off k;
  taken = λ k. x.taken k ∙ y.taken k;
  sent = λ k. x.sent k ∙ y.sent k;
  opened = λ k. x.opened k ∙ y.opened k;
  count = x.count ∙ y.count;
  asked = x.asked ∙ y.asked;
}

pub blank-alike : {J : Type 0} (b c : Ledger J) → AreAlike b c → IsBlank b → IsBlank c
blank-alike b c x h = record {
  no_thread = sym x.threads ∙ h.no_thread;
  no_deadline = sym x.armed ∙ h.no_deadline;
  no_socket = λ k. sym (x.opened k) ∙ h.no_socket k;
  none_asked = sym x.asked ∙ h.none_asked;
  unused = λ k low. let u = h.unused k (subst (λ (n : ℕ). n ≤ k) (sym x.count) low) in
      (sym (x.sent k) ∙ u.0, sym (x.taken k) ∙ u.1, sym (x.put_off k) ∙ u.2);
}

-- ---- what the connection's own moves change

unsent : (c : Bool) (xs bytes : List ℕ) → xs ≡ (if c && false then xs ++ bytes else xs)
unsent true xs bytes = refl
unsent false xs bytes = refl

pub sent-alike : {J : Type 0} (bytes : List ℕ) (b : Ledger J) → AreAlike b (with_offer place.Client (with_sent place.Client bytes b))
sent-alike bytes b = record {
  threads = refl;
  armed = refl;
  put_off = λ k. refl;
  taken = λ k. refl;
  sent = λ k. unsent (has place.Client b.opened) (b.sent (place.Sock k)) bytes;
  opened = λ k. refl;
  count = refl;
  asked = refl;
}

hidden : (d : ℕ × ℕ) (ds : List (ℕ × ℕ)) → nat_lt d.0 2 ≡ true → own_deadlines (d ∷ ds) ≡ own_deadlines ds
hidden d ds h = ap (λ (c : Bool). if c then own_deadlines ds else d ∷ own_deadlines ds) h

pub own-disarmed : (n : ℕ) (ds : List (ℕ × ℕ)) → nat_lt n 2 ≡ true → own_deadlines ds ≡ own_deadlines (disarmed n ds)
own-disarmed n [] h = refl
own-disarmed n (d ∷ ds) h = by (own-disarmed n ds h) (n == d.0) refl
  where
    by : own_deadlines ds ≡ own_deadlines (disarmed n ds) → (c : Bool) → (n == d.0) ≡ c → own_deadlines (d ∷ ds) ≡ own_deadlines (if c then ds else d ∷ disarmed n ds)
    by rest true e = hidden d ds (subst (λ (m : ℕ). nat_lt m 2 ≡ true) (eqb-true n d.0 e) h)
    by rest false e = ap (λ (es : List (ℕ × ℕ)). if nat_lt d.0 2 then es else d ∷ es) rest

own-added : (n at : ℕ) (ds : List (ℕ × ℕ)) → nat_lt n 2 ≡ true → own_deadlines ds ≡ own_deadlines (ds ++ (n, at) ∷ [])
own-added n at [] h = sym (hidden (n, at) [] h)
own-added n at (d ∷ ds) h = ap (λ (es : List (ℕ × ℕ)). if nat_lt d.0 2 then es else d ∷ es) (own-added n at ds h)

pub armed-alike : {J : Type 0} (n : ℕ) (at : Ms) (b : Ledger J) → nat_lt n 2 ≡ true → AreAlike b (with_deadline n at b)
armed-alike n at b h = record {
  threads = refl;
  armed = own-disarmed n b.armed h ∙ own-added n at.0 (disarmed n b.armed) h;
  put_off = λ k. refl;
  taken = λ k. refl;
  sent = λ k. refl;
  opened = λ k. refl;
  count = refl;
  asked = refl;
}

pub cancelled-alike : {J : Type 0} (n : ℕ) (b : Ledger J) → nat_lt n 2 ≡ true → AreAlike b (without_deadline n b)
cancelled-alike n b h = record {
  threads = refl;
  armed = own-disarmed n b.armed h;
  put_off = λ k. refl;
  taken = λ k. refl;
  sent = λ k. refl;
  opened = λ k. refl;
  count = refl;
  asked = refl;
}

pub hung-up-alike : {J : Type 0} (b : Ledger J) → AreAlike b (hung_up place.Client b)
hung-up-alike b = record {
  threads = refl;
  armed = refl;
  put_off = λ k. refl;
  taken = λ k. refl;
  sent = λ k. refl;
  opened = λ k. sym (has-without (place.Sock k) place.Client b.opened);
  count = refl;
  asked = refl;
}

-- and so does what is entered of the client

pub still-alike : {J : Type 0} (a : LocalAction J) (b : Ledger J) → is_still a ≡ true → AreAlike b (entered a b)
still-alike (Told w) b h = record { threads = refl; armed = refl; put_off = λ k. refl; taken = λ k. refl; sent = λ k. refl; opened = λ k. refl; count = refl; asked = refl }
still-alike (Did (Close q)) b h = record { threads = refl; armed = refl; put_off = λ k. refl; taken = λ k. refl; sent = λ k. refl; opened = λ k. refl; count = refl; asked = refl }
still-alike (Did (Log line done)) b h = record { threads = refl; armed = refl; put_off = λ k. refl; taken = λ k. refl; sent = λ k. refl; opened = λ k. refl; count = refl; asked = refl }
still-alike (Did (Offer q)) b h = record { threads = refl; armed = refl; put_off = λ k. refl; taken = λ k. refl; sent = λ k. refl; opened = λ k. refl; count = refl; asked = refl }
still-alike (Did Gone) b h = record { threads = refl; armed = refl; put_off = λ k. refl; taken = λ k. refl; sent = λ k. refl; opened = λ k. refl; count = refl; asked = refl }
still-alike (Did Dropped) b h = record { threads = refl; armed = refl; put_off = λ k. refl; taken = λ k. refl; sent = λ k. refl; opened = λ k. refl; count = refl; asked = refl }
still-alike a b h = absurd (let e : false ≡ true = h in cc)

-- what comes at the client's place
abbrev pub AtClient : {J : Type 0} → Action J → Type 0
AtClient (Bytes place.Client bytes) = Unit {0}
AtClient (Ended place.Client) = Unit {0}
AtClient (Broken place.Client) = Unit {0}
AtClient (Ready place.Client) = Unit {0}
AtClient (Put place.Client bytes) = Unit {0}
AtClient (Later place.Client) = Unit {0}
AtClient (Lost place.Client) = Unit {0}
AtClient x = ⊥

pub client-alike : {J : Type 0} (x : Action J) (b : Ledger J) → AtClient x → b.asked ≡ None → AreAlike b (entered (Did x) b)
client-alike (Bytes place.Client bytes) b h n = record { threads = refl; armed = refl; put_off = λ k. refl; taken = λ k. refl; sent = λ k. refl; opened = λ k. refl; count = refl; asked = n }
client-alike (Ended place.Client) b h n = record { threads = refl; armed = refl; put_off = λ k. refl; taken = λ k. refl; sent = λ k. refl; opened = λ k. refl; count = refl; asked = n }
client-alike (Broken place.Client) b h n = record { threads = refl; armed = refl; put_off = λ k. refl; taken = λ k. refl; sent = λ k. refl; opened = λ k. refl; count = refl; asked = n }
client-alike (Ready place.Client) b h n = record { threads = refl; armed = refl; put_off = λ k. refl; taken = λ k. refl; sent = λ k. refl; opened = λ k. refl; count = refl; asked = n }
client-alike (Put place.Client bytes) b h n = record { threads = refl; armed = refl; put_off = λ k. refl; taken = λ k. refl; sent = λ k. refl; opened = λ k. refl; count = refl; asked = n }
client-alike (Later place.Client) b h n = record { threads = refl; armed = refl; put_off = λ k. refl; taken = λ k. refl; sent = λ k. refl; opened = λ k. refl; count = refl; asked = n }
client-alike (Lost place.Client) b h n = record { threads = refl; armed = refl; put_off = λ k. refl; taken = λ k. refl; sent = λ k. refl; opened = λ k. refl; count = refl; asked = n }
client-alike x b h n = absurd h

-- a timer of the connection runs out
pub due-alike : {J : Type 0} (n : ℕ) (b : Ledger J) → nat_lt n 2 ≡ true → b.asked ≡ None → AreAlike b (entered (Did (Due n)) b)
due-alike n b h none = record { threads = refl; armed = own-disarmed n b.armed h; put_off = λ k. refl; taken = λ k. refl; sent = λ k. refl; opened = λ k. refl; count = refl; asked = none }

-- ---- a question is the same in alike ledgers

asked-same : {J : Type 0} (x : Question J) (b c : Ledger J) → AreAlike b c → asked_of x b ≡ asked_of x c
asked-same {J} (question.Keep k key idle size) b c h =
    let x : Question J = question.Keep k key idle size in ap (λ (o : Bool). if o then Some x else None) (h.opened k)
asked-same (question.Dict zone call) b c h = refl
asked-same (question.Take key) b c h = refl
asked-same (question.Dial host port) b c h = refl
asked-same (question.Timer at job) b c h = refl

abbrev pub asking : {J : Type 0} → Question J → Ledger J → Ledger J
asking x b = record b { asked = asked_of x b }

pub asking-alike : {J : Type 0} (x : Question J) (b c : Ledger J) → AreAlike b c → AreAlike (asking x b) (asking x c)
asking-alike x b c h = record {
  threads = h.threads;
  armed = h.armed;
  put_off = h.put_off;
  taken = h.taken;
  sent = h.sent;
  opened = h.opened;
  count = h.count;
  asked = asked-same x b c h;
}

-- where nothing is asked it is as before
pub unasked-alike : {J : Type 0} (x : Question J) (b : Ledger J) → asked_of x b ≡ None → b.asked ≡ None → AreAlike (asking x b) b
unasked-alike x b e none = record {
  threads = refl;
  armed = refl;
  put_off = λ k. refl;
  taken = λ k. refl;
  sent = λ k. refl;
  opened = λ k. refl;
  count = refl;
  asked = e ∙ sym none;
}
