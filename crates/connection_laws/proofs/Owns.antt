-- Ledgers that are the same in what is a run's own stay so: through what concerns only the client, and through what is entered in both.
use Rattle.std.specs.Prelude.{Option}
use Rattle.resty_base.specs.declared.names.Ms.{Ms}
use Rattle.resty_base.specs.declared.dictionary.DictCall.{DictCall}
use Rattle.resty_base.specs.declared.dictionary.DictAnswer.{DictAnswer}
use Rattle.resty_world.specs.declared.answers.TimerAnswer.{TimerAnswer}
use Rattle.std.proofs.Common.{◌≡◌, ◌⊎◌, inl, inr, ℕ, ◌+◌, ◌≤◌, nat_lt, ◌==◌, ◌||◌, Bool, true, false, List, [], ◌∷◌, ◌++◌, take, drop, length, Some, None, if◌then◌else◌, refl, sym, ap, ◌∙◌, subst, eqb-true, arith}
use Rattle.strand_contract.specs.declared.turns.Place.TheVariants as place
use Rattle.strand_contract.specs.Actions.{Did, Bytes, Ended, Broken, Ready, Put, Later, Lost, Dialled, Refused, Run, Due, Dict, Take, Dial, Keep, Timer}
use Rattle.strand_contract.specs.Alone.{disarmed}
use Rattle.strand_plans.specs.Ledgers.{Ledger, has, left_at, entered}
use Rattle.strand_plans.specs.Questions.{Question}
use Rattle.strand_plans.proofs.Places.{has-without, has-append}
use Rattle.run_contract.specs.Alike.{own_deadlines, AreAlike}
use Rattle.run_contract.specs.Conditions.{IsBlank}
use Rattle.connection_laws.specs.Own.{IsLive, SameAt, SameOwn}
use Rattle.connection_laws.specs.Alone.{own_ledger}

pub own-disarms : (n : ℕ) (ds : List (ℕ × ℕ)) → nat_lt n 2 ≡ false → own_deadlines (disarmed n ds) ≡ disarmed n (own_deadlines ds)
own-disarms n [] h = refl
own-disarms n (d ∷ ds) h = by (own-disarms n ds h) (n == d.0) (nat_lt d.0 2) refl refl
  where
    by : own_deadlines (disarmed n ds) ≡ disarmed n (own_deadlines ds) → (e l : Bool) → (n == d.0) ≡ e → nat_lt d.0 2 ≡ l
        → own_deadlines (if e then ds else d ∷ disarmed n ds) ≡ disarmed n (if l then own_deadlines ds else d ∷ own_deadlines ds)
    by rest true true e l = absurd (let f : false ≡ true = sym h ∙ ap (λ m. nat_lt m 2) (eqb-true n d.0 e) ∙ l in cc)
    by rest true false e l = sym (ap (λ (x : Bool). if x then own_deadlines ds else d ∷ disarmed n (own_deadlines ds)) e)
    by rest false true e l = ap (λ (x : Bool). if x then own_deadlines (disarmed n ds) else d ∷ own_deadlines (disarmed n ds)) l ∙ rest
    by rest false false e l =
        ap (λ (x : Bool). if x then own_deadlines (disarmed n ds) else d ∷ own_deadlines (disarmed n ds)) l ∙ ap (λ xs. d ∷ xs) rest
        ∙ sym (ap (λ (x : Bool). if x then own_deadlines ds else d ∷ disarmed n (own_deadlines ds)) e)

pub still-open : (x y : Bool) → (if x then false else y) ≡ true → y ≡ true
still-open true y h = absurd (let e : false ≡ true = h in cc)
still-open false y h = h

module _ {J : Type 0} where
  live-alike : (b d : Ledger J) (k : ℕ) → AreAlike b d → IsLive k d → IsLive k b
  live-alike b d k x l = elim l [
    | inl o ↦ inl (x.opened k ∙ o)
    | inr f ↦ inr (subst (λ (n : ℕ). n ≤ k) (sym x.count) f)
  ]

  pub same-alike : (b d c : Ledger J) → AreAlike b d → SameOwn b c → SameOwn d c
  same-alike b d c x h = record {
    threads = sym x.threads ∙ h.threads;
    armed = sym x.armed ∙ h.armed;
    count = sym x.count ∙ h.count;
    opened = λ k. sym (x.opened k) ∙ h.opened k;
    sockets = λ k l. let e = h.sockets k (live-alike b d k x l) in
        record { sent = sym (x.sent k) ∙ e.sent; taken = sym (x.taken k) ∙ e.taken; put_off = sym (x.put_off k) ∙ e.put_off };
  }

  -- what is asked isn't compared
  pub same-asking : (o : Option (Question J)) (b c : Ledger J) → SameOwn b c → SameOwn (record b { asked = o }) c
  same-asking o b c h = record {
    threads = h.threads;
    armed = h.armed;
    count = h.count;
    opened = h.opened;
    sockets = λ k l. let e = h.sockets k l in record { sent = e.sent; taken = e.taken; put_off = e.put_off };
  }

  -- nothing is left in a blank ledger but the number of its sockets
  pub blank-same : (b : Ledger J) → IsBlank b → SameOwn b (own_ledger b.count)
  blank-same b h = record {
    threads = h.no_thread;
    armed = h.no_deadline;
    count = refl;
    opened = h.no_socket;
    sockets = λ k l. by k l;
  }
    where
      by : (k : ℕ) → IsLive k b → SameAt (place.Sock k) b (own_ledger b.count)
      by k l = elim l [
        | inl o ↦ absurd (let e : false ≡ true = sym (h.no_socket k) ∙ o in cc)
        | inr f ↦ let u = h.unused k f in record { sent = u.0; taken = u.1; put_off = u.2 }
      ]

  -- ---- what is entered in both

  pub run-same : (k : ℕ) (b c : Ledger J) → SameOwn b c → SameOwn (entered (Did (Run k)) b) (entered (Did (Run k)) c)
  run-same k b c h = record {
    threads = ap (drop 1) h.threads;
    armed = h.armed;
    count = h.count;
    opened = h.opened;
    sockets = λ k l. let e = h.sockets k l in record { sent = e.sent; taken = e.taken; put_off = e.put_off };
  }

  pub due-same : (n : ℕ) (b c : Ledger J) → nat_lt n 2 ≡ false → SameOwn b c → SameOwn (entered (Did (Due n)) b) (entered (Did (Due n)) c)
  due-same n b c low h = record {
    threads = h.threads;
    armed = own-disarms n b.armed low ∙ ap (disarmed n) h.armed ∙ sym (own-disarms n c.armed low);
    count = h.count;
    opened = h.opened;
    sockets = λ k l. let e = h.sockets k l in record { sent = e.sent; taken = e.taken; put_off = e.put_off };
  }

  pub bytes-same : (j : ℕ) (bytes : List ℕ) (b c : Ledger J) → SameOwn b c → SameOwn (entered (Did (Bytes (place.Sock j) bytes)) b) (entered (Did (Bytes (place.Sock j) bytes)) c)
  bytes-same j bytes b c h = record { threads = h.threads; armed = h.armed; count = h.count; opened = h.opened; sockets = λ k l. let e = h.sockets k l in record { sent = e.sent; taken = e.taken; put_off = e.put_off } }

  pub ended-same : (j : ℕ) (b c : Ledger J) → SameOwn b c → SameOwn (entered (Did (Ended (place.Sock j))) b) (entered (Did (Ended (place.Sock j))) c)
  ended-same j b c h = record { threads = h.threads; armed = h.armed; count = h.count; opened = h.opened; sockets = λ k l. let e = h.sockets k l in record { sent = e.sent; taken = e.taken; put_off = e.put_off } }

  pub broken-same : (j : ℕ) (b c : Ledger J) → SameOwn b c → SameOwn (entered (Did (Broken (place.Sock j))) b) (entered (Did (Broken (place.Sock j))) c)
  broken-same j b c h = record { threads = h.threads; armed = h.armed; count = h.count; opened = h.opened; sockets = λ k l. let e = h.sockets k l in record { sent = e.sent; taken = e.taken; put_off = e.put_off } }

  pub dialled-same : (j : ℕ) (b c : Ledger J) → SameOwn b c → SameOwn (entered (Did (Dialled j)) b) (entered (Did (Dialled j)) c)
  dialled-same j b c h = record { threads = h.threads; armed = h.armed; count = h.count; opened = h.opened; sockets = λ k l. let e = h.sockets k l in record { sent = e.sent; taken = e.taken; put_off = e.put_off } }

  pub refused-same : (j : ℕ) (b c : Ledger J) → SameOwn b c → SameOwn (entered (Did (Refused j)) b) (entered (Did (Refused j)) c)
  refused-same j b c h = record { threads = h.threads; armed = h.armed; count = h.count; opened = h.opened; sockets = λ k l. let e = h.sockets k l in record { sent = e.sent; taken = e.taken; put_off = e.put_off } }

  pub ready-same : (j : ℕ) (b c : Ledger J) → SameOwn b c → SameOwn (entered (Did (Ready (place.Sock j))) b) (entered (Did (Ready (place.Sock j))) c)
  ready-same j b c h = record {
    threads = h.threads;
    armed = h.armed;
    count = h.count;
    opened = h.opened;
    sockets = λ k l. let e = h.sockets k l in
        record { sent = e.sent; taken = e.taken; put_off = ap (λ (x : Bool). if k == j then false else x) e.put_off };
  }

  pub later-same : (j : ℕ) (b c : Ledger J) → SameOwn b c → SameOwn (entered (Did (Later (place.Sock j))) b) (entered (Did (Later (place.Sock j))) c)
  later-same j b c h = record {
    threads = h.threads;
    armed = h.armed;
    count = h.count;
    opened = h.opened;
    sockets = λ k l. let e = h.sockets k l in
        record { sent = e.sent; taken = e.taken; put_off = ap (λ (x : Bool). if k == j then true else x) e.put_off };
  }

  pub lost-same : (j : ℕ) (b c : Ledger J) → SameOwn b c → SameOwn (entered (Did (Lost (place.Sock j))) b) (entered (Did (Lost (place.Sock j))) c)
  lost-same j b c h = record {
    threads = h.threads;
    armed = h.armed;
    count = h.count;
    opened = h.opened;
    sockets = λ k l. let e = h.sockets k l in
        record { sent = e.sent; taken = e.taken; put_off = ap (λ (x : Bool). if k == j then false else x) e.put_off };
  }

  -- so many bytes of what is left were taken
  pub took-same : (j n : ℕ) (b c : Ledger J) → SameOwn b c
      → SameOwn (entered (Did (Put (place.Sock j) (take n (left_at (place.Sock j) b)))) b) (entered (Did (Put (place.Sock j) (take n (left_at (place.Sock j) c)))) c)
  took-same j n b c h = record {
    threads = h.threads;
    armed = h.armed;
    count = h.count;
    opened = h.opened;
    sockets = λ k l. let e = h.sockets k l in
        record { sent = e.sent; taken = by k e (k == j) refl; put_off = ap (λ (x : Bool). if k == j then false else x) e.put_off };
  }
    where
      by : (k : ℕ) → SameAt (place.Sock k) b c → (x : Bool) → (k == j) ≡ x
          → (if x then b.taken (place.Sock k) + length (take n (left_at (place.Sock j) b)) else b.taken (place.Sock k))
          ≡ (if x then c.taken (place.Sock k) + length (take n (left_at (place.Sock j) c)) else c.taken (place.Sock k))
      by k e false x = e.taken
      by k e true x =
          subst (λ (i : ℕ). (b.taken (place.Sock k) + length (take n (left_at (place.Sock i) b))) ≡ (c.taken (place.Sock k) + length (take n (left_at (place.Sock i) c)))) (eqb-true k j x)
          (ap (λ (m : ℕ). m + length (take n (drop m (b.sent (place.Sock k))))) e.taken ∙ ap (λ (xs : List ℕ). c.taken (place.Sock k) + length (take n (drop (c.taken (place.Sock k)) xs))) e.sent)

  -- ---- the answer to what was asked

  opens-same : (b c : Ledger J) (k : ℕ) → SameOwn b c → has (place.Sock k) (b.opened ++ place.Sock b.count ∷ []) ≡ has (place.Sock k) (c.opened ++ place.Sock c.count ∷ [])
  opens-same b c k h =
      has-append (place.Sock k) (place.Sock b.count) b.opened
      ∙ ap (λ (n : ℕ). (k == n) || has (place.Sock k) b.opened) h.count ∙ ap (λ (x : Bool). (k == c.count) || x) (h.opened k)
      ∙ sym (has-append (place.Sock k) (place.Sock c.count) c.opened)

  was-live : (b : Ledger J) (k : ℕ) → (has (place.Sock k) (b.opened ++ place.Sock b.count ∷ []) ≡ true) ⊎ (b.count + 1 ≤ k) → IsLive k b
  was-live b k l = elim l [
    | inl o ↦ by (k == b.count) refl (sym (has-append (place.Sock k) (place.Sock b.count) b.opened) ∙ o)
    | inr f ↦ inr (omega (arith, f))
  ]
    where
      by : (x : Bool) → (k == b.count) ≡ x → (x || has (place.Sock k) b.opened) ≡ true → IsLive k b
      by true x o = let e : k ≡ b.count = eqb-true k b.count x in inr (omega (arith, e))
      by false x o = inl o

  pub dial-same : (host : List ℕ) (port : ℕ) (done : Bool) (b c : Ledger J) → SameOwn b c → SameOwn (entered (Did (Dial host port done)) b) (entered (Did (Dial host port done)) c)
  dial-same host port true b c h = record {
    threads = h.threads;
    armed = h.armed;
    count = ap (λ (n : ℕ). n + 1) h.count;
    opened = λ k. opens-same b c k h;
    sockets = λ k l.
        let e = h.sockets k (was-live b k l) in record { sent = e.sent; taken = e.taken; put_off = e.put_off };
  }
  dial-same host port false b c h = record { threads = h.threads; armed = h.armed; count = h.count; opened = h.opened; sockets = λ k l. let e = h.sockets k l in record { sent = e.sent; taken = e.taken; put_off = e.put_off } }

  pub take-same : (key : List ℕ) (uses : Option ℕ) (b c : Ledger J) → SameOwn b c → SameOwn (entered (Did (Take key uses)) b) (entered (Did (Take key uses)) c)
  take-same key (Some uses) b c h = record {
    threads = h.threads;
    armed = h.armed;
    count = ap (λ (n : ℕ). n + 1) h.count;
    opened = λ k. opens-same b c k h;
    sockets = λ k l.
        let e = h.sockets k (was-live b k l) in record { sent = e.sent; taken = e.taken; put_off = e.put_off };
  }
  take-same key None b c h = record { threads = h.threads; armed = h.armed; count = h.count; opened = h.opened; sockets = λ k l. let e = h.sockets k l in record { sent = e.sent; taken = e.taken; put_off = e.put_off } }

  pub keep-same : (j : ℕ) (key : List ℕ) (idle : Ms) (size : ℕ) (b c : Ledger J) → SameOwn b c
      → SameOwn (entered (Did (Keep j key idle size)) b) (entered (Did (Keep j key idle size)) c)
  keep-same j key idle size b c h = record {
    threads = h.threads;
    armed = h.armed;
    count = h.count;
    opened = λ k. has-without (place.Sock k) (place.Sock j) b.opened ∙ ap (λ (x : Bool). if k == j then false else x) (h.opened k) ∙ sym (has-without (place.Sock k) (place.Sock j) c.opened);
    sockets = λ k l. let e = h.sockets k (kept k l) in record { sent = e.sent; taken = e.taken; put_off = e.put_off };
  }
    where
      kept : (k : ℕ) → IsLive k (entered (Did (Keep j key idle size)) b) → IsLive k b
      kept k l = elim l [
        | inl o ↦ inl (still-open (k == j) (has (place.Sock k) b.opened) (sym (has-without (place.Sock k) (place.Sock j) b.opened) ∙ o))
        | inr f ↦ inr f
      ]

  pub dict-same : (zone : ℕ) (call : DictCall) (given : DictAnswer) (b c : Ledger J) → SameOwn b c → SameOwn (entered (Did (Dict zone call given)) b) (entered (Did (Dict zone call given)) c)
  dict-same zone call given b c h = record { threads = h.threads; armed = h.armed; count = h.count; opened = h.opened; sockets = λ k l. let e = h.sockets k l in record { sent = e.sent; taken = e.taken; put_off = e.put_off } }

  pub timer-same : (at : Ms) (given : TimerAnswer) (b c : Ledger J) → SameOwn b c → SameOwn (entered (Did (Timer at given)) b) (entered (Did (Timer at given)) c)
  timer-same at given b c h = record { threads = h.threads; armed = h.armed; count = h.count; opened = h.opened; sockets = λ k l. let e = h.sockets k l in record { sent = e.sent; taken = e.taken; put_off = e.put_off } }
