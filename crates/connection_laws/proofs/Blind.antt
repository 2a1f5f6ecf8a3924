-- A turn that is the same for all ledgers leaves the same of what is a run's own; so a run that takes only such turns minds its own.
use Rattle.std.proofs.Common.{◌≡◌, inl, inr, ℕ, suc, ◌≤◌, nat_lt, ◌==◌, ◌&&◌, Bool, true, false, List, [], ◌∷◌, ◌++◌, Some, None, if◌then◌else◌, refl, sym, ap, ◌∙◌, subst, append_assoc, arith}
use Rattle.std.specs.Prelude.{Option, not}
use Rattle.resty_base.specs.declared.names.Ms.{Ms}
use Rattle.http_in.specs.declared.framing.BodyKind.TheVariants as kind
use Rattle.strand_contract.specs.declared.turns.Place.{Place}
use Rattle.strand_contract.specs.declared.turns.Place.TheVariants as place
use Rattle.strand_contract.specs.declared.turns.Act.TheVariants as act
use Rattle.strand_contract.specs.Actions.{Action, Dict, same_place}
use Rattle.strand_contract.specs.Alone.{disarmed, without}
use Rattle.strand_plans.specs.Questions.{Question, asking_if}
use Rattle.strand_plans.specs.Questions as question
use Rattle.strand_plans.specs.Ledgers.{Ledger, has, has_number, wants_offer, empty_ledger}
use Rattle.strand_plans.specs.Moves.{added_if, with_sent, with_offer, with_thread, without_thread, with_deadline, without_deadline, hung_up, asked_of}
use Rattle.strand_plans.proofs.Places.{has-without}
use Rattle.run_contract.specs.declared.turns.RunSeen.{RunSeen}
use Rattle.run_contract.specs.declared.turns.RunSeen.TheVariants as seen
use Rattle.run_contract.specs.declared.turns.RunAct.{RunAct}
use Rattle.run_contract.specs.declared.turns.RunAct.TheVariants as made
use Rattle.run_contract.specs.declared.turns.Said.TheVariants as said
use Rattle.run_contract.specs.Deeds as deed
use Rattle.run_contract.specs.Deeds.{Deed, Turn, Asks, Nothing, Outside, Within, ledger_by, ledger_after, ledger_asking, made_if, made_by, made_after, made_asking, acts_made, taken}
use Rattle.run_contract.specs.Runs.{RunPlan}
use Rattle.run_contract.specs.Alike.{own_deadlines}
use Rattle.run_contract.specs.StoredLaws.{not-below}
use Rattle.run_contract.specs.Stored.{Stored, stored_plan, stored_turn, stored_answered}
use Rattle.connection_plan.specs.Examples.{Echo, Asked, Reading, echo_plan, echo_turn, request, to}
use Rattle.connection_plan.specs.Recalls.{recalls_plan}
use Rattle.connection_laws.specs.Own.{IsLive, SameOwn, SameTurn, MindsItsOwn, but_offers}
use Rattle.connection_laws.specs.Examples.{NeverLooks, tells_in_a_line, tells_in_a_question}
use Rattle.connection_laws.proofs.Owns.{own-disarms, still-open}

own-armed : (n at : ℕ) (ds : List (ℕ × ℕ)) → nat_lt n 2 ≡ false → own_deadlines (ds ++ (n, at) ∷ []) ≡ own_deadlines ds ++ (n, at) ∷ []
own-armed n at [] h = ap (λ (x : Bool). if x then [] else (n, at) ∷ []) h
own-armed n at (d ∷ ds) h = by (own-armed n at ds h) (nat_lt d.0 2)
  where
    by : own_deadlines (ds ++ (n, at) ∷ []) ≡ own_deadlines ds ++ (n, at) ∷ [] → (x : Bool)
        → (if x then own_deadlines (ds ++ (n, at) ∷ []) else d ∷ own_deadlines (ds ++ (n, at) ∷ [])) ≡ (if x then own_deadlines ds else d ∷ own_deadlines ds) ++ (n, at) ∷ []
    by rest true = rest
    by rest false = ap (λ xs. d ∷ xs) rest

module _ {J : Type 0} (b c : Ledger J) (h : SameOwn b c) where
  -- with other threads, deadlines and questions, where the run's own are the same
  others-both : (ks js : List ℕ) (ds es : List (ℕ × ℕ)) (o p : Option (Question J)) → ks ≡ js → own_deadlines ds ≡ own_deadlines es
      → SameOwn (record b { threads = ks; armed = ds; asked = o }) (record c { threads = js; armed = es; asked = p })
  others-both ks js ds es o p threads armed = record {
    threads = threads;
    armed = armed;
    count = h.count;
    opened = h.opened;
    sockets = λ j l. let e = h.sockets j l in record { sent = e.sent; taken = e.taken; put_off = e.put_off };
  }

  ready-both : (k : ℕ) → SameOwn (with_thread k b) (with_thread k c)
  ready-both k = others-both _ _ b.armed c.armed b.asked c.asked (ap (λ (ts : List ℕ). added_if (not (has_number k ts)) k ts) h.threads) h.armed

  unready-both : (k : ℕ) → SameOwn (without_thread k b) (without_thread k c)
  unready-both k = others-both _ _ b.armed c.armed b.asked c.asked (ap (without k) h.threads) h.armed

  arm-both : (n : ℕ) (at : Ms) → 2 ≤ n → SameOwn (with_deadline n at b) (with_deadline n at c)
  arm-both n at low =
      let high = not-below n low in
      let own : (ds : List (ℕ × ℕ)) → own_deadlines (disarmed n ds ++ (n, at.0) ∷ []) ≡ disarmed n (own_deadlines ds) ++ (n, at.0) ∷ [] =
      λ ds. own-armed n at.0 (disarmed n ds) high ∙ ap (λ (xs : List (ℕ × ℕ)). xs ++ (n, at.0) ∷ []) (own-disarms n ds high) in
      others-both b.threads c.threads _ _ b.asked c.asked h.threads (own b.armed ∙ ap (λ (xs : List (ℕ × ℕ)). disarmed n xs ++ (n, at.0) ∷ []) h.armed ∙ sym (own c.armed))

  cancel-both : (n : ℕ) → 2 ≤ n → SameOwn (without_deadline n b) (without_deadline n c)
  cancel-both n low =
      let high = not-below n low in
      others-both b.threads c.threads _ _ b.asked c.asked h.threads (own-disarms n b.armed high ∙ ap (disarmed n) h.armed ∙ sym (own-disarms n c.armed high))

  ask-both : (o p : Option (Question J)) → SameOwn (record b { asked = o }) (record c { asked = p })
  ask-both o p = others-both b.threads c.threads b.armed c.armed o p h.threads h.armed

  hang-both : (n : ℕ) → SameOwn (hung_up (place.Sock n) b) (hung_up (place.Sock n) c)
  hang-both n = record {
    threads = h.threads;
    armed = h.armed;
    count = h.count;
    opened = λ j. has-without (place.Sock j) (place.Sock n) b.opened ∙ ap (λ (x : Bool). if j == n then false else x) (h.opened j) ∙ sym (has-without (place.Sock j) (place.Sock n) c.opened);
    sockets = λ j l. let e = h.sockets j (kept j l) in record { sent = e.sent; taken = e.taken; put_off = e.put_off };
  }
    where
      kept : (j : ℕ) → IsLive j (hung_up (place.Sock n) b) → IsLive j b
      kept j l = elim l [
        | inl o ↦ inl (still-open (j == n) (has (place.Sock j) b.opened) (sym (has-without (place.Sock j) (place.Sock n) b.opened) ∙ o))
        | inr f ↦ inr f
      ]

  send-both : (n : ℕ) (bytes : List ℕ) → SameOwn (with_offer (place.Sock n) (with_sent (place.Sock n) bytes b)) (with_offer (place.Sock n) (with_sent (place.Sock n) bytes c))
  send-both n bytes = record {
    threads = h.threads;
    armed = h.armed;
    count = h.count;
    opened = h.opened;
    sockets = λ j l. let e = h.sockets j l in record {
      sent = ap (λ (x : Bool). if x && (j == n) then b.sent (place.Sock j) ++ bytes else b.sent (place.Sock j)) (h.opened n)
          ∙ ap (λ (xs : List ℕ). if has (place.Sock n) c.opened && (j == n) then xs ++ bytes else xs) e.sent;
      taken = e.taken;
      put_off = e.put_off;
    };
  }

high : (k : ℕ) → 2 ≤ suc (suc k)
high k = omega arith

module _ {J : Type 0} where
  pub deed-both : (d : Deed) (b c : Ledger J) → SameOwn b c → SameOwn (ledger_by d b) (ledger_by d c)
  deed-both (deed.Ready k) b c h = ready-both b c h k
  deed-both (deed.Unready k) b c h = unready-both b c h k
  deed-both (deed.Arm k at) b c h = arm-both b c h (suc (suc k)) at (high k)
  deed-both (deed.Cancel k) b c h = cancel-both b c h (suc (suc k)) (high k)
  deed-both (deed.HangUp k) b c h = hang-both b c h k
  deed-both (deed.Send k bytes) b c h = send-both b c h k bytes
  deed-both (deed.Log line) b c h = h
  deed-both (deed.Say w) b c h = h

  deeds-both : (ds : List Deed) (b c : Ledger J) → SameOwn b c → SameOwn (ledger_after ds b) (ledger_after ds c)
  deeds-both [] b c h = h
  deeds-both (d ∷ ds) b c h = deeds-both ds (ledger_by d b) (ledger_by d c) (deed-both d b c h)

  -- what is made known, but the offers

  no-offer : (x y : Bool) (q : Place) (xs ys : List (RunAct J)) → but_offers xs ≡ but_offers ys → but_offers (made_if x (act.Offer q) ++ xs) ≡ but_offers (made_if y (act.Offer q) ++ ys)
  no-offer true true q xs ys e = e
  no-offer true false q xs ys e = e
  no-offer false true q xs ys e = e
  no-offer false false q xs ys e = e

  one-made : (d : Deed) (b c : Ledger J) (xs ys : List (RunAct J)) → SameOwn b c → but_offers xs ≡ but_offers ys → but_offers (made_by d b ++ xs) ≡ but_offers (made_by d c ++ ys)
  one-made (deed.Ready k) b c xs ys h e =
      same (not (has_number k b.threads)) ∙ ap (λ (ts : List ℕ). but_offers (made_if (not (has_number k ts)) (act.Ready k) ++ ys)) h.threads
    where
      same : (x : Bool) → but_offers (made_if x (act.Ready k) ++ xs) ≡ but_offers (made_if x (act.Ready k) ++ ys)
      same true = ap (λ zs. made.Act (act.Ready k) ∷ zs) e
      same false = e
  one-made (deed.HangUp k) b c xs ys h e =
      same (has (place.Sock k) b.opened) ∙ ap (λ (x : Bool). but_offers (made_if x (act.HangUp (place.Sock k)) ++ ys)) (h.opened k)
    where
      same : (x : Bool) → but_offers (made_if x (act.HangUp (place.Sock k)) ++ xs) ≡ but_offers (made_if x (act.HangUp (place.Sock k)) ++ ys)
      same true = ap (λ zs. made.Act (act.HangUp (place.Sock k)) ∷ zs) e
      same false = e
  one-made (deed.Send k bytes) b c xs ys h e =
      no-offer (wants_offer (place.Sock k) (with_sent (place.Sock k) bytes b)) (wants_offer (place.Sock k) (with_sent (place.Sock k) bytes c)) (place.Sock k) xs ys e
  one-made (deed.Unready k) b c xs ys h e = ap (λ zs. made.Act (act.Unready k) ∷ zs) e
  one-made (deed.Arm k at) b c xs ys h e = ap (λ zs. made.Act (act.Arm (suc (suc k)) at) ∷ zs) e
  one-made (deed.Cancel k) b c xs ys h e = ap (λ zs. made.Act (act.Cancel (suc (suc k))) ∷ zs) e
  one-made (deed.Log line) b c xs ys h e = ap (λ zs. made.Act (act.Log line) ∷ zs) e
  one-made (deed.Say w) b c xs ys h e = ap (λ zs. made.Say w ∷ zs) e

  all-made : (ds : List Deed) (b c : Ledger J) (xs ys : List (RunAct J)) → SameOwn b c → but_offers xs ≡ but_offers ys → but_offers (made_after ds b ++ xs) ≡ but_offers (made_after ds c ++ ys)
  all-made [] b c xs ys h e = e
  all-made (d ∷ ds) b c xs ys h e =
      ap but_offers (append_assoc (made_by d b) (made_after ds (ledger_by d b)) xs)
      ∙ one-made d b c (made_after ds (ledger_by d b) ++ xs) (made_after ds (ledger_by d c) ++ ys) h (all-made ds (ledger_by d b) (ledger_by d c) xs ys (deed-both d b c h) e)
      ∙ ap but_offers (sym (append_assoc (made_by d c) (made_after ds (ledger_by d c)) ys))

  asked-same : (x : Question J) (b c : Ledger J) → SameOwn b c → asked_of x b ≡ asked_of x c
  asked-same (question.Keep k key idle size) b c h = ap (λ (o : Bool). if o then Some (question.Keep k key idle size) else None) (h.opened k)
  asked-same (question.Dict zone call) b c h = refl
  asked-same (question.Take key) b c h = refl
  asked-same (question.Dial host port) b c h = refl
  asked-same (question.Timer at job) b c h = refl

  asks-same : (a : Asks J) (b c : Ledger J) → SameOwn b c → made_asking a b ≡ made_asking a c
  asks-same Nothing b c h = refl
  asks-same (Within q) b c h = refl
  asks-same (Outside x) b c h = ap (λ (o : Option (Question J)). acts_made (asking_if o)) (asked-same x b c h)

  asking-both : (a : Asks J) (b c : Ledger J) → SameOwn b c → SameOwn (ledger_asking a b) (ledger_asking a c)
  asking-both Nothing b c h = h
  asking-both (Within q) b c h = h
  asking-both (Outside x) b c h = ask-both b c h (asked_of x b) (asked_of x c)

  turn-both : {R : Type 0} (t : Turn J R) (b c : Ledger J) → SameOwn b c → SameTurn t t b c
  turn-both t b c h =
      let g = deeds-both t.does b c h in record {
        made = all-made t.does b c (made_asking t.asks (ledger_after t.does b)) (made_asking t.asks (ledger_after t.does c)) h (ap but_offers (asks-same t.asks (ledger_after t.does b) (ledger_after t.does c) g));
        asks = refl;
        run = refl;
        ledger = asking-both t.asks (ledger_after t.does b) (ledger_after t.does c) g;
      }

module _ {J R : Type 0} where
  same-turn : (t u : Turn J R) (b c : Ledger J) → t ≡ u → SameOwn b c → SameTurn t u b c
  same-turn t u b c e h = subst (λ (v : Turn J R). SameTurn t v b c) e (turn-both t b c h)

  pub never-looks-minds : (p : RunPlan J R) → NeverLooks p → MindsItsOwn p
  never-looks-minds p h = record {
    begins = λ now head target b c same. same-turn (p.begun now head target b) (p.begun now head target c) b c (h.begins now head target b c) same;
    begins_job = λ now premature job b c same. same-turn (p.begun_job now premature job b) (p.begun_job now premature job c) b c (h.begins_job now premature job b c) same;
    turns = λ now s b c r same. same-turn (p.turn now s b r) (p.turn now s c r) b c (h.turns now s b c r) same;
    answers = λ now x b c r same. same-turn (p.answered now x b r) (p.answered now x c r) b c (h.answers now x b c r) same;
  }

-- ---- runs that do

module _ {J : Type 0} (key otherwise : List ℕ) where
  stored-turns : (now : ℕ) (s : RunSeen) (b c : Ledger J) (r : Stored) → stored_turn key now s b r ≡ stored_turn key now s c r
  stored-turns now (seen.Run k) b c r = refl
  stored-turns now seen.ClientGone b c r = refl
  stored-turns now s b c r = refl

  stored-answers : (now : ℕ) (x : Action J) (b c : Ledger J) (r : Stored) → stored_answered otherwise now x b r ≡ stored_answered otherwise now x c r
  stored-answers now (Dict zone call given) b c r = refl
  stored-answers now x b c r = refl

pub stored-never-looks : {J : Type 0} (name key otherwise : List ℕ) → NeverLooks {J = J} (stored_plan name key otherwise)
stored-never-looks name key otherwise = record {
  begins = λ now head target b c. refl;
  begins_job = λ now premature job b c. refl;
  turns = λ now s b c r. stored-turns key otherwise now s b c r;
  answers = λ now x b c r. stored-answers key otherwise now x b c r;
}

echo-turns : {J : Type 0} (now : ℕ) (s : RunSeen) (b c : Ledger J) (r : Echo) → echo_turn now s b r ≡ echo_turn now s c r
echo-turns now (seen.Body content waited) b c (Asked keep) = refl
echo-turns now (seen.Body content waited) b c (Reading keep) = refl
echo-turns now (seen.BodyRefused code) b c r = refl
echo-turns now seen.NotYet b c (Asked keep) = refl
echo-turns now seen.ClientGone b c r = refl
echo-turns now (seen.Run k) b c r = refl
echo-turns now s b c r = refl

pub echo-never-looks : {J : Type 0} (reads : Bool) → NeverLooks {J = J} (echo_plan reads)
echo-never-looks reads = record {
  begins = λ now head target b c. refl;
  begins_job = λ now premature job b c. refl;
  turns = λ now s b c r. echo-turns now s b c r;
  answers = λ now x b c r. refl;
}

-- ---- and those that don't

-- a ledger after which a byte was sent to the client
abbrev after_byte : {J : Type 0} → Ledger J
after_byte = record empty_ledger { sent = λ q. if same_place q place.Client then 1 ∷ [] else [] }

same-but-byte : {J : Type 0} → SameOwn {J = J} empty_ledger after_byte
same-but-byte = record { threads = refl; armed = refl; count = refl; opened = λ k. refl; sockets = λ k l. record { sent = refl; taken = refl; put_off = refl } }

pub recalling-does-not : {J : Type 0} → MindsItsOwn {J = J} recalls_plan → ⊥
recalling-does-not {J} h =
    let words : List ℕ → List (RunAct J) = λ bytes. made.Say (said.Send bytes) ∷ made.Say (said.Ended false) ∷ made.Say said.Over ∷ [] in
    let e : words (1 ∷ []) ≡ words (1 ∷ 1 ∷ []) = (h.begins 0 (request kind.Nothing false [] []) (to []) empty_ledger after_byte same-but-byte).made in
    cc

pub telling-in-a-line-does-not : {J : Type 0} → MindsItsOwn {J = J} tells_in_a_line → ⊥
telling-in-a-line-does-not {J} h =
    let acts : List ℕ → List (RunAct J) = λ line. made.Act (act.Log line) ∷ made.Act (act.Ready 0) ∷ [] in
    let e : acts [] ≡ acts (1 ∷ []) = (h.begins 0 (request kind.Nothing false [] []) (to []) empty_ledger after_byte same-but-byte).made in
    cc

pub telling-in-a-question-does-not : {J : Type 0} → MindsItsOwn {J = J} tells_in_a_question → ⊥
telling-in-a-question-does-not {J} h =
    let asks : List ℕ → List (RunAct J) = λ key. made.Act (act.Take key) ∷ [] in
    let e : asks [] ≡ asks (1 ∷ []) = (h.begins 0 (request kind.Nothing false [] []) (to []) empty_ledger after_byte same-but-byte).made in
    cc
