-- A strand that gets the answer to its question takes the turn of its plan.
use Rattle.std.proofs.Common.{◌≡◌, ℕ, ◌≤◌, Bool, true, false, not, ◌&&◌, ◌||◌, map, length, drop, List, [], ◌∷◌, ◌++◌, Option, Some, None, if◌then◌else◌, refl, sym, ap, ◌∙◌, subst, inl, inr}
use Rattle.strand_contract.specs.declared.turns.Place.{Place}
use Rattle.strand_contract.specs.declared.turns.Place.TheVariants as place
use Rattle.strand_contract.specs.declared.turns.Act.{Act}
use Rattle.strand_contract.specs.declared.turns.Act.TheVariants as act
use Rattle.strand_contract.specs.declared.turns.Answer.{Answer}
use Rattle.strand_contract.specs.declared.turns.Answer.TheVariants as given
use Rattle.strand_contract.specs.Actions.{Action, LocalAction, Told, Did, same_place, Close, Log, Offer, Gone, Dropped, Dict, Take, Dial, Keep, Timer}
use Rattle.strand_contract.specs.Alone.{lives, moment, todo, begun_offer, but, without_place, is_open, is_some_left, IsExecution}
use Rattle.strand_contract.specs.Calls.{answered}
use Rattle.strand_contract.specs.Laws.{is_still}
use Rattle.strand_contract.specs.ClientOnlyLaws.{over, clash}
use Rattle.strand_contract.specs.OpenPlaceLaws.{same-place as same-is}
use Rattle.strand_plans.specs.Questions.{Question, asking, asking_if}
use Rattle.strand_plans.specs.Questions as question
use Rattle.strand_plans.specs.Ledgers.{Ledger, has, is_place, left_at, numbers, entered}
use Rattle.strand_plans.specs.Moves.{Move, Performed, perform}
use Rattle.strand_plans.specs.Plans.{state_of}
use Rattle.strand_plans.specs.Conditions.{IsServed}
use Rattle.strand_plans.specs.Tidiness.{NumbersOnce}
use Rattle.strand_plans.proofs.Calls.{IsLastGone, ended, answered-asks}
use Rattle.strand_plans.proofs.Executions.{quiet}
use Rattle.strand_plans.proofs.Ledgers.{begun-is}
use Rattle.strand_plans.proofs.Once.{deadlines}
use Rattle.strand_plans.proofs.Opened.{stays-shut}
use Rattle.strand_plans.proofs.Places.{shut, has-append, has-without}
use Rattle.strand_plans.proofs.PlanLaws.{dead, undropped, lived, leads-to}
use Rattle.strand_plans.proofs.Tidy.{IsTidyLedger, kept-tidy}
use Rattle.run_contract.specs.Calls as runs
use Rattle.run_contract.specs.Conditions.{IsRun}
use Rattle.connection_plan.specs.Clients.{Stage, Client}
use Rattle.connection_plan.specs.Clients as stage
use Rattle.connection_plan.specs.Services.{Service, Both}
use Rattle.connection_plan.specs.Turns.{is_there, settle, run_turn}
use Rattle.connection_plan.specs.Conditions.{Agrees, MayAsk}
use Rattle.connection_plan.specs.Connections.{connection_plan, connection_behavior, connection_turn, answered as answers}
use Rattle.connection_plan.proofs.Meets.{meets}
use Rattle.connection_strand.specs.Views.{View, service, Known}
use Rattle.connection_strand.specs.declared.state.Connection.{Connection}
use Rattle.connection_strand.specs.declared.state.Progress.{Progress}
use Rattle.connection_strand.specs.Kept.{Kept, kept, kept_of, wants_offer, waits_of}
use Rattle.connection_strand.specs.Acts.{sockets_with, count_with}
use Rattle.connection_strand.specs.Costs.{whole, left_of}
use Rattle.connection_strand.specs.Standing.{IsOn, HasRun, Toward, Came, Went, plain, places, kept_sock, before}
use Rattle.connection_strand.specs.Following.{Follows, turn_begun}
use Rattle.connection_strand.specs.Turns.{Answered, IsGiven}
use Rattle.connection_strand.proofs.Bridge.{queued-so, on-left}
use Rattle.connection_strand.proofs.Sockets.{places-without}
use Rattle.connection_strand.proofs.Turning.{or-false, or-true, turned, turned-is}

filled : {A C : Type 0} (xs rest : List A) (x : A) → xs ≡ x ∷ rest → xs ≡ [] → C
filled xs rest x p q = absurd (let e : x ∷ rest ≡ [] = sym p ∙ q in cc)

none-some : {A C : Type 0} (x : A) → None ≡ Some x → C
none-some x e = absurd (cc e)

some-some : {A : Type 0} (x y : A) → Some x ≡ Some y → x ≡ y
some-some x y e = cc

not-gone : {J : Type 0} (q : Question J) → IsLastGone (asking q ∷ []) → ⊥
not-gone (question.Take key) h = h
not-gone q h = h

but-other : (q r : Place) (o : Option Place) → same_place q r ≡ false → is_place q (but r o) ≡ is_place q o
but-other q r None h = refl
but-other q r (Some x) h = test (same_place r x) refl
  where
    test : (c : Bool) → same_place r x ≡ c → is_place q (if c then None else Some x) ≡ same_place q x
    test true e = sym (subst (λ y. same_place q y ≡ false) (same-is r x e) h)
    test false e = refl

-- ---- what an answer does to what is open

socks-more : (ks : List ℕ) (n : ℕ) → map place.Sock ks ++ place.Sock n ∷ [] ≡ map place.Sock (ks ++ n ∷ [])
socks-more [] n = refl
socks-more (k ∷ ks) n = ap (λ ps. place.Sock k ∷ ps) (socks-more ks n)

places-more : (o : Bool) (ks : List ℕ) (n : ℕ) → places o ks ++ place.Sock n ∷ [] ≡ places o (ks ++ n ∷ [])
places-more true ks n = ap (λ ps. place.Client ∷ ps) (socks-more ks n)
places-more false ks n = socks-more ks n

-- the ledger in which the answer was entered: the sockets are as the code has them, and the rest is as it was
record IsEntering {J I : Type 0} (site : Service J I) (q : Question J) (x : Answer) (a : Action J) (b : Ledger J) : Type 0 where
  turn : is_still (Did a) ≡ false
  now_is : (es : List (LocalAction J)) → moment (Did a ∷ es) ≡ moment es
  moves : (now : ℕ) (c : Ledger J) (s : Both I) → connection_turn site now (Did a) c s ≡ answers site now s.client.stage a c s
  client : (c : Client) → kept_of (entered (Did a) b) c ≡ kept_of b c
  there : is_there (entered (Did a) b) ≡ is_there b
  sockets : (o : Bool) (ks : List ℕ) → b.opened ≡ places o ks → (entered (Did a) b).opened ≡ places o (sockets_with x (kept_sock (Some q)) b.count ks)
  count : count_with x b.count ≡ (entered (Did a) b).count
  places_are : (entered (Did a) b).places ≡ b.places
  begun : (entered (Did a) b).begun ≡ b.begun
  armed : (entered (Did a) b).armed ≡ b.armed
  counted : b.taken place.Client ≤ length (b.sent place.Client) → (entered (Did a) b).taken place.Client ≤ length ((entered (Did a) b).sent place.Client)
  none_asked : (entered (Did a) b).asked ≡ None

-- what is kept of a client that is there or isn't
abbrev kept_at : {J : Type 0} → Bool → Ledger J → Client → Kept
kept_at o b c = record (kept_of b c) { sending = record (kept_of b c).sending { bytes = if o then left_at place.Client b else []; gone = not o }; opened = o }

module _ {J I : Type 0} (site : Service J I) where
  entering : (q : Question J) (x : Answer) (a : Action J) (b : Ledger J) → answered (asking q ∷ []) x ≡ Some a → IsEntering site q x a b
  entering (question.Dict zone call) (given.Dict answer) a b e = subst (λ a. IsEntering site (question.Dict zone call) (given.Dict answer) a b) (some-some (Dict zone call answer) a e) (record {
    turn = refl;
    now_is = λ es. refl;
    moves = λ now c s. refl;
    client = λ c. refl;
    there = refl;
    sockets = λ o ks f. f;
    count = refl;
    places_are = refl;
    begun = refl;
    armed = refl;
    counted = λ f. f;
    none_asked = refl;
  })
  entering (question.Take key) (given.Took None) a b e = subst (λ a. IsEntering site (question.Take key) (given.Took None) a b) (some-some (Take key None) a e) (record {
    turn = refl;
    now_is = λ es. refl;
    moves = λ now c s. refl;
    client = λ c. refl;
    there = refl;
    sockets = λ o ks f. f;
    count = refl;
    places_are = refl;
    begun = refl;
    armed = refl;
    counted = λ f. f;
    none_asked = refl;
  })
  entering (question.Take key) (given.Took (Some uses)) a b e = subst (λ a. IsEntering site (question.Take key) (given.Took (Some uses)) a b) (some-some (Take key (Some uses)) a e) (record {
    turn = refl;
    now_is = λ es. refl;
    moves = λ now c s. refl;
    client = λ c. ap (λ o. kept_at o b c) (has-append place.Client (place.Sock b.count) b.opened);
    there = has-append place.Client (place.Sock b.count) b.opened;
    sockets = λ o ks f. ap (λ ps. ps ++ place.Sock b.count ∷ []) f ∙ places-more o ks b.count;
    count = refl;
    places_are = refl;
    begun = refl;
    armed = refl;
    counted = λ f. f;
    none_asked = refl;
  })
  entering (question.Dial host port) (given.Dialled false) a b e = subst (λ a. IsEntering site (question.Dial host port) (given.Dialled false) a b) (some-some (Dial host port false) a e) (record {
    turn = refl;
    now_is = λ es. refl;
    moves = λ now c s. refl;
    client = λ c. refl;
    there = refl;
    sockets = λ o ks f. f;
    count = refl;
    places_are = refl;
    begun = refl;
    armed = refl;
    counted = λ f. f;
    none_asked = refl;
  })
  entering (question.Dial host port) (given.Dialled true) a b e = subst (λ a. IsEntering site (question.Dial host port) (given.Dialled true) a b) (some-some (Dial host port true) a e) (record {
    turn = refl;
    now_is = λ es. refl;
    moves = λ now c s. refl;
    client = λ c. ap (λ o. kept_at o b c) (has-append place.Client (place.Sock b.count) b.opened);
    there = has-append place.Client (place.Sock b.count) b.opened;
    sockets = λ o ks f. ap (λ ps. ps ++ place.Sock b.count ∷ []) f ∙ places-more o ks b.count;
    count = refl;
    places_are = refl;
    begun = refl;
    armed = refl;
    counted = λ f. f;
    none_asked = refl;
  })
  entering (question.Keep k key idle size) given.Kept a b e = subst (λ a. IsEntering site (question.Keep k key idle size) given.Kept a b) (some-some (Keep k key idle size) a e) (record {
    turn = refl;
    now_is = λ es. refl;
    moves = λ now c s. refl;
    client = λ c. ap (λ o. kept_at o b c) (has-without place.Client (place.Sock k) b.opened);
    there = has-without place.Client (place.Sock k) b.opened;
    sockets = λ o ks f. ap (without_place (place.Sock k)) f ∙ places-without k o ks;
    count = refl;
    places_are = refl;
    begun = refl;
    armed = refl;
    counted = λ f. f;
    none_asked = refl;
  })
  entering (question.Timer at job) (given.Timer answer) a b e = subst (λ a. IsEntering site (question.Timer at job) (given.Timer answer) a b) (some-some (Timer at answer) a e) (record {
    turn = refl;
    now_is = λ es. refl;
    moves = λ now c s. refl;
    client = λ c. refl;
    there = refl;
    sockets = λ o ks f. f;
    count = refl;
    places_are = refl;
    begun = refl;
    armed = refl;
    counted = λ f. f;
    none_asked = refl;
  })
  entering q x a b e = none-some a e

-- ---- the offer of the client

module _ {J : Type 0} (b : Ledger J) (tidy : IsTidyLedger b) (served : IsServed place.Client b) (there : is_there b ≡ true) where
  -- it is queued or goes on exactly where it goes on by what is known, or is wanted
  offers : (taking : Bool) → taking ≡ is_place place.Client b.begun
      → (taking || (is_there b && is_some_left (if is_there b then left_at place.Client b else []) && not (b.put_off place.Client))) ≡ (has place.Client b.places || is_place place.Client b.begun)
  offers taking e = ap (λ o. o || (is_there b && is_some_left (if is_there b then left_at place.Client b else []) && not (b.put_off place.Client))) e ∙ test (is_place place.Client b.begun) refl
    where
      test : (o : Bool) → is_place place.Client b.begun ≡ o
          → (o || (is_there b && is_some_left (if is_there b then left_at place.Client b else []) && not (b.put_off place.Client))) ≡ (has place.Client b.places || o)
      test true f = or-true (has place.Client b.places)
      test false f = queued-so b tidy (is_there b) (λ o some. subst (λ x. (b.put_off place.Client || (has place.Client b.places || x)) ≡ true) f (served there some)) there
          ∙ or-false (has place.Client b.places)

module _ {R J I : Type 0} (v : View R J I) (lawful : IsRun v.meaning.plan v.meaning.holds) where
  -- ---- where a question waits

  -- the life goes on
  alive : (es : List (LocalAction J)) (x : Act J) (rest : List (Act J)) → IsExecution (connection_behavior (service v)) es → todo (connection_behavior (service v)) es ≡ x ∷ rest → lives es ≡ true
  alive es x rest f t = test (lives es) refl
    where
      test : (o : Bool) → lives es ≡ o → lives es ≡ true
      test true e = e
      test false e = filled (todo (connection_behavior (service v)) es) rest x t (dead (connection_behavior (service v)) (quiet (connection_plan (service v))) es f e)

  going : (es : List (LocalAction J)) (q : Question J) → IsExecution (connection_behavior (service v)) es → todo (connection_behavior (service v)) es ≡ asking q ∷ [] → (state_of (connection_plan (service v)) es).ledger.ended ≡ false
  going es q f t = test (state_of (connection_plan (service v)) es).ledger.ended refl
    where
      test : (o : Bool) → (state_of (connection_plan (service v)) es).ledger.ended ≡ o → (state_of (connection_plan (service v)) es).ledger.ended ≡ false
      test true e = absurd (not-gone q (subst IsLastGone t (ended (connection_plan (service v)) (Known v) (MayAsk (service v)) (meets (service v) v.meaning.holds lawful) es f (alive es (asking q) [] f t) e)))
      test false e = e

  -- it is that of the ledger
  asked-is : (es : List (LocalAction J)) (q : Question J) → IsExecution (connection_behavior (service v)) es → todo (connection_behavior (service v)) es ≡ asking q ∷ [] → (state_of (connection_plan (service v)) es).ledger.asked ≡ Some q
  asked-is es (question.Dict zone call) f t = (leads-to (connection_plan (service v)) (Known v) (MayAsk (service v)) (meets (service v) v.meaning.holds lawful) es (act.Dict zone call) [] f t).2
  asked-is es (question.Take key) f t = (leads-to (connection_plan (service v)) (Known v) (MayAsk (service v)) (meets (service v) v.meaning.holds lawful) es (act.Take key) [] f t).2
  asked-is es (question.Dial host port) f t = (leads-to (connection_plan (service v)) (Known v) (MayAsk (service v)) (meets (service v) v.meaning.holds lawful) es (act.Dial host port) [] f t).2
  asked-is es (question.Keep k key idle size) f t = (leads-to (connection_plan (service v)) (Known v) (MayAsk (service v)) (meets (service v) v.meaning.holds lawful) es (act.Keep k key idle size) [] f t).2
  asked-is es (question.Timer at job) f t = (leads-to (connection_plan (service v)) (Known v) (MayAsk (service v)) (meets (service v) v.meaning.holds lawful) es (act.Timer at job) [] f t).2

  -- a run asked it
  is-busy : (st : Stage) (b : Ledger J) (r : I) (q : Question J) → b.asked ≡ Some q → Agrees v.meaning.plan v.meaning.holds st b r → st ≡ stage.Busy
  is-busy stage.Busy b r q e h = refl
  is-busy stage.Over b r q e h = none-some q (sym h.0 ∙ e)
  is-busy st b r q e h = none-some q (sym h.none_asked ∙ e)

  -- since the newest turn nothing but acts was carried out: whether the client's offer goes on is as it was, while the client is there
  goes : (es : List (LocalAction J)) (x : Act J) (rest : List (Act J)) → IsExecution (connection_behavior (service v)) es → todo (connection_behavior (service v)) es ≡ x ∷ rest
      → is_there (state_of (connection_plan (service v)) es).ledger ≡ true → is_place place.Client (turn_begun es) ≡ is_place place.Client (begun_offer es)
  goes [] x rest f t there = refl
  goes (Told w ∷ es) x rest f t there = filled (todo (connection_behavior (service v)) (Told w ∷ es)) rest x t (ap (λ acts. acts ++ []) f.1.1.no_act)
  goes (Did (Offer q) ∷ es) x rest f t there = filled (todo (connection_behavior (service v)) (Did (Offer q) ∷ es)) rest x t (ap (λ acts. acts ++ []) f.1.0.no_act)
  goes (Did Gone ∷ es) x rest f t there = filled (todo (connection_behavior (service v)) (Did Gone ∷ es)) rest x t (ap (λ acts. drop 1 acts ++ []) f.1)
  goes (Did Dropped ∷ es) x rest f t there = filled (todo (connection_behavior (service v)) (Did Dropped ∷ es)) rest x t refl
  goes (Did (Log line done) ∷ es) x rest f t there = goes es (act.Log line) f.1.0 f.0 f.1.1 there
  goes (Did (Close q) ∷ es) x rest f t there = elim f.1 [
    | inl w ↦ goes es (act.HangUp q) w.0.0 f.0 w.0.1 there ∙ sym (but-other place.Client q (begun_offer es) (apart w.0.0 w.0.1 (same_place place.Client q) refl))
    | inr w ↦ filled (todo (connection_behavior (service v)) (Did (Close q) ∷ es)) rest x t
        (ap (λ acts. drop 1 acts ++ []) (dead (connection_behavior (service v)) (quiet (connection_plan (service v))) es f.0 (over (connection_behavior (service v)) (quiet (connection_plan (service v))) es f.0 w.0).dead))
  ]
    where
      apart : (more : List (Act J)) → todo (connection_behavior (service v)) es ≡ act.HangUp q ∷ more → (o : Bool) → same_place place.Client q ≡ o → same_place place.Client q ≡ false
      apart more u true e =
          let b = (state_of (connection_plan (service v)) es).ledger in
          let h = leads-to (connection_plan (service v)) (Known v) (MayAsk (service v)) (meets (service v) v.meaning.holds lawful) es (act.HangUp q) more f.0 u in
          clash (is_there b) there (stays-shut (shut q (λ p. is_open p es)) more (λ p. has p b.opened) b.asked place.Client h.1 (rw e refl))
      apart more u false e = e
  goes (a ∷ es) x rest f t there = refl

  -- ---- the turn

  pub may-answer : (now : ℕ) (x : Answer) (a : Action J) (es : List (LocalAction J)) (c : Connection R) (u : Progress J) → Follows v c es → now ≡ moment es
      → answered (todo (connection_behavior (service v)) es) x ≡ Some a → IsExecution (connection_behavior (service v)) (Did a ∷ es)
      → u.is_offered ≡ (c.is_taking || wants_offer (kept c.client)) → u.acts.items ≡ []
      → IsGiven v now x (turned (service v) a es) c u
  may-answer now x a es c u follows at e f offered acts d took =
      let st = state_of (connection_plan (service v)) es in
      let b = st.ledger in
      let asks = answered-asks (todo (connection_behavior (service v)) es) x a e in
      let q = asks.0 in
      let t = asks.1 in
      let l = alive es (asking q) [] f.0 t in
      let g = lived (connection_plan (service v)) (Known v) (MayAsk (service v)) (meets (service v) v.meaning.holds lawful) es f.0 l in
      let tidy = kept-tidy (connection_plan (service v)) (Known v) (MayAsk (service v)) (meets (service v) v.meaning.holds lawful) es f.0 (undropped (connection_behavior (service v)) (quiet (connection_plan (service v))) es f.0 l) in
      let y = follows.stays (going es q f.0 t) in
      let asked = asked-is es q f.0 t in
      let i = entering (service v) q x a b (ap (λ acts. answered acts x) (sym t) ∙ e) in
      let c' = entered (Did a) b in
      let busy = is-busy st.inner.client.stage b st.inner.run q asked g.inner in
      let m : moment (Did a ∷ es) ≡ now = i.now_is es ∙ sym at in
      let run = subst (λ st'. HasRun v st' c.run (waits_of c.waits) b st.inner.run) busy y.run in
      let taking : is_there c' ≡ true → c.is_taking ≡ is_place place.Client b.begun =
      λ there. (let there' = sym i.there ∙ there in follows.taking there' ∙ goes es (asking q) [] f.0 t there' ∙ ap (is_place place.Client) (begun-is (connection_plan (service v)) es)) in
      record {
        ledger = b;
        inner = st.inner;
        action = a;
        answers = ap (λ o. answered (asking_if o) x) asked ∙ ap (λ acts. answered acts x) (sym t) ∙ e;
        serves = record {
          client = ap (λ (k : Connection R). kept k.client) took.kept ∙ y.client ∙ sym (i.client st.inner.client);
          sockets = i.sockets (is_there b) c.sockets.items y.sockets ∙ sym (ap (λ o. places o d.sockets.items) i.there ∙ ap (places (is_there b)) (took.sockets
              ∙ ap (λ o. sockets_with x o c.count c.sockets.items) (y.keeping ∙ ap kept_sock asked) ∙ ap (λ n. sockets_with x (kept_sock (Some q)) n c.sockets.items) y.count));
          count = took.count ∙ ap (count_with x) y.count ∙ i.count;
          keeping = ap (λ (k : Connection R). k.keeping) took.kept;
          offered = λ there. offered ∙ ap (λ k. c.is_taking || wants_offer k) y.client
              ∙ offers b tidy (g.served place.Client) (sym i.there ∙ there) c.is_taking (taking there)
              ∙ sym (ap (λ ps. has place.Client ps || is_place place.Client c'.begun) i.places_are ∙ ap (λ o. has place.Client b.places || is_place place.Client o) i.begun);
          taking = λ there. ap (λ (k : Connection R). k.is_taking) took.kept ∙ taking there ∙ sym (ap (is_place place.Client) i.begun);
          counted = i.counted (tidy.counted place.Client);
          once = subst (λ ds. NumbersOnce (numbers ds)) (sym i.armed) (deadlines (connection_plan (service v)) es);
          none_asked = i.none_asked;
          on = y.on;
        };
        busy = busy;
        run = run.0;
        is = ap (λ (k : Connection R). k.run) took.kept ∙ run.1;
        standing = run.2;
        waits = ap (λ (k : Connection R). waits_of k.waits) took.kept ∙ run.3;
        known = (subst (λ st'. Agrees v.meaning.plan v.meaning.holds st' b st.inner.run) busy g.inner).0;
        leads = turned-is (service v) now a es i.turn m ∙ ap (λ m'. perform m' c' st.inner) (i.moves now c' st.inner)
            ∙ ap (λ st'. perform (answers (service v) now st' a c' st.inner) c' st.inner) busy
            ∙ ap (λ acts'. before acts' (perform (run_turn (service v) now (v.meaning.plan.answered now a c' st.inner.run) (settle (service v) now)) c' st.inner)) (sym acts);
      }

  -- what is answered is no still action
  pub answer-turn : (x : Answer) (a : Action J) (es : List (LocalAction J)) → answered (todo (connection_behavior (service v)) es) x ≡ Some a → is_still (Did a) ≡ false
  answer-turn x a es e =
      let asks = answered-asks (todo (connection_behavior (service v)) es) x a e in
      (entering (service v) asks.0 x a (state_of (connection_plan (service v)) es).ledger (ap (λ acts. answered acts x) (sym asks.1) ∙ e)).turn

  -- ---- what it costs

  -- where it is answered its life goes on
  pub answered-left : (left : R → ℕ) (bound : ℕ) (x : Answer) (a : Action J) (c : Connection R) (es : List (LocalAction J)) → Follows v c es
      → answered (todo (connection_behavior (service v)) es) x ≡ Some a → IsExecution (connection_behavior (service v)) (Did a ∷ es) → left_of left bound c ≡ whole left bound c
  answered-left left bound x a c es follows e f =
      let asks = answered-asks (todo (connection_behavior (service v)) es) x a e in
      let y = follows.stays (going es asks.0 f.0 asks.1) in
      on-left v lawful left bound c (subst IsOn (sym (ap (λ (k : Kept). k.stage) y.client)) y.on)

module _ {R J I : Type 0} (v : View R J I) where
  -- the run is given it
  pub may-be-answered : (now : ℕ) (x : Answer) (did : Performed J (Both I)) (d : Connection R) (u : Progress J) (m : Move J (Both I)) → Answered v now x did d u m
      → (run : R) → d.run ≡ Some run → runs.MayBeAnswered v.meaning x run
  may-be-answered now x did d u m h run is =
      (h.ledger, h.inner.run, h.action, subst (λ run. v.meaning.stands run h.ledger h.inner.run) (some-some h.run run (sym h.is ∙ is)) h.standing, h.known, h.answers)

  -- there is a run
  pub answered-runs : (now : ℕ) (x : Answer) (did : Performed J (Both I)) (d : Connection R) (u : Progress J) (m : Move J (Both I)) → Answered v now x did d u m → d.run ≡ None → ⊥
  answered-runs now x did d u m h none = none-some h.run (sym none ∙ h.is)

  -- its turn comes to its end where the run's does, or else settles
  pub went-toward : (on : Bool) (did : Performed J (Both I)) (c : Connection R) (u : Progress J) (m : Move J (Both I)) → on ≡ true → Went v on did c u m
      → (st : Stage) × Toward v (plain st) did c u m
  went-toward on did c u m e h = subst (λ on. Went v on did c u m) e h

  pub went-came : (on : Bool) (did : Performed J (Both I)) (c : Connection R) (u : Progress J) (m : Move J (Both I)) → on ≡ false → Went v on did c u m
      → Came v did c u
  went-came on did c u m e h = subst (λ on. Went v on did c u m) e h
