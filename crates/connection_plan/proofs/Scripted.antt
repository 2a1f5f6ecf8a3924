-- What connections of runs by a script do: each row computes, once the bytes that come are read as the request that they are.
use Rattle.std.proofs.Common.{◌≡◌, ℕ, true, false, List, [], ◌∷◌, refl, subst}
use Rattle.std.specs.Prelude.{codes}
use Rattle.http_in.specs.declared.framing.BodyKind.TheVariants as kind
use Rattle.strand_contract.specs.declared.turns.Place.TheVariants as place
use Rattle.strand_contract.specs.declared.turns.Act.TheVariants as act
use Rattle.strand_contract.specs.Actions.{LocalAction, Did, Ended, Later, Offer}
use Rattle.strand_plans.specs.Ledgers.{entered}
use Rattle.strand_plans.specs.Moves.{State, Performed, perform}
use Rattle.strand_plans.specs.Plans.{state_of, stepped}
use Rattle.client_line.specs.Feeding.{Fed}
use Rattle.run_contract.specs.declared.turns.Asking.TheVariants as asking
use Rattle.run_contract.specs.Deeds.{Send}
use Rattle.connection_plan.specs.Clients as stage
use Rattle.connection_plan.specs.Services.{Both}
use Rattle.connection_plan.specs.Turns.{heard, settle_for}
use Rattle.connection_plan.specs.Connections.{connection_plan}
use Rattle.connection_plan.specs.Connections as turns
use Rattle.connection_plan.specs.Examples.{request, to, Asks, began, came, took}
use Rattle.connection_plan.specs.Scripts.{Script, Progress, script_site, script_sent, script_acts, script_armed}
use Rattle.connection_plan.specs.Scripts.{dialled, say, dials, two_threads, moves_on, reads, replies_elsewhere, minds_the_end}
use Rattle.connection_plan.proofs.Rows.{asked, asked-is, nothing-is}

-- what came first leads to this: what it comes to
abbrev first : Script → Fed → Performed ℕ (Both Progress)
first script f =
    let st = state_of (connection_plan (script_site script)) (began ∷ []) in
    perform (turns.came_at (script_site script) 1_000 stage.Head f st.inner) (entered (came []) st.ledger) st.inner

-- and then this happens
abbrev turn : Script → LocalAction ℕ → State ℕ (Both Progress) → Performed ℕ (Both Progress)
turn script a st = stepped (connection_plan (script_site script)) 1_000 a st

-- or the client takes these bytes
abbrev taken : Script → List ℕ → State ℕ (Both Progress) → Performed ℕ (Both Progress)
taken script bytes st = turn script (took bytes) (turn script (Did (Offer place.Client)) st).state

module _ (bytes : List ℕ) (h : Asks kind.Nothing false (codes "/a") bytes []) where
  -- ---- acts and words in order

  pub word-first : script_acts (dials (say (codes "a") ∷ Send 0 (codes "b") ∷ [])) (dialled ∷ came bytes ∷ began ∷ [])
      ≡ act.Offer place.Client ∷ act.Offer (place.Sock 0) ∷ []
  word-first =
      let script = dials (say (codes "a") ∷ Send 0 (codes "b") ∷ []) in
      subst (λ (f : Fed). (turn script dialled (first script f).state).acts ≡ act.Offer place.Client ∷ act.Offer (place.Sock 0) ∷ [])
      (asked-is kind.Nothing false (codes "/a") bytes [] h) refl

  pub socket-first : script_acts (dials (Send 0 (codes "b") ∷ say (codes "a") ∷ [])) (dialled ∷ came bytes ∷ began ∷ [])
      ≡ act.Offer (place.Sock 0) ∷ act.Offer place.Client ∷ []
  socket-first =
      let script = dials (Send 0 (codes "b") ∷ say (codes "a") ∷ []) in
      subst (λ (f : Fed). (turn script dialled (first script f).state).acts ≡ act.Offer (place.Sock 0) ∷ act.Offer place.Client ∷ [])
      (asked-is kind.Nothing false (codes "/a") bytes [] h) refl

  -- ---- a flush

  pub flush-at-once : script_sent (two_threads [] asking.AllTaken) (came bytes ∷ began ∷ []) ≡ codes "child parent "
  flush-at-once =
      subst (λ (f : Fed). (first (two_threads [] asking.AllTaken) f).state.ledger.sent place.Client ≡ codes "child parent ")
      (asked-is kind.Nothing false (codes "/a") bytes [] h) refl

  abbrev flushes : Script
  flushes = two_threads (say (codes "first ") ∷ []) asking.AllTaken

  pub flush-not-yet : script_sent flushes (came bytes ∷ began ∷ []) ≡ codes "first parent "
  flush-not-yet =
      subst (λ (f : Fed). (first flushes f).state.ledger.sent place.Client ≡ codes "first parent ") (asked-is kind.Nothing false (codes "/a") bytes [] h) refl

  pub flush-in-order : script_acts flushes (came bytes ∷ began ∷ []) ≡ act.Cancel 0 ∷ act.Offer place.Client ∷ act.Arm 2 (record { 0 = 1_030 }) ∷ []
  flush-in-order =
      subst (λ (f : Fed). (first flushes f).acts ≡ act.Cancel 0 ∷ act.Offer place.Client ∷ act.Arm 2 (record { 0 = 1_030 }) ∷ [])
      (asked-is kind.Nothing false (codes "/a") bytes [] h) refl

  pub flush-partly : script_sent flushes (took (codes "first ") ∷ Did (Offer place.Client) ∷ came bytes ∷ began ∷ []) ≡ codes "first parent "
  flush-partly =
      subst (λ (f : Fed). (taken flushes (codes "first ") (first flushes f).state).state.ledger.sent place.Client ≡ codes "first parent ")
      (asked-is kind.Nothing false (codes "/a") bytes [] h) refl

  pub flush-later : script_sent flushes (took (codes "first parent ") ∷ Did (Offer place.Client) ∷ came bytes ∷ began ∷ []) ≡ codes "first parent child "
  flush-later =
      subst (λ (f : Fed). (taken flushes (codes "first parent ") (first flushes f).state).state.ledger.sent place.Client ≡ codes "first parent child ")
      (asked-is kind.Nothing false (codes "/a") bytes [] h) refl

  -- ---- another location

  pub sends-by-new : script_armed replies_elsewhere (Did (Later place.Client) ∷ Did (Offer place.Client) ∷ came bytes ∷ began ∷ []) ≡ (1, 1_004) ∷ []
  sends-by-new =
      subst (λ (f : Fed). (turn replies_elsewhere (Did (Later place.Client)) (turn replies_elsewhere (Did (Offer place.Client)) (first replies_elsewhere f).state).state).state.ledger.armed
      ≡ (1, 1_004) ∷ []) (asked-is kind.Nothing false (codes "/a") bytes [] h) refl

  -- the reply is taken, and what came after the request leads to this
  abbrev next : Fed → State ℕ (Both Progress) → Performed ℕ (Both Progress)
  next f st =
      let s = (turn replies_elsewhere (Did (Offer place.Client)) st).state in let site = script_site replies_elsewhere in
      perform (heard site 1_000 true (settle_for site 1_000 0) false f) (entered (took (codes "x")) s.ledger) s.inner

  pub waits-by-new : script_armed replies_elsewhere (took (codes "x") ∷ Did (Offer place.Client) ∷ came bytes ∷ began ∷ []) ≡ (0, 1_002) ∷ []
  waits-by-new =
      let one = asked (request kind.Nothing false (codes "/a") h.headers) (to (codes "/a")) [] in
      subst (λ (f : Fed). (taken replies_elsewhere (codes "x") (first replies_elsewhere f).state).state.ledger.armed ≡ (0, 1_002) ∷ [])
      (asked-is kind.Nothing false (codes "/a") bytes [] h)
      (subst (λ (f : Fed). (next f (first replies_elsewhere one).state).state.ledger.armed ≡ (0, 1_002) ∷ []) nothing-is refl)

  -- ---- a client that sends no more

  abbrev ends : Fed → Performed ℕ (Both Progress)
  ends f = turn minds_the_end (Did (Ended place.Client)) (first minds_the_end f).state

  pub end-told : script_acts minds_the_end (Did (Ended place.Client) ∷ came bytes ∷ began ∷ []) ≡ act.Log (codes "ended") ∷ act.Offer place.Client ∷ []
  end-told = subst (λ (f : Fed). (ends f).acts ≡ act.Log (codes "ended") ∷ act.Offer place.Client ∷ []) (asked-is kind.Nothing false (codes "/a") bytes [] h) refl

  pub end-sent : script_sent minds_the_end (Did (Ended place.Client) ∷ came bytes ∷ began ∷ []) ≡ codes "bye"
  end-sent = subst (λ (f : Fed). (ends f).state.ledger.sent place.Client ≡ codes "bye") (asked-is kind.Nothing false (codes "/a") bytes [] h) refl

  pub end-armed : script_armed minds_the_end (Did (Ended place.Client) ∷ came bytes ∷ began ∷ []) ≡ (2, 1_030) ∷ []
  end-armed = subst (λ (f : Fed). (ends f).state.ledger.armed ≡ (2, 1_030) ∷ []) (asked-is kind.Nothing false (codes "/a") bytes [] h) refl

-- ---- a body, there and not

abbrev reading : Script
reading = two_threads [] (asking.Body 5)

pub at-once : (bytes : List ℕ) → Asks (kind.Length 3) false (codes "/a") bytes (codes "hi!") → script_sent reading (came bytes ∷ began ∷ []) ≡ codes "child parent "
at-once bytes h =
    subst (λ (f : Fed). (first reading f).state.ledger.sent place.Client ≡ codes "child parent ") (asked-is (kind.Length 3) false (codes "/a") bytes (codes "hi!") h) refl

module _ (bytes : List ℕ) (h : Asks (kind.Length 3) false (codes "/a") bytes []) where
  pub not-yet : script_sent reading (came bytes ∷ began ∷ []) ≡ codes "parent "
  not-yet = subst (λ (f : Fed). (first reading f).state.ledger.sent place.Client ≡ codes "parent ") (asked-is (kind.Length 3) false (codes "/a") bytes [] h) refl

  pub later-on : script_sent reading (came (codes "hi!") ∷ came bytes ∷ began ∷ []) ≡ codes "parent child "
  later-on =
      subst (λ (f : Fed). (turn reading (came (codes "hi!")) (first reading f).state).state.ledger.sent place.Client ≡ codes "parent child ")
      (asked-is (kind.Length 3) false (codes "/a") bytes [] h) refl

  pub in-order : script_acts reading (came bytes ∷ began ∷ [])
      ≡ act.Cancel 0 ∷ act.Arm 0 (record { 0 = 1_030 }) ∷ act.Offer place.Client ∷ act.Arm 2 (record { 0 = 1_030 }) ∷ []
  in-order =
      subst (λ (f : Fed). (first reading f).acts ≡ act.Cancel 0 ∷ act.Arm 0 (record { 0 = 1_030 }) ∷ act.Offer place.Client ∷ act.Arm 2 (record { 0 = 1_030 }) ∷ [])
      (asked-is (kind.Length 3) false (codes "/a") bytes [] h) refl

  pub body-first : script_armed reading (came bytes ∷ began ∷ []) ≡ (0, 1_030) ∷ (2, 1_030) ∷ []
  body-first = subst (λ (f : Fed). (first reading f).state.ledger.armed ≡ (0, 1_030) ∷ (2, 1_030) ∷ []) (asked-is (kind.Length 3) false (codes "/a") bytes [] h) refl

  -- ---- its time, by the location

  pub by-new : script_armed (reads (moves_on ∷ []) []) (came bytes ∷ began ∷ []) ≡ (0, 1_003) ∷ []
  by-new =
      subst (λ (f : Fed). (first (reads (moves_on ∷ []) []) f).state.ledger.armed ≡ (0, 1_003) ∷ []) (asked-is (kind.Length 3) false (codes "/a") bytes [] h) refl

  pub by-old : script_armed (reads [] (moves_on ∷ [])) (came bytes ∷ began ∷ []) ≡ (0, 1_030) ∷ []
  by-old =
      subst (λ (f : Fed). (first (reads [] (moves_on ∷ [])) f).state.ledger.armed ≡ (0, 1_030) ∷ []) (asked-is (kind.Length 3) false (codes "/a") bytes [] h) refl

  pub anew-by-new : script_armed (reads [] (moves_on ∷ [])) (came (1 ∷ []) ∷ came bytes ∷ began ∷ []) ≡ (0, 1_003) ∷ []
  anew-by-new =
      let script = reads [] (moves_on ∷ []) in
      subst (λ (f : Fed). (turn script (came (1 ∷ [])) (first script f).state).state.ledger.armed ≡ (0, 1_003) ∷ []) (asked-is (kind.Length 3) false (codes "/a") bytes [] h) refl
