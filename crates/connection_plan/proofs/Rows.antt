-- The worked rows, which compute once it is known what the bytes are read as.
use Rattle.std.proofs.Common.{◌≡◌, ℕ, Bool, true, false, List, [], ◌∷◌, ◌++◌, drop, length, None, suc, refl, sym, ap, ◌∙◌, subst, append-nil}
use Rattle.std.specs.Prelude.{codes}
use Rattle.uri_args.specs.declared.targets.Target.{Target}
use Rattle.resty_base.specs.declared.names.Pair2.{Pair2}
use Rattle.http_in.specs.declared.framing.BodyKind.{BodyKind}
use Rattle.http_in.specs.declared.framing.BodyKind.TheVariants as kind
use Rattle.http_in.specs.declared.heads.Head.{Head}
use Rattle.http_in.specs.declared.heads.HeadRead.TheVariants as read
use Rattle.http_bodies.specs.Bodies.{begun_state}
use Rattle.http_bodies.specs.declared.states.BodyState.TheVariants as state
use Rattle.http_bodies.specs.Skips.{no_limit, skip_count}
use Rattle.http_bodies.proofs.Skipping.{settled-stays, settled-counts}
use Rattle.client_line.specs.declared.requests.LineOut.TheVariants as out
use Rattle.client_line.specs.Requests.{IsOf}
use Rattle.client_line.specs.Records.{Came}
use Rattle.client_line.specs.Records as line
use Rattle.client_line.specs.Lines.{came_at, nothing, after_head, after_body, done}
use Rattle.client_line.specs.Feeding.{Fed, led, fed}
use Rattle.client_line.proofs.FeedAnswers.{fed-only}
use Rattle.strand_contract.specs.declared.turns.Place.TheVariants as place
use Rattle.strand_contract.specs.declared.turns.Act.TheVariants as act
use Rattle.strand_contract.specs.Actions.{LocalAction, Did, Ended, Broken, Ready, Later, Close, Run, Due, Offer}
use Rattle.strand_plans.specs.Ledgers.{entered}
use Rattle.strand_plans.specs.Moves.{State, Performed, perform}
use Rattle.strand_plans.specs.Plans.{Plan, state_of, stepped}
use Rattle.connection_plan.specs.Clients as stage
use Rattle.connection_plan.specs.Services.{Both}
use Rattle.connection_plan.specs.Turns.{continue_reply, heard, settle_for}
use Rattle.connection_plan.specs.Connections.{connection_plan}
use Rattle.connection_plan.specs.Connections as turns
use Rattle.connection_plan.specs.Examples.{Echo, echo_site, request, to, Asks, began, came, took, acts, sent}

-- what a whole head and what follows it lead to
abbrev pub asked : Head → Target → List ℕ → Fed
asked head target rest = record { answer = out.Request head target; after = came_at (line.Present None head.body (begun_state head.body no_limit)) rest }

pub asked-is : (kind : BodyKind) (expects : Bool) (path bytes rest : List ℕ) (h : Asks kind expects path bytes rest)
    → asked (request kind expects path h.headers) (to path) rest ≡ fed nothing bytes
asked-is kind expects path bytes rest h =
    let head = request kind expects path h.headers in
    fed-only nothing (asked head (to path) rest).after bytes (out.Request head (to path))
    (h.asks, ap (came_at (line.Present None head.body (begun_state head.body no_limit))) (h.follows ∙ ap (λ o. after_head o bytes) (sym h.ends)))

pub nothing-is : record { answer = out.Waiting; after = nothing } ≡ fed nothing []
nothing-is = fed-only nothing nothing [] out.Waiting ((read.More, refl, refl), refl)

abbrev plan : Bool → Plan ℕ (Both Echo)
plan reads = connection_plan (echo_site reads)

abbrev begun : Bool → State ℕ (Both Echo)
begun reads = state_of (plan reads) (began ∷ [])

-- what came first leads to this: what it comes to
abbrev pub first : Bool → Fed → Performed ℕ (Both Echo)
first reads f = let st = begun reads in perform (turns.came_at (echo_site reads) 1_000 stage.Head f st.inner) (entered (came []) st.ledger) st.inner

-- and then the client takes these bytes, or sends some
abbrev pub taken : Bool → List ℕ → State ℕ (Both Echo) → Performed ℕ (Both Echo)
taken reads bytes st = stepped (plan reads) 1_000 (took bytes) (stepped (plan reads) 1_000 (Did (Offer place.Client)) st).state

abbrev pub sends : Bool → List ℕ → State ℕ (Both Echo) → Performed ℕ (Both Echo)
sends reads bytes st = stepped (plan reads) 1_000 (came bytes) st

-- where the whole reply is taken, what came after the request leads to this
abbrev pub next : Bool → ℕ → List ℕ → Fed → State ℕ (Both Echo) → Performed ℕ (Both Echo)
next reads n bytes f st =
    let s = (stepped (plan reads) 1_000 (Did (Offer place.Client)) st).state in
    perform (heard (echo_site reads) 1_000 true (settle_for (echo_site reads) 1_000 n) false f) (entered (took bytes) s.ledger) s.inner

-- ---- a request whose connection is kept

module _ (bytes rest : List ℕ) (h : Asks kind.Nothing false (codes "/a") bytes rest) where
  here : asked (request kind.Nothing false (codes "/a") h.headers) (to (codes "/a")) rest ≡ fed nothing bytes
  here = asked-is kind.Nothing false (codes "/a") bytes rest h

  pub kept-begins : acts false (came bytes ∷ began ∷ []) ≡ act.Cancel 0 ∷ act.Offer place.Client ∷ []
  kept-begins = subst (λ (f : Fed). (first false f).acts ≡ act.Cancel 0 ∷ act.Offer place.Client ∷ []) here refl

  pub kept-replies : sent false (came bytes ∷ began ∷ []) ≡ codes "/a"
  kept-replies = subst (λ (f : Fed). (first false f).state.ledger.sent place.Client ≡ codes "/a") here refl

pub kept-waits : (bytes : List ℕ) → Asks kind.Nothing false (codes "/a") bytes []
    → acts false (took (codes "/a") ∷ Did (Offer place.Client) ∷ came bytes ∷ began ∷ []) ≡ act.Arm 0 (record { 0 = 1_020 }) ∷ []
kept-waits bytes h =
    let one = asked (request kind.Nothing false (codes "/a") h.headers) (to (codes "/a")) [] in
    subst (λ (f : Fed). (taken false (codes "/a") (first false f).state).acts ≡ act.Arm 0 (record { 0 = 1_020 }) ∷ [])
    (asked-is kind.Nothing false (codes "/a") bytes [] h)
    (subst (λ (f : Fed). (next false 0 (codes "/a") f (first false one).state).acts ≡ act.Arm 0 (record { 0 = 1_020 }) ∷ []) nothing-is refl)

-- the connection that waits for the next request, and what a first byte of that leads to
byte-is : record { answer = out.Waiting; after = came_at line.Head (71 ∷ []) } ≡ fed nothing (71 ∷ [])
byte-is = fed-only nothing (came_at line.Head (71 ∷ [])) (71 ∷ []) out.Waiting ((read.More, refl, refl), refl)

abbrev idle : List Pair2 → Fed → State ℕ (Both Echo)
idle headers g = (next false 0 (codes "/a") g (first false (asked (request kind.Nothing false (codes "/a") headers) (to (codes "/a")) [])).state).state

pub byte-begins : (bytes : List ℕ) → Asks kind.Nothing false (codes "/a") bytes []
    → acts false (came (71 ∷ []) ∷ took (codes "/a") ∷ Did (Offer place.Client) ∷ came bytes ∷ began ∷ []) ≡ act.Arm 0 (record { 0 = 1_010 }) ∷ []
byte-begins bytes h =
    let st = idle h.headers (record { answer = out.Waiting; after = nothing }) in
    subst (λ (f : Fed). (sends false (71 ∷ []) (taken false (codes "/a") (first false f).state).state).acts ≡ act.Arm 0 (record { 0 = 1_010 }) ∷ [])
    (asked-is kind.Nothing false (codes "/a") bytes [] h)
    (subst (λ (g : Fed). (sends false (71 ∷ []) (idle h.headers g)).acts ≡ act.Arm 0 (record { 0 = 1_010 }) ∷ []) nothing-is
    (subst (λ (f : Fed). (perform (turns.came_at (echo_site false) 1_000 stage.Idle f st.inner) (entered (came []) st.ledger) st.inner).acts ≡ act.Arm 0 (record { 0 = 1_010 }) ∷ []) byte-is refl))

pub keepalive-runs-out : (bytes : List ℕ) → Asks kind.Nothing false (codes "/a") bytes []
    → acts false (Did (Due 0) ∷ took (codes "/a") ∷ Did (Offer place.Client) ∷ came bytes ∷ began ∷ []) ≡ act.HangUp place.Client ∷ act.Gone ∷ []
keepalive-runs-out bytes h =
    subst (λ (f : Fed). (stepped (plan false) 1_000 (Did (Due 0)) (taken false (codes "/a") (first false f).state).state).acts ≡ act.HangUp place.Client ∷ act.Gone ∷ [])
    (asked-is kind.Nothing false (codes "/a") bytes [] h)
    (subst (λ (g : Fed). (stepped (plan false) 1_000 (Did (Due 0)) (idle h.headers g)).acts ≡ act.HangUp place.Client ∷ act.Gone ∷ []) nothing-is refl)

-- ---- a head that is refused

module _ (bytes : List ℕ) (code : ℕ) (h : IsOf bytes (out.Refused code)) where
  refused : Fed
  refused = record { answer = out.Refused code; after = came_at (line.Over code) [] }

  pub refused-is : record { answer = out.Refused code; after = came_at (line.Over code) [] } ≡ fed nothing bytes
  refused-is = fed-only nothing (came_at (line.Over code) []) bytes (out.Refused code) (h, refl)

  pub refused-begins : acts false (came bytes ∷ began ∷ []) ≡ act.Cancel 0 ∷ act.Offer place.Client ∷ []
  refused-begins = subst (λ (f : Fed). (first false f).acts ≡ act.Cancel 0 ∷ act.Offer place.Client ∷ []) refused-is refl

  pub refused-replies : sent false (came bytes ∷ began ∷ []) ≡ code ∷ []
  refused-replies = subst (λ (f : Fed). (first false f).state.ledger.sent place.Client ≡ code ∷ []) refused-is refl

  pub refused-closes : acts false (took (code ∷ []) ∷ Did (Offer place.Client) ∷ came bytes ∷ began ∷ []) ≡ act.HangUp place.Client ∷ act.Gone ∷ []
  refused-closes = subst (λ (f : Fed). (taken false (code ∷ []) (first false f).state).acts ≡ act.HangUp place.Client ∷ act.Gone ∷ []) refused-is refl

-- ---- two requests at once

pub done-whole : (rest : List ℕ) → came_at line.Head rest ≡ done (came_at (line.Present None kind.Nothing state.Whole) rest)
done-whole rest =
    ap (λ n. came_at line.Head (drop n rest)) (sym (settled-counts state.Whole rest refl)) ∙ ap (λ s. after_body s (drop (skip_count state.Whole rest) rest)) (sym (settled-stays state.Whole rest refl))

pub fed-head : (rest : List ℕ) → fed nothing rest ≡ fed (came_at line.Head rest) []
fed-head rest = ap (λ (xs : List ℕ). led line.Head xs) (sym (append-nil rest))

module _ (bytes more rest : List ℕ) (b : ℕ) (h : Asks kind.Nothing false (codes "/a") bytes (b ∷ more)) (second : Asks kind.Nothing false (codes "/b") (b ∷ more) rest) where
  one-is : asked (request kind.Nothing false (codes "/a") h.headers) (to (codes "/a")) (b ∷ more) ≡ fed nothing bytes
  one-is = asked-is kind.Nothing false (codes "/a") bytes (b ∷ more) h

  two-is : asked (request kind.Nothing false (codes "/b") second.headers) (to (codes "/b")) rest ≡ fed (done (came_at (line.Present None kind.Nothing state.Whole) (b ∷ more))) []
  two-is = asked-is kind.Nothing false (codes "/b") (b ∷ more) rest second ∙ fed-head (b ∷ more) ∙ ap (λ (c : Came). fed c []) (done-whole (b ∷ more))

  pub pair-replies : sent false (came bytes ∷ began ∷ []) ≡ codes "/a"
  pair-replies = subst (λ (f : Fed). (first false f).state.ledger.sent place.Client ≡ codes "/a") one-is refl

  pub pair-goes-on : acts false (took (codes "/a") ∷ Did (Offer place.Client) ∷ came bytes ∷ began ∷ []) ≡ []
  pair-goes-on =
      subst (λ (f : Fed). (taken false (codes "/a") (first false f).state).acts ≡ []) one-is
      (subst (λ (f : Fed). (next false (suc (length more)) (codes "/a") f (first false (asked (request kind.Nothing false (codes "/a") h.headers) (to (codes "/a")) (b ∷ more))).state).acts ≡ []) two-is refl)

  pub pair-replies-again : sent false (took (codes "/a") ∷ Did (Offer place.Client) ∷ came bytes ∷ began ∷ []) ≡ codes "/a/b"
  pair-replies-again =
      subst (λ (f : Fed). (taken false (codes "/a") (first false f).state).state.ledger.sent place.Client ≡ codes "/a/b") one-is
      (subst (λ (f : Fed). (next false (suc (length more)) (codes "/a") f (first false (asked (request kind.Nothing false (codes "/a") h.headers) (to (codes "/a")) (b ∷ more))).state).state.ledger.sent place.Client ≡ codes "/a/b") two-is refl)

-- ---- a body that isn't read

module _ (bytes : List ℕ) (h : Asks (kind.Length 3) false (codes "/a") bytes []) where
  pub body-is : asked (request (kind.Length 3) false (codes "/a") h.headers) (to (codes "/a")) [] ≡ fed nothing bytes
  body-is = asked-is (kind.Length 3) false (codes "/a") bytes [] h

  pub dropped-waits : acts false (took (codes "/a") ∷ Did (Offer place.Client) ∷ came bytes ∷ began ∷ []) ≡ act.Arm 0 (record { 0 = 1_030 }) ∷ []
  dropped-waits = subst (λ (f : Fed). (taken false (codes "/a") (first false f).state).acts ≡ act.Arm 0 (record { 0 = 1_030 }) ∷ []) body-is refl

  pub dropped-anew : acts false (came (1 ∷ []) ∷ took (codes "/a") ∷ Did (Offer place.Client) ∷ came bytes ∷ began ∷ []) ≡ act.Arm 0 (record { 0 = 1_030 }) ∷ []
  dropped-anew = subst (λ (f : Fed). (sends false (1 ∷ []) (taken false (codes "/a") (first false f).state).state).acts ≡ act.Arm 0 (record { 0 = 1_030 }) ∷ []) body-is refl

  pub read-anew : acts true (came (1 ∷ []) ∷ came bytes ∷ began ∷ []) ≡ act.Arm 0 (record { 0 = 1_030 }) ∷ []
  read-anew = subst (λ (f : Fed). (sends true (1 ∷ []) (first true f).state).acts ≡ act.Arm 0 (record { 0 = 1_030 }) ∷ []) body-is refl

  pub dropped-whole : acts false (came (1 ∷ 2 ∷ 3 ∷ []) ∷ took (codes "/a") ∷ Did (Offer place.Client) ∷ came bytes ∷ began ∷ []) ≡ act.Arm 0 (record { 0 = 1_020 }) ∷ []
  dropped-whole =
      let st = (taken false (codes "/a") (first false (asked (request (kind.Length 3) false (codes "/a") h.headers) (to (codes "/a")) [])).state).state in
      subst (λ (f : Fed). (sends false (1 ∷ 2 ∷ 3 ∷ []) (taken false (codes "/a") (first false f).state).state).acts ≡ act.Arm 0 (record { 0 = 1_020 }) ∷ []) body-is
      (subst (λ (f : Fed). (perform (turns.came_at (echo_site false) 1_000 stage.Drop f st.inner) (entered (came []) st.ledger) st.inner).acts ≡ act.Arm 0 (record { 0 = 1_020 }) ∷ []) nothing-is refl)

-- ---- a body that is waited for

module _ (bytes : List ℕ) (h : Asks (kind.Length 3) true (codes "/a") bytes []) where
  expects-is : asked (request (kind.Length 3) true (codes "/a") h.headers) (to (codes "/a")) [] ≡ fed nothing bytes
  expects-is = asked-is (kind.Length 3) true (codes "/a") bytes [] h

  pub continues : acts true (came bytes ∷ began ∷ []) ≡ act.Cancel 0 ∷ act.Offer place.Client ∷ act.Arm 0 (record { 0 = 1_030 }) ∷ []
  continues = subst (λ (f : Fed). (first true f).acts ≡ act.Cancel 0 ∷ act.Offer place.Client ∷ act.Arm 0 (record { 0 = 1_030 }) ∷ []) expects-is refl

  pub body-replies : sent true (came (codes "hi!") ∷ came bytes ∷ began ∷ []) ≡ continue_reply ++ codes "hi!"
  body-replies = subst (λ (f : Fed). (sends true (codes "hi!") (first true f).state).state.ledger.sent place.Client ≡ continue_reply ++ codes "hi!") expects-is refl

-- a body that is too large
pub too-large : (bytes : List ℕ) → Asks (kind.Length 9) false (codes "/a") bytes [] → sent true (came bytes ∷ began ∷ []) ≡ 413 ∷ []
too-large bytes h = subst (λ (f : Fed). (first true f).state.ledger.sent place.Client ≡ 413 ∷ []) (asked-is (kind.Length 9) false (codes "/a") bytes [] h) refl

-- ---- a client that takes no bytes, and one that is gone

abbrev pub then_ : Bool → LocalAction ℕ → State ℕ (Both Echo) → Performed ℕ (Both Echo)
then_ reads a st = stepped (plan reads) 1_000 a st

module _ (bytes : List ℕ) (code : ℕ) (h : IsOf bytes (out.Refused code)) where
  abbrev put_off : Fed → State ℕ (Both Echo)
  put_off f = (then_ false (Did (Later place.Client)) (then_ false (Did (Offer place.Client)) (first false f).state).state).state

  pub put-off-waits : acts false (Did (Later place.Client) ∷ Did (Offer place.Client) ∷ came bytes ∷ began ∷ []) ≡ act.Arm 1 (record { 0 = 1_040 }) ∷ []
  put-off-waits = subst (λ (f : Fed). (then_ false (Did (Later place.Client)) (then_ false (Did (Offer place.Client)) (first false f).state).state).acts ≡ act.Arm 1 (record { 0 = 1_040 }) ∷ []) (refused-is bytes code h) refl

  pub ready-resumes : acts false (Did (Ready place.Client) ∷ Did (Later place.Client) ∷ Did (Offer place.Client) ∷ came bytes ∷ began ∷ []) ≡ act.Cancel 1 ∷ act.Offer place.Client ∷ []
  ready-resumes = subst (λ (f : Fed). (then_ false (Did (Ready place.Client)) (put_off f)).acts ≡ act.Cancel 1 ∷ act.Offer place.Client ∷ []) (refused-is bytes code h) refl

  pub send-runs-out : acts false (Did (Due 1) ∷ Did (Later place.Client) ∷ Did (Offer place.Client) ∷ came bytes ∷ began ∷ []) ≡ act.HangUp place.Client ∷ act.Gone ∷ []
  send-runs-out = subst (λ (f : Fed). (then_ false (Did (Due 1)) (put_off f)).acts ≡ act.HangUp place.Client ∷ act.Gone ∷ []) (refused-is bytes code h) refl

module _ (bytes : List ℕ) (h : Asks (kind.Length 3) false (codes "/a") bytes []) where
  pub end-refuses : sent true (Did (Ended place.Client) ∷ came bytes ∷ began ∷ []) ≡ 400 ∷ []
  end-refuses = subst (λ (f : Fed). (then_ true (Did (Ended place.Client)) (first true f).state).state.ledger.sent place.Client ≡ 400 ∷ []) (body-is bytes h) refl

  pub break-hangs-up : acts true (Did (Broken place.Client) ∷ came bytes ∷ began ∷ []) ≡ act.HangUp place.Client ∷ act.Cancel 0 ∷ act.Ready 0 ∷ []
  break-hangs-up = subst (λ (f : Fed). (then_ true (Did (Broken place.Client)) (first true f).state).acts ≡ act.HangUp place.Client ∷ act.Cancel 0 ∷ act.Ready 0 ∷ []) (body-is bytes h) refl

  pub run-ends : acts true (Did (Run 0) ∷ Did (Close place.Client) ∷ Did (Broken place.Client) ∷ came bytes ∷ began ∷ []) ≡ act.Gone ∷ []
  run-ends = subst (λ (f : Fed). (then_ true (Did (Run 0)) (then_ true (Did (Close place.Client)) (then_ true (Did (Broken place.Client)) (first true f).state).state).state).acts ≡ act.Gone ∷ []) (body-is bytes h) refl

-- ---- timers that run out

pub header-runs-out : acts false (Did (Due 0) ∷ began ∷ []) ≡ act.HangUp place.Client ∷ act.Gone ∷ []
header-runs-out = refl
