-- The turn in which a run of a site of Lua does its work, and how much is left of it.
use Rattle.std.proofs.Common.{◌≡◌, ℕ, ◌+◌, ◌<◌, ◌≤◌, Bool, true, false, not, List, [], ◌∷◌, ◌++◌, length, Option, Some, None, if◌then◌else◌, Result, Ok, Err, IfOk}
use Rattle.std.proofs.Common.{refl, sym, ap, ◌∙◌, subst, append-nil, append_assoc, arith}
use Rattle.std.specs.Prelude.{is_some}
use Rattle.strand_contract.specs.declared.turns.Act.TheVariants as act
use Rattle.strand_plans.specs.Ledgers.{Ledger, empty_ledger, has_number}
use Rattle.request_api.specs.declared.requests.Req.{Req}
use Rattle.run_contract.specs.declared.turns.Asking.{Asking}
use Rattle.run_contract.specs.declared.turns.RunTurn.{RunTurn}
use Rattle.run_contract.specs.declared.turns.RunAct.{RunAct}
use Rattle.run_contract.specs.declared.turns.RunAct.TheVariants as made
use Rattle.run_contract.specs.declared.turns.Said.TheVariants as said
use Rattle.run_contract.specs.Deeds.{Deed, Say, Turn, made_if, made_after, taken, within}
use Rattle.run_contract.specs.Calls.{size_of}
use Rattle.reply_stages.specs.declared.replies.Sent.{Sent}
use Rattle.lua_run.specs.declared.run.Work.{Work}
use Rattle.lua_run.specs.declared.run.Work.TheVariants.{Request, Job, Over}
use Rattle.lua_run.specs.Answers.{Site, has_handler, reply_of}
use Rattle.lua_run.specs.Runs.{Run, logged, reply_deeds, work_deeds, lua_works, begins_by, lua_begins, left_of_work}

-- what comes behind a line of the log
line-then : {J : Type 0} (line : Option (List ℕ)) (ds : List Deed) (b : Ledger J) → made_after (logged line) b ++ made_after ds b ≡ made_after (logged line ++ ds) b
line-then None ds b = refl
line-then (Some line) ds b = refl

-- three pushes, of the words of the reply
pub reply-made : {J : Type 0} (line : Option (List ℕ)) (sent : Sent) (first second third last : List (RunAct J)) (b : Ledger J)
    → first ≡ made_after (logged line) b → second ≡ first ++ made.Say (said.Send sent.bytes) ∷ [] → third ≡ second ++ made.Say (said.Ended sent.closes) ∷ []
    → last ≡ third ++ made.Say said.Over ∷ [] → last ≡ made_after (reply_deeds (record { line = line; sent = sent })) b
reply-made line sent first second third last b logs sends ends over =
    let words : List Deed = Say (said.Send sent.bytes) ∷ Say (said.Ended sent.closes) ∷ Say said.Over ∷ [] in
    over
    ∙ ap (λ xs. xs ++ made.Say said.Over ∷ []) (ends ∙ ap (λ xs. xs ++ made.Say (said.Ended sent.closes) ∷ []) sends)
    ∙ append_assoc (first ++ made.Say (said.Send sent.bytes) ∷ []) (made.Say (said.Ended sent.closes) ∷ []) (made.Say said.Over ∷ [])
    ∙ append_assoc first (made.Say (said.Send sent.bytes) ∷ []) (made.Say (said.Ended sent.closes) ∷ made.Say said.Over ∷ [])
    ∙ ap (λ xs. xs ++ made_after words b) logs
    ∙ line-then line words b

none-asked : (o : Option Asking) → o ≡ None → ◌≡◌ {A = ℕ} (if is_some o then 1 else 0) 0
none-asked o e = ap (λ (o : Option Asking). if is_some o then 1 else 0) e

-- the reply is a line and three words at most
few-reply : {J : Type 0} (line : Option (List ℕ)) (sent : Sent) (b : Ledger J) → length (made_after (reply_deeds (record { line = line; sent = sent })) b) < 5
few-reply None sent b = omega arith
few-reply (Some line) sent b = omega arith

few : {J : Type 0} (site : Site) (now : ℕ) (w : Work) (b : Ledger J) → (w ≡ Over → ⊥) → length (made_after (work_deeds site now w) b) < left_of_work w
few site now (Request req) b some = let r = reply_of site req now in few-reply r.line r.sent b
few site now Job b some = omega arith
few site now Over b some = absurd (some refl)

-- its work is done
pub works-falls : {J E : Type 0} (site : Site) (now : ℕ) (result : Result (RunTurn J) E) (done w old : Work) (client : Bool) → done ≡ Over → w ≡ old → (old ≡ Over → ⊥)
    → IfOk result (λ turn. (b : Ledger J) → turn.does.items ≡ made_after (work_deeds site now w) b) → IfOk result (λ turn. turn.asks ≡ None)
    → IfOk result (λ turn. left_of_work done + (if client then 1 else 0) + size_of turn < left_of_work old + (if client then 1 else 0))
works-falls {J} site now (Ok turn) done w old client over same some does asks =
    let all : length turn.does.items ≡ length (made_after (work_deeds site now old) (empty_ledger {J = J})) =
    ap length (does empty_ledger) ∙ ap (λ x. length (made_after (work_deeds site now x) (empty_ledger {J = J}))) same in
    let nothing : left_of_work done ≡ 0 = ap left_of_work over in
    omega (arith, all, nothing, none-asked turn.asks asks, few site now old (empty_ledger {J = J}) some)
works-falls site now (Err e) done w old client over same some does asks = tt

-- a run took the turn: what it has to do, its client, and what the code returned
abbrev Takes : {J : Type 0} → Turn J Run → Ledger J → Work → Bool → RunTurn J → Type 0
Takes t b work client turn = ((work ≡ t.run.work) × (client ≡ t.run.client)) × (turn.does.items ≡ (taken t b).made) × (turn.asks ≡ within t.asks)

-- it took that of its work
worked : {J : Type 0} (site : Site) (now : ℕ) (r : Run) (b : Ledger J) (done : Work) (client : Bool) (turn : RunTurn J) → done ≡ Over → client ≡ r.client
    → turn.does.items ≡ made_after (work_deeds site now r.work) b → turn.asks ≡ None → Takes (lua_works site now r) b done client turn
worked site now r b done client turn over same does asks = ((over, same), does ∙ sym (append-nil (made_after (work_deeds site now r.work) b)), asks)

pub works-took : {J E : Type 0} (site : Site) (now : ℕ) (result : Result (RunTurn J) E) (done w old : Work) (client : Bool) → done ≡ Over → w ≡ old
    → IfOk result (λ turn. (b : Ledger J) → turn.does.items ≡ made_after (work_deeds site now w) b) → IfOk result (λ turn. turn.asks ≡ None)
    → IfOk result (λ turn. (b : Ledger J) (r : Run) → (old ≡ r.work) × (client ≡ r.client) → Takes (lua_works site now r) b done client turn)
works-took site now (Ok turn) done w old client over same does asks = λ b r stood.
    worked site now r b done client turn over stood.1 (does b ∙ ap (λ x. made_after (work_deeds site now x) b) (same ∙ stood.0)) asks
works-took site now (Err e) done w old client over same does asks = tt

-- ---- how it begins

-- what follows for a value from three things that hold of it
pub ok-three : {A E : Type 0} (result : Result A E) (P Q S T : A → Type 0) → ((a : A) → P a → Q a → S a → T a) → IfOk result P → IfOk result Q → IfOk result S
    → IfOk result T
ok-three (Ok a) P Q S T f p q s = f a p q s
ok-three (Err e) P Q S T f p q s = tt

pub of-ok : {A E : Type 0} (result : Result A E) (a : A) (P : A → Type 0) → result ≡ Ok a → IfOk result P → P a
of-ok {A} {E} result a P is h = subst (λ (r : Result A E). IfOk r P) is h

abbrev first : Req → Run
first req = record { work = Request req; client = true }

-- by whether a handler answers the request
begun : {J : Type 0} (site : Site) (now : ℕ) (made asked : Req) (c : Bool) (b : Ledger J) (work : Work) (client : Bool) (turn : RunTurn J) → made ≡ asked
    → has_handler site.conf made ≡ c → Takes (begins_by c site now (first made)) b work client turn → Takes (lua_begins site now asked) b work client turn
begun site now made asked c b work client turn same has h =
    subst (λ (req : Req). Takes (lua_begins site now req) b work client turn) same
    (subst (λ (c : Bool). Takes (begins_by c site now (first made)) b work client turn) (sym has) h)

-- with a thread in line
pub queued-took : {J : Type 0} (site : Site) (now : ℕ) (req asked : Req) (work : Work) (client : Bool) (turn : RunTurn J) (b : Ledger J)
    → req ≡ asked → has_handler site.conf req ≡ true → work ≡ Request req → client ≡ true → turn.does.items ≡ made.Act (act.Ready 0) ∷ [] → turn.asks ≡ None → b.threads ≡ []
    → Takes (lua_begins site now asked) b work client turn
queued-took {J} site now req asked work client turn b same has is there does asks none =
    begun site now req asked true b work client turn same has
    ((is, there), does ∙ ap (λ (ts : List ℕ). (made_if {J = J} (not (has_number 0 ts)) (act.Ready 0) ++ []) ++ []) (sym none), asks)

-- or with the reply
pub replied-took : {J : Type 0} (site : Site) (now : ℕ) (req asked : Req) (work : Work) (client : Bool) (turn : RunTurn J) (b : Ledger J)
    → req ≡ asked → has_handler site.conf req ≡ false → work ≡ Over → client ≡ true → turn.does.items ≡ made_after (work_deeds site now (Request req)) b → turn.asks ≡ None
    → Takes (lua_begins site now asked) b work client turn
replied-took site now req asked work client turn b same has over there does asks =
    begun site now req asked false b work client turn same has (worked site now (first req) b work client turn over there does asks)

-- then four are left at most
pub replied-left : {J : Type 0} (site : Site) (now : ℕ) (req : Req) (work : Work) (client : Bool) (turn : RunTurn J) → work ≡ Over
    → ((b : Ledger J) → turn.does.items ≡ made_after (work_deeds site now (Request req)) b) → turn.asks ≡ None
    → left_of_work work + (if client then 1 else 0) + size_of turn ≤ 7
replied-left {J} site now req work client turn over does asks =
    let all : length turn.does.items ≡ length (made_after (work_deeds site now (Request req)) (empty_ledger {J = J})) = ap length (does empty_ledger) in
    let nothing : left_of_work work ≡ 0 = ap left_of_work over in
    omega (arith, all, nothing, none-asked turn.asks asks, at-most-one client, few site now (Request req) (empty_ledger {J = J}) (λ e. cc))
  where
    at-most-one : (c : Bool) → ◌≤◌ (if c then 1 else 0) 1
    at-most-one true = omega arith
    at-most-one false = omega arith

-- that the client is gone is told once
pub gone-falls : {J : Type 0} (turn : RunTurn J) (w : Work) (client : Bool) → client ≡ true → turn.does.items ≡ [] → turn.asks ≡ None
    → left_of_work w + 0 + size_of turn < left_of_work w + (if client then 1 else 0)
gone-falls turn w client e does asks =
    let none : length turn.does.items ≡ 0 = ap length does in
    let silent = none-asked turn.asks asks in
    let old : ◌≡◌ {A = ℕ} (if client then 1 else 0) 1 = ap (λ (c : Bool). if c then 1 else 0) e in
    omega (arith, none, silent, old)
