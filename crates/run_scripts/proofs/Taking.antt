-- The turns of the code are those of the plan, and each leaves less to be done.
use Rattle.std.proofs.Common.{◌≡◌, ℕ, ◌+◌, ◌*◌, ◌≤◌, ◌<◌, Bool, true, false, List, [], ◌∷◌, ◌++◌, length, Option, Some, None, if◌then◌else◌}
use Rattle.std.proofs.Common.{refl, sym, ap, ◌∙◌, subst, append-nil, length-append, arith, inl, inr, Result, Ok, Err}
use Rattle.std.specs.Prelude.{◌⊎◌, is_some, not, IfOk}
use Rattle.strand_contract.specs.declared.turns.Act.TheVariants as act
use Rattle.uri_args.specs.declared.targets.Target.{Target}
use Rattle.http_in.specs.declared.heads.Head.{Head}
use Rattle.strand_contract.specs.declared.turns.Answer.{Answer}
use Rattle.strand_contract.specs.Actions.{Did, Run}
use Rattle.strand_plans.specs.Ledgers.{Ledger, has_number, entered}
use Rattle.run_contract.specs.declared.stored.NoJob.{NoJob}
use Rattle.run_contract.specs.declared.turns.Asking.{Asking}
use Rattle.run_contract.specs.declared.turns.LocationTimes.{LocationTimes}
use Rattle.run_contract.specs.declared.turns.RunAct.TheVariants as made
use Rattle.run_contract.specs.declared.turns.RunSeen.{RunSeen}
use Rattle.run_contract.specs.declared.turns.RunSeen.TheVariants as seen
use Rattle.run_contract.specs.declared.turns.RunTurn.{RunTurn}
use Rattle.run_contract.specs.Calls.{Meaning, size_of, is_own_turn, Took, Begins, MayBeTold, TakesTurn, MayBeAnswered, TakesAnswer}
use Rattle.run_contract.specs.Conditions.{MayCome, entered_as}
use Rattle.run_contract.specs.Deeds.{Deed, Turn, taken, within, made_if}
use Rattle.run_scripts.specs.declared.run.Progress.{Progress}
use Rattle.run_scripts.specs.declared.run.Progress.TheVariants.{Asked, Sleeping, Woken, Gone, Over}
use Rattle.run_scripts.specs.declared.run.ScriptedRun.{ScriptedRun}
use Rattle.run_scripts.specs.declared.script.Script.{Script}
use Rattle.run_scripts.specs.declared.script.Step.{Step}
use Rattle.run_scripts.specs.Scripted.{ends, does, run_at, scripted_turn, scripted_plan, ScriptedHolds, tells_at, threads_at}
use Rattle.run_scripts.specs.Scripted as plan
use Rattle.run_scripts.specs.ScriptedLaws.{none-comes, due-sleeping, run-queued, hears-body, hears-taken, is-asked, has-client, is-counted}
use Rattle.run_scripts.specs.Steps.{step-made}
use Rattle.run_scripts.specs.Turns.{Made, asks_first, moved, logged, sent, step_made, end_made, heard, ran, client_ended, let_go, told, left_of, turns_at}
use Rattle.run_scripts.specs.Turns as code

abbrev meant : Script → Meaning ScriptedRun NoJob ScriptedRun
meant script = record { plan = scripted_plan script; holds = ScriptedHolds script; stands = λ run b r. run ≡ r }

-- ---- the same turns

-- the code's turn is that of the plan
record IsSame (c : code.Took) (t : Turn NoJob ScriptedRun) (b : Ledger NoJob) : Type 0 where
  pub run : c.run ≡ t.run
  pub made : c.does ≡ (taken t b).made
  pub asks : within t.asks ≡ None

by-step : (x : Step) (ds : List Deed) (rest : Made) (r : ScriptedRun) (b : Ledger NoJob) → IsSame (code.turn rest r) (does ds r) b
    → IsSame (code.turn (step_made x ++ rest) r) (does (plan.step x ds) r) b
by-step x ds rest r b h = record {
  run = refl;
  made = ap (λ (xs : Made). step_made x ++ xs) (h.made ∙ append-nil _) ∙ sym (append-nil _ ∙ step-made x ds b);
  asks = refl;
}

alone : (x : Step) (r : ScriptedRun) (b : Ledger NoJob) → IsSame (code.turn (step_made x) r) (does (plan.step x []) r) b
alone x r b = record { run = refl; made = sym (append-nil _ ∙ step-made x [] b ∙ append-nil _); asks = refl }

ending : (closes : Bool) (r : ScriptedRun) (b : Ledger NoJob) → IsSame (code.turn (end_made closes) r) (does (ends closes) r) b
ending closes r b = record { run = refl; made = refl; asks = refl }

heard-same : (script : Script) (client : Bool) (p : Progress) (b : Ledger NoJob) → IsSame (heard script client p) (plan.heard script client p) b
heard-same script client Asked b = by-step script.answered (ends script.closes) (end_made script.closes) (run_at Over client) b (ending script.closes (run_at Over client) b)
heard-same script client p b = by-step script.later (ends script.closes) (end_made script.closes) (run_at Over client) b (ending script.closes (run_at Over client) b)

ran-same : (script : Script) (client : Bool) (p : Progress) (b : Ledger NoJob) → IsSame (ran script client p) (plan.ran script client p) b
ran-same script client Woken b = by-step script.woken (ends script.closes) (end_made script.closes) (run_at Over client) b (ending script.closes (run_at Over client) b)
ran-same script client p b = ending script.closes (run_at Over client) b

ended-same : (script : Script) (client : Bool) (p : Progress) (b : Ledger NoJob) → IsSame (client_ended script client p) (plan.client_ended script client p) b
ended-same script client Sleeping b = alone script.client_ends (run_at Sleeping client) b
ended-same script client Woken b = alone script.client_ends (run_at Woken client) b
ended-same script client p b = record { run = refl; made = refl; asks = refl }

-- the thread is queued where it isn't yet
put-in : (p : Progress) (ks : List ℕ) → ks ≡ threads_at p → p ≡ Sleeping → made_if {J = NoJob} (not (has_number 0 ks)) (act.Ready 0) ≡ made.Act (act.Ready 0) ∷ []
put-in Sleeping ks h e = ap (λ (ks : List ℕ). made_if {J = NoJob} (not (has_number 0 ks)) (act.Ready 0)) h
put-in p ks h e = absurd (cc)

gone-same : {script : Script} (client : Bool) (p : Progress) (b : Ledger NoJob) → ScriptedHolds script b (run_at p client) → IsSame (let_go p) (plan.let_go p) b
gone-same client Sleeping b h = record {
  run = refl;
  made = ap (λ (xs : Made). made.Act (act.Cancel 2) ∷ xs) (sym (append-nil _ ∙ append-nil _ ∙ put-in Sleeping b.threads h.threads refl));
  asks = refl;
}
gone-same client p b h = record { run = refl; made = refl; asks = refl }

told-same : (script : Script) (now : ℕ) (s : RunSeen) (b : Ledger NoJob) (r : ScriptedRun) → ScriptedHolds script b r → MayCome (scripted_plan script) now s b r
    → IsSame (told script now s r) (scripted_turn script now s (entered_as s b) r) (entered_as s b)
told-same script now (seen.Run k) b r h x = ran-same script r.has_client r.progress (entered (Did (Run k)) b)
told-same script now (seen.Due n) b r h x = record {
  run = refl;
  made = sym (append-nil _ ∙ append-nil _ ∙ put-in r.progress b.threads h.threads (due-sleeping now n b r h x.0 x.1));
  asks = refl;
}
told-same script now (seen.Body content waited) b r h x = heard-same script r.has_client r.progress b
told-same script now (seen.BodyRefused code) b r h x = heard-same script r.has_client r.progress b
told-same script now seen.AllTaken b r h x = heard-same script r.has_client r.progress b
told-same script now seen.NotYet b r h x = by-step script.not_yet _ _ (run_at Sleeping r.has_client) b (record { run = refl; made = refl; asks = refl })
told-same script now seen.ClientEnded b r h x = ended-same script r.has_client r.progress b
told-same script now seen.ClientGone b r h x = gone-same r.has_client r.progress b h
told-same script now (seen.Sock k s) b r h x = none-comes b r k s h x.0

takes : (script : Script) (now : ℕ) (s : RunSeen) (b : Ledger NoJob) (old new r : ScriptedRun) (m : Made) → old ≡ r → ScriptedHolds script b r
    → MayCome (scripted_plan script) now s b r → code.turn m new ≡ told script now s old
    → let c = entered_as s b in let t = scripted_turn script now s c r in (new ≡ t.run) × (m ≡ (taken t c).made) × (within t.asks ≡ None)
takes script now s b old new r m e h x is =
    let there = is ∙ ap (told script now s) e in let same = told-same script now s b r h x in
    (ap (λ (t : code.Took). t.run) there ∙ same.run, ap (λ (t : code.Took). t.does) there ∙ same.made, same.asks)

-- as it begins
begun-same : (script : Script) (key : Option (List ℕ)) (b : Ledger NoJob) (run : ScriptedRun) (t : RunTurn NoJob)
    → code.turn t.does.items run ≡ code.begun script key → t.asks ≡ asks_first script.asks key → Took (meant script) (plan.begun script key) b run t
begun-same script None b run t is asks =
    (ap (λ (t : code.Took). t.run) is, ap (λ (t : code.Took). t.does) is ∙ sym (append-nil _ ∙ step-made script.first [] b ∙ append-nil _), asks)
begun-same script (Some key) b run t is asks = (ap (λ (t : code.Took). t.run) is, ap (λ (t : code.Took). t.does) is, asks)

-- ---- how much is left

moved-short : (o : Option LocationTimes) → length (moved o) ≤ 1
moved-short None = omega arith
moved-short (Some t) = omega arith

logged-short : (o : Option (List ℕ)) → length (logged o) ≤ 1
logged-short None = omega arith
logged-short (Some t) = omega arith

sent-short : (o : Option (List ℕ)) → length (sent o) ≤ 1
sent-short None = omega arith
sent-short (Some t) = omega arith

step-short : (x : Step) (rest : Made) → length (step_made x ++ rest) ≤ 3 + length rest
step-short x rest =
    let a = moved-short x.moves_on in let b = logged-short x.logs in let c = sent-short x.says in
    let d : length (step_made x ++ rest) ≡ length (step_made x) + length rest = length-append (step_made x) rest in
    let e : length (step_made x) ≡ length (moved x.moves_on ++ logged x.logs) + length (sent x.says) = length-append (moved x.moves_on ++ logged x.logs) (sent x.says) in
    let f = length-append (moved x.moves_on) (logged x.logs) in
    omega (arith, a, b, c, d, e, f)

step-shorter : (x : Step) → length (step_made x) ≤ 3
step-shorter x = subst (λ (xs : Made). length xs ≤ 3) (append-nil (step_made x)) (step-short x [])

ends-short : (x : Step) (closes : Bool) → length (step_made x ++ end_made closes) ≤ 7
ends-short x closes = step-short x (end_made closes)

-- after the turn less is left than there was of a run that came so far
abbrev Falls : code.Took → Bool → Progress → Type 0
Falls t client p = left_of t.run + length t.does < 8 * (turns_at p + (if client then 1 else 0))

heard-left : (script : Script) (client : Bool) (p : Progress) → 0 < tells_at p → Falls (heard script client p) client p
heard-left script client Asked h = let n = ends-short script.answered script.closes in omega (arith, n)
heard-left script client p h = let n = ends-short script.later script.closes in omega (arith, n, h)

ran-left : (script : Script) (client : Bool) (p : Progress) → turns_at p ≡ 1 → Falls (ran script client p) client p
ran-left script client Woken h = let n = ends-short script.woken script.closes in omega (arith, n)
ran-left script client p h = omega (arith, h)

one-left : (p : Progress) → (p ≡ Woken) ⊎ (p ≡ Gone) → turns_at p ≡ 1
one-left p (inl e) = ap turns_at e
one-left p (inr e) = ap turns_at e

slept-left : (script : Script) (now : ℕ) (client : Bool) (p : Progress) → p ≡ Asked → Falls (code.slept script now client) client p
slept-left script now client Asked e = let n = step-short script.not_yet (code.sleep_made (plan.later now script.sleeps)) in omega (arith, n)
slept-left script now client p e = absurd (cc)

woken-left : (client : Bool) (p : Progress) → p ≡ Sleeping → Falls (code.turn (made.Act (act.Ready 0) ∷ []) (run_at Woken client)) client p
woken-left client Sleeping e = omega arith
woken-left client p e = absurd (cc)

gone-left : (client : Bool) (p : Progress) → client ≡ true → Falls (let_go p) client p
gone-left true Sleeping e = omega arith
gone-left true p e = omega arith
gone-left false p e = absurd (cc)

told-left : (script : Script) (now : ℕ) (s : RunSeen) (b : Ledger NoJob) (r : ScriptedRun) → ScriptedHolds script b r → MayCome (scripted_plan script) now s b r
    → is_own_turn s ≡ true → Falls (told script now s r) r.has_client r.progress
told-left script now (seen.Run k) b r h x own = ran-left script r.has_client r.progress (one-left r.progress (run-queued k b r h x.0))
told-left script now (seen.Due n) b r h x own = woken-left r.has_client r.progress (due-sleeping now n b r h x.0 x.1)
told-left script now (seen.Body content waited) b r h x own =
    heard-left script r.has_client r.progress (hears-body script.asks r.has_client r.progress x.1)
told-left script now (seen.BodyRefused code) b r h x own = heard-left script r.has_client r.progress (hears-body script.asks r.has_client r.progress x.1)
told-left script now seen.AllTaken b r h x own = heard-left script r.has_client r.progress (hears-taken script.asks r.has_client r.progress x.1)
told-left script now seen.NotYet b r h x own = slept-left script now r.has_client r.progress (is-asked script.asks r.has_client r.progress x.1).0
told-left script now seen.ClientEnded b r h x own = absurd (cc)
told-left script now seen.ClientGone b r h x own = gone-left r.has_client r.progress (has-client script.asks r.has_client r.progress x.1)
told-left script now (seen.Sock k s) b r h x own = none-comes b r k s h x.0

-- ---- what a call returns

pub takes-turn : {E : Type 0} (script : Script) (now : ℕ) (s : RunSeen) (old new : ScriptedRun) (result : Result (RunTurn NoJob) E)
    → IfOk result (λ t. code.turn t.does.items new ≡ told script now s old) → IfOk result (λ t. t.asks ≡ None)
    → IfOk result (λ t. TakesTurn (meant script) now s old new t)
takes-turn script now s old new (Ok t) is asks = λ b r e h x. let same = takes script now s b old new r t.does.items e h x is in (same.0, same.1, asks ∙ sym same.2)
takes-turn script now s old new (Err e) is asks = tt

pub takes-less : {E : Type 0} (script : Script) (now : ℕ) (s : RunSeen) (old new : ScriptedRun) (result : Result (RunTurn NoJob) E)
    → MayBeTold (meant script) now s old → is_own_turn s ≡ true
    → IfOk result (λ t. code.turn t.does.items new ≡ told script now s old) → IfOk result (λ t. t.asks ≡ None)
    → IfOk result (λ t. left_of new + size_of t < left_of old)
takes-less script now s old new (Ok t) may own is asks =
    let there = is ∙ ap (told script now s) may.2 in
    let less = told-left script now s may.0 may.1 may.3 may.4 own in
    let run : left_of new ≡ left_of (told script now s may.1).run = ap (λ (t : code.Took). left_of t.run) there in
    let size : length t.does.items ≡ length (told script now s may.1).does = ap (λ (t : code.Took). length t.does) there in
    let none : ◌≡◌ {A = ℕ} (if is_some t.asks then 1 else 0) 0 = ap (λ (o : Option Asking). if is_some o then 1 else 0) asks in
    let same : left_of old ≡ left_of may.1 = ap left_of may.2 in
    omega (arith, less, run, size, none, same)
takes-less script now s old new (Err e) may own is asks = tt

pub begins : {E : Type 0} (script : Script) (now sockets : ℕ) (head : Head) (target : Target) (result : Result (ScriptedRun × RunTurn NoJob) E)
    → IfOk result (λ r. code.turn r.1.does.items r.0 ≡ code.begun script script.counts)
    → IfOk result (λ r. r.1.asks ≡ asks_first script.asks script.counts)
    → IfOk result (λ r. Begins (meant script) now sockets head target r.0 r.1)
begins script now sockets head target (Ok r) is asks = λ b h count. begun-same script script.counts b r.0 r.1 is asks
begins script now sockets head target (Err e) is asks = tt

begun-left : (script : Script) (key : Option (List ℕ)) → let t = code.begun script key in
    left_of t.run + (length t.does + (if is_some (asks_first script.asks key) then 1 else 0)) ≤ 41
begun-left script None = let n = step-shorter script.first in omega (arith, n)
begun-left script (Some key) = omega arith

pub begins-short : {E : Type 0} (script : Script) (result : Result (ScriptedRun × RunTurn NoJob) E)
    → IfOk result (λ r. code.turn r.1.does.items r.0 ≡ code.begun script script.counts)
    → IfOk result (λ r. r.1.asks ≡ asks_first script.asks script.counts)
    → IfOk result (λ r. left_of r.0 + size_of r.1 ≤ 41)
begins-short script (Ok r) is asks =
    let run = ap (λ (t : code.Took). left_of t.run) is in
    let size = ap (λ (t : code.Took). length t.does) is in
    let asked : ◌≡◌ {A = ℕ} (if is_some r.1.asks then 1 else 0) (if is_some (asks_first script.asks script.counts) then 1 else 0) =
    ap (λ (o : Option Asking). if is_some o then 1 else 0) asks in
    let all = begun-left script script.counts in
    omega (arith, run, size, asked, all)
begins-short script (Err e) is asks = tt

pub takes-answer : {E : Type 0} (script : Script) (now : ℕ) (given : Answer) (old : ScriptedRun) (result : Result (RunTurn NoJob) E)
    → IfOk result (λ t. t.does.items ≡ step_made script.first) → IfOk result (λ t. t.asks ≡ Some script.asks)
    → IfOk result (λ t. TakesAnswer (meant script) now given old (run_at Asked old.has_client) t)
takes-answer script now given old (Ok t) does asks = λ b r x e h a. (
  ap (λ (r : ScriptedRun). run_at Asked r.has_client) e,
  does ∙ sym (append-nil _ ∙ step-made script.first [] (entered (Did x) b) ∙ append-nil _),
  asks,
)
takes-answer script now given old (Err e) does asks = tt

pub answer-less : {E : Type 0} (script : Script) (given : Answer) (old : ScriptedRun) (result : Result (RunTurn NoJob) E)
    → MayBeAnswered (meant script) given old
    → IfOk result (λ t. t.does.items ≡ step_made script.first) → IfOk result (λ t. t.asks ≡ Some script.asks)
    → IfOk result (λ t. left_of (run_at Asked old.has_client) + size_of t < left_of old)
answer-less script given old (Ok t) may does asks =
    let w = is-counted may.0 may.1 may.2 given may.4 may.5 in
    let was : turns_at old.progress ≡ 4 = ap (λ (r : ScriptedRun). turns_at r.progress) (may.3 ∙ w.run) in
    let short = step-shorter script.first in
    let size : length t.does.items ≡ length (step_made script.first) = ap length does in
    let one : ◌≡◌ {A = ℕ} (if is_some t.asks then 1 else 0) 1 = ap (λ (o : Option Asking). if is_some o then 1 else 0) asks in
    omega (arith, was, short, size, one)
answer-less script given old (Err e) may does asks = tt
