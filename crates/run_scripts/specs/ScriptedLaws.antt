-- That a run by a script meets the conditions of a run.
use Rattle.std.proofs.Common.{◌≡◌, ℕ, ◌+◌, ◌≤◌, ◌<◌, Bool, true, false, List, [], ◌∷◌, ◌++◌, drop, Option, Some, None, if◌then◌else◌}
use Rattle.std.proofs.Common.{refl, sym, ap, ◌∙◌, subst, arith, lit<, inl, inr}
use Rattle.std.proofs.lemmas.Int.{ints}
use Rattle.std.specs.Prelude.{◌⊎◌, pos, nat_lt, is_some, not}
use Rattle.resty_base.specs.WholeNumber.{IsWhole}
use Rattle.resty_base.specs.declared.names.Ms.{Ms}
use Rattle.resty_base.specs.declared.dictionary.DictAnswer.{DictAnswer}
use Rattle.strand_contract.specs.declared.turns.Place.TheVariants as place
use Rattle.strand_contract.specs.declared.turns.Answer.{Answer}
use Rattle.strand_contract.specs.declared.turns.Answer.TheVariants as answer
use Rattle.strand_contract.specs.Actions.{Action, Did, Dict, Run, Due}
use Rattle.strand_contract.specs.Calls.{answered}
use Rattle.strand_contract.specs.Alone.{IsPrefixOf, disarmed, without}
use Rattle.strand_plans.specs.Questions.{Question, asking_if}
use Rattle.strand_plans.specs.Ledgers.{Ledger, has, has_number, numbers, entered}
use Rattle.strand_plans.specs.Turns.{IsDue}
use Rattle.run_contract.specs.declared.turns.Asking.{Asking}
use Rattle.run_contract.specs.declared.turns.Asking.TheVariants as asking
use Rattle.run_contract.specs.declared.turns.RunSeen.{RunSeen}
use Rattle.run_contract.specs.declared.turns.RunSeen.TheVariants as seen
use Rattle.run_contract.specs.declared.turns.SockSeen.{SockSeen}
use Rattle.run_contract.specs.declared.turns.SockSeen.TheVariants as at
use Rattle.run_contract.specs.Alike.{own_deadlines, AreAlike}
use Rattle.run_contract.specs.Conditions.{IsBlank, IsUnused, MayComeAt, MayHear, MayCome, asks_body, asks_taken, Leaves, Fits, entered_as, IsRun}
use Rattle.run_contract.specs.Deeds.{Turn, Ready, Arm, Nothing, Within, IsQuiet}
use Rattle.run_contract.specs.Runs.{Waits, waits_at_first, waits_longer, waits_told, is_of_client}
use Rattle.run_scripts.specs.declared.run.Progress.{Progress}
use Rattle.run_scripts.specs.declared.run.Progress.TheVariants.{Counting, Asked, Sleeping, Woken, Gone, Over}
use Rattle.run_scripts.specs.declared.run.ScriptedRun.{ScriptedRun}
use Rattle.run_scripts.specs.declared.script.Script.{Script}
use Rattle.run_scripts.specs.Deadlines.{own, none-armed, due-own, own-left, own-armed}
use Rattle.run_scripts.specs.Scripted.{ends, later, run_at, does, count_of, opened, begun, heard, ran, client_ended, let_go, scripted_turn}
use Rattle.run_scripts.specs.Scripted.{waits_at, scripted_waits, tells_at, scripted_plan, threads_at, deadlines_at, counting, asked_at, ScriptedHolds}
use Rattle.run_scripts.specs.Steps.{step-leaves}

never : {C : Type 0} → false ≡ true → C
never e = absurd (cc)

-- ---- what it is told

-- nothing comes at a socket where none is open
shut : (J : Type 0) (b : Ledger J) (k : ℕ) (C : Type 0) → has (place.Sock k) b.opened ≡ false → has (place.Sock k) b.opened ≡ true → C
shut J b k C h f = never (sym h ∙ f)

pub none-comes : {J C : Type 0} {script : Script} (b : Ledger J) (r : ScriptedRun) (k : ℕ) (s : SockSeen) → ScriptedHolds script b r → MayComeAt k s b → C
none-comes {J} {C} b r k (at.Took n) h x = shut J b k C (h.no_socket k) x.taking.opened
none-comes {J} {C} b r k at.Later h x = shut J b k C (h.no_socket k) x.opened
none-comes {J} {C} b r k at.Lost h x = shut J b k C (h.no_socket k) x.opened
none-comes {J} {C} b r k (at.Bytes bytes) h x = shut J b k C (h.no_socket k) x.0.opened
none-comes {J} {C} b r k s h x = shut J b k C (h.no_socket k) x.opened

-- a deadline of its own that is due is that of its sleep
sleeps : (n : ℕ) (p : Progress) → has_number n (deadlines_at p) ≡ true → p ≡ Sleeping
sleeps n Sleeping e = refl
sleeps n Counting e = never e
sleeps n Asked e = never e
sleeps n Woken e = never e
sleeps n Gone e = never e
sleeps n Over e = never e

its-own : (n : ℕ) → has_number n (2 ∷ []) ≡ true → n ≡ 2
its-own n e = grind (arith, e)

not-below : (n : ℕ) → 2 ≤ n → nat_lt n 2 ≡ false
not-below n h = grind (arith, h)

due-there : {J : Type 0} {script : Script} (now n : ℕ) (b : Ledger J) (r : ScriptedRun) → ScriptedHolds script b r → IsDue now b n → 2 ≤ n
    → has_number n (deadlines_at r.progress) ≡ true
due-there now n b r h x low = sym (ap (has_number n) h.deadlines) ∙ due-own now n x.at b.armed x.first (not-below n low)

pub due-sleeping : {J : Type 0} {script : Script} (now n : ℕ) (b : Ledger J) (r : ScriptedRun) → ScriptedHolds script b r → IsDue now b n → 2 ≤ n
    → r.progress ≡ Sleeping
due-sleeping now n b r h x low = sleeps n r.progress (due-there now n b r h x low)

-- a thread that runs is queued
runs-at : (p : Progress) (k : ℕ) (ks : List ℕ) → ks ≡ threads_at p → IsPrefixOf (k ∷ []) ks → (p ≡ Woken) ⊎ (p ≡ Gone)
runs-at Woken k ks e x = inl refl
runs-at Gone k ks e x = inr refl
runs-at Counting k ks e x = absurd (let h : k ∷ x.0 ≡ [] = x.1 ∙ e in cc)
runs-at Asked k ks e x = absurd (let h : k ∷ x.0 ≡ [] = x.1 ∙ e in cc)
runs-at Sleeping k ks e x = absurd (let h : k ∷ x.0 ≡ [] = x.1 ∙ e in cc)
runs-at Over k ks e x = absurd (let h : k ∷ x.0 ≡ [] = x.1 ∙ e in cc)

pub run-queued : {J : Type 0} {script : Script} (k : ℕ) (b : Ledger J) (r : ScriptedRun) → ScriptedHolds script b r → IsPrefixOf (k ∷ []) b.threads
    → (r.progress ≡ Woken) ⊎ (r.progress ≡ Gone)
run-queued k b r h x = runs-at r.progress k b.threads h.threads x

-- what it waits for, by its client
abbrev waits_with : Asking → Bool → Progress → Waits
waits_with q client p = if client then waits_at q p else waits_at_first false

-- it is told of the body, or that all is taken, while it waits for that
pub hears-body : (q : Asking) (client : Bool) (p : Progress) → let w = waits_with q client p in MayHear (asks_body w.asks) w.body w.asks → 0 < tells_at p
hears-body q false p x = never x.0
hears-body q true Asked x = omega arith
hears-body q true Sleeping x = omega arith
hears-body q true Woken x = omega arith
hears-body q true Counting x = never x.0
hears-body q true Gone x = never x.0
hears-body q true Over x = never x.0

pub hears-taken : (q : Asking) (client : Bool) (p : Progress) → let w = waits_with q client p in MayHear (asks_taken w.asks) w.taken w.asks → 0 < tells_at p
hears-taken q false p x = never x.0
hears-taken q true Asked x = omega arith
hears-taken q true Sleeping x = omega arith
hears-taken q true Woken x = omega arith
hears-taken q true Counting x = never x.0
hears-taken q true Gone x = never x.0
hears-taken q true Over x = never x.0

-- its question has no answer yet
pub is-asked : (q : Asking) (client : Bool) (p : Progress) → is_some (waits_with q client p).asks ≡ true → (p ≡ Asked) × (client ≡ true)
is-asked q false p e = never e
is-asked q true Asked e = (refl, refl)
is-asked (asking.Body max) true Sleeping e = never e
is-asked asking.AllTaken true Sleeping e = never e
is-asked (asking.Body max) true Woken e = never e
is-asked asking.AllTaken true Woken e = never e
is-asked q true Counting e = never e
is-asked q true Gone e = never e
is-asked q true Over e = never e

pub has-client : (q : Asking) (client : Bool) (p : Progress) → (waits_with q client p).client ≡ true → client ≡ true
has-client q true p e = refl
has-client q false p e = never e

-- ---- what its turns leave

-- the turn leaves the run as the conditions want it
abbrev Left : {J : Type 0} → Script → Waits → Turn J ScriptedRun → Ledger J → Type 0
Left script w t b = Leaves (scripted_plan script) (ScriptedHolds script) w t b

-- it waits for nothing any more
at-first : (client : Bool) → (if client then waits_at_first true else waits_at_first false) ≡ waits_at_first client
at-first true = refl
at-first false = refl

-- the ledger as a turn begins with which the run is over
record IsEnding {J : Type 0} (b : Ledger J) : Type 0 where
  pub threads : without 0 b.threads ≡ []
  pub deadlines : without 2 (own b.armed) ≡ []
  pub none_asked : b.asked ≡ None
  pub no_socket : (k : ℕ) → has (place.Sock k) b.opened ≡ false
  pub unused : (k : ℕ) → b.count ≤ k → IsUnused (place.Sock k) b

ends-leaves : {J : Type 0} (script : Script) (closes client : Bool) (w : Waits) (b : Ledger J) → IsEnding b → w.client ≡ client
    → Left script w (does (ends closes) (run_at Over client)) b
ends-leaves script closes client w b h e =
    let cleared = own-left b.armed ∙ h.deadlines in
    record {
      known = record { threads = h.threads; deadlines = cleared; asked = h.none_asked; no_socket = h.no_socket; unused = h.unused };
      waits = at-first client ∙ ap waits_at_first (sym e);
      over = λ x. (
        record {
          no_thread = h.threads;
          no_deadline = none-armed (own_deadlines (disarmed 2 b.armed)) cleared;
          no_socket = h.no_socket;
          none_asked = h.none_asked;
          unused = h.unused;
        },
        refl,
      );
    }

thread-left : (p : Progress) → without 0 (threads_at p) ≡ []
thread-left Counting = refl
thread-left Asked = refl
thread-left Sleeping = refl
thread-left Woken = refl
thread-left Gone = refl
thread-left Over = refl

thread-run : (p : Progress) → without 0 (drop 1 (threads_at p)) ≡ []
thread-run Counting = refl
thread-run Asked = refl
thread-run Sleeping = refl
thread-run Woken = refl
thread-run Gone = refl
thread-run Over = refl

deadline-left : (p : Progress) → without 2 (deadlines_at p) ≡ []
deadline-left Counting = refl
deadline-left Asked = refl
deadline-left Sleeping = refl
deadline-left Woken = refl
deadline-left Gone = refl
deadline-left Over = refl

is-ending : {J : Type 0} {script : Script} (b : Ledger J) (r : ScriptedRun) → ScriptedHolds script b r → b.asked ≡ None → IsEnding b
is-ending b r h none = record {
  threads = ap (without 0) h.threads ∙ thread-left r.progress;
  deadlines = ap (without 2) h.deadlines ∙ deadline-left r.progress;
  none_asked = none;
  no_socket = h.no_socket;
  unused = h.unused;
}

is-ending-run : {J : Type 0} {script : Script} (k : ℕ) (b : Ledger J) (r : ScriptedRun) → ScriptedHolds script b r → IsEnding (entered (Did (Run k)) b)
is-ending-run k b r h = record {
  threads = ap (λ ks. without 0 (drop 1 ks)) h.threads ∙ thread-run r.progress;
  deadlines = ap (without 2) h.deadlines ∙ deadline-left r.progress;
  none_asked = refl;
  no_socket = h.no_socket;
  unused = h.unused;
}

-- whether it has a client doesn't change with what it hears
client-told : (q : Asking) (client : Bool) (p : Progress) → (waits_with q client p).client ≡ client
client-told q false p = refl
client-told q true Counting = refl
client-told q true Asked = refl
client-told (asking.Body max) true Sleeping = refl
client-told asking.AllTaken true Sleeping = refl
client-told (asking.Body max) true Woken = refl
client-told asking.AllTaken true Woken = refl
client-told q true Gone = refl
client-told q true Over = refl

heard-leaves : {J : Type 0} (script : Script) (client : Bool) (p : Progress) (w : Waits) (b : Ledger J) → ScriptedHolds script b (run_at p client)
    → b.asked ≡ None → w.client ≡ client → Left script w (heard script client p) b
heard-leaves script client Asked w b h none e =
    step-leaves script script.answered (ends script.closes) Nothing (run_at Over client) w b
    (ends-leaves script script.closes client w b (is-ending b (run_at Asked client) h none) e)
heard-leaves script client p w b h none e =
    step-leaves script script.later (ends script.closes) Nothing (run_at Over client) w b
    (ends-leaves script script.closes client w b (is-ending b (run_at p client) h none) e)

ran-leaves : {J : Type 0} (script : Script) (client : Bool) (p : Progress) (w : Waits) (k : ℕ) (b : Ledger J) → ScriptedHolds script b (run_at p client)
    → w.client ≡ client → Left script w (ran script client p) (entered (Did (Run k)) b)
ran-leaves script client Woken w k b h e =
    step-leaves script script.woken (ends script.closes) Nothing (run_at Over client) w (entered (Did (Run k)) b)
    (ends-leaves script script.closes client w (entered (Did (Run k)) b) (is-ending-run k b (run_at Woken client) h) e)
ran-leaves script client p w k b h e =
    ends-leaves script script.closes client w (entered (Did (Run k)) b) (is-ending-run k b (run_at p client) h) e

-- where nothing is done, what it waits for stays
same-waits : (w : Waits) → w.asks ≡ None → w ≡ record w { asks = None }
same-waits w e = ap (λ (o : Option Asking). record w { asks = o }) e

stays-leaves : {J : Type 0} (script : Script) (r : ScriptedRun) (b : Ledger J) → ScriptedHolds script b r → (scripted_waits script r).asks ≡ None
    → Left script (scripted_waits script r) (does [] r) b
stays-leaves script r b h e = record { known = h; waits = same-waits (scripted_waits script r) e; over = λ x. never x }

ended-leaves : {J : Type 0} (script : Script) (client : Bool) (p : Progress) (b : Ledger J) → ScriptedHolds script b (run_at p client)
    → (scripted_waits script (run_at p client)).asks ≡ None
    → Left script (scripted_waits script (run_at p client)) (client_ended script client p) b
ended-leaves script client Sleeping b h e =
    let r = run_at Sleeping client in step-leaves script script.client_ends [] Nothing r (scripted_waits script r) b (stays-leaves script r b h e)
ended-leaves script client Woken b h e =
    let r = run_at Woken client in step-leaves script script.client_ends [] Nothing r (scripted_waits script r) b (stays-leaves script r b h e)
ended-leaves script client Counting b h e = stays-leaves script (run_at Counting client) b h e
ended-leaves script client Asked b h e = stays-leaves script (run_at Asked client) b h e
ended-leaves script client Gone b h e = stays-leaves script (run_at Gone client) b h e
ended-leaves script client Over b h e = stays-leaves script (run_at Over client) b h e

-- its thread is put into a queue
abbrev put_in : List ℕ → List ℕ
put_in ks = ks ++ (if not (has_number 0 ks) then 0 ∷ [] else [])

gone-leaves : {J : Type 0} (script : Script) (client : Bool) (p : Progress) (b : Ledger J) → ScriptedHolds script b (run_at p client)
    → b.asked ≡ None → Left script (waits_at_first false) (let_go p) b
gone-leaves script client Sleeping b h none = record {
  known = record {
    threads = ap put_in h.threads;
    deadlines = own-left b.armed ∙ ap (without 2) h.deadlines;
    asked = none;
    no_socket = h.no_socket;
    unused = h.unused;
  };
  waits = refl;
  over = λ x. never x;
}
gone-leaves script client p b h none = record {
  known = record { threads = h.threads; deadlines = h.deadlines; asked = none; no_socket = h.no_socket; unused = h.unused };
  waits = refl;
  over = λ x. never x;
}

-- what it asked for isn't there yet
sleep-waits : (q : Asking) → waits_longer (Some q) (waits_at_first true)
    ≡ record (waits_longer (Some q) (record (waits_at_first true) { asks = Some q })) { asks = None }
sleep-waits (asking.Body max) = refl
sleep-waits asking.AllTaken = refl

sleep-leaves : {J : Type 0} (script : Script) (until : Ms) (b : Ledger J) → ScriptedHolds script b (run_at Asked true)
    → Left script (waits_told seen.NotYet (scripted_waits script (run_at Asked true))) (does (Arm 0 until ∷ []) (run_at Sleeping true)) b
sleep-leaves script until b h = record {
  known = record {
    threads = h.threads;
    deadlines = own-armed until.0 (disarmed 2 b.armed) ∙ ap (λ ks. ks ++ 2 ∷ []) (own-left b.armed ∙ ap (without 2) h.deadlines);
    asked = h.asked;
    no_socket = h.no_socket;
    unused = h.unused;
  };
  waits = sleep-waits script.asks;
  over = λ x. never x;
}

not-yet-leaves : {J : Type 0} (script : Script) (now : ℕ) (client : Bool) (p : Progress) (b : Ledger J) → ScriptedHolds script b (run_at p client)
    → p ≡ Asked → client ≡ true
    → Left script (waits_told seen.NotYet (scripted_waits script (run_at p client)))
    (scripted_turn script now seen.NotYet b (run_at p client)) b
not-yet-leaves script now true Asked b h e f =
    let until = later now script.sleeps in let r = run_at Asked true in
    let w = waits_told seen.NotYet (scripted_waits script r) in
    step-leaves script script.not_yet (Arm 0 until ∷ []) Nothing (run_at Sleeping true) w b (sleep-leaves script until b h)
not-yet-leaves script now false Asked b h e f = never f
not-yet-leaves script now client p b h e f = absurd (cc)

-- its deadline is due
due-leaves : {J : Type 0} (script : Script) (client : Bool) (p : Progress) (b : Ledger J) → ScriptedHolds script b (run_at p client) → p ≡ Sleeping
    → (scripted_waits script (run_at p client)).asks ≡ None
    → Left script (scripted_waits script (run_at p client)) (does (Ready 0 ∷ []) (run_at Woken client)) (entered (Did (Due 2)) b)
due-leaves script client Sleeping b h e none = record {
  known = record {
    threads = ap put_in h.threads;
    deadlines = own-left b.armed ∙ ap (without 2) h.deadlines;
    asked = refl;
    no_socket = h.no_socket;
    unused = h.unused;
  };
  waits = same-waits (scripted_waits script (run_at Sleeping client)) none;
  over = λ x. never x;
}
due-leaves script client p b h e none = absurd (cc)

stays : {J : Type 0} (script : Script) (now : ℕ) (s : RunSeen) (b : Ledger J) (r : ScriptedRun) → ScriptedHolds script b r
    → MayCome (scripted_plan script) now s b r
    → Left script (waits_told s (scripted_waits script r)) (scripted_turn script now s (entered_as s b) r) (entered_as s b)
stays script now (seen.Run k) b r h x =
    ran-leaves script r.has_client r.progress (scripted_waits script r) k b h (client-told script.asks r.has_client r.progress)
stays {J} script now (seen.Due n) b r h x =
    let there = due-there now n b r h x.0 x.1 in
    let slept = sleeps n r.progress there in
    let two = its-own n (subst (λ (p : Progress). has_number n (deadlines_at p) ≡ true) slept there) in
    let woken = does (Ready 0 ∷ []) (run_at Woken r.has_client) in
    subst (λ (n : ℕ). Left script (scripted_waits script r) woken (entered {J = J} (Did (Due n)) b))
    (sym two) (due-leaves script r.has_client r.progress b h slept x.2)
stays script now (seen.Body content waited) b r h x =
    let w = waits_told (seen.Body content waited) (scripted_waits script r) in
    heard-leaves script r.has_client r.progress w b h x.0 (client-told script.asks r.has_client r.progress)
stays script now (seen.BodyRefused code) b r h x =
    let w = waits_told (seen.BodyRefused code) (scripted_waits script r) in
    heard-leaves script r.has_client r.progress w b h x.0 (client-told script.asks r.has_client r.progress)
stays script now seen.AllTaken b r h x =
    let w = waits_told seen.AllTaken (scripted_waits script r) in
    heard-leaves script r.has_client r.progress w b h x.0 (client-told script.asks r.has_client r.progress)
stays script now seen.NotYet b r h x =
    let asked = is-asked script.asks r.has_client r.progress x.1 in not-yet-leaves script now r.has_client r.progress b h asked.0 asked.1
stays script now seen.ClientEnded b r h x = ended-leaves script r.has_client r.progress b h x.0.within
stays script now seen.ClientGone b r h x = gone-leaves script r.has_client r.progress b h x.0.outside
stays script now (seen.Sock k s) b r h x = none-comes b r k s h x.0

-- ---- what it is answered

none-some : {A C : Type 0} (x : A) → None ≡ Some x → C
none-some x e = absurd (let g : None ≡ Some x = e in cc)

some-some : {A : Type 0} (x y : A) → Some x ≡ Some y → y ≡ x
some-some x y e = cc

-- it was counted
pub record IsCounted {J : Type 0} (r : ScriptedRun) (x : Action J) : Type 0 where
  pub run : r ≡ run_at Counting true
  pub key : List ℕ
  pub given : DictAnswer
  pub action : x ≡ Dict 0 (count_of key) given

counted-at : {J : Type 0} (key : Option (List ℕ)) (client : Bool) (x : Action J) (a : Answer) (p : Progress)
    → answered (asking_if (asked_at p client key)) a ≡ Some x → IsCounted (run_at p client) x
counted-at (Some key) true x (answer.Dict given) Counting e = record { run = refl; key = key; given = given; action = some-some _ _ e }
counted-at (Some key) true x (answer.Took uses) Counting e = none-some x e
counted-at (Some key) true x (answer.Dialled done) Counting e = none-some x e
counted-at (Some key) true x answer.Kept Counting e = none-some x e
counted-at (Some key) true x (answer.Timer given) Counting e = none-some x e
counted-at None true x a Counting e = none-some x e
counted-at key false x a Counting e = none-some x e
counted-at key client x a p e = none-some x e

pub is-counted : {J : Type 0} {script : Script} (b : Ledger J) (r : ScriptedRun) (x : Action J) (a : Answer) → ScriptedHolds script b r
    → answered (asking_if b.asked) a ≡ Some x → IsCounted r x
is-counted {J} {script} b r x a h e =
    counted-at script.counts r.has_client x a r.progress (sym (ap (λ o. answered (asking_if o) a) h.asked) ∙ e)

-- it begins, then
opens-leaves : {J : Type 0} (script : Script) (b : Ledger J) → ScriptedHolds script b (run_at Asked true)
    → Left script (waits_at_first true) (opened script true) b
opens-leaves script b h =
    step-leaves script script.first [] (Within script.asks) (run_at Asked true) (waits_at_first true) b
    (record { known = h; waits = refl; over = λ e. never e })

answers : {J : Type 0} (script : Script) (now : ℕ) (x : Action J) (a : Answer) (b : Ledger J) (r : ScriptedRun) → ScriptedHolds script b r
    → answered (asking_if b.asked) a ≡ Some x → Left script (scripted_waits script r) (opened script r.has_client) (entered (Did x) b)
answers {J} script now x a b r h e =
    let w = is-counted b r x a h e in
    let threads = h.threads ∙ ap (λ (r : ScriptedRun). threads_at r.progress) w.run in
    let deadlines = h.deadlines ∙ ap (λ (r : ScriptedRun). deadlines_at r.progress) w.run in
    let c : Ledger J = entered (Did (Dict 0 (count_of w.key) w.given)) b in
    let known : ScriptedHolds script c (run_at Asked true) =
    record { threads = threads; deadlines = deadlines; asked = refl; no_socket = h.no_socket; unused = h.unused } in
    subst (λ (x : Action J). Left script (scripted_waits script r) (opened script r.has_client) (entered (Did x) b)) (sym w.action)
    (subst (λ (r : ScriptedRun). Left script (scripted_waits script r) (opened script r.has_client) c) (sym w.run) (opens-leaves script c known))

-- what it asks fits
none-or-one : (n : ℕ) → n ≤ 1 → IsWhole (pos n)
none-or-one n h = record { least = omega (arith, ints); greatest = omega (arith, ints, h) }

fits : {J : Type 0} (script : Script) (key : Option (List ℕ)) (client : Bool) (p : Progress) (x : Question J) → asked_at p client key ≡ Some x
    → Fits (scripted_plan script) x
fits script (Some key) true Counting x e =
    subst (Fits (scripted_plan script)) (sym (some-some _ _ e)) (lit< tt, (none-or-one 1 (omega arith), none-or-one 0 (omega arith), omega arith))
fits script None true Counting x e = none-some x e
fits script key false Counting x e = none-some x e
fits script key client p x e = none-some x e

-- ---- the other conditions

heard-falls : (J : Type 0) (script : Script) (client : Bool) (p : Progress) → 0 < tells_at p
    → let r = (heard {J = J} script client p).run in tells_at r.progress + (if r.has_client then 1 else 0) < tells_at p + (if client then 1 else 0)
heard-falls J script client Asked h = omega arith
heard-falls J script client p h = omega (arith, h)

not-yet-falls : (client : Bool) (p : Progress) → p ≡ Asked → tells_at Sleeping + (if client then 1 else 0) < tells_at p + (if client then 1 else 0)
not-yet-falls client Asked e = omega arith
not-yet-falls client p e = absurd (cc)

gone-falls : (J : Type 0) (client : Bool) (p : Progress) → client ≡ true
    → let r = (let_go {J = J} p).run in tells_at r.progress + (if r.has_client then 1 else 0) < tells_at p + (if client then 1 else 0)
gone-falls J true Sleeping e = omega arith
gone-falls J true p e = omega arith
gone-falls J false p e = never e

falls : {J : Type 0} (script : Script) (now : ℕ) (s : RunSeen) (b : Ledger J) (r : ScriptedRun) → MayCome (scripted_plan script) now s b r
    → is_of_client s ≡ true
    → let p = scripted_plan {J = J} script in p.tells_left (p.turn now s (entered_as s b) r).run < p.tells_left r
falls {J} script now (seen.Body content waited) b r x e =
    heard-falls J script r.has_client r.progress (hears-body script.asks r.has_client r.progress x.1)
falls {J} script now (seen.BodyRefused code) b r x e = heard-falls J script r.has_client r.progress (hears-body script.asks r.has_client r.progress x.1)
falls {J} script now seen.AllTaken b r x e = heard-falls J script r.has_client r.progress (hears-taken script.asks r.has_client r.progress x.1)
falls {J} script now seen.NotYet b r x e = not-yet-falls r.has_client r.progress (is-asked script.asks r.has_client r.progress x.1).0
falls {J} script now seen.ClientGone b r x e = gone-falls J r.has_client r.progress (has-client script.asks r.has_client r.progress x.1)
falls script now s b r x e = never e

apart : {J : Type 0} {script : Script} (b c : Ledger J) (r : ScriptedRun) → AreAlike b c → ScriptedHolds script b r → ScriptedHolds script c r
apart b c r same h = record {
  threads = sym same.threads ∙ h.threads;
  deadlines = ap numbers (sym same.armed) ∙ h.deadlines;
  asked = sym same.asked ∙ h.asked;
  no_socket = λ k. sym (same.opened k) ∙ h.no_socket k;
  unused = λ k low. let u = h.unused k (subst (λ (n : ℕ). n ≤ k) (sym same.count) low) in
      (sym (same.sent k) ∙ u.0, sym (same.taken k) ∙ u.1, sym (same.put_off k) ∙ u.2);
}

quiet : (J : Type 0) (p : Progress) → IsQuiet (let_go {J = J} p)
quiet J Sleeping = (tt, refl)
quiet J p = (tt, refl)

begins : {J : Type 0} (script : Script) (key : Option (List ℕ)) (b : Ledger J) → script.counts ≡ key → IsBlank b
    → Left script (waits_at_first true) (begun script key) b
begins script None b e h =
    opens-leaves script b
    (record { threads = h.no_thread; deadlines = ap numbers h.no_deadline; asked = h.none_asked; no_socket = h.no_socket; unused = h.unused })
begins script (Some key) b e h = record {
  known = record {
    threads = h.no_thread;
    deadlines = ap numbers h.no_deadline;
    asked = sym (ap counting e);
    no_socket = h.no_socket;
    unused = h.unused;
  };
  waits = refl;
  over = λ e. never e;
}

pub scripted-is-run : {J : Type 0} (script : Script) → IsRun {J = J} (scripted_plan script) (ScriptedHolds script)
scripted-is-run {J} script = record {
  begins = λ now head target b h. begins script script.counts b refl h;
  begins_job = λ now premature job b h. record {
    known = record {
      threads = ap put_in h.no_thread;
      deadlines = ap numbers h.no_deadline;
      asked = h.none_asked;
      no_socket = h.no_socket;
      unused = h.unused;
    };
    waits = refl;
    over = λ e. never e;
  };
  stays = λ now s b r h x. stays script now s b r h x;
  answers = λ now x given b r h e. answers script now x given b r h e;
  falls = λ now s b r h x e. falls script now s b r x e;
  apart = λ b c r same h. apart b c r same h;
  asks = λ b r x h e. fits script script.counts r.has_client r.progress x (sym h.asked ∙ e);
  job = λ now premature job b. (tt, refl);
  due = λ now n b r. (tt, refl);
  gone = λ now b r. quiet J r.progress;
  lost = λ now k b r h x. none-comes b r k at.Lost h x.0;
  again = λ now k b r h x. none-comes b r k at.Ready h x.0;
}
