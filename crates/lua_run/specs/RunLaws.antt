-- That the runs of a site of Lua meet the conditions of a run.
use Rattle.std.proofs.Common.{◌≡◌, ℕ, ◌≤◌, ◌<◌, Bool, true, false, ◌&&◌, List, [], ◌∷◌, drop, Option, Some, None, refl, sym, ap, ◌∙◌, subst, arith}
use Rattle.std.specs.Prelude.{nat_lt, nat_le, IfSome, if◌then◌else◌}
use Rattle.resty_base.specs.declared.names.Ms.{Ms}
use Rattle.resty_base.specs.BoolLaws.{one-falls}
use Rattle.resty_world.specs.declared.answers.TimerAnswer.{TimerAnswer}
use Rattle.strand_contract.specs.declared.turns.Place.TheVariants as place
use Rattle.strand_contract.specs.declared.turns.Answer.{Answer}
use Rattle.strand_contract.specs.declared.turns.Answer.TheVariants as answer
use Rattle.strand_contract.specs.Actions.{Action, Did, Timer}
use Rattle.strand_contract.specs.Calls.{answered}
use Rattle.strand_contract.specs.Alone.{sooner, due}
use Rattle.strand_plans.specs.Questions.{Question, asking_if}
use Rattle.strand_plans.specs.Questions as question
use Rattle.strand_plans.specs.Ledgers.{Ledger, has, entered}
use Rattle.strand_plans.specs.Turns.{IsDue}
use Rattle.run_contract.specs.declared.turns.RunSeen.{RunSeen}
use Rattle.run_contract.specs.declared.turns.RunSeen.TheVariants as seen
use Rattle.run_contract.specs.declared.turns.SockSeen.{SockSeen}
use Rattle.run_contract.specs.declared.turns.SockSeen.TheVariants as at
use Rattle.run_contract.specs.Deeds.{ledger_after}
use Rattle.run_contract.specs.Runs.{Waits, waits_at_first, waits_told, waits_did, is_of_client}
use Rattle.run_contract.specs.Alike.{own_deadlines, AreAlike}
use Rattle.run_contract.specs.Conditions.{IsBlank, MayComeAt, MayCome, Leaves, Fits, entered_as, IsRun}
use Rattle.request_api.specs.declared.requests.Req.{Req}
use Rattle.request_api.specs.Requests as request
use Rattle.reply_stages.specs.declared.replies.Sent.{Sent}
use Rattle.lua_run.specs.declared.run.Work.{Work}
use Rattle.lua_run.specs.declared.run.Work.TheVariants.{Request, Job, Over}
use Rattle.lua_run.specs.Answers.{Site, has_handler, reply_of}
use Rattle.lua_run.specs.Runs.{Run, LuaHolds, MayWait, lua_plan, lua_works, begins_by, reply_deeds, work_deeds, threads_of}

never-over : {C : Type 0} → false ≡ true → C
never-over e = absurd (cc)

none-some : {A C : Type 0} (x : A) → None ≡ Some x → C
none-some x e = absurd (let g : None ≡ Some x = e in cc)

-- nothing comes at a socket where none is open
shut : (J : Type 0) (b : Ledger J) (k : ℕ) (C : Type 0) → has (place.Sock k) b.opened ≡ false → has (place.Sock k) b.opened ≡ true → C
shut J b k C h f = absurd (let e : false ≡ true = sym h ∙ f in cc)

pub none-comes : {J C : Type 0} (b : Ledger J) (r : Run) (k : ℕ) (s : SockSeen) → LuaHolds b r → MayComeAt k s b → C
none-comes {J} {C} b r k (at.Took n) h x = shut J b k C (h.no_socket k) x.taking.opened
none-comes {J} {C} b r k at.Later h x = shut J b k C (h.no_socket k) x.opened
none-comes {J} {C} b r k at.Lost h x = shut J b k C (h.no_socket k) x.opened
none-comes {J} {C} b r k (at.Bytes bytes) h x = shut J b k C (h.no_socket k) x.0.opened
none-comes {J} {C} b r k s h x = shut J b k C (h.no_socket k) x.opened

-- a deadline of its own that is due is armed
own-due : (now n at : ℕ) (ds : List (ℕ × ℕ)) → due now ds ≡ Some (n, at) → nat_lt n 2 ≡ false → own_deadlines ds ≡ [] → ⊥
own-due now n at [] e f h = cc
own-due now n at (d ∷ ds) e f h = by (λ x y. own-due now n at ds x f y) (due now ds) refl (nat_lt d.0 2) refl
  where
    rest : nat_lt d.0 2 ≡ true → own_deadlines ds ≡ []
    rest i = sym (ap (λ (c : Bool). if c then own_deadlines ds else d ∷ own_deadlines ds) i) ∙ h

    first : nat_lt d.0 2 ≡ true → d ≡ (n, at) → ⊥
    first g same = let x : true ≡ false = sym g ∙ ap (λ (k : ℕ × ℕ). nat_lt k.0 2) same ∙ f in cc

    at-none : nat_lt d.0 2 ≡ true → (c : Bool) → (if c then Some d else None) ≡ Some (n, at) → ⊥
    at-none i true x = first i (cc)
    at-none i false x = cc

    at-some : (due now ds ≡ Some (n, at) → own_deadlines ds ≡ [] → ⊥) → nat_lt d.0 2 ≡ true → (y : ℕ × ℕ) → due now ds ≡ Some y → (c : Bool)
        → (if c then Some d else Some y) ≡ Some (n, at) → ⊥
    at-some later i y g true x = first i (cc)
    at-some later i y g false x = later (g ∙ x) (rest i)

    by : (due now ds ≡ Some (n, at) → own_deadlines ds ≡ [] → ⊥) → (o : Option (ℕ × ℕ)) → due now ds ≡ o → (c : Bool) → nat_lt d.0 2 ≡ c → ⊥
    by later o g false i = let x : d ∷ own_deadlines ds ≡ [] = sym (ap (λ (c : Bool). if c then own_deadlines ds else d ∷ own_deadlines ds) i) ∙ h in cc
    by later None g true i = at-none i (nat_le d.1 now) (sym (ap (sooner now d) g) ∙ e)
    by later (Some y) g true i = at-some later i y g (nat_le d.1 now && nat_le d.1 y.1) (sym (ap (sooner now d) g) ∙ e)

not-below : (n : ℕ) → 2 ≤ n → nat_lt n 2 ≡ false
not-below n h = grind (arith, h)

none-due : {J C : Type 0} (b : Ledger J) (r : Run) (now n : ℕ) → LuaHolds b r → IsDue now b n → 2 ≤ n → C
none-due b r now n h x low = absurd (own-due now n x.at b.armed x.first (not-below n low) h.no_deadline)

-- ---- what it is told

-- a thread that runs is its own, with work to do
has-work : {J : Type 0} (k : ℕ) (rest line : List ℕ) (o : Option (Question J)) (w : Work) → line ≡ k ∷ rest → o ≡ None → line ≡ threads_of o w
    → (w ≡ Over → ⊥) × (drop 1 line ≡ [])
has-work k rest line (Some x) w e n h = none-some x (sym n)
has-work k rest line None (Request req) e n h = (λ o. cc, ap (drop 1) h)
has-work k rest line None Job e n h = (λ o. cc, ap (drop 1) h)
has-work k rest line None Over e n h = absurd (let f : k ∷ rest ≡ [] = sym e ∙ h in cc)

pub runs-once : {J : Type 0} (site : Site) (now k : ℕ) (b : Ledger J) (r : Run) → LuaHolds b r
    → MayCome (lua_plan site) now (seen.Run k) b r → (r.work ≡ Over → ⊥) × (drop 1 b.threads ≡ [])
runs-once site now k b r h x = has-work k x.0.0 b.threads b.asked r.work (sym x.0.1) x.1.outside h.threads

-- else all that it is told is that its client ends or is gone
abbrev pub IsElse : RunSeen → Type 0
IsElse (seen.Run k) = ⊥
IsElse seen.ClientEnded = ⊥
IsElse seen.ClientGone = ⊥
IsElse s = Unit {0}

pub none-else : {J C : Type 0} (site : Site) (now : ℕ) (s : RunSeen) (b : Ledger J) (r : Run) → LuaHolds b r
    → MayCome (lua_plan site) now s b r → IsElse s → C
none-else site now (seen.Run k) b r h x e = absurd e
none-else site now seen.ClientEnded b r h x e = absurd e
none-else site now seen.ClientGone b r h x e = absurd e
none-else site now (seen.Due n) b r h x e = none-due b r now n h x.0 x.1
none-else site now (seen.Sock k s) b r h x e = none-comes b r k s h x.0
none-else site now (seen.Body content waited) b r h x e = never-over x.1.0
none-else site now (seen.BodyRefused code) b r h x e = never-over x.1.0
none-else site now seen.AllTaken b r h x e = never-over x.1.0
none-else site now seen.NotYet b r h x e = never-over x.1

-- an answer is one about a timer, while there is work
pub record IsAnswered {J : Type 0} (b : Ledger J) (r : Run) (x : Action J) : Type 0 where
  pub at : Ms
  pub given : TimerAnswer
  pub action : x ≡ Timer at given
  pub work : r.work ≡ Over → ⊥
  pub idle : b.threads ≡ []

some-some : {A : Type 0} (x y : A) → Some x ≡ Some y → y ≡ x
some-some x y e = cc

answers-of : {J : Type 0} (b : Ledger J) (r : Run) (x : Action J) (a : Answer) (o : Option (Question J))
    → b.threads ≡ threads_of o r.work → IfSome o (MayWait r.work) → answered (asking_if o) a ≡ Some x → IsAnswered b r x
answers-of b r x a None h m e = none-some x e
answers-of b r x (answer.Timer given) (Some (question.Timer at job)) h m e = record { at = at; given = given; action = some-some _ _ e; work = m; idle = h }
answers-of b r x (answer.Dict given) (Some (question.Timer at job)) h m e = none-some x e
answers-of b r x (answer.Took uses) (Some (question.Timer at job)) h m e = none-some x e
answers-of b r x (answer.Dialled done) (Some (question.Timer at job)) h m e = none-some x e
answers-of b r x answer.Kept (Some (question.Timer at job)) h m e = none-some x e
answers-of b r x a (Some q) h m e = absurd m

pub is-answered : {J : Type 0} (b : Ledger J) (r : Run) (x : Action J) (a : Answer) → LuaHolds b r
    → answered (asking_if b.asked) a ≡ Some x → IsAnswered b r x
is-answered b r x a h e = answers-of b r x a b.asked h.threads h.asked e

-- ---- the conditions

-- the reply leaves its ledger, and what it waits for
reply-kept : {J : Type 0} (line : Option (List ℕ)) (sent : Sent) (b : Ledger J) → ledger_after (reply_deeds (record { line = line; sent = sent })) b ≡ b
reply-kept None sent b = refl
reply-kept (Some line) sent b = refl

reply-waits : (line : Option (List ℕ)) (sent : Sent) (client : Bool)
    → waits_did (reply_deeds (record { line = line; sent = sent })) (waits_at_first client) ≡ waits_at_first client
reply-waits None sent client = refl
reply-waits (Some line) sent client = refl

-- and so does all its work
work-kept : {J : Type 0} (site : Site) (now : ℕ) (w : Work) (b : Ledger J) → ledger_after (work_deeds site now w) b ≡ b
work-kept site now (Request req) b = let r = reply_of site req now in reply-kept r.line r.sent b
work-kept site now Job b = refl
work-kept site now Over b = refl

work-waits : (site : Site) (now : ℕ) (w : Work) (client : Bool) → waits_did (work_deeds site now w) (waits_at_first client) ≡ waits_at_first client
work-waits site now (Request req) client = let r = reply_of site req now in reply-waits r.line r.sent client
work-waits site now Job client = refl
work-waits site now Over client = refl

-- where nothing of it is left it may have no work
idles : {J : Type 0} (b : Ledger J) (client : Bool) → IsBlank b → LuaHolds b (record { work = Over; client = client })
idles {J} b client h = record {
  threads = h.no_thread ∙ sym (ap (λ o. threads_of o Over) h.none_asked);
  asked = subst (λ (o : Option (Question J)). IfSome o (MayWait Over)) (sym h.none_asked) tt;
  no_deadline = h.no_deadline;
  no_socket = h.no_socket;
  unused = h.unused;
}

-- it does its work where nothing else is left of it
works : {J : Type 0} (site : Site) (now : ℕ) (b : Ledger J) (r : Run) → IsBlank b
    → Leaves (lua_plan site) LuaHolds (waits_at_first r.client) (lua_works site now r) b
works {J} site now b r h =
    let kept = sym (work-kept site now r.work b) in
    record {
      known = subst (λ (c : Ledger J). LuaHolds c (record { work = Over; client = r.client })) kept (idles b r.client h);
      waits = ap (λ (w : Waits). record w { asks = None }) (sym (work-waits site now r.work r.client));
      over = λ e. (subst (λ (c : Ledger J). IsBlank c) kept h, refl);
    }

stays : {J : Type 0} (site : Site) (now : ℕ) (s : RunSeen) (b : Ledger J) (r : Run) → LuaHolds b r → MayCome (lua_plan site) now s b r
    → Leaves (lua_plan site) LuaHolds (waits_told s ((lua_plan {J = J} site).waits r))
    ((lua_plan site).turn now s (entered_as s b) r) (entered_as s b)
stays site now (seen.Run k) b r h x = works site now (entered_as (seen.Run k) b) r (record {
  no_thread = (runs-once site now k b r h x).1;
  no_deadline = h.no_deadline;
  no_socket = h.no_socket;
  none_asked = refl;
  unused = h.unused;
})
stays site now seen.ClientGone b r h x =
    record {
      known = record { threads = h.threads; asked = h.asked; no_deadline = h.no_deadline; no_socket = h.no_socket; unused = h.unused };
      waits = refl;
      over = λ e. never-over e;
    }
stays site now seen.ClientEnded b r h x = record { known = h; waits = refl; over = λ e. never-over e }
stays site now seen.NotYet b r h x = none-else site now seen.NotYet b r h x tt
stays site now (seen.Due n) b r h x = none-else site now (seen.Due n) b r h x tt
stays site now (seen.Sock k s) b r h x = none-else site now (seen.Sock k s) b r h x tt
stays site now (seen.Body content waited) b r h x = none-else site now (seen.Body content waited) b r h x tt
stays site now (seen.BodyRefused code) b r h x = none-else site now (seen.BodyRefused code) b r h x tt
stays site now seen.AllTaken b r h x = none-else site now seen.AllTaken b r h x tt

answers : {J : Type 0} (site : Site) (now : ℕ) (x : Action J) (a : Answer) (b : Ledger J) (r : Run) → LuaHolds b r
    → answered (asking_if b.asked) a ≡ Some x
    → Leaves (lua_plan site) LuaHolds ((lua_plan {J = J} site).waits r)
    ((lua_plan site).answered now x (entered (Did x) b) r) (entered (Did x) b)
answers {J} site now x a b r h e =
    let w = is-answered b r x a h e in
    let leaves : Action J → Type 0 = λ y. Leaves (lua_plan site) LuaHolds ((lua_plan {J = J} site).waits r)
    ((lua_plan site).answered now y (entered (Did y) b) r) (entered (Did y) b) in
    subst leaves (sym w.action) (works site now (entered (Did (Timer w.at w.given)) b) r (record {
      no_thread = w.idle;
      no_deadline = h.no_deadline;
      no_socket = h.no_socket;
      none_asked = refl;
      unused = h.unused;
    }))

apart : {J : Type 0} (b c : Ledger J) (r : Run) → AreAlike b c → LuaHolds b r → LuaHolds c r
apart b c r same h = record {
  threads = sym same.threads ∙ h.threads ∙ ap (λ o. threads_of o r.work) same.asked;
  asked = subst (λ o. IfSome o (MayWait r.work)) same.asked h.asked;
  no_deadline = sym same.armed ∙ h.no_deadline;
  no_socket = λ k. sym (same.opened k) ∙ h.no_socket k;
  unused = λ k low. let u = h.unused k (subst (λ (n : ℕ). n ≤ k) (sym same.count) low) in
      (sym (same.sent k) ∙ u.0, sym (same.taken k) ∙ u.1, sym (same.put_off k) ∙ u.2);
}

queues : {J : Type 0} (b : Ledger J) (w : Work) (client : Bool) → threads_of {J = J} None w ≡ 0 ∷ [] → IsBlank b
    → LuaHolds (record b { threads = 0 ∷ [] }) (record { work = w; client = client })
queues {J} b w client queued h = record {
  threads = sym (ap (λ o. threads_of o w) h.none_asked ∙ queued);
  asked = subst (λ (o : Option (Question J)). IfSome o (MayWait w)) (sym h.none_asked) tt;
  no_deadline = h.no_deadline;
  no_socket = h.no_socket;
  unused = h.unused;
}

-- with a thread or at once
begins : {J : Type 0} (site : Site) (now : ℕ) (req : Req) (c : Bool) (b : Ledger J) → IsBlank b
    → Leaves (lua_plan site) LuaHolds (waits_at_first true) (begins_by c site now (record { work = Request req; client = true })) b
begins site now req true b h = rw h.no_thread (record { known = queues b (Request req) true refl h; waits = refl; over = λ e. never-over e })
begins site now req false b h = works site now b (record { work = Request req; client = true }) h

-- what may wait fits
fits : {J : Type 0} (site : Site) (w : Work) (x : Question J) → MayWait w x → Fits (lua_plan site) x
fits site w (question.Timer at job) m = tt
fits site w x m = absurd m

falls : {J : Type 0} (site : Site) (now : ℕ) (s : RunSeen) (b : Ledger J) (r : Run) → LuaHolds b r
    → MayCome (lua_plan site) now s b r → is_of_client s ≡ true
    → let p = lua_plan {J = J} site in let c = entered_as s b in
    p.tells_left (p.turn now s c r).run < p.tells_left r
falls site now seen.ClientGone b r h x e = one-falls r.client x.1
falls site now (seen.Run k) b r h x e = never-over e
falls site now (seen.Due n) b r h x e = never-over e
falls site now (seen.Sock k s) b r h x e = never-over e
falls site now (seen.Body content waited) b r h x e = never-over x.1.0
falls site now (seen.BodyRefused code) b r h x e = never-over x.1.0
falls site now seen.AllTaken b r h x e = never-over x.1.0
falls site now seen.NotYet b r h x e = never-over x.1
falls site now seen.ClientEnded b r h x e = never-over e

pub lua-is-run : {J : Type 0} (site : Site) → IsRun {J = J} (lua_plan site) LuaHolds
lua-is-run site = record {
  begins = λ now head target b h. let req = request.begun head target 0 in begins site now req (has_handler site.conf req) b h;
  begins_job = λ now premature job b h. rw h.no_thread (record { known = queues b Job false refl h; waits = refl; over = λ e. never-over e });
  stays = λ now s b r h x. stays site now s b r h x;
  answers = λ now x given b r h e. answers site now x given b r h e;
  falls = λ now s b r h x e. falls site now s b r h x e;
  apart = λ b c r same h. apart b c r same h;
  asks = λ b r x h e. fits site r.work x (subst (λ o. IfSome o (MayWait r.work)) e h.asked);
  job = λ now premature job b. (tt, refl);
  due = λ now n b r. (tt, refl);
  gone = λ now b r. (tt, refl);
  lost = λ now k b r h x. none-comes b r k at.Lost h x.0;
  again = λ now k b r h x. none-comes b r k at.Ready h x.0;
}

-- the most that one can do
pub seven : 7 ≤ 7
seven = omega arith
