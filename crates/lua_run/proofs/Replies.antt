-- What a run of a site of Lua says alone: nothing, or the reply to its request.
use Rattle.std.proofs.Common.{◌≡◌, ◌⊎◌, inl, inr, ℕ, true, false, List, [], ◌∷◌, ◌++◌, Option, Some, None, refl, sym, ap, ◌∙◌, subst, append-nil, append_assoc}
use Rattle.std.specs.Prelude.{Bool}
use Rattle.uri_args.specs.declared.targets.Target.{Target}
use Rattle.http_in.specs.declared.heads.Head.{Head}
use Rattle.client_line.specs.declared.requests.LineOut.{LineOut}
use Rattle.client_line.specs.declared.requests.LineOut.TheVariants as out
use Rattle.strand_contract.specs.Actions.{LocalAction}
use Rattle.strand_contract.specs.Alone.{moment, IsExecution}
use Rattle.strand_plans.specs.Ledgers.{Ledger}
use Rattle.strand_plans.specs.Plans.{state_of}
use Rattle.run_contract.specs.declared.turns.RunSeen.{RunSeen}
use Rattle.run_contract.specs.declared.turns.RunSeen.TheVariants as seen
use Rattle.request_api.specs.Requests as request
use Rattle.reply_stages.specs.declared.replies.Sent.{Sent}
use Rattle.connection_plan.specs.Clients.{Exchange}
use Rattle.connection_plan.specs.Connections.{connection_plan, connection_behavior}
use Rattle.lua_run.specs.declared.run.Work.TheVariants.{Request, Over}
use Rattle.lua_run.specs.declared.answers.Replied.{Replied}
use Rattle.lua_run.specs.Answers.{Site, has_handler, reply_of}
use Rattle.lua_run.specs.Runs.{Run, lua_plan, lua_turn, begins_by, reply_deeds, work_deeds, LuaHolds}
use Rattle.lua_run.specs.RunLaws.{lua-is-run}
use Rattle.lua_run.specs.Services.{lua_service}
use Rattle.lua_run.specs.Replies.{reply_to_head, AreMade, IsWhole as IsWholeReply, IsNewest, AreWhole, EachHasItsOwn}
use Rattle.connection_laws.specs.Own.{MindsItsOwn}
use Rattle.connection_laws.specs.Alone.{Beginning, News, Seen, Given, Alone, alone, after_turn, own_ledger, words_of, let_first, bytes_said, is_over, MayWaitForBody}
use Rattle.connection_laws.specs.Examples.{NeverLooks}
use Rattle.connection_laws.specs.Replies.{IsUpTo, IsNews, HaveLearned, IsSaidAlone, IsOwnReply, IsWholeReply as IsWholeOwn, HaveWholeReplies, HaveOwnReplies}
use Rattle.connection_laws.proofs.Blind.{never-looks-minds}
use Rattle.connection_laws.proofs.Executing.{replies-said-alone}

-- ---- no run looks at its ledger

turns : {J : Type 0} (site : Site) (now : ℕ) (s : RunSeen) (b c : Ledger J) (r : Run) → lua_turn site now s b r ≡ lua_turn site now s c r
turns site now (seen.Run k) b c r = refl
turns site now seen.ClientGone b c r = refl
turns site now (seen.Due n) b c r = refl
turns site now (seen.Body content waited) b c r = refl
turns site now (seen.BodyRefused code) b c r = refl
turns site now seen.AllTaken b c r = refl
turns site now seen.NotYet b c r = refl
turns site now seen.ClientEnded b c r = refl
turns site now (seen.Sock k s) b c r = refl

never-looks : {J : Type 0} (site : Site) → NeverLooks {J = J} (lua_plan site)
never-looks site = record {
  begins = λ now head target b c. refl;
  begins_job = λ now premature job b c. refl;
  turns = λ now s b c r. turns site now s b c r;
  answers = λ now x b c r. refl;
}

pub minds : {J : Type 0} (site : Site) → MindsItsOwn {J = J} (lua_plan site)
minds site = never-looks-minds (lua_plan site) (never-looks site)

-- ---- what it says

-- the bytes of a whole reply
reply-bytes : (line : Option (List ℕ)) (sent : Sent) → bytes_said (words_of (reply_deeds (record { line = line; sent = sent }))) ≡ sent.bytes
reply-bytes None sent = append-nil sent.bytes
reply-bytes (Some line) sent = append-nil sent.bytes

module _ {J : Type 0} (es : List (LocalAction J)) (site : Site) where
  -- its reply is still to come, and a handler makes it, or said
  record IsToCome (head : Head) (target : Target) (a : Alone J Run) : Type 0 where
    work : a.run.work ≡ Request (request.begun head target 0)
    silent : a.said ≡ []
    handled : has_handler site.conf (request.begun head target 0) ≡ true

  -- at a moment
  abbrev reply_at : Head → Target → ℕ → Replied
  reply_at head target now = reply_of site (request.begun head target 0) now

  record HasSaid (head : Head) (target : Target) (a : Alone J Run) : Type 0 where
    work : a.run.work ≡ Over
    before : List (LocalAction J)
    up_to : IsUpTo es before
    said : a.said ≡ words_of (reply_deeds (reply_at head target (moment before)))

  abbrev Stands : Head → Target → Alone J Run → Type 0
  Stands head target a = IsToCome head target a ⊎ HasSaid head target a

  -- what leaves it as it stands
  idles : (head : Head) (target : Target) (a c : Alone J Run) → a.run.work ≡ c.run.work → a.said ++ [] ≡ c.said → Stands head target a → Stands head target c
  idles head target a c work said h = elim h [
    | inl x ↦ inl (record { work = sym work ∙ x.work; silent = sym said ∙ append-nil a.said ∙ x.silent; handled = x.handled })
    | inr x ↦ inr (record { work = sym work ∙ x.work; before = x.before; up_to = x.up_to; said = sym said ∙ append-nil a.said ∙ x.said })
  ]

  -- the work is done at a moment of what happened
  works : (head : Head) (target : Target) (now : ℕ) (at : List (LocalAction J)) → IsUpTo es at → moment at ≡ now → (a c : Alone J Run) → c.run.work ≡ Over
      → a.said ++ words_of (work_deeds site now a.run.work) ≡ c.said → Stands head target a → Stands head target c
  works head target now at up e a c work said h = elim h [
    | inl x ↦ inr (record {
      work = work;
      before = at;
      up_to = up;
      said = sym said ∙ ap (λ ws. ws ++ words_of (work_deeds site now a.run.work)) x.silent ∙ ap (λ w. words_of (work_deeds site now w)) x.work
          ∙ ap (λ n. words_of (reply_deeds (reply_at head target n))) (sym e);
    })
    | inr x ↦ inr (record {
      work = work;
      before = x.before;
      up_to = x.up_to;
      said = sym said ∙ ap (λ w. a.said ++ words_of (work_deeds site now w)) x.work ∙ append-nil a.said ∙ x.said;
    })
  ]

  -- it begins with a thread in line, or replies at once
  abbrev begun_by : Beginning → Bool → Alone J Run
  begun_by x c = after_turn (begins_by c site x.now (record { work = Request (request.begun x.head x.target 0); client = true })) (own_ledger x.sockets) [] []

  begins : (x : Beginning) (at : List (LocalAction J)) → IsUpTo es at → moment at ≡ x.now → (c : Bool)
      → has_handler site.conf (request.begun x.head x.target 0) ≡ c → Stands x.head x.target (begun_by x c)
  begins x at up e true h = inl (record { work = refl; silent = refl; handled = h })
  begins x at up e false h =
      inr (record { work = refl; before = at; up_to = up; said = ap (λ n. words_of (reply_deeds (reply_at x.head x.target n))) (sym e) })

  learns : (x : Beginning) (older : List Exchange) (n : News J) (news : List (News J)) (at : List (LocalAction J)) → IsUpTo es at → IsNews older x.head at n
      → Stands x.head x.target (alone (lua_plan site) x news) → Stands x.head x.target (alone (lua_plan site) x (n ∷ news))
  learns x older (Seen now (seen.Run k)) news at up is h =
      works x.head x.target now at up is.0 (alone (lua_plan site) x news) (alone (lua_plan site) x (Seen now (seen.Run k) ∷ news)) refl refl h
  learns x older (Given now y) news at up is h =
      works x.head x.target now at up is.0 (alone (lua_plan site) x news) (alone (lua_plan site) x (Given now y ∷ news)) refl refl h
  learns x older (Seen now seen.ClientGone) news at up is h =
      idles x.head x.target (alone (lua_plan site) x news) (alone (lua_plan site) x (Seen now seen.ClientGone ∷ news)) refl refl h
  learns x older (Seen now seen.ClientEnded) news at up is h =
      idles x.head x.target (alone (lua_plan site) x news) (alone (lua_plan site) x (Seen now seen.ClientEnded ∷ news)) refl refl h
  learns x older (Seen now (seen.Due k)) news at up is h =
      idles x.head x.target (alone (lua_plan site) x news) (alone (lua_plan site) x (Seen now (seen.Due k) ∷ news)) refl refl h
  learns x older (Seen now (seen.Body content waited)) news at up is h =
      idles x.head x.target (alone (lua_plan site) x news) (alone (lua_plan site) x (Seen now (seen.Body content waited) ∷ news)) refl refl h
  learns x older (Seen now (seen.BodyRefused code)) news at up is h =
      idles x.head x.target (alone (lua_plan site) x news) (alone (lua_plan site) x (Seen now (seen.BodyRefused code) ∷ news)) refl refl h
  learns x older (Seen now seen.AllTaken) news at up is h =
      idles x.head x.target (alone (lua_plan site) x news) (alone (lua_plan site) x (Seen now seen.AllTaken ∷ news)) refl refl h
  learns x older (Seen now seen.NotYet) news at up is h =
      idles x.head x.target (alone (lua_plan site) x news) (alone (lua_plan site) x (Seen now seen.NotYet ∷ news)) refl refl h
  learns x older (Seen now (seen.Sock k s)) news at up is h =
      idles x.head x.target (alone (lua_plan site) x news) (alone (lua_plan site) x (Seen now (seen.Sock k s) ∷ news)) refl refl h

  up-to : (fs at : List (LocalAction J)) → IsUpTo es fs → IsUpTo fs at → IsUpTo es at
  up-to fs at h g = record { since = h.since ++ g.since; is = append_assoc h.since g.since at ∙ ap (λ xs. h.since ++ xs) g.is ∙ h.is }

  stands : (x : Beginning) (older : List Exchange) (news : List (News J)) (fs : List (LocalAction J)) → IsUpTo es fs → HaveLearned x older news fs
      → Stands x.head x.target (alone (lua_plan site) x news)
  stands x older [] fs up h =
      begins x h.0 (up-to fs h.0 up h.1) h.2 (has_handler site.conf (request.begun x.head x.target 0)) refl
  stands x older (n ∷ news) fs up h =
      let at = up-to fs h.0 up h.1 in
      learns x older n news h.0 at h.2 (stands x older news h.0 at h.3)

  -- ---- and so its replies

  -- no run waits for a body, so no client is let send one
  none-first : (continues : Bool) (own : List ℕ) → (continues ≡ true → MayWaitForBody (lua_plan {J = J} site)) → let_first continues ++ own ≡ own
  none-first false own h = refl
  none-first true own h = absurd (let e : false ≡ true = (h refl).1 in cc)

  module _ (older : List Exchange) (head : Head) (target : Target) (reply : List ℕ) (x : IsSaidAlone es (lua_service {J = J} site) older head target reply) where
    abbrev it : Alone J Run
    it = alone (lua_plan site) x.of.beginning x.of.news

    alone-is : reply ≡ bytes_said it.said
    alone-is = x.said ∙ none-first x.continues (bytes_said it.said) x.waited

    stood : Stands head target it
    stood = subst (λ t. Stands head t it) x.of.asked.1
        (subst (λ h. Stands h x.of.beginning.target it) x.of.asked.0
        (stands x.of.beginning older x.of.news es (record { since = []; is = refl }) x.of.learned))

    made : HasSaid head target it → AreMade es site (reply_to_head site head target) reply
    made h = let r = reply_at head target (moment h.before) in (h.before, h.up_to, alone-is ∙ ap bytes_said h.said ∙ reply-bytes r.line r.sent)

    pub newest-own : IsNewest es site (out.Request head target) reply
    newest-own = elim stood [
      | inl y ↦ inl (alone-is ∙ ap bytes_said y.silent, y.handled)
      | inr y ↦ inr (made y)
    ]

    pub whole-own : is_over it.said ≡ true → IsWholeReply es site (out.Request head target) reply
    whole-own over = elim stood [
      | inl y ↦ absurd (let e : false ≡ true = ap is_over (sym y.silent) ∙ over in cc)
      | inr y ↦ made y
    ]

  newest : (older : List Exchange) (asked : LineOut) (reply : List ℕ) → IsOwnReply es (lua_service {J = J} site) older asked reply → IsNewest es site asked reply
  newest older (out.Request head target) reply x = newest-own older head target reply x
  newest older (out.Refused code) reply x = x
  newest older out.Waiting reply x = absurd x
  newest older out.Memory reply x = absurd x

  whole : (older : List Exchange) (asked : LineOut) (reply : List ℕ) → IsWholeOwn es (lua_service {J = J} site) older asked reply → IsWholeReply es site asked reply
  whole older (out.Request head target) reply x = whole-own older head target reply x.0 x.1
  whole older (out.Refused code) reply x = absurd x
  whole older out.Waiting reply x = absurd x
  whole older out.Memory reply x = absurd x

  wholes : (xs : List Exchange) → HaveWholeReplies es (lua_service {J = J} site) xs → AreWhole es site xs
  wholes [] h = tt
  wholes (e ∷ older) h = (whole older e.asked e.reply h.0, wholes older h.1)

  owns : (xs : List Exchange) → HaveOwnReplies es (lua_service {J = J} site) xs → EachHasItsOwn es site xs
  owns [] h = tt
  owns (e ∷ older) h = (newest older e.asked e.reply h.0, wholes older h.1)

pub each-own : {J : Type 0} (site : Site) (es : List (LocalAction J)) → IsExecution (connection_behavior {J = J} (lua_service site)) es
    → EachHasItsOwn es site (state_of (connection_plan {J = J} (lua_service site)) es).inner.client.exchanges
each-own site es x =
    owns es site (state_of (connection_plan (lua_service site)) es).inner.client.exchanges
    (replies-said-alone (lua_service site) LuaHolds (lua-is-run site) (minds site) es x)
