-- In each execution every reply is its run's own, and so is every line.
use Rattle.std.proofs.Common.{◌≡◌, ℕ, Bool, true, false, List, [], ◌∷◌, ◌++◌, Option, Some, None, inl, inr, refl, sym, ap, ◌∙◌, subst, append_assoc}
use Rattle.strand_contract.specs.declared.turns.Act.{Act}
use Rattle.strand_contract.specs.declared.turns.Start.{Start}
use Rattle.strand_contract.specs.declared.turns.Start.TheVariants as start
use Rattle.strand_contract.specs.Actions.{LocalAction, Told, Did, Began, Bytes, Ended, Broken, Ready, Dialled, Refused}
use Rattle.strand_contract.specs.Actions.{Put, Later, Lost, Close, Log, Dict, Take, Dial, Keep, Timer, Dropped, Run, Offer, Due, Halted, Gone}
use Rattle.strand_contract.specs.Alone.{moment, socket_count, lives, was_dropped, todo, IsExecution}
use Rattle.strand_plans.specs.Ledgers.{Ledger, entered}
use Rattle.strand_plans.specs.Moves.{Move, Done}
use Rattle.strand_plans.specs.Turns.{Comes}
use Rattle.strand_plans.specs.Plans.{state_of, move_of}
use Rattle.strand_plans.proofs.Executions.{Agrees, agrees, comes}
use Rattle.strand_plans.proofs.Ledgers.{count-is}
use Rattle.strand_plans.proofs.PlanLaws.{lived, busy}
use Rattle.run_contract.specs.Conditions.{IsRun}
use Rattle.strand_contract.specs.Laws.{is_still}
use Rattle.connection_plan.specs.Services.{Service, Both}
use Rattle.connection_plan.specs.Turns.{is_there}
use Rattle.connection_plan.specs.Connections.{connection_plan, connection_behavior}
use Rattle.connection_plan.specs.Conditions.{Knows, MayAsk}
use Rattle.connection_plan.specs.Asked.{bytes_of}
use Rattle.connection_plan.specs.Clients.{Stage, Exchange}
use Rattle.connection_plan.specs.Clients as stage
use Rattle.connection_plan.proofs.Alike.{still-alike}
use Rattle.connection_plan.proofs.Meets.{meets}
use Rattle.connection_laws.specs.Own.{SameOwn, MindsItsOwn}
use Rattle.connection_laws.specs.Alone.{Alone, News, learned, begins_job}
use Rattle.connection_laws.specs.Replies.{IsUpTo, HaveWholeReplies, HaveOwnReplies, HaveWholeLines, HaveOwnLines, IsJobAlone, lines_by}
use Rattle.connection_laws.proofs.Leaving.{Left, here_at, left, left-is, performs-count}
use Rattle.connection_laws.proofs.Good.{begins_a_job, starts_job, up-to-later, learned-later, job-learned-later, LineAt, Own, Whole, OwnLines, WholeLines, Wholes, Logged, Origin, Request, Job, Good, good-idle, good-alike}
use Rattle.connection_laws.proofs.Coming.{is_first, bytes-come, turned, began-good, step-good}

-- the action with which all began
abbrev first_of : {J : Type 0} → List (LocalAction J) → Option (LocalAction J)
first_of [] = None
first_of (a ∷ []) = Some a
first_of (a ∷ (b ∷ es)) = first_of (b ∷ es)

first-on : {J : Type 0} (es : List (LocalAction J)) (a : LocalAction J) → first_of (es ++ a ∷ []) ≡ Some a
first-on [] a = refl
first-on (e ∷ []) a = refl
first-on (e ∷ (f ∷ es)) a = first-on (f ∷ es) a

-- no job begins later
keeps-no-job : {J : Type 0} (a : LocalAction J) (es : List (LocalAction J)) → is_first a ≡ false → starts_job es ≡ false → starts_job (a ∷ es) ≡ false
keeps-no-job a (e ∷ es) h k = k
keeps-no-job a [] h k = by a h
  where
    by : {J : Type 0} (a : LocalAction J) → is_first a ≡ false → begins_a_job a ≡ false
    by (Did (Began now begin)) h = absurd (let e : true ≡ false = h in cc)
    by a h = refl

starts-on : {J : Type 0} (es : List (LocalAction J)) (a : LocalAction J) → starts_job (es ++ a ∷ []) ≡ begins_a_job a
starts-on [] a = refl
starts-on (e ∷ []) a = refl
starts-on (e ∷ (f ∷ es)) a = starts-on (f ∷ es) a

module _ {J R : Type 0} (site : Service J R) (holds : Ledger J → R → Type 0) (run : IsRun site.runs holds) (minds : MindsItsOwn site.runs) where
  -- the ledger agrees with what happened
  abbrev AgreesAt : List (LocalAction J) → Type 0
  AgreesAt es = Agrees (connection_plan site) (Knows site.runs holds) es

  lives-so : (es : List (LocalAction J)) → IsExecution (connection_behavior site) es → lives es ≡ true → AgreesAt es
  lives-so es x l = lived (connection_plan site) (Knows site.runs holds) (MayAsk site) (meets site holds run) es x l

  busy-so : (es : List (LocalAction J)) (a : Act J) (rest : List (Act J)) → IsExecution (connection_behavior site) es → todo (connection_behavior site) es ≡ a ∷ rest → AgreesAt es
  busy-so es a rest x t = busy (connection_plan site) (Knows site.runs holds) (MayAsk site) (meets site holds run) es a rest x t

  -- what is known after some actions is known with one more, before that is entered
  one-more : (a : LocalAction J) (es : List (LocalAction J)) (all : List ℕ) (x : Left J (Both R)) → is_first a ≡ false → Good site es all x → Good site (a ∷ es) all x
  one-more a es all x later_one h = record {
    replies = owns x.inner.client.exchanges h.replies;
    logged = logs x.inner.client.exchanges h.logged;
    goes = λ e. let g = h.goes e in record {
      first = g.first;
      news = g.news;
      of = of g.first g.news (learned site.runs g.first g.news).said (learned site.runs g.first g.news).logged (site.runs.waits x.inner.run).client g.of;
      run = g.run;
      ledger = g.ledger;
      over = g.over;
    };
    line = λ there. line_by x.inner.client.stage (h.line there);
  }
    where
      more : (later : List (LocalAction J)) → (later ++ a ∷ []) ++ es ≡ later ++ a ∷ es
      more later = append_assoc later (a ∷ []) es

      whole : (xs : List Exchange) → Whole site es all xs → Whole site (a ∷ es) all xs
      whole xs h later = subst (λ ys. HaveWholeReplies ys site xs) (more later) (h (later ++ a ∷ []))

      whole_lines : (xs : List Exchange) (ls : List (List ℕ)) → WholeLines site es all xs ls → WholeLines site (a ∷ es) all xs ls
      whole_lines xs ls h later = subst (λ ys. HaveWholeLines ys site xs ls) (more later) (h (later ++ a ∷ []))

      wholes : Wholes site es all x.inner.client.exchanges x.lines → Wholes site (a ∷ es) all x.inner.client.exchanges x.lines
      wholes h = (whole x.inner.client.exchanges h.0, whole_lines x.inner.client.exchanges x.lines h.1, keeps-no-job a es later_one h.2)

      owns : (xs : List Exchange) → Own site es all xs → Own site (a ∷ es) all xs
      owns xs h later = subst (λ ys. HaveOwnReplies ys site xs) (more later) (h (later ++ a ∷ []))

      own_lines : (xs : List Exchange) → OwnLines site es all xs x.lines → OwnLines site (a ∷ es) all xs x.lines
      own_lines xs h later = subst (λ ys. HaveOwnLines ys site xs x.lines) (more later) (h (later ++ a ∷ []))

      logs : (xs : List Exchange) → Logged site es all xs x.lines → Logged site (a ∷ es) all xs x.lines
      logs xs l = elim l [
        | inl o ↦ inl (own_lines xs o.0, keeps-no-job a es later_one o.1)
        | inr j ↦ inr (record {
          began = j.began;
          number = j.number;
          premature = j.premature;
          job = j.job;
          starts = up-to-later es (a ∷ []) _ j.starts;
          news = j.news;
          learned_them = job-learned-later site es all (a ∷ []) j.news j.learned_them;
          logged = j.logged;
        })
      ]

      line_by : (at : Stage) → LineAt site es all at x.inner.client x.lines → LineAt site (a ∷ es) all at x.inner.client x.lines
      line_by stage.Flush l = (l.0, l.1, l.2, λ e. wholes (l.3 e))
      line_by stage.Idle l = (l.0, l.1, λ u. wholes (l.2 u))
      line_by stage.Head l = (l.0, l.1, λ u. wholes (l.2 u))
      line_by stage.Drop l = (l.0, l.1, λ u. wholes (l.2 u))
      line_by stage.Busy l = tt
      line_by stage.Over l = tt

      of : (first : Alone J R) (news : List (News J)) (words : List _) (logs : List (List ℕ)) (client : _) → Origin site es all first news words logs client x → Origin site (a ∷ es) all first news words logs client x
      of first news words logs client (Request q) = Request (record {
        beginning = q.beginning;
        older = q.older;
        is = q.is;
        olds = whole q.older q.olds;
        old_lines = q.old_lines;
        old_whole = whole_lines q.older q.old_lines q.old_whole;
        no_job = keeps-no-job a es later_one q.no_job;
        lines_are = q.lines_are;
        learned_them = learned-later site es all (a ∷ []) q.beginning q.older news q.learned_them;
        reads = record { step = q.reads.step; placed = q.reads.placed; body = q.reads.body };
        newest = record { reply = q.newest.reply; is = q.newest.is };
        has = q.has;
        says = q.says;
      })
      of first news words logs client (Job j) = Job (record {
        began = j.began;
        number = j.number;
        premature = j.premature;
        job = j.job;
        is = j.is;
        starts = up-to-later es (a ∷ []) _ j.starts;
        learned_them = job-learned-later site es all (a ∷ []) news j.learned_them;
        lines_are = j.lines_are;
        read = j.read;
        none = j.none;
        gone = j.gone;
        no_client = j.no_client;
      })

  -- what it came to, with the lines that were logged
  abbrev AllOf : List (LocalAction J) → Left J (Both R)
  AllOf es = here_at (state_of (connection_plan site) es).ledger (state_of (connection_plan site) es).inner (lines_by (connection_behavior site) es)

  abbrev KnownAt : List (LocalAction J) → Type 0
  KnownAt es = Good site es (bytes_of es) (AllOf es)

  abbrev Stays : LocalAction J → List (LocalAction J) → Type 0
  Stays a es = KnownAt es → KnownAt (a ∷ es)

  -- the turn's lines come after those that were logged
  turned-is : (a : LocalAction J) (es : List (LocalAction J)) → turned site (moment (a ∷ es)) (a ∷ es) holds run minds refl a (state_of (connection_plan site) es) (lines_by (connection_behavior site) es) ≡ AllOf (a ∷ es)
  turned-is a es =
      let st = state_of (connection_plan site) es in
      left-is (move_of (connection_plan site) (moment (a ∷ es)) a st) (entered a st.ledger) st.inner (lines_by (connection_behavior site) es)

  -- as many sockets as the execution tells
  counts-so : (a : LocalAction J) (es : List (LocalAction J)) → (entered a (state_of (connection_plan site) es).ledger).count ≡ socket_count (a ∷ es)
  counts-so a es =
      let st = state_of (connection_plan site) es in
      sym (performs-count (move_of (connection_plan site) (moment (a ∷ es)) a st) (entered a st.ledger) st.inner) ∙ sym (count-is (connection_plan site) (a ∷ es))

  came-so : (a : LocalAction J) (es : List (LocalAction J)) → IsExecution (connection_behavior site) (a ∷ es) → AgreesAt es → Comes (connection_plan site) (moment (a ∷ es)) a (state_of (connection_plan site) es)
  came-so a es x agrees = comes (connection_plan site) (Knows site.runs holds) (MayAsk site) (meets site holds run) a es agrees x.1

  -- a turn begins where the ledger agrees
  stepped-so : (a : LocalAction J) (es : List (LocalAction J)) → IsExecution (connection_behavior site) (a ∷ es) → AgreesAt es → is_first a ≡ false → Stays a es
  stepped-so a es x agrees later h =
      let st = state_of (connection_plan site) es in
      subst (λ (y : Left J (Both R)). Good site (a ∷ es) (bytes_of (a ∷ es)) y) (turned-is a es)
      (step-good site (moment (a ∷ es)) (a ∷ es) holds run minds refl a st (lines_by (connection_behavior site) es) agrees.inner (came-so a es x agrees) (bytes_of es)
      (record {
        bytes = bytes-come a es;
        newest = record { earlier = es; is = refl };
        first = λ f. absurd (let e : false ≡ true = sym later ∙ f in cc);
        counts = counts-so a es;
      })
      (one-more a es (bytes_of es) (AllOf es) later h))

  began-so : (now : ℕ) (begin : Start J) (es : List (LocalAction J)) → IsExecution (connection_behavior site) (Did (Began now begin) ∷ es) → KnownAt (Did (Began now begin) ∷ es)
  began-so now begin es x =
      let a = Did (Began now begin) in
      let agreed : AgreesAt es = agrees (connection_plan site) (Knows site.runs holds) (MayAsk site) (meets site holds run) es x.0 (ap was_dropped x.1) in
      let st = state_of (connection_plan site) es in
      subst (λ (y : Left J (Both R)). Good site (a ∷ es) (bytes_of (a ∷ es)) y) (turned-is a es)
      (began-good site (moment (a ∷ es)) (a ∷ es) holds run minds refl now begin st (lines_by (connection_behavior site) es) (came-so a es x agreed) (bytes_of es)
      (record {
        bytes = bytes-come a es;
        newest = record { earlier = es; is = refl };
        first = λ f. (ap bytes_of x.1, ap (lines_by (connection_behavior site)) x.1, ap (λ xs. a ∷ xs) (sym x.1));
        counts = counts-so a es;
      }))

  still : (a : LocalAction J) (es : List (LocalAction J)) → is_still a ≡ true → is_first a ≡ false → bytes_of (a ∷ es) ≡ bytes_of es → is_there (entered a (state_of (connection_plan site) es).ledger) ≡ is_there (state_of (connection_plan site) es).ledger
      → move_of (connection_plan site) (moment (a ∷ es)) a (state_of (connection_plan site) es) ≡ Done → Stays a es
  still a es is later bytes same idle h =
      let st = state_of (connection_plan site) es in
      let ls = lines_by (connection_behavior site) es in
      subst (λ (bs : List ℕ). Good site (a ∷ es) bs (AllOf (a ∷ es))) (sym bytes)
      (subst (λ (y : Left J (Both R)). Good site (a ∷ es) (bytes_of es) y) (ap (λ (m : Move J (Both R)). left m (entered a st.ledger) st.inner ls) (sym idle) ∙ turned-is a es)
      (good-alike site (a ∷ es) (bytes_of es) st.ledger (entered a st.ledger) st.inner ls (still-alike a st.ledger is) (λ l. sym same ∙ l) (one-more a es (bytes_of es) (AllOf es) later h)))

  step : (a : LocalAction J) (es : List (LocalAction J)) → IsExecution (connection_behavior site) (a ∷ es) → Stays a es
  step (Did (Began now begin)) es x = λ h. began-so now begin es x
  step (Did (Bytes q bytes)) es x = stepped-so (Did (Bytes q bytes)) es x (lives-so es x.0 x.1.0.living) refl
  step (Did (Ended q)) es x = stepped-so (Did (Ended q)) es x (lives-so es x.0 x.1.living) refl
  step (Did (Broken q)) es x = stepped-so (Did (Broken q)) es x (lives-so es x.0 x.1.living) refl
  step (Did (Ready q)) es x = stepped-so (Did (Ready q)) es x (lives-so es x.0 x.1.living) refl
  step (Did (Dialled k)) es x = stepped-so (Did (Dialled k)) es x (lives-so es x.0 x.1.living) refl
  step (Did (Refused k)) es x = stepped-so (Did (Refused k)) es x (lives-so es x.0 x.1.living) refl
  step (Did (Put q bytes)) es x = stepped-so (Did (Put q bytes)) es x (lives-so es x.0 x.1.0.living) refl
  step (Did (Later q)) es x = stepped-so (Did (Later q)) es x (lives-so es x.0 x.1.living) refl
  step (Did (Lost q)) es x = stepped-so (Did (Lost q)) es x (lives-so es x.0 x.1.living) refl
  step (Did (Dict zone call given)) es x = stepped-so (Did (Dict zone call given)) es x (busy-so es _ [] x.0 x.1.0) refl
  step (Did (Take key uses)) es x = stepped-so (Did (Take key uses)) es x (busy-so es _ [] x.0 x.1) refl
  step (Did (Dial host port done)) es x = stepped-so (Did (Dial host port done)) es x (busy-so es _ [] x.0 x.1) refl
  step (Did (Keep k key idle size)) es x = stepped-so (Did (Keep k key idle size)) es x (busy-so es _ [] x.0 x.1.0) refl
  step (Did (Timer at given)) es x = stepped-so (Did (Timer at given)) es x (busy-so es _ [] x.0 x.1.1) refl
  step (Did (Run k)) es x = stepped-so (Did (Run k)) es x (lives-so es x.0 x.1.0.living) refl
  step (Did (Due n)) es x = stepped-so (Did (Due n)) es x (lives-so es x.0 x.1.0.living) refl
  step (Did Halted) es x = stepped-so (Did Halted) es x (lives-so es x.0 x.1.0.living) refl
  step (Told w) es x = still (Told w) es refl refl refl refl refl
  step (Did (Close q)) es x = still (Did (Close q)) es refl refl refl refl refl
  step (Did (Log line done)) es x = still (Did (Log line done)) es refl refl refl refl refl
  step (Did (Offer q)) es x = still (Did (Offer q)) es refl refl refl refl refl
  step (Did Gone) es x = still (Did Gone) es refl refl refl refl refl
  step (Did Dropped) es x = still (Did Dropped) es refl refl refl refl refl

  pub good-after : (es : List (LocalAction J)) → IsExecution (connection_behavior site) es → KnownAt es
  good-after [] x = good-idle site [] [] (AllOf []) (λ e. let f : stage.Head ≡ stage.Busy = e in cc) (λ later. tt) (inl ((λ later. refl), refl)) (λ l. absurd (let f : false ≡ true = l in cc))
  good-after (a ∷ es) x = step a es x (good-after es x.0)

  pub replies-said-alone : (es : List (LocalAction J)) → IsExecution (connection_behavior site) es → HaveOwnReplies es site (state_of (connection_plan site) es).inner.client.exchanges
  replies-said-alone es x = (good-after es x).replies []

  -- it began with one of both
  other-start : {A : Type 0} (es all : List (LocalAction J)) (a b : LocalAction J) → all ≡ es ++ a ∷ [] → IsUpTo all (b ∷ []) → (b ≡ a → A) → A
  other-start es all a b e u f = f (some-of b a (sym (first-on u.since b) ∙ ap first_of (u.is ∙ e) ∙ first-on es a))
    where
      some-of : (x y : LocalAction J) → Some x ≡ Some y → x ≡ y
      some-of x y e = cc

  pub lines-logged-alone : (es : List (LocalAction J)) (now client : ℕ) → let all = es ++ Did (Began now (start.Client client)) ∷ [] in
      IsExecution (connection_behavior site) all → HaveOwnLines all site (state_of (connection_plan site) all).inner.client.exchanges (lines_by (connection_behavior site) all)
  lines-logged-alone es now client x = elim ((good-after (es ++ Did (Began now (start.Client client)) ∷ []) x).logged) [
    | inl o ↦ o.0 []
    | inr j ↦ other-start es (es ++ Did (Began now (start.Client client)) ∷ []) (Did (Began now (start.Client client))) (Did (Began j.began (start.Job j.number j.premature j.job))) refl j.starts
        (λ e. absurd (let f : Did (Began j.began (start.Job j.number j.premature j.job)) ≡ Did (Began now (start.Client client)) = e in cc))
  ]

  abbrev AloneAt : List (LocalAction J) → (now n : ℕ) → Bool → J → Stage → Type 0
  AloneAt es now n premature job st = let all = es ++ Did (Began now (start.Job n premature job)) ∷ [] in
      IsJobAlone all site now premature job (st ≡ stage.Busy) (state_of (connection_plan site) all).ledger (lines_by (connection_behavior site) all)

  pub job-alone : (es : List (LocalAction J)) (now n : ℕ) (premature : Bool) (job : J) → let all = es ++ Did (Began now (start.Job n premature job)) ∷ [] in let st = state_of (connection_plan site) all in
      IsExecution (connection_behavior site) all → IsJobAlone all site now premature job (st.inner.client.stage ≡ stage.Busy) st.ledger (lines_by (connection_behavior site) all)
  job-alone es now n premature job x = by (state_of (connection_plan site) all).inner.client.stage refl
    where
      all : List (LocalAction J)
      all = es ++ Did (Began now (start.Job n premature job)) ∷ []

      known : KnownAt all
      known = good-after all x

      -- it is the job that began
      same_job : {A : Type 0} (began number : ℕ) (early : Bool) (other : J) → IsUpTo all (Did (Began began (start.Job number early other)) ∷ [])
          → ((began ≡ now) → (early ≡ premature) → (other ≡ job) → A) → A
      same_job began number early other u f = other-start es all (Did (Began now (start.Job n premature job))) (Did (Began began (start.Job number early other))) refl u
          (λ e. f (let g : began ≡ now = cc in g) (let g : early ≡ premature = cc in g) (let g : other ≡ job = cc in g))

      is-first : (began : ℕ) (early : Bool) (other : J) → began ≡ now → early ≡ premature → other ≡ job → begins_job site.runs began early other ≡ begins_job site.runs now premature job
      is-first began early other a b c = ap (λ t. begins_job site.runs t early other) a ∙ ap (λ p. begins_job site.runs now p other) b ∙ ap (λ j. begins_job site.runs now premature j) c

      idle : (st : Stage) → (st ≡ stage.Busy → ⊥) → AloneAt es now n premature job st
      idle st not_busy = elim known.logged [
        | inl o ↦ absurd (let e : true ≡ false = sym (starts-on es (Did (Began now (start.Job n premature job)))) ∙ o.1 in cc)
        | inr j ↦ same_job j.began j.number j.premature j.job j.starts (λ a b c. record {
          news = j.news;
          learned = j.learned_them;
          logged = j.logged ∙ ap (λ (f : Alone J R). (learned site.runs f j.news).logged) (is-first j.began j.premature j.job a b c);
          own = λ e. absurd (not_busy e);
        })
      ]

      busy_of : (first : Alone J R) (news : List (News J)) (words : List _) (logs : List (List ℕ)) (client : _) → Origin site all (bytes_of all) first news words logs client (AllOf all)
          → logs ≡ (learned site.runs first news).logged → SameOwn (state_of (connection_plan site) all).ledger (learned site.runs first news).ledger → AloneAt es now n premature job stage.Busy
      busy_of first news words logs client (Request q) l same = absurd (let e : true ≡ false = sym (starts-on es (Did (Began now (start.Job n premature job)))) ∙ q.no_job in cc)
      busy_of first news words logs client (Job j) l same = same_job j.began j.number j.premature j.job j.starts (λ a b c.
          let is = j.is ∙ is-first j.began j.premature j.job a b c in record {
            news = news;
            learned = j.learned_them;
            logged = j.lines_are ∙ l ∙ ap (λ (f : Alone J R). (learned site.runs f news).logged) is;
            own = λ e. subst (λ (f : Alone J R). SameOwn (state_of (connection_plan site) all).ledger (learned site.runs f news).ledger) is same;
          })

      by : (st : Stage) → (state_of (connection_plan site) all).inner.client.stage ≡ st → AloneAt es now n premature job st
      by stage.Busy e = let g = known.goes e in busy_of g.first g.news (learned site.runs g.first g.news).said (learned site.runs g.first g.news).logged _ g.of refl g.ledger
      by stage.Idle e = idle stage.Idle (λ f. let g : stage.Idle ≡ stage.Busy = f in cc)
      by stage.Head e = idle stage.Head (λ f. let g : stage.Head ≡ stage.Busy = f in cc)
      by stage.Flush e = idle stage.Flush (λ f. let g : stage.Flush ≡ stage.Busy = f in cc)
      by stage.Drop e = idle stage.Drop (λ f. let g : stage.Drop ≡ stage.Busy = f in cc)
      by stage.Over e = idle stage.Over (λ f. let g : stage.Over ≡ stage.Busy = f in cc)
