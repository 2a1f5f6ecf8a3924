-- A run that goes on has done what it does alone, told the same; and so it is after each of its turns.
use Rattle.std.proofs.Common.{◌≡◌, ℕ, Bool, true, false, List, [], ◌∷◌, ◌++◌, Option, Some, None, if◌then◌else◌, refl, sym, ap, ◌∙◌, subst, append_assoc}
use Rattle.std.specs.Prelude.{◌&&◌, is_some}
use Rattle.uri_args.specs.declared.targets.Target.{Target}
use Rattle.http_in.specs.declared.heads.Head.{Head}
use Rattle.http_in.specs.declared.framing.BodyKind.TheVariants as kind
use Rattle.client_line.specs.Records.{Came}
use Rattle.client_line.specs.Lines.{done}
use Rattle.strand_contract.specs.Actions.{Action, LocalAction, Did}
use Rattle.strand_contract.specs.Alone.{socket_count}
use Rattle.strand_plans.specs.Questions.{Question}
use Rattle.strand_plans.specs.Ledgers.{Ledger, entered}
use Rattle.strand_plans.specs.Moves.{Move, Ask, asked_of}
use Rattle.run_contract.specs.declared.turns.RunSeen.{RunSeen}
use Rattle.run_contract.specs.declared.turns.Said.{Said}
use Rattle.run_contract.specs.Deeds.{Turn, Asks, Nothing, Outside, Within, ledger_after, ledger_asking, taken, says_over}
use Rattle.run_contract.specs.Runs.{Waits, waits_told}
use Rattle.run_contract.specs.Conditions.{IsRun, MayCome, Leaves, entered_as}
use Rattle.connection_plan.specs.Clients.{Stage, Exchange}
use Rattle.connection_plan.specs.Clients as stage
use Rattle.connection_plan.specs.Services.{Service, Both}
use Rattle.connection_plan.specs.Turns.{is_there, asks_then, run_turn, tell}
use Rattle.connection_plan.specs.Conditions.{AgreesWithin}
use Rattle.connection_plan.specs.Examples.{request, to}
use Rattle.connection_plan.proofs.Lifted.{same-run-refl}
use Rattle.connection_plan.proofs.Steps.{stage_did}
use Rattle.connection_plan.proofs.OwnMoves.{deeds-leave-client}
use Rattle.connection_plan.proofs.Stays.{IsDone, IsAfter, goes-on, stage-over}
use Rattle.connection_laws.specs.Own.{SameOwn, SameTurn, MindsItsOwn}
use Rattle.connection_laws.specs.Alone.{News, Seen, Given, Alone, words_of, lines_of, learned, after_turn, is_over, bytes_said, let_first, MayWaitForBody}
use Rattle.connection_laws.specs.Replies.{IsNews, IsJobNews, has_client}
use Rattle.connection_laws.proofs.Owns.{same-alike, same-asking}
use Rattle.connection_laws.proofs.Places.{Placed, body-kept}
use Rattle.connection_laws.proofs.Leaving.{Left, here_at, left}
use Rattle.connection_laws.proofs.Saying.{Says, over-append, over-words, IsAt, deeds-lead}
use Rattle.connection_laws.proofs.Words.{same-words, same-lines, did-client, told-client, more-client}
use Rattle.connection_laws.proofs.Good.{here, Own, LineAt, Reads, Newest, OfRequest, Origin, Request, Job, Goes, Good, said-whole, logged-whole, origin-own, origin-logged, good-asking}

module _ {J R : Type 0} (site : Service J R) (es : List (LocalAction J)) (all : List ℕ) where
  -- ---- a turn, and the same turn of the run alone; before it the run waited so

  pub record Takes (t : Turn J R) (w : Waits) (x : Left J (Both R)) : Type 0 where
    pub first : Alone J R
    pub news : List (News J)
    pub words : List Said
    pub logs : List (List ℕ)
    pub own : Ledger J
    pub turn : Turn J R
    pub of : Origin site es all first news words logs w.client x
    pub same : SameTurn t turn x.ledger own
    pub is : learned site.runs first news ≡ after_turn turn own words logs
    pub over : is_over words ≡ false

other : {J : Type 0} (x y : Question J) → Outside x ≡ Outside y → x ≡ y
other x y e = cc

-- a head, where there is no request
no_head : Head
no_head = request kind.Nothing false [] []

module _ {J R : Type 0} (site : Service J R) (now : ℕ) (es : List (LocalAction J)) (all : List ℕ) (holds : Ledger J → R → Type 0) (run : IsRun site.runs holds) where
  -- it is known, no question waits, and there were so many sockets as the execution tells
  abbrev pub Counted : Ledger J → Both R → Type 0
  Counted b s = AgreesWithin holds s.client.stage b s.run × (b.asked ≡ None) × (b.count ≡ socket_count es)

  -- moves after which it is known still
  abbrev pub Fine : Move J (Both R) → Type 0
  Fine m = (b : Ledger J) (s : Both R) (ls : List (List ℕ)) → Counted b s → Good site es all (here_at b s ls) → Good site es all (left m b s ls)

  module _ (t : Turn J R) (w : Waits) (b : Ledger J) (s : Both R) (ls : List (List ℕ)) (at : s.client.stage ≡ stage.Busy) (leaves : Leaves site.runs holds w t b) where
    -- where its words and other deeds lead; the request is any, where there is none
    abbrev Led : Head → Target → List Exchange → List Said → Left J (Both R) → Type 0
    Led head target older zs y = IsAt site now head target older (is_there b) t.run s.client.came s.client.exchanges (ledger_after t.does b) (stage_did t.does stage.Busy) zs (ls ++ lines_of t.does) y

    waits-so : (y : Left J (Both R)) → y.inner.run ≡ t.run → (site.runs.waits y.inner.run).client ≡ w.client
    waits-so y r = ap (λ (r : R). (site.runs.waits r).client) r ∙ ap (λ (w : Waits). w.client) leaves.waits ∙ did-client t.does w

    -- it is good, where this is known of what it did
    led-good : (first : Alone J R) (news : List (News J)) (words : List Said) → (turn : Turn J R) (own : Ledger J) (logs : List (List ℕ)) → SameTurn t turn b own
        → learned site.runs first news ≡ after_turn turn own words logs → is_over words ≡ false
        → (head : Head) (target : Target) (older : List Exchange) (y : Left J (Both R)) → Led head target older (words ++ words_of t.does) y
        → Origin site es all first news (words ++ words_of t.does) (logs ++ lines_of t.does) (site.runs.waits y.inner.run).client y
        → (is_there b ≡ false → Own site es all s.client.exchanges) → Good site es all y
    led-good first news words turn own logs same is over head target older y led of gone = record {
      replies = origin-own site es all first news y (site.runs.waits y.inner.run).client of_alone gone_so;
      logged = origin-logged site es all first news y (site.runs.waits y.inner.run).client of_alone;
      goes = λ e. record {
        first = first;
        news = news;
        of = of_alone;
        run = led.ran ∙ same.run ∙ sym (ap (λ (a : Alone J R). a.run) is);
        ledger = subst (λ (a : Alone J R). SameOwn y.ledger a.ledger) (sym is) (same-alike (ledger_after t.does b) y.ledger (taken turn own).ledger led.same.alike unasked);
        over = ap is_over all_said ∙ over-append words (words_of t.does) over ∙ over-words t.does ∙ busy_still e;
      };
      line = λ l. subst (λ (st : Stage). LineAt site es all st y.inner.client y.lines) (sym (led.at ∙ stage-over t.does stage.Busy)) (line_by l (says_over t.does) refl);
    }
      where
        all_said : (learned site.runs first news).said ≡ words ++ words_of t.does
        all_said = ap (λ (a : Alone J R). a.said) is ∙ ap (λ (ws : List Said). words ++ ws) (sym (same-words t turn b own same))

        all_logged : (learned site.runs first news).logged ≡ logs ++ lines_of t.does
        all_logged = ap (λ (a : Alone J R). a.logged) is ∙ ap (λ (js : List (List ℕ)). logs ++ js) (sym (same-lines t turn b own same))

        of_alone : Origin site es all first news (learned site.runs first news).said (learned site.runs first news).logged (site.runs.waits y.inner.run).client y
        of_alone =
            subst (λ (ws : List Said). Origin site es all first news ws (learned site.runs first news).logged (site.runs.waits y.inner.run).client y) (sym all_said)
            (subst (λ (js : List (List ℕ)). Origin site es all first news (words ++ words_of t.does) js (site.runs.waits y.inner.run).client y) (sym all_logged) of)

        gone_so : is_there y.ledger ≡ false → Own site es all y.inner.client.exchanges
        gone_so l = let g = sym led.still ∙ l in subst (Own site es all) (sym (led.gone g)) (gone g)

        busy_still : y.inner.client.stage ≡ stage.Busy → says_over t.does ≡ false
        busy_still e = by (says_over t.does) refl
          where
            by : (c : Bool) → says_over t.does ≡ c → c ≡ false
            by true h = absurd (let f : stage.Flush ≡ stage.Busy = sym (ap (λ (x : Bool). if x then stage.Flush else stage.Busy) h) ∙ sym (stage-over t.does stage.Busy) ∙ sym led.at ∙ e in cc)
            by false h = refl

        -- the outside question isn't compared
        unasked : SameOwn (ledger_after t.does b) (taken turn own).ledger
        unasked = by t.asks same.ledger
          where
            by : (a : Asks J) → SameOwn (ledger_asking a (ledger_after t.does b)) (taken turn own).ledger → SameOwn (ledger_after t.does b) (taken turn own).ledger
            by Nothing h = h
            by (Within q) h = h
            by (Outside x) h = same-asking (ledger_after t.does b).asked (record (ledger_after t.does b) { asked = asked_of x (ledger_after t.does b) }) (taken turn own).ledger h

        flushes : is_there y.ledger ≡ true → says_over t.does ≡ true → Origin site es all first news (learned site.runs first news).said (learned site.runs first news).logged (site.runs.waits y.inner.run).client y
            → LineAt site es all stage.Flush y.inner.client y.lines
        flushes l o (Request q) =
            let over_so = ap is_over all_said ∙ over-append words (words_of t.does) over ∙ over-words t.does ∙ o in (
              q.reads.step,
              body-kept all q.older q.beginning.head.body y.inner.client.came.at y.inner.client.came.held q.reads.body,
              subst (λ (xs : List Exchange). Placed all xs (done y.inner.client.came)) (sym q.newest.is) q.reads.placed,
              λ e. (said-whole site es all first news y q l over_so, logged-whole site es all first news y q over_so, q.no_job),
            )
        flushes l o (Job j) = absurd (let e : false ≡ true = sym j.gone ∙ l in cc)

        line_by : is_there y.ledger ≡ true → (c : Bool) → says_over t.does ≡ c → LineAt site es all (if c then stage.Flush else stage.Busy) y.inner.client y.lines
        line_by l true o = flushes l o of_alone
        line_by l false o = tt

  pub turn-good : (t : Turn J R) (m : Move J (Both R)) (w : Waits) (b : Ledger J) (s : Both R) (ls : List (List ℕ)) → s.client.stage ≡ stage.Busy → Leaves site.runs holds w t b → b.asked ≡ None
      → b.count ≡ socket_count es → Takes site es all t w (here_at b s ls) → (is_there b ≡ false → Own site es all s.client.exchanges) → Fine m → Good site es all (left (run_turn site now t m) b s ls)
  turn-good t m w b s ls at leaves none counts k gone fine = by k.of
    where
      start_run : Left J (Both R)
      start_run = here_at b (record s { run = t.run }) ls

      -- then it asks, or what follows comes
      rest : (head : Head) (target : Target) (older : List Exchange) (y : Left J (Both R)) → Led t w b s ls at leaves head target older (k.words ++ words_of t.does) y → Good site es all y
          → Good site es all (left (asks_then site now t.asks m) y.ledger y.inner y.lines)
      rest head target older y led good = next t.asks refl
        where
          done_so : IsDone site now holds run t b s y.ledger y.inner
          done_so = record { same = led.same; ran = led.ran; stage = led.at; came = led.read }

          counted : IsAfter site now holds run t s y.ledger y.inner → Counted y.ledger y.inner
          counted a = (a.known.0, a.known.1, sym led.same.alike.count ∙ (deeds-leave-client t.does b).count ∙ counts)

          asks : (x : Question J) → t.asks ≡ Outside x → (o : Option (Question J)) → asked_of x y.ledger ≡ o → Good site es all (left (if is_some o then Ask x else m) y.ledger y.inner y.lines)
          asks x e (Some z) o = good-asking site es all (asked_of x y.ledger) y.ledger y.inner y.lines good
          asks x e None o =
              fine y.ledger y.inner y.lines
              (counted (goes-on site now holds run t w b s at leaves none y.ledger y.inner done_so (Outside x) e (λ z f. subst (λ (z : Question J). asked_of z y.ledger ≡ None) (other x z f) o))) good

          next : (a : Asks J) → t.asks ≡ a → Good site es all (left (asks_then site now a m) y.ledger y.inner y.lines)
          next (Outside x) e = asks x e (asked_of x y.ledger) refl
          next Nothing e = fine y.ledger y.inner y.lines (counted (goes-on site now holds run t w b s at leaves none y.ledger y.inner done_so Nothing e (λ x f. absurd (cc)))) good
          next (Within q) e = fine y.ledger y.inner y.lines (counted (goes-on site now holds run t w b s at leaves none y.ledger y.inner done_so (Within q) e (λ x f. absurd (cc)))) good

      led-on : (head : Head) (target : Target) (older : List Exchange) → (is_there b ≡ true → Says (MayWaitForBody site.runs) head target older k.words s.client)
          → ((y : Left J (Both R)) → Led t w b s ls at leaves head target older (k.words ++ words_of t.does) y
          → Origin site es all k.first k.news (k.words ++ words_of t.does) (k.logs ++ lines_of t.does) (site.runs.waits y.inner.run).client y)
          → Good site es all (left (run_turn site now t m) b s ls)
      led-on head target older says origin = deeds-lead site now head target older (is_there b) t.run s.client.came s.client.exchanges (Good site es all) t.does (asks_then site now t.asks m) b stage.Busy k.words
          (k.words ++ words_of t.does) ls (ls ++ lines_of t.does) start_run
          (record { same = same-run-refl b; ran = refl; at = at; read = refl; still = refl; logged = refl; says = λ l. let h = says l in record { newest = h.newest; unsent = h.unsent; expects = h.expects; waits = h.waits }; gone = λ g. refl })
          refl refl
          (λ y led. rest head target older y led
          (led-good t w b s ls at leaves k.first k.news k.words k.turn k.own k.logs k.same k.is k.over head target older y led (origin y led) gone))

      by : Origin site es all k.first k.news k.words k.logs w.client (here_at b s ls) → Good site es all (left (run_turn site now t m) b s ls)
      by (Request q) = led-on q.beginning.head q.beginning.target q.older q.says (λ y led. Request (record {
        beginning = q.beginning;
        older = q.older;
        is = q.is;
        olds = q.olds;
        old_lines = q.old_lines;
        old_whole = q.old_whole;
        no_job = q.no_job;
        lines_are = led.logged ∙ ap (λ (js : List (List ℕ)). js ++ lines_of t.does) q.lines_are ∙ append_assoc q.old_lines k.logs (lines_of t.does);
        learned_them = q.learned_them;
        reads = subst (λ (c : Came). Reads site es all q.older q.beginning.head q.beginning.target c) (sym led.read) q.reads;
        newest = newest q y led (is_there b) refl;
        has = λ l. q.has (sym led.still ∙ l);
        says = λ l. led.says (sym led.still ∙ l);
      }))
        where
          newest : (q : OfRequest site es all k.first k.news k.words k.logs (here_at b s ls)) (y : Left J (Both R))
              → Led t w b s ls at leaves q.beginning.head q.beginning.target q.older (k.words ++ words_of t.does) y → (c : Bool) → is_there b ≡ c
              → Newest site es all q.beginning.head q.beginning.target q.older y.inner.client.exchanges
          newest q y led true l = record { reply = let_first (y.inner.client.waited && y.inner.client.expects) ++ bytes_said (k.words ++ words_of t.does); is = (led.says l).newest }
          newest q y led false l = record { reply = q.newest.reply; is = led.gone l ∙ q.newest.is }
      by (Job j) = led-on no_head (to []) [] (λ l. absurd (let e : false ≡ true = sym j.gone ∙ l in cc)) (λ y led. Job (record {
        began = j.began;
        number = j.number;
        premature = j.premature;
        job = j.job;
        is = j.is;
        starts = j.starts;
        learned_them = j.learned_them;
        lines_are = led.logged ∙ ap (λ (js : List (List ℕ)). js ++ lines_of t.does) j.lines_are;
        read = led.read ∙ j.read;
        none = led.gone j.gone ∙ j.none;
        gone = led.still ∙ j.gone;
        no_client = waits-so t w b s ls at leaves y led.ran ∙ j.no_client;
      }))

  module _ (minds : MindsItsOwn site.runs) where
    -- what it learns did happen, and a client that is there isn't told to be gone
    abbrev pub LearnsOf : {first : Alone J R} {news : List (News J)} {words : List Said} {logs : List (List ℕ)} {client : Bool} {x : Left J (Both R)} → News J
        → Origin site es all first news words logs client x → Type 0
    LearnsOf {x = x} n (Request q) = IsNews q.older q.beginning.head es n × (is_there x.ledger ≡ true → has_client (n ∷ []) ≡ true)
    LearnsOf n (Job j) = IsJobNews es n

    abbrev pub Learns : News J → Left J (Both R) → Type 0
    Learns n x = (g : Goes site es all x) → LearnsOf n g.of

    -- more is learned
    learns-more : (first : Alone J R) (news : List (News J)) (n : News J) (words : List Said) (logs : List (List ℕ)) (client after : Bool) (b c : Ledger J) (s : Both R) (ls : List (List ℕ)) → is_there c ≡ is_there b
        → (client ≡ false → after ≡ false) → (of : Origin site es all first news words logs client (here_at b s ls)) → LearnsOf n of → Origin site es all first (n ∷ news) words logs after (here_at c s ls)
    learns-more first news n words logs client after b c s ls opened falls (Request q) h = Request (record {
      beginning = q.beginning;
      older = q.older;
      is = q.is;
      olds = q.olds;
      old_lines = q.old_lines;
      old_whole = q.old_whole;
      no_job = q.no_job;
      lines_are = q.lines_are;
      learned_them = (es, here es, h.0, q.learned_them);
      reads = q.reads;
      newest = q.newest;
      has = λ l. more-client n news (h.1 (sym opened ∙ l)) (q.has (sym opened ∙ l));
      says = λ l. q.says (sym opened ∙ l);
    })
    learns-more first news n words logs client after b c s ls opened falls (Job j) h = Job (record {
      began = j.began;
      number = j.number;
      premature = j.premature;
      job = j.job;
      is = j.is;
      starts = j.starts;
      learned_them = (es, here es, h, j.learned_them);
      lines_are = j.lines_are;
      read = j.read;
      none = j.none;
      gone = opened ∙ j.gone;
      no_client = falls j.no_client;
    })

    -- it is told something, in a ledger in which that was entered
    pub tell-good : (x : RunSeen) (m : Move J (Both R)) (b : Ledger J) (s : Both R) (ls : List (List ℕ)) → s.client.stage ≡ stage.Busy → holds b s.run → MayCome site.runs now x b s.run
        → (entered_as x b).asked ≡ None → (entered_as x b).count ≡ socket_count es → ((c : Ledger J) → SameOwn b c → SameOwn (entered_as x b) (entered_as x c)) → is_there (entered_as x b) ≡ is_there b
        → Learns (Seen now x) (here_at b s ls) → Good site es all (here_at b s ls) → Fine m → Good site es all (left (tell site now x m) (entered_as x b) s ls)
    tell-good x m b s ls at h may none counts enters opened true_news good fine =
        let g = good.goes at in
        let a = learned site.runs g.first g.news in
        let own = entered_as x a.ledger in
        turn-good (site.runs.turn now x (entered_as x b) s.run) m (waits_told x (site.runs.waits s.run)) (entered_as x b) s ls at
        (run.stays now x b s.run h may) none counts
        (record {
          first = g.first;
          news = Seen now x ∷ g.news;
          words = a.said;
          logs = a.logged;
          own = own;
          turn = site.runs.turn now x own s.run;
          of = learns-more g.first g.news (Seen now x) a.said a.logged (site.runs.waits s.run).client (waits_told x (site.runs.waits s.run)).client b (entered_as x b) s ls opened
              (told-client x (site.runs.waits s.run)) g.of (true_news g);
          same = minds.turns now x (entered_as x b) own s.run (enters a.ledger g.ledger);
          is = ap (λ (r : R). after_turn (site.runs.turn now x own r) own a.said a.logged) (sym g.run);
          over = g.over;
        })
        (λ e. good.replies) fine

    -- it gets the answer to what it asked
    pub answer-good : (x : Action J) (m : Move J (Both R)) (b : Ledger J) (s : Both R) (ls : List (List ℕ)) → s.client.stage ≡ stage.Busy
        → Leaves site.runs holds (site.runs.waits s.run) (site.runs.answered now x (entered (Did x) b) s.run) (entered (Did x) b)
        → (entered (Did x) b).asked ≡ None → (entered (Did x) b).count ≡ socket_count es → ((c : Ledger J) → SameOwn b c → SameOwn (entered (Did x) b) (entered (Did x) c))
        → is_there (entered (Did x) b) ≡ is_there b → Learns (Given now x) (here_at b s ls) → Good site es all (here_at b s ls) → Fine m
        → Good site es all (left (run_turn site now (site.runs.answered now x (entered (Did x) b) s.run) m) (entered (Did x) b) s ls)
    answer-good x m b s ls at leaves none counts enters opened true_news good fine =
        let g = good.goes at in
        let a = learned site.runs g.first g.news in
        let own = entered (Did x) a.ledger in
        turn-good (site.runs.answered now x (entered (Did x) b) s.run) m (site.runs.waits s.run) (entered (Did x) b) s ls at leaves none counts
        (record {
          first = g.first;
          news = Given now x ∷ g.news;
          words = a.said;
          logs = a.logged;
          own = own;
          turn = site.runs.answered now x own s.run;
          of = learns-more g.first g.news (Given now x) a.said a.logged (site.runs.waits s.run).client (site.runs.waits s.run).client b (entered (Did x) b) s ls opened (λ e. e) g.of (true_news g);
          same = minds.answers now x (entered (Did x) b) own s.run (enters a.ledger g.ledger);
          is = ap (λ (r : R). after_turn (site.runs.answered now x own r) own a.said a.logged) (sym g.run);
          over = g.over;
        })
        (λ e. good.replies) fine
