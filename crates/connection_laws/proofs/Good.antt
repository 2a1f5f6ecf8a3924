-- What is known of replies, of lines, and of a run that goes on as it does alone, told the same.
use Rattle.std.proofs.Common.{◌≡◌, ℕ, Bool, true, false, List, [], ◌∷◌, ◌++◌, Option, refl, sym, ap, ◌∙◌, subst, append_assoc, inl, inr, ◌⊎◌}
use Rattle.std.specs.Prelude.{◌&&◌}
use Rattle.uri_args.specs.declared.targets.Target.{Target}
use Rattle.http_in.specs.declared.heads.Head.{Head}
use Rattle.client_line.specs.declared.requests.LineOut.{LineOut}
use Rattle.client_line.specs.declared.requests.LineOut.TheVariants as out
use Rattle.client_line.specs.Records.{Came}
use Rattle.client_line.specs.Lines.{nothing, done}
use Rattle.strand_contract.specs.declared.turns.Start.TheVariants as start
use Rattle.strand_contract.specs.Actions.{LocalAction, Did, Began}
use Rattle.strand_plans.specs.Questions.{Question}
use Rattle.strand_plans.specs.Ledgers.{Ledger}
use Rattle.run_contract.specs.declared.turns.Said.{Said}
use Rattle.run_contract.specs.Alike.{AreAlike}
use Rattle.connection_plan.specs.Clients.{Stage, Client, Exchange, exchange, closes_after}
use Rattle.connection_plan.specs.Clients as stage
use Rattle.connection_plan.specs.Services.{Service, Both}
use Rattle.connection_plan.specs.Turns.{is_there}
use Rattle.connection_plan.specs.InStep.{IsInStep}
use Rattle.connection_laws.specs.Own.{SameOwn}
use Rattle.connection_laws.specs.Alone.{Beginning, News, Alone, begins, begins_job, learned, alone, is_over, bytes_said, let_first, MayWaitForBody}
use Rattle.connection_laws.specs.Replies.{IsUpTo, HaveLearned, HasLearned, has_client, IsSaidAlone, IsOwnReply, IsWholeReply, HaveWholeReplies, HaveOwnReplies, IsOwnLog, IsWholeLog, HaveWholeLines, HaveOwnLines}
use Rattle.connection_laws.proofs.Owns.{same-alike, same-asking}
use Rattle.connection_laws.proofs.Places.{Placed, BodyAt, IsKept}
use Rattle.connection_laws.proofs.Leaving.{Left, here_at}
use Rattle.connection_laws.proofs.Saying.{Says, left-of, right-of}

pub here : {J : Type 0} (es : List (LocalAction J)) → IsUpTo es es
here es = record { since = []; is = refl }

-- all that happens later was up to there too
pub up-to-later : {J : Type 0} (es later before : List (LocalAction J)) → IsUpTo es before → IsUpTo (later ++ es) before
up-to-later es later before h = record { since = later ++ h.since; is = append_assoc later h.since before ∙ ap (λ xs. later ++ xs) h.is }

-- what began is a job
abbrev pub begins_a_job : {J : Type 0} → LocalAction J → Bool
begins_a_job (Did (Began now (start.Job number premature job))) = true
begins_a_job a = false

abbrev pub starts_job : {J : Type 0} → List (LocalAction J) → Bool
starts_job [] = false
starts_job (a ∷ []) = begins_a_job a
starts_job (a ∷ (b ∷ es)) = starts_job (b ∷ es)

-- all bytes that came, and what happened
module _ {J R : Type 0} (site : Service J R) (es : List (LocalAction J)) (all : List ℕ) where
  -- whatever happens later
  abbrev pub Own : List Exchange → Type 0
  Own xs = (later : List (LocalAction J)) → HaveOwnReplies (later ++ es) site xs

  abbrev pub Whole : List Exchange → Type 0
  Whole xs = (later : List (LocalAction J)) → HaveWholeReplies (later ++ es) site xs

  abbrev pub OwnLines : List Exchange → List (List ℕ) → Type 0
  OwnLines xs ls = (later : List (LocalAction J)) → HaveOwnLines (later ++ es) site xs ls

  abbrev pub WholeLines : List Exchange → List (List ℕ) → Type 0
  WholeLines xs ls = (later : List (LocalAction J)) → HaveWholeLines (later ++ es) site xs ls

  -- no job began
  abbrev pub NoJob : Type 0
  NoJob = starts_job es ≡ false

  -- the replies are whole, and so are the lines
  abbrev pub Wholes : List Exchange → List (List ℕ) → Type 0
  Wholes xs ls = Whole xs × WholeLines xs ls × NoJob

  -- a job began so
  abbrev pub BeginsJob : (began number : ℕ) → Bool → J → Type 0
  BeginsJob began number premature job = IsUpTo es (Did (Began began (start.Job number premature job)) ∷ [])

  -- the lines of a job
  pub record JobLog (ls : List (List ℕ)) : Type 0 where
    pub began : ℕ
    pub number : ℕ
    pub premature : Bool
    pub job : J
    pub starts : BeginsJob began number premature job
    pub news : List (News J)
    pub learned_them : HasLearned news es
    pub logged : ls ≡ (learned site.runs (begins_job site.runs began premature job) news).logged

  abbrev pub Logged : List Exchange → List (List ℕ) → Type 0
  Logged xs ls = (OwnLines xs ls × NoJob) ⊎ JobLog ls

  -- Where no run goes on: what is read next of all bytes that came, and that the replies are whole where it is a request.
  abbrev pub LineAt : Stage → Client → List (List ℕ) → Type 0
  LineAt stage.Flush c ls = IsInStep c.came.at × IsKept c.came.at × Placed all c.exchanges (done c.came) × (closes_after c.reply ≡ false → Wholes c.exchanges ls)
  LineAt stage.Idle c ls = IsInStep c.came.at × Placed all c.exchanges c.came × (Unit {0} → Wholes c.exchanges ls)
  LineAt stage.Head c ls = IsInStep c.came.at × Placed all c.exchanges c.came × (Unit {0} → Wholes c.exchanges ls)
  LineAt stage.Drop c ls = IsInStep c.came.at × Placed all c.exchanges c.came × (Unit {0} → Wholes c.exchanges ls)
  LineAt st c ls = Unit {0}

  -- what is read of a request while its run goes on
  pub record Reads (older : List Exchange) (head : Head) (target : Target) (came : Came) : Type 0 where
    pub step : IsInStep came.at
    pub placed : Placed all (exchange (out.Request head target) [] ∷ older) (done came)
    pub body : BodyAt all older head.body came

  -- it is the newest exchange
  pub record Newest (head : Head) (target : Target) (older xs : List Exchange) : Type 0 where
    pub reply : List ℕ
    pub is : xs ≡ exchange (out.Request head target) reply ∷ older

  -- a run answers a request: it said these words and logged these lines
  pub record OfRequest (first : Alone J R) (news : List (News J)) (words : List Said) (logs : List (List ℕ)) (x : Left J (Both R)) : Type 0 where
    pub beginning : Beginning
    pub older : List Exchange
    pub is : first ≡ begins site.runs beginning
    pub olds : Whole older
    pub old_lines : List (List ℕ)
    pub old_whole : WholeLines older old_lines
    pub no_job : NoJob
    pub lines_are : x.lines ≡ old_lines ++ logs
    pub learned_them : HaveLearned beginning older news es
    pub reads : Reads older beginning.head beginning.target x.inner.client.came
    pub newest : Newest beginning.head beginning.target older x.inner.client.exchanges
    pub has : is_there x.ledger ≡ true → has_client news ≡ true
    pub says : is_there x.ledger ≡ true → Says (MayWaitForBody site.runs) beginning.head beginning.target older words x.inner.client

  -- a run is a job: it logged these lines, and has no client
  pub record OfJob (first : Alone J R) (news : List (News J)) (logs : List (List ℕ)) (client : Bool) (x : Left J (Both R)) : Type 0 where
    pub began : ℕ
    pub number : ℕ
    pub premature : Bool
    pub job : J
    pub is : first ≡ begins_job site.runs began premature job
    pub starts : BeginsJob began number premature job
    pub learned_them : HasLearned news es
    pub lines_are : x.lines ≡ logs
    pub read : x.inner.client.came ≡ nothing
    pub none : x.inner.client.exchanges ≡ []
    pub gone : is_there x.ledger ≡ false
    pub no_client : client ≡ false

  pub data Origin (first : Alone J R) (news : List (News J)) (words : List Said) (logs : List (List ℕ)) (client : Bool) (x : Left J (Both R)) : Type 0 where
    Request : (q : OfRequest first news words logs x) → Origin first news words logs client x
    Job : (j : OfJob first news logs client x) → Origin first news words logs client x

  -- a run goes on as it does alone
  pub record Goes (x : Left J (Both R)) : Type 0 where
    pub first : Alone J R
    pub news : List (News J)
    pub of : Origin first news (learned site.runs first news).said (learned site.runs first news).logged (site.runs.waits x.inner.run).client x
    pub run : x.inner.run ≡ (learned site.runs first news).run
    pub ledger : SameOwn x.ledger (learned site.runs first news).ledger
    pub over : is_over (learned site.runs first news).said ≡ false

  -- what is known of the replies, of the lines, of a run that goes on, and of what is read next of a client that is there
  pub record Good (x : Left J (Both R)) : Type 0 where
    pub replies : Own x.inner.client.exchanges
    pub logged : Logged x.inner.client.exchanges x.lines
    pub goes : x.inner.client.stage ≡ stage.Busy → Goes x
    pub line : is_there x.ledger ≡ true → LineAt x.inner.client.stage x.inner.client x.lines

  -- where no run goes on
  pub good-idle : (x : Left J (Both R)) → (x.inner.client.stage ≡ stage.Busy → ⊥) → Own x.inner.client.exchanges → Logged x.inner.client.exchanges x.lines
      → (is_there x.ledger ≡ true → LineAt x.inner.client.stage x.inner.client x.lines) → Good x
  good-idle x idle h k line = record { replies = h; logged = k; goes = λ e. absurd (idle e); line = line }

  -- ---- replies and lines that are own

  -- what was learned is learned still, whatever happens later
  pub learned-later : (later : List (LocalAction J)) (x : Beginning) (older : List Exchange) (news : List (News J)) → HaveLearned x older news es → HaveLearned x older news (later ++ es)
  learned-later later x older [] h = (h.0, up-to-later es later h.0 h.1, h.2, h.3)
  learned-later later x older (n ∷ news) h = (h.0, up-to-later es later h.0 h.1, h.2, h.3)

  pub job-learned-later : (later : List (LocalAction J)) (news : List (News J)) → HasLearned news es → HasLearned news (later ++ es)
  job-learned-later later [] h = tt
  job-learned-later later (n ∷ news) h = (h.0, up-to-later es later h.0 h.1, h.2, h.3)

  module _ (first : Alone J R) (news : List (News J)) (x : Left J (Both R)) where
    abbrev AloneSo : Alone J R
    AloneSo = learned site.runs first news

    -- to what the run alone came
    so-alone : (q : OfRequest first news AloneSo.said AloneSo.logged x) → alone site.runs q.beginning news ≡ AloneSo
    so-alone q = ap (λ (f : Alone J R). learned site.runs f news) (sym q.is)

    -- the newest reply, as it is said alone
    abbrev newest-said : (q : OfRequest first news AloneSo.said AloneSo.logged x) → is_there x.ledger ≡ true → (later : List (LocalAction J))
        → IsSaidAlone (later ++ es) site q.older q.beginning.head q.beginning.target (let_first (x.inner.client.waited && x.inner.client.expects) ++ bytes_said AloneSo.said)
    newest-said q there later = record {
      of = record { beginning = q.beginning; news = news; asked = (refl, refl); learned = learned-later later q.beginning q.older news q.learned_them };
      there = q.has there;
      continues = x.inner.client.waited && x.inner.client.expects;
      awaited = λ e. sym (q.says there).expects ∙ right-of x.inner.client.waited x.inner.client.expects e;
      waited = λ e. (q.says there).waits (left-of x.inner.client.waited x.inner.client.expects e);
      said = ap (λ (a : Alone J R). let_first (x.inner.client.waited && x.inner.client.expects) ++ bytes_said a.said) (sym (so-alone q));
    }

    -- it is own with the others, and whole where nothing of the run is left
    pub said-own : (q : OfRequest first news AloneSo.said AloneSo.logged x) → is_there x.ledger ≡ true → Own x.inner.client.exchanges
    said-own q there = λ later. subst (HaveOwnReplies (later ++ es) site) (sym (q.says there).newest) (newest-said q there later, q.olds later)

    pub said-whole : (q : OfRequest first news AloneSo.said AloneSo.logged x) → is_there x.ledger ≡ true → is_over AloneSo.said ≡ true → Whole x.inner.client.exchanges
    said-whole q there over = λ later.
        subst (HaveWholeReplies (later ++ es) site) (sym (q.says there).newest) ((newest-said q there later, ap (λ (a : Alone J R). is_over a.said) (so-alone q) ∙ over), q.olds later)

    -- and so are the lines
    pub logged-own : (q : OfRequest first news AloneSo.said AloneSo.logged x) → OwnLines x.inner.client.exchanges x.lines
    logged-own q = λ later. subst (λ (xs : List Exchange). HaveOwnLines (later ++ es) site xs x.lines) (sym q.newest.is) (record {
      first = q.old_lines;
      last = AloneSo.logged;
      is = q.lines_are;
      is_first = q.old_whole later;
      is_last = (
        record { beginning = q.beginning; news = news; asked = (refl, refl); learned = learned-later later q.beginning q.older news q.learned_them },
        ap (λ (a : Alone J R). a.logged) (sym (so-alone q)),
      );
    })

    pub logged-whole : (q : OfRequest first news AloneSo.said AloneSo.logged x) → is_over AloneSo.said ≡ true → WholeLines x.inner.client.exchanges x.lines
    logged-whole q over = λ later. subst (λ (xs : List Exchange). HaveWholeLines (later ++ es) site xs x.lines) (sym q.newest.is) (record {
      first = q.old_lines;
      last = AloneSo.logged;
      is = q.lines_are;
      is_first = q.old_whole later;
      is_last = (
        record { beginning = q.beginning; news = news; asked = (refl, refl); learned = learned-later later q.beginning q.older news q.learned_them },
        ap (λ (a : Alone J R). is_over a.said) (so-alone q) ∙ over,
        ap (λ (a : Alone J R). a.logged) (sym (so-alone q)),
      );
    })

    pub job-logged : (client : Bool) (j : OfJob first news AloneSo.logged client x) → JobLog x.lines
    job-logged client j = record {
      began = j.began;
      number = j.number;
      premature = j.premature;
      job = j.job;
      starts = j.starts;
      news = news;
      learned_them = j.learned_them;
      logged = j.lines_are ∙ ap (λ (f : Alone J R). (learned site.runs f news).logged) j.is;
    }

    -- where its client is gone, the replies are what they were
    pub origin-own : (client : Bool) → Origin first news AloneSo.said AloneSo.logged client x → (is_there x.ledger ≡ false → Own x.inner.client.exchanges) → Own x.inner.client.exchanges
    origin-own client (Request q) gone = by (is_there x.ledger) refl
      where
        by : (c : Bool) → is_there x.ledger ≡ c → Own x.inner.client.exchanges
        by true l = said-own q l
        by false l = gone l
    origin-own client (Job j) gone = gone j.gone

    pub origin-logged : (client : Bool) → Origin first news AloneSo.said AloneSo.logged client x → Logged x.inner.client.exchanges x.lines
    origin-logged client (Request q) = inl (logged-own q, q.no_job)
    origin-logged client (Job j) = inr (job-logged client j)

  -- while it goes on
  pub good-busy : (x : Left J (Both R)) → x.inner.client.stage ≡ stage.Busy → Goes x → (is_there x.ledger ≡ false → Own x.inner.client.exchanges) → Good x
  good-busy x at g gone = record {
    replies = origin-own g.first g.news x (site.runs.waits x.inner.run).client g.of gone;
    logged = origin-logged g.first g.news x (site.runs.waits x.inner.run).client g.of;
    goes = λ e. g;
    line = λ l. subst (λ (st : Stage). LineAt st x.inner.client x.lines) (sym at) tt;
  }

  own-of : (later : List (LocalAction J)) (asked : LineOut) (reply : List ℕ) (older : List Exchange) → IsWholeReply (later ++ es) site older asked reply → IsOwnReply (later ++ es) site older asked reply
  own-of later (out.Request head target) reply older x = x.0
  own-of later (out.Refused code) reply older x = absurd x
  own-of later out.Waiting reply older x = absurd x
  own-of later out.Memory reply older x = absurd x

  -- whole replies are own
  pub whole-owns : (xs : List Exchange) → Whole xs → Own xs
  whole-owns [] h later = tt
  whole-owns (e ∷ xs) h later = let x = h later in (own-of later e.asked e.reply xs x.0, x.1)

  own-log : (later : List (LocalAction J)) (asked : LineOut) (ls : List (List ℕ)) (older : List Exchange) → IsWholeLog (later ++ es) site older asked ls → IsOwnLog (later ++ es) site older asked ls
  own-log later (out.Request head target) ls older x = (x.0, x.2)
  own-log later (out.Refused code) ls older x = absurd x
  own-log later out.Waiting ls older x = absurd x
  own-log later out.Memory ls older x = absurd x

  pub whole-logs : (xs : List Exchange) (ls : List (List ℕ)) → WholeLines xs ls → OwnLines xs ls
  whole-logs [] ls h later = h later
  whole-logs (e ∷ xs) ls h later = let x = h later in record { first = x.first; last = x.last; is = x.is; is_first = x.is_first; is_last = own-log later e.asked x.last xs x.is_last }

  -- ---- what changes little

  -- From one to another: no lines are logged, the client isn't there where it wasn't, and of what was asked, said and read it is as well known.
  pub record IsMoved (x y : Left J (Both R)) : Type 0 where
    pub lines : y.lines ≡ x.lines
    pub there : is_there y.ledger ≡ true → is_there x.ledger ≡ true
    pub run : y.inner.run ≡ x.inner.run
    pub like : (c : Ledger J) → SameOwn x.ledger c → SameOwn y.ledger c
    pub none : is_there x.ledger ≡ false → x.inner.client.exchanges ≡ [] → y.inner.client.exchanges ≡ []
    pub newest : (head : Head) (target : Target) (older : List Exchange) → Newest head target older x.inner.client.exchanges → Newest head target older y.inner.client.exchanges
    pub says : (head : Head) (target : Target) (older : List Exchange) (words : List Said) → is_there y.ledger ≡ true → Says (MayWaitForBody site.runs) head target older words x.inner.client
        → Says (MayWaitForBody site.runs) head target older words y.inner.client
    pub reads : (older : List Exchange) (head : Head) (target : Target) → Reads older head target x.inner.client.came → Reads older head target y.inner.client.came
    pub nothing_read : x.inner.client.came ≡ nothing → y.inner.client.came ≡ nothing

  still-gone : (x y : Bool) → (y ≡ true → x ≡ true) → x ≡ false → y ≡ false
  still-gone x true h g = sym (h refl) ∙ g
  still-gone x false h g = refl

  origin-moved : (first : Alone J R) (news : List (News J)) (words : List Said) (logs : List (List ℕ)) (client : Bool) (x y : Left J (Both R)) → IsMoved x y
      → Origin first news words logs client x → Origin first news words logs client y
  origin-moved first news words logs client x y m (Request q) = Request (record {
    beginning = q.beginning;
    older = q.older;
    is = q.is;
    olds = q.olds;
    old_lines = q.old_lines;
    old_whole = q.old_whole;
    no_job = q.no_job;
    lines_are = m.lines ∙ q.lines_are;
    learned_them = q.learned_them;
    reads = m.reads q.older q.beginning.head q.beginning.target q.reads;
    newest = m.newest q.beginning.head q.beginning.target q.older q.newest;
    has = λ l. q.has (m.there l);
    says = λ l. m.says q.beginning.head q.beginning.target q.older words l (q.says (m.there l));
  })
  origin-moved first news words logs client x y m (Job j) = Job (record {
    began = j.began;
    number = j.number;
    premature = j.premature;
    job = j.job;
    is = j.is;
    starts = j.starts;
    learned_them = j.learned_them;
    lines_are = m.lines ∙ j.lines_are;
    read = m.nothing_read j.read;
    none = m.none j.gone j.none;
    gone = still-gone (is_there x.ledger) (is_there y.ledger) m.there j.gone;
    no_client = j.no_client;
  })

  pub goes-moved : (x y : Left J (Both R)) → IsMoved x y → Goes x → Goes y
  goes-moved x y m g = record {
    first = g.first;
    news = g.news;
    of = subst (λ (r : R). Origin g.first g.news (learned site.runs g.first g.news).said (learned site.runs g.first g.news).logged (site.runs.waits r).client y) (sym m.run)
        (origin-moved g.first g.news (learned site.runs g.first g.news).said (learned site.runs g.first g.news).logged (site.runs.waits x.inner.run).client x y m g.of);
    run = m.run ∙ g.run;
    ledger = m.like (learned site.runs g.first g.news).ledger g.ledger;
    over = g.over;
  }

  -- in another ledger
  ledger-moved : (b c : Ledger J) (s : Both R) (ls : List (List ℕ)) → ((d : Ledger J) → SameOwn b d → SameOwn c d) → (is_there c ≡ true → is_there b ≡ true) → Good (here_at b s ls) → Good (here_at c s ls)
  ledger-moved b c s ls like there h = record {
    replies = h.replies;
    logged = h.logged;
    goes = λ e. goes-moved (here_at b s ls) (here_at c s ls) (record {
      lines = refl;
      there = there;
      run = refl;
      like = like;
      none = λ g e. e;
      newest = λ head target older n. n;
      says = λ head target older words l h. h;
      reads = λ older head target r. r;
      nothing_read = λ e. e;
    }) (h.goes e);
    line = λ l. h.line (there l);
  }

  pub good-alike : (b c : Ledger J) (s : Both R) (ls : List (List ℕ)) → AreAlike b c → (is_there c ≡ true → is_there b ≡ true) → Good (here_at b s ls) → Good (here_at c s ls)
  good-alike b c s ls like there h = ledger-moved b c s ls (λ d. same-alike b c d like) there h

  -- a question isn't compared
  pub good-asking : (o : Option (Question J)) (b : Ledger J) (s : Both R) (ls : List (List ℕ)) → Good (here_at b s ls) → Good (here_at (record b { asked = o }) s ls)
  good-asking o b s ls h = ledger-moved b (record b { asked = o }) s ls (λ d. same-asking o b d) (λ l. l) h
