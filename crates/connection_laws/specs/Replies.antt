-- What the replies of a connection are, and what it logs.
use Rattle.std.specs.Prelude.{◌≡◌, ◌⊎◌, ℕ, Bool, true, false, List, [], ◌∷◌, ◌++◌, length, Option, Some, None}
use Rattle.uri_args.specs.declared.targets.Target.{Target}
use Rattle.http_in.specs.declared.heads.Head.{Head}
use Rattle.client_line.specs.declared.requests.LineOut.{LineOut}
use Rattle.client_line.specs.declared.requests.LineOut.TheVariants as out
use Rattle.strand_contract.specs.declared.turns.Place.TheVariants as place
use Rattle.strand_contract.specs.declared.turns.Act.{Act}
use Rattle.strand_contract.specs.declared.turns.Act.TheVariants as act
use Rattle.strand_contract.specs.Actions.{Action, LocalAction, Did, Bytes, Ended, Broken, Ready, Dialled, Refused, Put, Later, Lost, Log, Run, Due}
use Rattle.strand_contract.specs.Behaviors.{Behavior}
use Rattle.strand_contract.specs.Alone.{moment, socket_count}
use Rattle.strand_plans.specs.Ledgers.{Ledger}
use Rattle.run_contract.specs.declared.turns.RunSeen.{RunSeen}
use Rattle.run_contract.specs.declared.turns.RunSeen.TheVariants as seen
use Rattle.run_contract.specs.declared.turns.SockSeen.TheVariants as at
use Rattle.connection_plan.specs.Asked.{bytes_of}
use Rattle.connection_plan.specs.Clients.{Exchange}
use Rattle.connection_plan.specs.Services.{Service}
use Rattle.connection_laws.specs.Alone.{Beginning, News, Seen, Given, Alone, alone, job_alone, is_over, reply_alone, MayWaitForBody}
use Rattle.connection_laws.specs.Bodies.{IsOwnBody, IsOwnFault}
use Rattle.connection_laws.specs.Own.{SameOwn}

-- what an action tells a run by itself
abbrev pub told_by : {J : Type 0} → LocalAction J → Option RunSeen
told_by (Did (Run k)) = Some (seen.Run k)
told_by (Did (Due n)) = Some (seen.Due n)
told_by (Did (Ended place.Client)) = Some seen.ClientEnded
told_by (Did (Bytes (place.Sock k) bytes)) = Some (seen.Sock k (at.Bytes bytes))
told_by (Did (Ended (place.Sock k))) = Some (seen.Sock k at.Ended)
told_by (Did (Broken (place.Sock k))) = Some (seen.Sock k at.Broken)
told_by (Did (Ready (place.Sock k))) = Some (seen.Sock k at.Ready)
told_by (Did (Put (place.Sock k) bytes)) = Some (seen.Sock k (at.Took (length bytes)))
told_by (Did (Later (place.Sock k))) = Some (seen.Sock k at.Later)
told_by (Did (Lost (place.Sock k))) = Some (seen.Sock k at.Lost)
told_by (Did (Dialled k)) = Some (seen.Sock k at.Dialled)
told_by (Did (Refused k)) = Some (seen.Sock k at.Refused)
told_by a = None

-- the newest action tells the run this, or is this answer
abbrev pub IsToldBy : {J : Type 0} → List (LocalAction J) → RunSeen → Type 0
IsToldBy [] s = ⊥
IsToldBy (a ∷ before) s = told_by a ≡ Some s

abbrev pub IsAnsweredBy : {J : Type 0} → List (LocalAction J) → Action J → Type 0
IsAnsweredBy [] x = ⊥
IsAnsweredBy (a ∷ before) x = a ≡ Did x

-- These are the news of what happened last: a body is that of the request with this head, after these exchanges, and so is a fault in it, but for 400 where
-- the client sends no more.
abbrev pub IsNews : {J : Type 0} → List Exchange → Head → List (LocalAction J) → News J → Type 0
IsNews older head es (Seen now (seen.Body content waited)) = (moment es ≡ now) × IsOwnBody (bytes_of es) older head content
IsNews older head es (Seen now (seen.BodyRefused code)) = (moment es ≡ now) × (IsOwnFault (bytes_of es) older head code ⊎ (code ≡ 400))
IsNews older head es (Seen now seen.AllTaken) = moment es ≡ now
IsNews older head es (Seen now seen.NotYet) = moment es ≡ now
IsNews older head es (Seen now seen.ClientGone) = moment es ≡ now
IsNews older head es (Seen now s) = (moment es ≡ now) × IsToldBy es s
IsNews older head es (Given now x) = (moment es ≡ now) × IsAnsweredBy es x

-- those of a job: it has no client, and its body has no bytes
abbrev pub IsJobNews : {J : Type 0} → List (LocalAction J) → News J → Type 0
IsJobNews es (Seen now (seen.Body content waited)) = (moment es ≡ now) × (content ≡ [])
IsJobNews es (Seen now seen.AllTaken) = moment es ≡ now
IsJobNews es (Seen now s) = (moment es ≡ now) × IsToldBy es s
IsJobNews es (Given now x) = (moment es ≡ now) × IsAnsweredBy es x

-- all that happened, up to some action
pub record IsUpTo {J : Type 0} (es before : List (LocalAction J)) : Type 0 where
  pub since : List (LocalAction J)
  pub is : since ++ before ≡ es

-- a run begins so at an action, and learns the news at later ones, or at the same, in this order
abbrev pub HaveLearned : {J : Type 0} → Beginning → List Exchange → List (News J) → List (LocalAction J) → Type 0
HaveLearned {J} x older [] es = (at : List (LocalAction J)) × IsUpTo es at × (moment at ≡ x.now) × (socket_count at ≡ x.sockets)
HaveLearned {J} x older (n ∷ news) es = (at : List (LocalAction J)) × IsUpTo es at × IsNews older x.head at n × HaveLearned x older news at

-- a job learns them from its beginning on
abbrev pub HasLearned : {J : Type 0} → List (News J) → List (LocalAction J) → Type 0
HasLearned [] es = Unit {0}
HasLearned {J} (n ∷ news) es = (at : List (LocalAction J)) × IsUpTo es at × IsJobNews at n × HasLearned news at

-- its client wasn't hung up
abbrev pub has_client : {J : Type 0} → List (News J) → Bool
has_client [] = true
has_client (Seen now seen.ClientGone ∷ news) = false
has_client (n ∷ news) = has_client news

-- the lines that acts log, and those that the turns of a strand had logged, in order
abbrev pub lines_in : {J : Type 0} → List (Act J) → List (List ℕ)
lines_in [] = []
lines_in (act.Log line ∷ acts) = line ∷ lines_in acts
lines_in (a ∷ acts) = lines_in acts

abbrev pub lines_by : {J : Type 0} → Behavior J → List (LocalAction J) → List (List ℕ)
lines_by b [] = []
lines_by b (a ∷ es) = lines_by b es ++ lines_in (b.acts (a ∷ es))

-- the entries of the log that it made
abbrev pub lines_written : {J : Type 0} → List (LocalAction J) → List (List ℕ)
lines_written [] = []
lines_written (Did (Log line done) ∷ es) = lines_written es ++ line ∷ []
lines_written (a ∷ es) = lines_written es

module _ {J R : Type 0} (es : List (LocalAction J)) (site : Service J R) where
  -- a run answers the request: alone it began at a moment, and learned what happened
  pub record IsRunOf (older : List Exchange) (head : Head) (target : Target) : Type 0 where
    pub beginning : Beginning
    pub news : List (News J)
    pub asked : (beginning.head ≡ head) × (beginning.target ≡ target)
    pub learned : HaveLearned beginning older news es

  -- to what it came
  abbrev pub came_to : {older : List Exchange} {head : Head} {target : Target} → IsRunOf older head target → Alone J R
  came_to x = alone site.runs x.beginning x.news

  -- ---- replies

  -- It is what the run alone says, of the request, while its client is there; before that the client may have been let send its body, if it waits for a
  -- 100 reply, and runs of the site may wait for a body.
  pub record IsSaidAlone (older : List Exchange) (head : Head) (target : Target) (reply : List ℕ) : Type 0 where
    pub of : IsRunOf older head target
    pub there : has_client of.news ≡ true
    pub continues : Bool
    pub awaited : continues ≡ true → head.expects ≡ true
    pub waited : continues ≡ true → MayWaitForBody site.runs
    pub said : reply ≡ reply_alone site.runs of.beginning continues of.news

  -- a request gets what its run says, and a head that is refused the refusal of the moment
  abbrev pub IsOwnReply : List Exchange → LineOut → List ℕ → Type 0
  IsOwnReply older (out.Request head target) reply = IsSaidAlone older head target reply
  IsOwnReply older (out.Refused code) reply = (at : List (LocalAction J)) × IsUpTo es at × (reply ≡ site.refusal code (moment at))
  IsOwnReply older answer reply = ⊥

  -- nothing of the run was left to be done: its reply is whole
  abbrev pub IsWhole : {older : List Exchange} {head : Head} {target : Target} {reply : List ℕ} → IsSaidAlone older head target reply → Type 0
  IsWhole x = is_over (came_to x.of).said ≡ true

  -- after what was refused nothing is asked
  abbrev pub IsWholeReply : List Exchange → LineOut → List ℕ → Type 0
  IsWholeReply older (out.Request head target) reply = (x : IsSaidAlone older head target reply) × IsWhole x
  IsWholeReply older answer reply = ⊥

  abbrev pub HaveWholeReplies : List Exchange → Type 0
  HaveWholeReplies [] = Unit {0}
  HaveWholeReplies (e ∷ older) = IsWholeReply older e.asked e.reply × HaveWholeReplies older

  -- each of the exchanges, of which the newest comes first: all others are whole
  abbrev pub HaveOwnReplies : List Exchange → Type 0
  HaveOwnReplies [] = Unit {0}
  HaveOwnReplies (e ∷ older) = IsOwnReply older e.asked e.reply × HaveWholeReplies older

  -- ---- lines

  -- what the run of the request logs alone; where a head is refused nothing is logged
  abbrev pub IsOwnLog : List Exchange → LineOut → List (List ℕ) → Type 0
  IsOwnLog older (out.Request head target) lines = (x : IsRunOf older head target) × (lines ≡ (came_to x).logged)
  IsOwnLog older answer lines = lines ≡ []

  -- nothing of the run was left to be done: it logged all that it ever does
  abbrev pub IsWholeLog : List Exchange → LineOut → List (List ℕ) → Type 0
  IsWholeLog older (out.Request head target) lines = (x : IsRunOf older head target) × (is_over (came_to x).said ≡ true) × (lines ≡ (came_to x).logged)
  IsWholeLog older answer lines = ⊥

  -- those of the older exchanges, and then those of a newer one
  pub record IsInTwo (IsFirst IsLast : List (List ℕ) → Type 0) (lines : List (List ℕ)) : Type 0 where
    pub first : List (List ℕ)
    pub last : List (List ℕ)
    pub is : lines ≡ first ++ last
    pub is_first : IsFirst first
    pub is_last : IsLast last

  abbrev pub HaveWholeLines : List Exchange → List (List ℕ) → Type 0
  HaveWholeLines [] lines = lines ≡ []
  HaveWholeLines (e ∷ older) lines = IsInTwo (HaveWholeLines older) (IsWholeLog older e.asked) lines

  -- the lines are those of each of the exchanges in order, and of all but the newest they are whole
  abbrev pub HaveOwnLines : List Exchange → List (List ℕ) → Type 0
  HaveOwnLines [] lines = lines ≡ []
  HaveOwnLines (e ∷ older) lines = IsInTwo (HaveWholeLines older) (IsOwnLog older e.asked) lines

  -- ---- jobs

  -- a job that began so learned what happened: the lines are what it logs alone, and while it goes on the ledger is its own
  pub record IsJobAlone (now : ℕ) (premature : Bool) (job : J) (goes_on : Type 0) (ledger : Ledger J) (lines : List (List ℕ)) : Type 0 where
    pub news : List (News J)
    pub learned : HasLearned news es
    pub logged : lines ≡ (job_alone site.runs now premature job news).logged
    pub own : goes_on → SameOwn ledger (job_alone site.runs now premature job news).ledger

-- two runs begin alike and learn the same: at the same moments, after as many sockets, and their clients are let send their bodies in both cases or in none
abbrev pub LearnTheSame : {J R : Type 0} {site : Service J R} {es fs : List (LocalAction J)} {older others : List Exchange} {head : Head} {target : Target}
    {reply other : List ℕ} → IsSaidAlone es site older head target reply → IsSaidAlone fs site others head target other → Type 0
LearnTheSame x y = (x.of.beginning.now ≡ y.of.beginning.now) × (x.of.beginning.sockets ≡ y.of.beginning.sockets) × (x.of.news ≡ y.of.news)
    × (x.continues ≡ y.continues)
