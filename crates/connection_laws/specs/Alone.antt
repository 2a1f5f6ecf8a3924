-- What a run says and logs that is alone in the world: a function of its request or job, and of what it is told.
use Rattle.std.specs.Prelude.{◌≡◌, ℕ, ◌||◌, Bool, true, false, List, [], ◌∷◌, ◌++◌, if◌then◌else◌}
use Rattle.uri_args.specs.declared.targets.Target.{Target}
use Rattle.http_in.specs.declared.heads.Head.{Head}
use Rattle.strand_contract.specs.Actions.{Action, Did}
use Rattle.strand_plans.specs.Ledgers.{Ledger, empty_ledger, entered}
use Rattle.run_contract.specs.declared.turns.RunSeen.{RunSeen}
use Rattle.run_contract.specs.declared.turns.Said.{Said}
use Rattle.run_contract.specs.declared.turns.Said.TheVariants as said
use Rattle.run_contract.specs.Deeds.{Deed, Log, Say, Turn, taken}
use Rattle.run_contract.specs.Runs.{RunPlan}
use Rattle.run_contract.specs.Conditions.{asks_body, entered_as}
use Rattle.connection_plan.specs.Turns.{continue_reply}

-- how a run begins: to answer a request, at a moment, after so many sockets of its connection
pub record Beginning : Type 0 where
  pub head : Head
  pub target : Target
  pub now : ℕ
  pub sockets : ℕ

-- what a run learns at a moment: it is told something, or gets the answer to what it asked
pub data News (J : Type 0) : Type 0 where
  Seen : (now : ℕ) (seen : RunSeen) → News J
  Given : (now : ℕ) (answer : Action J) → News J

-- what a run came to, all that it said, and the lines that it logged
pub record Alone (J R : Type 0) : Type 0 where
  pub ledger : Ledger J
  pub run : R
  pub said : List Said
  pub logged : List (List ℕ)

-- the words of deeds, and the lines that they log
abbrev pub words_of : List Deed → List Said
words_of [] = []
words_of (Say w ∷ ds) = w ∷ words_of ds
words_of (d ∷ ds) = words_of ds

abbrev pub lines_of : List Deed → List (List ℕ)
lines_of [] = []
lines_of (Log line ∷ ds) = line ∷ lines_of ds
lines_of (d ∷ ds) = lines_of ds

-- a ledger in which nothing is but a number of sockets
abbrev pub own_ledger : {J : Type 0} → ℕ → Ledger J
own_ledger sockets = record empty_ledger { count = sockets }

-- after a turn of a run that had said and logged so much
abbrev pub after_turn : {J R : Type 0} → Turn J R → Ledger J → List Said → List (List ℕ) → Alone J R
after_turn t b words lines = record { ledger = (taken t b).ledger; run = t.run; said = words ++ words_of t.does; logged = lines ++ lines_of t.does }

module _ {J R : Type 0} (p : RunPlan J R) where
  abbrev pub begins : Beginning → Alone J R
  begins x = let b = own_ledger x.sockets in after_turn (p.begun x.now x.head x.target b) b [] []

  -- as a job, which is the first of its strand
  abbrev pub begins_job : (now : ℕ) (premature : Bool) → J → Alone J R
  begins_job now premature job = let b = own_ledger 0 in after_turn (p.begun_job now premature job b) b [] []

  abbrev pub learns : News J → Alone J R → Alone J R
  learns (Seen now s) a = let b = entered_as s a.ledger in after_turn (p.turn now s b a.run) b a.said a.logged
  learns (Given now x) a = let b = entered (Did x) a.ledger in after_turn (p.answered now x b a.run) b a.said a.logged

  -- once it learned these, the newest first
  abbrev pub learned : Alone J R → List (News J) → Alone J R
  learned first [] = first
  learned first (n ∷ news) = learns n (learned first news)

  -- the run alone that answers a request, and the one that is a job
  abbrev pub alone : Beginning → List (News J) → Alone J R
  alone x news = learned (begins x) news

  abbrev pub job_alone : (now : ℕ) (premature : Bool) → J → List (News J) → Alone J R
  job_alone now premature job news = learned (begins_job now premature job) news

-- one of the words says that nothing of the run is left to be done
abbrev pub is_over : List Said → Bool
is_over [] = false
is_over (said.Over ∷ more) = true
is_over (s ∷ more) = is_over more

-- the bytes of the reply in what was said
abbrev pub bytes_said : List Said → List ℕ
bytes_said [] = []
bytes_said (said.Send bytes ∷ more) = bytes ++ bytes_said more
bytes_said (s ∷ more) = bytes_said more

-- a client that waits for it is let send its body
abbrev pub let_first : Bool → List ℕ
let_first continues = if continues then continue_reply else []

-- the reply of a run alone, after a 100 reply or without one
abbrev pub reply_alone : {J R : Type 0} → RunPlan J R → Beginning → (continues : Bool) → List (News J) → List ℕ
reply_alone p x continues news = let_first continues ++ bytes_said (alone p x news).said

-- some run asks for the body of its request, or waits for it
abbrev pub MayWaitForBody : {J R : Type 0} → RunPlan J R → Type 0
MayWaitForBody {J} {R} p = (r : R) × (((p.waits r).body || asks_body (p.waits r).asks) ≡ true)
