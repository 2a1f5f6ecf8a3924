-- What a run does in a turn, one deed after the other: acts and words in one order; and how deeds are done, as a ledger and as what the code returns.
use Rattle.std.specs.Prelude.{◌≡◌, ℕ, suc, Bool, true, false, not, List, [], ◌∷◌, ◌++◌, Option, Some, None, if◌then◌else◌}
use Rattle.resty_base.specs.declared.names.Ms.{Ms}
use Rattle.strand_contract.specs.declared.turns.Place.TheVariants as place
use Rattle.strand_contract.specs.declared.turns.Act.{Act}
use Rattle.strand_contract.specs.declared.turns.Act.TheVariants as act
use Rattle.strand_plans.specs.Questions.{Question, asking_if}
use Rattle.strand_plans.specs.Ledgers.{Ledger, has, has_number, wants_offer}
use Rattle.strand_plans.specs.Moves.{with_sent, with_offer, with_thread, without_thread, with_deadline, without_deadline, hung_up, asked_of}
use Rattle.run_contract.specs.declared.turns.Said.{Said}
use Rattle.run_contract.specs.declared.turns.Said.TheVariants as said
use Rattle.run_contract.specs.declared.turns.Asking.{Asking}
use Rattle.run_contract.specs.declared.turns.RunAct.{RunAct}
use Rattle.run_contract.specs.declared.turns.RunAct.TheVariants as made

-- What a run can do: a deed names threads, the run's own deadlines and its sockets. The client's place and the connection's deadlines 0 and 1 have no
-- name here: deadline k of a run is number k + 2 of its strand.
pub data Deed : Type 0 where
  -- a thread is put into the run queue, where it isn't there yet, or taken out
  Ready : (k : ℕ) → Deed
  Unready : (k : ℕ) → Deed
  -- a deadline is armed for a moment, or cancelled
  Arm : (k : ℕ) (at : Ms) → Deed
  Cancel : (k : ℕ) → Deed
  -- a socket is hung up, or bytes are sent to it, where it is open
  HangUp : (k : ℕ) → Deed
  Send : (k : ℕ) (bytes : List ℕ) → Deed
  Log : (line : List ℕ) → Deed
  -- a word to the connection
  Say : (word : Said) → Deed

-- with what a turn stops: with nothing, with a question to the outside, or with one to the connection, which answers before anything else happens
pub data Asks (J : Type 0) : Type 0 where
  Nothing : Asks J
  Outside : (x : Question J) → Asks J
  Within : (q : Asking) → Asks J

-- what a turn does, in order, what it asks then, and to what the run comes; R is what a run keeps beside the ledger
pub record Turn (J R : Type 0) : Type 0 where
  pub does : List Deed
  pub asks : Asks J
  pub run : R

-- ---- how deeds are done

-- the ledger after a deed; words and log lines leave it
abbrev pub ledger_by : {J : Type 0} → Deed → Ledger J → Ledger J
ledger_by (Ready k) b = with_thread k b
ledger_by (Unready k) b = without_thread k b
ledger_by (Arm k at) b = with_deadline (suc (suc k)) at b
ledger_by (Cancel k) b = without_deadline (suc (suc k)) b
ledger_by (HangUp k) b = hung_up (place.Sock k) b
ledger_by (Send k bytes) b = with_offer (place.Sock k) (with_sent (place.Sock k) bytes b)
ledger_by (Log line) b = b
ledger_by (Say w) b = b

-- this act, where the test is true
abbrev pub made_if : {J : Type 0} → Bool → Act J → List (RunAct J)
made_if c a = if c then made.Act a ∷ [] else []

-- what the code returns for a deed that is done in this ledger: its word, or its act where it is one
abbrev pub made_by : {J : Type 0} → Deed → Ledger J → List (RunAct J)
made_by (Ready k) b = made_if (not (has_number k b.threads)) (act.Ready k)
made_by (Unready k) b = made.Act (act.Unready k) ∷ []
made_by (Arm k at) b = made.Act (act.Arm (suc (suc k)) at) ∷ []
made_by (Cancel k) b = made.Act (act.Cancel (suc (suc k))) ∷ []
made_by (HangUp k) b = made_if (has (place.Sock k) b.opened) (act.HangUp (place.Sock k))
made_by (Send k bytes) b = made_if (wants_offer (place.Sock k) (with_sent (place.Sock k) bytes b)) (act.Offer (place.Sock k))
made_by (Log line) b = made.Act (act.Log line) ∷ []
made_by (Say w) b = made.Say w ∷ []

abbrev pub ledger_after : {J : Type 0} → List Deed → Ledger J → Ledger J
ledger_after [] b = b
ledger_after (d ∷ ds) b = ledger_after ds (ledger_by d b)

abbrev pub made_after : {J : Type 0} → List Deed → Ledger J → List (RunAct J)
made_after [] b = []
made_after (d ∷ ds) b = made_by d b ++ made_after ds (ledger_by d b)

-- a question to the outside waits in the ledger; of a socket that isn't open nothing is asked
abbrev pub ledger_asking : {J : Type 0} → Asks J → Ledger J → Ledger J
ledger_asking (Outside x) b = record b { asked = asked_of x b }
ledger_asking a b = b

abbrev pub acts_made : {J : Type 0} → List (Act J) → List (RunAct J)
acts_made [] = []
acts_made (a ∷ acts) = made.Act a ∷ acts_made acts

-- it is an act too
abbrev pub made_asking : {J : Type 0} → Asks J → Ledger J → List (RunAct J)
made_asking (Outside x) b = acts_made (asking_if (asked_of x b))
made_asking a b = []

-- the question that is the connection's, where there is one
abbrev pub within : {J : Type 0} → Asks J → Option Asking
within (Within q) = Some q
within a = None

-- a turn that is taken: the ledger after it, and what the code returns, in order
pub record Taken (J : Type 0) : Type 0 where
  pub ledger : Ledger J
  pub made : List (RunAct J)

abbrev pub taken : {J R : Type 0} → Turn J R → Ledger J → Taken J
taken t b =
    let c = ledger_after t.does b in
    record { ledger = ledger_asking t.asks c; made = made_after t.does b ++ made_asking t.asks c }

-- ---- what deeds are, by their form

-- a word of these says that nothing of the run is left to be done
abbrev pub says_over : List Deed → Bool
says_over [] = false
says_over (Say said.Over ∷ ds) = true
says_over (d ∷ ds) = says_over ds

-- they put threads into the queue or take them out, and cancel deadlines: nothing is armed, sent, hung up, logged or said
abbrev pub OnlyWakes : List Deed → Type 0
OnlyWakes [] = Unit {0}
OnlyWakes (Ready k ∷ ds) = OnlyWakes ds
OnlyWakes (Unready k ∷ ds) = OnlyWakes ds
OnlyWakes (Cancel k ∷ ds) = OnlyWakes ds
OnlyWakes (d ∷ ds) = ⊥

-- a turn that only wakes, and asks nothing
abbrev pub IsQuiet : {J R : Type 0} → Turn J R → Type 0
IsQuiet t = OnlyWakes t.does × (t.asks ≡ Nothing)
