-- A small plan with a deadline and a question, which meets the conditions: a client waits, a dictionary is called for it, and it gets one byte.
use Rattle.std.specs.Prelude.{◌≡◌, ℕ, ◌+◌, [], ◌∷◌, Some, if◌then◌else◌}
use Rattle.resty_base.specs.declared.dictionary.DictCall.TheVariants as dict
use Rattle.strand_contract.specs.declared.turns.Place.TheVariants as place
use Rattle.strand_contract.specs.declared.turns.Start.TheVariants as start
use Rattle.strand_contract.specs.Actions.{LocalAction, Did, Began, Ready, Put, Lost, Dict, Run, Due, Halted}
use Rattle.strand_contract.specs.Alone.{is_some_left}
use Rattle.strand_plans.specs.Questions.{Question}
use Rattle.strand_plans.specs.Questions as question
use Rattle.strand_plans.specs.Ledgers.{Ledger, left_at, has_number, numbers}
use Rattle.strand_plans.specs.Moves.{Move, Done, Send, Arm, Cancel, HangUp, Ask, End, State}
use Rattle.strand_plans.specs.Moves as move
use Rattle.strand_plans.specs.Plans.{Plan}

abbrev pub sleeper_turn : {J : Type 0} → ℕ → LocalAction J → Ledger J → ℕ → Move J ℕ
sleeper_turn now (Did (Began at (start.Client c))) b s = Arm 2 (record { 0 = now + 5 }) Done
sleeper_turn now (Did (Due n)) b s = move.Ready 0 Done
sleeper_turn now (Did (Run k)) b s = Ask (question.Dict 0 dict.FlushAll)
sleeper_turn now (Did (Dict zone call answer)) b s = Send place.Client (33 ∷ []) Done
sleeper_turn now (Did (Ready q)) b s = Send q [] Done
sleeper_turn now (Did (Put q bytes)) b s = if is_some_left (left_at q b) then Done else End
sleeper_turn now (Did (Lost q)) b s = HangUp q Done
sleeper_turn now (Did Halted) b s = if has_number 2 (numbers b.armed) then Cancel 2 End else End
sleeper_turn now a b s = Done

-- it has one dictionary, of 12,288 bytes
abbrev pub sleeper : {J : Type 0} → Plan J ℕ
sleeper = record { unborn = 0; turn = sleeper_turn; zones = 1; zone_name = λ n. []; zone_size = λ n. 12_288; connections = 512 }

-- it asks this alone
abbrev pub sleeper_asks : {J : Type 0} → Question J → Type 0
sleeper_asks x = x ≡ question.Dict 0 dict.FlushAll

abbrev pub SleeperHolds : {J : Type 0} → State J ℕ → Type 0
SleeperHolds {J} st = (x : Question J) → st.ledger.asked ≡ Some x → sleeper_asks x

-- a plan that does nothing
abbrev pub idler : {J : Type 0} → Plan J ℕ
idler = record { unborn = 0; turn = λ now a b s. Done; zones = 0; zone_name = λ n. []; zone_size = λ n. 0; connections = 512 }
