-- What came to a strand from outside, read off its actions.
use Rattle.std.specs.Prelude.{ℕ, Bool, List, [], ◌∷◌, ◌++◌, length}
use Rattle.strand_contract.specs.declared.turns.Start.{Start}
use Rattle.strand_contract.specs.declared.turns.Seen.{Seen}
use Rattle.strand_contract.specs.declared.turns.Seen.TheVariants as seen
use Rattle.strand_contract.specs.declared.turns.Answer.{Answer}
use Rattle.strand_contract.specs.declared.turns.Answer.TheVariants as answer
use Rattle.strand_contract.specs.Actions.{Word, LocalAction, Told, Did, Began, Bytes, Ended, Broken, Ready, Dialled, Refused}
use Rattle.strand_contract.specs.Actions.{Put, Later, Lost, Log, Dict, Take, Dial, Keep, Timer}

-- one thing that came from outside
pub data Input (J : Type 0) : Type 0 where
  -- its start, with the moment at which it begins
  Starts : (now : ℕ) (start : Start J) → Input J
  -- what all living strands are told
  Hears : (w : Word) → Input J
  -- what came at its places; of a write, only how much was taken
  Sees : (shown : Seen) → Input J
  -- whether a log line was written
  Wrote : (done : Bool) → Input J
  -- the answer to one of its calls
  Learns : (given : Answer) → Input J

-- the input of an action, none where the strand does it by itself
abbrev pub inputs_of : {J : Type 0} → LocalAction J → List (Input J)
inputs_of (Told w) = Hears w ∷ []
inputs_of (Did (Began now start)) = Starts now start ∷ []
inputs_of (Did (Bytes q bytes)) = Sees (seen.Bytes q bytes) ∷ []
inputs_of (Did (Ended q)) = Sees (seen.Ended q) ∷ []
inputs_of (Did (Broken q)) = Sees (seen.Broken q) ∷ []
inputs_of (Did (Ready q)) = Sees (seen.Ready q) ∷ []
inputs_of (Did (Dialled k)) = Sees (seen.Dialled k) ∷ []
inputs_of (Did (Refused k)) = Sees (seen.Refused k) ∷ []
inputs_of (Did (Put q bytes)) = Sees (seen.Took q (length bytes)) ∷ []
inputs_of (Did (Later q)) = Sees (seen.Later q) ∷ []
inputs_of (Did (Lost q)) = Sees (seen.Lost q) ∷ []
inputs_of (Did (Log line done)) = Wrote done ∷ []
inputs_of (Did (Dict zone call given)) = Learns (answer.Dict given) ∷ []
inputs_of (Did (Take key uses)) = Learns (answer.Took uses) ∷ []
inputs_of (Did (Dial host port done)) = Learns (answer.Dialled done) ∷ []
inputs_of (Did (Keep k key idle size)) = Learns answer.Kept ∷ []
inputs_of (Did (Timer at given)) = Learns (answer.Timer given) ∷ []
inputs_of a = []

-- all that came from outside, the newest first
abbrev pub gave : {J : Type 0} → List (LocalAction J) → List (Input J)
gave [] = []
gave (a ∷ es) = inputs_of a ++ gave es
