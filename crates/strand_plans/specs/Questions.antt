-- What a turn may ask, to wait for the answer: each question is an act, and the last one of its turn.
use Rattle.std.specs.Prelude.{ℕ, List, [], ◌∷◌, Option, Some, None}
use Rattle.resty_base.specs.declared.names.Ms.{Ms}
use Rattle.resty_base.specs.declared.dictionary.DictCall.{DictCall}
use Rattle.strand_contract.specs.declared.turns.Act.{Act}
use Rattle.strand_contract.specs.declared.turns.Act.TheVariants as act

pub data Question (J : Type 0) : Type 0 where
  -- a dictionary is called
  Dict : (zone : ℕ) (call : DictCall) → Question J
  -- an idle socket of the key is taken from the pool
  Take : (key : List ℕ) → Question J
  Dial : (host : List ℕ) (port : ℕ) → Question J
  -- a socket is given to the pool, for that long, and if it holds so many of the key
  Keep : (sock : ℕ) (key : List ℕ) (idle : Ms) (size : ℕ) → Question J
  -- a timer job is asked for
  Timer : (at : Ms) (job : J) → Question J

-- the act that asks it
abbrev pub asking : {J : Type 0} → Question J → Act J
asking (Dict zone call) = act.Dict zone call
asking (Take key) = act.Take key
asking (Dial host port) = act.Dial host port
asking (Keep k key idle size) = act.Keep k key idle size
asking (Timer at job) = act.Timer at job

-- the acts that ask it, where there is one
abbrev pub asking_if : {J : Type 0} → Option (Question J) → List (Act J)
asking_if None = []
asking_if (Some x) = asking x ∷ []
