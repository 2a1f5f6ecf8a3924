-- The acts of a run, and what they and the answers to them do to the sockets that are open.
use Rattle.std.specs.Prelude.{ℕ, ◌+◌, ◌==◌, Bool, true, false, not, filter, map, List, [], ◌∷◌, ◌++◌, Option, Some}
use Rattle.strand_contract.specs.declared.turns.Place.TheVariants as place
use Rattle.strand_contract.specs.declared.turns.Act.{Act}
use Rattle.strand_contract.specs.declared.turns.Act.TheVariants as act
use Rattle.strand_contract.specs.declared.turns.Answer.{Answer}
use Rattle.strand_contract.specs.declared.turns.Answer.TheVariants as answer

-- the act is a question, which ends a turn
abbrev pub is_question : {J : Type 0} → Act J → Bool
is_question (act.Dict zone call) = true
is_question (act.Take key) = true
is_question (act.Dial host port) = true
is_question (act.Keep k key idle size) = true
is_question (act.Timer at job) = true
is_question a = false

-- the socket that is to be given to the pool, once this act is asked
abbrev pub kept_with : {J : Type 0} → Act J → Option ℕ → Option ℕ
kept_with (act.Keep k key idle size) kept = Some k
kept_with a kept = kept

-- numbers without one of them
abbrev pub without_all : ℕ → List ℕ → List ℕ
without_all k ks = filter (λ j. not (j == k)) ks

-- the open sockets after the act
abbrev pub sockets_after : {J : Type 0} → Act J → List ℕ → List ℕ
sockets_after (act.HangUp (place.Sock k)) socks = without_all k socks
sockets_after a socks = socks

-- the acts that hang them up
abbrev pub hang_ups : {J : Type 0} → List ℕ → List (Act J)
hang_ups socks = map (λ k. act.HangUp (place.Sock k)) socks

-- ---- what an answer does to the sockets

-- one that was dialled or taken opens, and has the next number; one that was kept is the pool's
abbrev pub sockets_with : Answer → Option ℕ → ℕ → List ℕ → List ℕ
sockets_with (answer.Dialled true) kept count socks = socks ++ count ∷ []
sockets_with (answer.Took (Some uses)) kept count socks = socks ++ count ∷ []
sockets_with answer.Kept (Some k) count socks = without_all k socks
sockets_with given kept count socks = socks

abbrev pub count_with : Answer → ℕ → ℕ
count_with (answer.Dialled true) count = count + 1
count_with (answer.Took (Some uses)) count = count + 1
count_with given count = count
