-- What a client asked its connection, beside what all bytes that came from it ask.
use Rattle.std.specs.Prelude.{ℕ, List, [], ◌∷◌, ◌++◌}
use Rattle.client_line.specs.declared.requests.LineOut.{LineOut}
use Rattle.client_line.specs.declared.requests.LineOut.TheVariants as out
use Rattle.client_line.specs.Messages.{Request}
use Rattle.client_line.specs.MessageAnswers.{requests, last_answer}
use Rattle.strand_contract.specs.declared.turns.Place.TheVariants as place
use Rattle.strand_contract.specs.Actions.{LocalAction, Did, Bytes}
use Rattle.strand_contract.specs.Alone.{IsPrefixOf}
use Rattle.strand_plans.specs.Moves.{State}
use Rattle.connection_plan.specs.Clients.{Exchange}
use Rattle.connection_plan.specs.Services.{Both}

-- all bytes that came from the client
abbrev pub bytes_of : {J : Type 0} → List (LocalAction J) → List ℕ
bytes_of [] = []
bytes_of (Did (Bytes place.Client bytes) ∷ es) = bytes_of es ++ bytes
bytes_of (a ∷ es) = bytes_of es

-- what the client asked so far, in order
abbrev pub asked_so_far : List Exchange → List LineOut
asked_so_far [] = []
asked_so_far (e ∷ es) = asked_so_far es ++ e.asked ∷ []

-- requests, and what is refused after them: a head, or the body of the last one
abbrev pub asked_by : List Request → LineOut → List LineOut
asked_by [] (out.Refused code) = out.Refused code ∷ []
asked_by [] answer = []
asked_by (r ∷ rs) answer = out.Request r.head r.target ∷ asked_by rs answer

-- what bytes ask in all, by the grammar of a client's messages
abbrev pub asked_in : List ℕ → List LineOut
asked_in bytes = asked_by (requests bytes) (last_answer bytes)

-- what was taken so far is a beginning of what all bytes that came ask
abbrev pub AsksInOrder : {J R : Type 0} → List (LocalAction J) → State J (Both R) → Type 0
AsksInOrder es st = IsPrefixOf (asked_so_far st.inner.client.exchanges) (asked_in (bytes_of es))
