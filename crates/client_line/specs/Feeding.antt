-- What a client's line answers to a piece, and what came then, as a function (RFC 9112, sections 2.1, 6 and 9.3).
use Rattle.std.specs.Prelude.{ℕ, List, ◌++◌}
use Rattle.client_line.specs.declared.requests.LineOut.{LineOut}
use Rattle.client_line.specs.declared.requests.LineOut.TheVariants as out
use Rattle.client_line.specs.Requests.{answer_to}
use Rattle.client_line.specs.Records.{At, Came}
use Rattle.client_line.specs.Records.{Head, Present, Dropping, Over}
use Rattle.client_line.specs.Lines.{came_at, settled, answer_dropping, after_answer}
use Rattle.client_line.specs.HeadAnswers.{head_read}

-- an answer, and what came when it was given
pub record Fed : Type 0 where
  pub answer : LineOut
  pub after : Came

-- at a head, where this is the answer to the bytes
abbrev pub head_fed : LineOut → List ℕ → Fed
head_fed answer bytes = record { answer = answer; after = after_answer answer bytes }

-- what the bytes that came lead to
abbrev pub led : At → List ℕ → Fed
led Head bytes = head_fed (answer_to (head_read bytes)) bytes
led (Present body kind skips) bytes = record { answer = out.Waiting; after = came_at (Present body kind skips) bytes }
led (Dropping far) bytes = record { answer = answer_dropping far; after = came_at (Dropping far) bytes }
led (Over code) bytes = record { answer = out.Refused code; after = came_at (Over code) bytes }

-- a further piece came
abbrev pub fed : Came → List ℕ → Fed
fed before piece = let came = settled before.at (before.held ++ piece) in led came.at came.held
