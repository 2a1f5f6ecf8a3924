-- What a line is still to read as requests, with the bytes that come after those that it holds (RFC 9112, sections 2.1, 6 and 9.3).
use Rattle.std.specs.Prelude.{◌≡◌, ℕ, List, [], ◌++◌}
use Rattle.client_line.specs.declared.requests.LineOut.{LineOut}
use Rattle.client_line.specs.declared.requests.LineOut.TheVariants as out
use Rattle.client_line.specs.Records.{At, Came}
use Rattle.client_line.specs.Records.{Head, Present, Dropping, Over}
use Rattle.client_line.specs.Lines.{settled, answer_dropping}
use Rattle.client_line.specs.Messages.{Request, AreRequests}

-- these requests, and this answer after them: at a head those of the bytes, else none
abbrev pub ReadsAt : At → List ℕ → List Request → LineOut → Type 0
ReadsAt Head held requests answer = AreRequests held requests answer
ReadsAt (Present body kind skips) held requests answer = (requests ≡ []) × (answer ≡ out.Waiting)
ReadsAt (Dropping far) held requests answer = (requests ≡ []) × (answer ≡ answer_dropping far)
ReadsAt (Over code) held requests answer = (requests ≡ []) × (answer ≡ out.Refused code)

abbrev pub ReadsCame : Came → List Request → LineOut → Type 0
ReadsCame came requests answer = ReadsAt came.at came.held requests answer

-- where these bytes come, and nothing after them
abbrev pub ReadsOn : Came → List ℕ → List Request → LineOut → Type 0
ReadsOn came bytes requests answer = ReadsCame (settled came.at (came.held ++ bytes)) requests answer

-- a request is present
abbrev pub IsPresent : At → Type 0
IsPresent (Present body kind skips) = Unit {0}
IsPresent at = ⊥
