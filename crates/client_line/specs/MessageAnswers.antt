-- The requests of all bytes of a client, as a function (RFC 9112, sections 2.1, 6 and 9.3).
use Rattle.std.specs.Prelude.{ℕ, List}
use Rattle.client_line.specs.declared.requests.LineOut.{LineOut}
use Rattle.client_line.specs.Messages.{Request}
use Rattle.client_line.specs.MessageLaws.{list-of}

-- the one list that `AreRequests` has for them
unfoldable pub requests : List ℕ → List Request
requests bytes = (list-of bytes).requests

-- and what the client is answered after them
unfoldable pub last_answer : List ℕ → LineOut
last_answer bytes = (list-of bytes).answer
