-- A line that is fed, and whose requests end as they come.
use Rattle.std.specs.Prelude.{◌≡◌, ℕ, ◌⊎◌, List, [], ◌∷◌}
use Rattle.uri_args.specs.declared.targets.Target.{Target}
use Rattle.http_in.specs.declared.heads.Head.{Head}
use Rattle.client_line.specs.declared.requests.LineOut.{LineOut}
use Rattle.client_line.specs.declared.requests.LineOut.TheVariants as out
use Rattle.client_line.specs.Records.{Came}
use Rattle.client_line.specs.Lines.{IsFed, done}
use Rattle.client_line.specs.Messages.{Request}

-- the answer is no request: nothing yet, or a refusal
abbrev pub IsNoRequest : LineOut → Type 0
IsNoRequest answer = (answer ≡ out.Waiting) ⊎ ((code : ℕ) × (answer ≡ out.Refused code))

-- Pieces are fed in turn. With each request the line is done at once, and fed nothing, until no further request comes of the piece.
-- These requests come, and this is the last answer.
pub data Serves : Came → List (List ℕ) → List Request → LineOut → Type 0 where
  last : {before : Came} {piece : List ℕ} {answer : LineOut} (after : Came) → IsFed before piece answer after → IsNoRequest answer
      → Serves before (piece ∷ []) [] answer
  more : {before : Came} {piece : List ℕ} {pieces : List (List ℕ)} {requests : List Request} {answer : LineOut} (between : LineOut) (after : Came)
      → IsFed before piece between after → IsNoRequest between → Serves after pieces requests answer → Serves before (piece ∷ pieces) requests answer
  asks : {before : Came} {piece : List ℕ} {pieces : List (List ℕ)} {head : Head} {target : Target} {requests : List Request} {answer : LineOut} (after : Came)
      → IsFed before piece (out.Request head target) after → Serves (done after) ([] ∷ pieces) requests answer
      → Serves before (piece ∷ pieces) (record { head = head; target = target } ∷ requests) answer
