-- The bytes of a client as its messages, one after the other (RFC 9112, sections 2.1, 6 and 9.3).
use Rattle.std.specs.Prelude.{◌≡◌, ◌≢◌, ℕ, List, [], ◌∷◌, drop}
use Rattle.uri_args.specs.declared.targets.Target.{Target}
use Rattle.http_in.specs.declared.heads.Head.{Head}
use Rattle.http_in.specs.Ends.{head_end}
use Rattle.http_bodies.specs.declared.states.BodyState.{BodyState}
use Rattle.http_bodies.specs.declared.states.BodyState.TheVariants as state
use Rattle.http_bodies.specs.Bodies.{begun_state}
use Rattle.http_bodies.specs.Skips.{no_limit, skipped, skip_count}
use Rattle.client_line.specs.declared.requests.LineOut.{LineOut}
use Rattle.client_line.specs.declared.requests.LineOut.TheVariants as out
use Rattle.client_line.specs.Requests.{IsOf}
use Rattle.client_line.specs.Lines.{answer_dropping, after_head}

-- what a client asks for: a head with its target
pub record Request : Type 0 where
  pub head : Head
  pub target : Target

-- how far the body of a request has come without a limit, and how many of these bytes belong to it
abbrev pub body_state : Request → List ℕ → BodyState
body_state request bytes = skipped (begun_state request.head.body no_limit) bytes

abbrev pub body_length : Request → List ℕ → ℕ
body_length request bytes = skip_count (begun_state request.head.body no_limit) bytes

-- the bytes begin with the head of this request, and these follow it
pub record HasHead (bytes : List ℕ) (request : Request) (after : List ℕ) : Type 0 where
  pub asks : IsOf bytes (out.Request request.head request.target)
  pub follows : after ≡ after_head (head_end bytes) bytes

-- The requests of a client's bytes, and what it is answered after them: nothing yet, or a refusal.
pub data AreRequests : List ℕ → List Request → LineOut → Type 0 where
  -- no whole head yet
  waits : {bytes : List ℕ} → IsOf bytes out.Waiting → AreRequests bytes [] out.Waiting
  -- a head that is refused: nothing is read after it
  refused : {bytes : List ℕ} {code : ℕ} → IsOf bytes (out.Refused code) → AreRequests bytes [] (out.Refused code)
  -- a head whose body isn't whole, or has a fault
  begun : {bytes after : List ℕ} {request : Request} → HasHead bytes request after → body_state request after ≢ state.Whole
      → AreRequests bytes (request ∷ []) (answer_dropping (body_state request after))
  -- a whole message, and what follows it
  message : {bytes after : List ℕ} {request : Request} {requests : List Request} {answer : LineOut} → HasHead bytes request after
      → body_state request after ≡ state.Whole → AreRequests (drop (body_length request after) after) requests answer
      → AreRequests bytes (request ∷ requests) answer
