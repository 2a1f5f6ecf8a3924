-- A client's line, as contracts see it.
use Rattle.std.specs.Prelude.{ℕ, List, Option}
use Rattle.http_in.specs.declared.framing.BodyKind.{BodyKind}
use Rattle.http_bodies.specs.declared.states.BodyState.{BodyState}
use Rattle.http_bodies.specs.Records.{Body}
use Rattle.send_queue.specs.Records.{Sending}

-- What is read next of the bytes that came: a head; while a request is present its body, so far under the limit that it was
-- asked for with, and so far without one; the rest of a body that is dropped; nothing, since a head was refused.
pub data At : Type 0 where
  Head : At
  Present : (body : Option Body) (kind : BodyKind) (skips : BodyState) → At
  Dropping : (state : BodyState) → At
  Over : (code : ℕ) → At

-- what came from a client: what is read next, and the bytes that are held
pub record Came : Type 0 where
  pub at : At
  pub held : List ℕ

-- what came from a client, and what waits to be sent to it
pub record Connection : Type 0 where
  pub came : Came
  pub sending : Sending
