-- Where in all bytes that came from a client a request's own body stands (RFC 9112, sections 6 and 9.3).
use Rattle.std.specs.Prelude.{◌≡◌, ℕ, List, [], ◌∷◌, drop}
use Rattle.http_in.specs.declared.heads.Head.{Head}
use Rattle.http_in.specs.Ends.{head_end}
use Rattle.http_bodies.specs.declared.states.BodyState.TheVariants as state
use Rattle.http_bodies.specs.Bodies.{body}
use Rattle.client_line.specs.declared.requests.LineOut.{LineOut}
use Rattle.client_line.specs.declared.requests.LineOut.TheVariants as out
use Rattle.client_line.specs.Lines.{after_head}
use Rattle.client_line.specs.Messages.{body_length}
use Rattle.connection_plan.specs.Clients.{Exchange}

-- what follows the head that the bytes begin with; and what follows the message of what was asked so
abbrev pub after_the_head : List ℕ → List ℕ
after_the_head bytes = after_head (head_end bytes) bytes

abbrev pub after_message : LineOut → List ℕ → List ℕ
after_message (out.Request head target) bytes = let after = after_the_head bytes in drop (body_length (record { head = head; target = target }) after) after
after_message answer bytes = bytes

-- what follows the messages of these exchanges, of which the newest comes first
abbrev pub left_after : List Exchange → List ℕ → List ℕ
left_after [] all = all
left_after (e ∷ es) all = after_message e.asked (left_after es all)

-- the content of the body that follows the head of the next request, whole under some limit
pub record IsOwnBody (all : List ℕ) (older : List Exchange) (head : Head) (content : List ℕ) : Type 0 where
  pub max : ℕ
  pub whole : (body head.body (after_the_head (left_after older all)) max).state ≡ state.Whole
  pub is : content ≡ (body head.body (after_the_head (left_after older all)) max).content

-- that body is refused with a status, under some limit
abbrev pub IsOwnFault : List ℕ → List Exchange → Head → ℕ → Type 0
IsOwnFault all older head code = (max : ℕ) × ((body head.body (after_the_head (left_after older all)) max).state ≡ state.Refused code)
