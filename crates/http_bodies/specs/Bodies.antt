-- What the bytes of a connection say of a body: its content, and whether it is whole or refused (RFC 9112, sections 6.3 and 7.1).
use Rattle.std.specs.Prelude.{ℕ, ◌-◌, ◌==◌, suc, List, [], ◌∷◌, ◌++◌, length, nat_lt, if◌then◌else◌}
use Rattle.http_in.specs.declared.framing.BodyKind.{BodyKind}
use Rattle.http_in.specs.declared.framing.BodyKind.TheVariants.{Nothing, Length, Chunked}
use Rattle.http_bodies.specs.declared.bodies.BodyRead.{BodyRead}
use Rattle.http_bodies.specs.declared.bodies.BodyRead.TheVariants as read
use Rattle.http_bodies.specs.declared.states.DataOf.TheVariants as part
use Rattle.http_bodies.specs.declared.states.BodyState.{BodyState}
use Rattle.http_bodies.specs.declared.states.BodyState.TheVariants.{Data, Digits, Whole, Refused}
use Rattle.http_bodies.specs.Records.{Body}
use Rattle.http_bodies.specs.States.{after_byte, takes_data, is_settled}

-- a body from its parts
abbrev pub body_at : ℕ → BodyState → List ℕ → Body
body_at max state content = record { max = max; state = state; content = content }

-- a length above the limit is refused at once
abbrev pub begun_state : BodyKind → ℕ → BodyState
begun_state Nothing max = Whole
begun_state (Length n) max = if nat_lt max n then Refused 413 else (if n == 0 then Whole else Data (n - 1) part.Body)
begun_state Chunked max = Digits 0 0

-- a body of which no byte came
abbrev pub begun : BodyKind → ℕ → Body
begun kind max = body_at max (begun_state kind max) []

-- the content after one more byte
abbrev pub content_after : BodyState → List ℕ → ℕ → List ℕ
content_after state content b = if takes_data state then content ++ b ∷ [] else content

-- the body after one more byte: the sizes of chunks may come to what the limit leaves
abbrev pub after_one : Body → ℕ → Body
after_one body b = body_at body.max (after_byte (body.max - length body.content) body.state b) (content_after body.state body.content b)

-- the body after more bytes
abbrev pub after_bytes : Body → List ℕ → Body
after_bytes body [] = body
after_bytes body (b ∷ bs) = after_bytes (after_one body b) bs

-- how many of the bytes belong to the body: those before it is whole or refused
abbrev pub used : Body → List ℕ → ℕ
used body [] = 0
used body (b ∷ bs) = if is_settled body.state then 0 else suc (used (after_one body b) bs)

-- the body of these bytes
abbrev pub body : BodyKind → List ℕ → ℕ → Body
body kind bytes max = after_bytes (begun kind max) bytes

-- what a body is answered with, where so many bytes of the last piece belong to it
abbrev pub answer_at : BodyState → ℕ → BodyRead
answer_at Whole count = read.Whole count
answer_at (Refused code) count = read.Refused code
answer_at _ count = read.More
