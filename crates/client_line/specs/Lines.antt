-- What the calls of a line do: pieces of what a client sends, cut into requests (RFC 9112, sections 2.1, 6 and 9.3).
use Rattle.std.specs.Prelude.{◌≡◌, ℕ, ◌==◌, List, [], ◌++◌, length, take, drop, Option, Some, None, if◌then◌else◌}
use Rattle.std.specs.Option.{unwrap_or}
use Rattle.http_in.specs.declared.framing.BodyKind.{BodyKind}
use Rattle.http_in.specs.Ends.{head_end}
use Rattle.http_bodies.specs.declared.bodies.BodyRead.{BodyRead}
use Rattle.http_bodies.specs.declared.bodies.BodyRead.TheVariants as answer
use Rattle.http_bodies.specs.declared.states.BodyState.{BodyState}
use Rattle.http_bodies.specs.declared.states.BodyState.TheVariants as state
use Rattle.http_bodies.specs.Records.{Body}
use Rattle.http_bodies.specs.Bodies.{begun, begun_state, after_bytes, used, answer_at}
use Rattle.http_bodies.specs.Skips.{no_limit, skipped, skip_count}
use Rattle.client_line.specs.declared.line.Held.{Held}
use Rattle.client_line.specs.declared.line.Held.TheVariants as held
use Rattle.client_line.specs.declared.requests.LineOut.{LineOut}
use Rattle.client_line.specs.declared.requests.LineOut.TheVariants as out
use Rattle.client_line.specs.Requests.{IsOf}
use Rattle.client_line.specs.Records.{At, Came}
use Rattle.client_line.specs.Records.{Head, Present, Dropping, Over}

abbrev pub came_at : At → List ℕ → Came
came_at at bytes = record { at = at; held = bytes }

-- nothing came
abbrev pub nothing : Came
nothing = came_at Head []

-- ---- bodies that are dropped

-- what is read after a body that is so far, where these bytes are left
abbrev pub after_body : BodyState → List ℕ → Came
after_body state.Whole rest = came_at Head rest
after_body far rest = came_at (Dropping far) []

-- a body that is so far is dropped as far as the bytes go
abbrev pub drops : BodyState → List ℕ → Came
drops far bytes = after_body (skipped far bytes) (drop (skip_count far bytes) bytes)

-- ---- fed

-- with these bytes in all, a body that is dropped has its part of them at once
abbrev pub settled : At → List ℕ → Came
settled Head bytes = came_at Head bytes
settled (Present body kind skips) bytes = came_at (Present body kind skips) bytes
settled (Dropping far) bytes = drops far bytes
settled (Over code) bytes = came_at (Over code) []

-- what is answered while a body is dropped: 400 after a fault in it
abbrev pub answer_dropping : BodyState → LineOut
answer_dropping (state.Refused code) = out.Refused 400
answer_dropping far = out.Waiting

-- what comes after the head that the bytes begin with
abbrev pub after_head : Option ℕ → List ℕ → List ℕ
after_head None bytes = bytes
after_head (Some n) bytes = drop n bytes

-- after an answer to the bytes at a head: a request is present, nothing is read any more, or the bytes are held
abbrev pub after_answer : LineOut → List ℕ → Came
after_answer (out.Request head target) bytes = came_at (Present None head.body (begun_state head.body no_limit)) (after_head (head_end bytes) bytes)
after_answer (out.Refused code) bytes = came_at (Over code) []
after_answer other bytes = came_at Head bytes

-- what the bytes that came lead to, and what came then
abbrev pub LeadsAt : At → List ℕ → LineOut → Came → Type 0
LeadsAt Head bytes answer after = IsOf bytes answer × (after ≡ after_answer answer bytes)
LeadsAt (Present body kind skips) bytes answer after = (answer ≡ out.Waiting) × (after ≡ came_at (Present body kind skips) bytes)
LeadsAt (Dropping far) bytes answer after = (answer ≡ answer_dropping far) × (after ≡ came_at (Dropping far) bytes)
LeadsAt (Over code) bytes answer after = (answer ≡ out.Refused code) × (after ≡ came_at (Over code) bytes)

abbrev pub Leads : Came → LineOut → Came → Type 0
Leads came answer after = LeadsAt came.at came.held answer after

-- a further piece came
abbrev pub IsFed : Came → List ℕ → LineOut → Came → Type 0
IsFed before piece answer after = Leads (settled before.at (before.held ++ piece)) answer after

-- ---- the body of the request that is present

-- the body so far; the first limit that it is asked for with stands
abbrev pub body_so_far : Option Body → BodyKind → ℕ → Body
body_so_far body kind max = unwrap_or body (begun kind max)

-- how many of the bytes that are held are taken: those that belong to the body, none where it is refused
abbrev pub count_by : BodyState → ℕ → ℕ
count_by (state.Refused code) count = 0
count_by far count = count

abbrev pub taken_count : Body → List ℕ → ℕ
taken_count body bytes = count_by (after_bytes body bytes).state (used body bytes)

-- what is held then, and how far the body is without a limit
abbrev pub held_after : Body → List ℕ → List ℕ
held_after body bytes = drop (taken_count body bytes) bytes

abbrev pub skips_after : Body → BodyState → List ℕ → BodyState
skips_after body skips bytes = skipped skips (take (taken_count body bytes) bytes)

-- what is answered
abbrev pub read_answer : Body → List ℕ → BodyRead
read_answer body bytes = answer_at (after_bytes body bytes).state (used body bytes)

-- what came then
abbrev pub reads_body : Body → BodyKind → BodyState → List ℕ → Came
reads_body body kind skips bytes = came_at (Present (Some (after_bytes body bytes)) kind (skips_after body skips bytes)) (held_after body bytes)

-- after the body was asked for
abbrev pub asked_at : At → List ℕ → ℕ → Came
asked_at (Present body kind skips) bytes max = reads_body (body_so_far body kind max) kind skips bytes
asked_at at bytes max = came_at at bytes

abbrev pub after_asked : Came → ℕ → Came
after_asked came max = asked_at came.at came.held max

-- what is answered then: without a request a whole body of no bytes
abbrev pub answer_in : At → List ℕ → ℕ → BodyRead
answer_in (Present body kind skips) bytes max = read_answer (body_so_far body kind max) bytes
answer_in at bytes max = answer.Whole 0

abbrev pub body_answer : Came → ℕ → BodyRead
body_answer came max = answer_in came.at came.held max

-- the content that was taken of it
abbrev pub content : At → List ℕ
content (Present (Some body) kind skips) = body.content
content at = []

-- ---- done, and what the line is at

-- the request that is present ends, and the rest of its body is dropped
abbrev pub ended_at : At → List ℕ → Came
ended_at (Present body kind skips) bytes = drops skips bytes
ended_at at bytes = came_at at bytes

abbrev pub done : Came → Came
done came = ended_at came.at came.held

abbrev pub held_in : At → List ℕ → Held
held_in (Present body kind skips) bytes = held.Request
held_in (Dropping far) bytes = held.Body
held_in (Over code) bytes = held.Begun
held_in Head bytes = if length bytes == 0 then held.Nothing else held.Begun
