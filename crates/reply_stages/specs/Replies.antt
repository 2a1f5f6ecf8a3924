-- The reply to a request (RFC 9110, 15; RFC 9112, 6.3, 8 and 9.3): its handler's, or one that the server makes itself.
use Rattle.std.specs.Prelude.{ℕ, Bool, true, not, ◌&&◌, ◌||◌, List, [], ◌∷◌, ◌++◌, length, flat_map, Option, Some, None}
use Rattle.std.specs.List.{concat}
use Rattle.http_in.specs.declared.heads.Head.{Head}
use Rattle.http_reply.specs.Bodies.{framing, body_bytes, falls_short}
use Rattle.http_reply.specs.BuiltIn.{built_in, status_body}
use Rattle.http_reply.specs.Chunks.{chunk}
use Rattle.http_reply.specs.Heads.{head_text}
use Rattle.http_reply.specs.Replies as http
use Rattle.http_reply.specs.declared.ends.Framing.{Framing}
use Rattle.http_reply.specs.declared.ends.Framing.TheVariants.{Chunked, Counted}
use Rattle.http_reply.specs.declared.heads.ReplyHead.{ReplyHead}
use Rattle.request_api.specs.Heads.{reply_head}
use Rattle.request_api.specs.declared.requests.Req.{Req}
use Rattle.run_threads.specs.declared.handlers.End.{End}
use Rattle.run_threads.specs.declared.handlers.End.TheVariants.{Ended, Failed, Spent}
use Rattle.run_threads.specs.declared.handlers.Handled.{Handled}
use Rattle.reply_stages.specs.declared.replies.Sent.{Sent}

-- the connection may stay as the request wants it; but a client that waits for a 100 reply before it sends the body gets none here, so it closes
abbrev pub may_keep : Head → Bool
may_keep head = head.keep && not head.expects

-- the request with another status of its reply
abbrev pub with_status : Req → ℕ → Req
with_status req status = record req { reply = record req.reply { status = status } }

-- the head of its reply: a handler's has the type and the length that it set, or this type; the server's own has this length
abbrev pub head_of : Req → List ℕ → Option ℕ → ReplyHead
head_of req default_type length = reply_head req default_type length (may_keep req.head)

-- how the end of the body is told under such a head
abbrev pub framing_of : Req → ReplyHead → Framing
framing_of req head = framing req.head.method req.reply.status req.head.minor head.length

-- a whole reply under a head at a moment, its body in pieces: the connection closes also where these are fewer bytes than the head says
abbrev pub whole_under : Req → ReplyHead → List (List ℕ) → ℕ → Sent
whole_under req head pieces now = let told = framing_of req head in
    record { bytes = http.reply head told pieces now; closes = not head.keep || falls_short told (length (concat pieces)) }

abbrev pub whole : Req → List ℕ → Option ℕ → List (List ℕ) → ℕ → Sent
whole req default_type length pieces now = whole_under req (head_of req default_type length) pieces now

-- the server's own of a status, with the body of the status
abbrev pub of_status : Req → List ℕ → ℕ → ℕ → Sent
of_status req default_type status now =
    let own = status_body status in whole (with_status req status) default_type (Some (length own)) (own ∷ []) now

-- what is sent of a body that isn't ended
abbrev pub unended_body : Framing → List (List ℕ) → List ℕ
unended_body Chunked pieces = flat_map chunk pieces
unended_body told pieces = body_bytes told pieces

-- a reply that isn't ended: the connection closes after what was sent
abbrev pub unended_under : Req → ReplyHead → List (List ℕ) → ℕ → Sent
unended_under req head pieces now = record { bytes = head_text head now ++ unended_body (framing_of req head) pieces; closes = true }

abbrev pub unended : Req → List ℕ → List (List ℕ) → ℕ → Sent
unended req default_type pieces now = unended_under req (head_of req default_type None) pieces now

-- the reply of a handler that failed: the server's own before any output, which would have sent the head; else what there was
abbrev pub broken_off : Req → List ℕ → List (List ℕ) → ℕ → Sent
broken_off req default_type [] now = of_status req default_type 500 now
broken_off req default_type (piece ∷ pieces) now = unended req default_type (piece ∷ pieces) now

-- the reply of a handler, by what it made and how it ended
abbrev pub by_end : Req → List ℕ → List (List ℕ) → End → ℕ → Sent
by_end req default_type pieces Ended now = whole req default_type None pieces now
by_end req default_type pieces (Failed v) now = broken_off req default_type pieces now
by_end req default_type pieces Spent now = broken_off req default_type pieces now

abbrev pub by_handler : List ℕ → Handled → ℕ → Sent
by_handler default_type h now = by_end h.req default_type h.pieces h.end now

-- the reply to a head that is refused
abbrev pub refusal : (code now : ℕ) → List ℕ
refusal code now = http.reply (built_in code) (Counted (length (status_body code))) (status_body code ∷ []) now
