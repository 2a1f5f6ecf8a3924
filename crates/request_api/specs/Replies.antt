-- What a program says of the reply: its status, its header fields, and the bytes of its body.
use Rattle.std.specs.Prelude.{ℕ, ◌+◌, ℤ, unsigned_abs, Bool, true, false, ◌&&◌, ◌||◌, not, nat_le, nat_lt, List, codes, if◌then◌else◌}
use Rattle.std.specs.Int.{is_negative}
use Rattle.resty_base.specs.declared.names.Pair2.{Pair2}
use Rattle.http_base.specs.FieldLists.{values_of}
use Rattle.http_base.specs.Names.{same_name}
use Rattle.request_api.specs.declared.replies.Reply.{Reply}
use Rattle.request_api.specs.declared.replies.Printed.{Printed}
use Rattle.request_api.specs.declared.replies.Printed.TheVariants.{Took, SeenEof, OverLimit}
use Rattle.request_api.specs.declared.requests.Req.{Req}
use Rattle.request_api.specs.Lengths.{are_lengths}
use Rattle.request_api.specs.Names.{dashed}
use Rattle.request_api.specs.Requests.{with_reply}
use Rattle.request_api.specs.Setting as setting

-- a status that may be set: 200 to 599, those of final replies (RFC 9110, 15)
abbrev pub is_status : ℤ → Bool
is_status status = not (is_negative status) && nat_le 200 (unsigned_abs status) && nat_le (unsigned_abs status) 599

-- the request with this status of its reply; after the head it stays
abbrev pub with_status : Req → ℕ → Req
with_status req status =
    let reply = req.reply in
    if reply.sent then req
    else with_reply req (record { status = status; headers = reply.headers; sent = reply.sent; ended = reply.ended; given = reply.given })

-- fields of this name are the server's own (RFC 9110, 6.6.1; RFC 9112, 6.1 and 9.6)
abbrev pub is_reserved : List ℕ → Bool
is_reserved name = same_name name (codes "connection") || same_name name (codes "date") || same_name name (codes "transfer-encoding")

-- a length of the body that is none
abbrev pub has_bad_length : List ℕ → List (List ℕ) → Bool
has_bad_length name values = same_name name (codes "content-length") && not (are_lengths values)

-- the reply's fields of this name may not be set to these values
abbrev pub is_refused : Reply → List ℕ → List (List ℕ) → Bool
is_refused reply name values =
    not reply.sent && (is_reserved (dashed name) || has_bad_length (dashed name) values || setting.is_refused reply.headers (dashed name) values)

-- the reply with these fields
abbrev pub with_fields : Reply → List Pair2 → Reply
with_fields reply fields = record { status = reply.status; headers = fields; sent = reply.sent; ended = reply.ended; given = reply.given }

-- the request after the reply's fields of this name were set to these values; after the head they stay
abbrev pub with_reply_header : Req → List ℕ → List (List ℕ) → Req
with_reply_header req name values =
    if req.reply.sent then req else with_reply req (with_fields req.reply (setting.with_values req.reply.headers (dashed name) values))

-- the values of the reply's fields of this name
abbrev pub reply_header : Req → List ℕ → List (List ℕ)
reply_header req name = values_of req.reply.headers (dashed name)

-- so many bytes may be made for the body of a reply
abbrev pub output_limit : ℕ
output_limit = 4_194_304

-- what becomes of so many bytes more
abbrev pub printed : Reply → ℕ → Printed
printed reply count = if reply.ended then SeenEof else if nat_lt output_limit (reply.given + count) then OverLimit else Took

-- the bytes are part of the body
abbrev pub is_taken : Printed → Bool
is_taken Took = true
is_taken SeenEof = false
is_taken OverLimit = false

-- the request with so many bytes given for its body
abbrev pub with_given : Req → ℕ → Req
with_given req given =
    let reply = req.reply in
    with_reply req (record { status = reply.status; headers = reply.headers; sent = reply.sent; ended = reply.ended; given = given })

-- the request after so many bytes more
abbrev pub after_print : Req → ℕ → Req
after_print req count = if is_taken (printed req.reply count) then with_given req (req.reply.given + count) else req

-- the request after the program said that the body is over
abbrev pub after_eof : Req → Req
after_eof req =
    let reply = req.reply in
    with_reply req (record { status = reply.status; headers = reply.headers; sent = reply.sent; ended = true; given = reply.given })
