-- The head of a reply, by what was said of it (RFC 9110, 8.3, 8.6 and 10.2.4; RFC 9112, 6.3 and 9.3).
use Rattle.std.specs.Prelude.{ℕ, Bool, true, false, ◌&&◌, ◌||◌, not, ◌==◌, List, filter, codes, Option, None, Some, unwrap_or, option_and_then}
use Rattle.resty_base.specs.declared.names.Pair2.{Pair2}
use Rattle.http_base.specs.Names.{same_name}
use Rattle.http_reply.specs.Bodies.{framing}
use Rattle.http_reply.specs.declared.ends.Framing.{Framing}
use Rattle.http_reply.specs.declared.ends.Framing.TheVariants.{Bodiless, Counted, Chunked, UntilClose}
use Rattle.http_reply.specs.declared.heads.ReplyHead.{ReplyHead}
use Rattle.request_api.specs.declared.requests.Req.{Req}
use Rattle.request_api.specs.Lengths.{length_of}
use Rattle.request_api.specs.Values.{last_value, unless_empty}

-- the name of the server
abbrev pub server : Req → List ℕ
server req = unwrap_or (last_value req.reply.headers (codes "server")) (codes "resty")

-- the type of a handler's reply: the last that was set, else the default one; an empty one is none
abbrev pub content_type : Req → List ℕ → Option (List ℕ)
content_type req default_type = unless_empty (unwrap_or (last_value req.reply.headers (codes "content-type")) default_type)

-- the length of a handler's reply, where one was set
abbrev pub set_length : Req → Option ℕ
set_length req = option_and_then length_of (last_value req.reply.headers (codes "content-length"))

-- fields of this name have a place of their own in a head
abbrev pub has_place : List ℕ → Bool
has_place name = same_name name (codes "server") || same_name name (codes "content-type") || same_name name (codes "content-length")

-- the other fields, in order
abbrev pub others : List Pair2 → List Pair2
others fields = filter (λ field. not (has_place field.name)) fields

-- the body comes in chunks
abbrev pub is_chunked : Framing → Bool
is_chunked Bodiless = false
is_chunked (Counted count) = false
is_chunked Chunked = true
is_chunked UntilClose = false

-- the body ends with the connection
abbrev pub ends_with_connection : Framing → Bool
ends_with_connection Bodiless = false
ends_with_connection (Counted count) = false
ends_with_connection Chunked = false
ends_with_connection UntilClose = true

-- the head of a reply of this type and length; the connection doesn't stay where the body ends with it
abbrev pub head_with : Req → Option (List ℕ) → Option ℕ → Bool → ReplyHead
head_with req content_type length keep =
    let told = framing req.head.method req.reply.status req.head.minor length in
    record {
      status = req.reply.status;
      server = server req;
      content_type = content_type;
      length = length;
      chunked = is_chunked told;
      keep = keep && not (ends_with_connection told);
      others = others req.reply.headers;
    }

-- after a built-in reply of this status the connection closes
abbrev pub closes : ℕ → Bool
closes status = status == 400 || status == 413 || status == 431 || status == 500 || status == 501 || status == 505

-- the head of the reply: a handler's has no length, a built-in one's has that of its body
abbrev pub reply_head : Req → List ℕ → Option ℕ → Bool → ReplyHead
reply_head req default_type None keep = head_with req (content_type req default_type) (set_length req) keep
reply_head req default_type (Some length) keep = head_with req (Some (codes "text/plain")) (Some length) (keep && not (closes req.reply.status))
