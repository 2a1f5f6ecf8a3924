-- The head of a reply: the status line, then fields (RFC 9112, 4 to 6; RFC 9110, 6.6.1 and 8.6).
use Rattle.std.specs.Prelude.{ℕ, Bool, ◌||◌, ◌==◌, nat_lt, List, [], ◌++◌, codes, decimal, Option, None, Some, if◌then◌else◌}
use Rattle.http_reply.specs.Dates.{date_text}
use Rattle.http_reply.specs.Lines.{line_end, field_line, field_lines}
use Rattle.http_reply.specs.Reasons.{reason}
use Rattle.http_reply.specs.declared.heads.ReplyHead.{ReplyHead}

-- `HTTP/1.1 CODE REASON`, with its last space also where the reason is empty (RFC 9112, 4)
abbrev pub status_line : ℕ → List ℕ
status_line status = codes "HTTP/1.1 " ++ decimal status ++ codes " " ++ reason status ++ line_end

-- the type of the body, where there is one (RFC 9110, 8.3)
abbrev pub type_line : Option (List ℕ) → List ℕ
type_line None = []
type_line (Some name) = field_line (codes "Content-Type") name

-- replies of these statuses must not tell a length (RFC 9110, 8.6)
abbrev pub has_no_length : ℕ → Bool
has_no_length status = nat_lt status 200 || status == 204

-- the length of the body, where it is known and may be told (RFC 9110, 8.6)
abbrev pub length_line : ℕ → Option ℕ → List ℕ
length_line status None = []
length_line status (Some count) = if has_no_length status then [] else field_line (codes "Content-Length") (decimal count)

-- that the body comes in chunks (RFC 9112, 6.1)
abbrev pub transfer_line : Bool → List ℕ
transfer_line chunked = if chunked then field_line (codes "Transfer-Encoding") (codes "chunked") else []

-- the lines that speak of the body
abbrev pub content_lines : ReplyHead → List ℕ
content_lines head = type_line head.content_type ++ length_line head.status head.length ++ transfer_line head.chunked

-- whether the connection stays open after the reply (RFC 9112, 9.3 and 9.6)
abbrev pub connection_line : Bool → List ℕ
connection_line keep = field_line (codes "Connection") (if keep then codes "keep-alive" else codes "close")

-- the head that is sent at a moment in milliseconds
abbrev pub head_text : ReplyHead → ℕ → List ℕ
head_text head now =
    status_line head.status
    ++ field_line (codes "Server") head.server
    ++ field_line (codes "Date") (date_text now)
    ++ content_lines head
    ++ connection_line head.keep
    ++ field_lines head.others
    ++ line_end
