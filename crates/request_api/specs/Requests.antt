-- The record of a request: its beginning, and what a program changes in its head and its target.
use Rattle.std.specs.Prelude.{ℕ, ℤ, unsigned_abs, false, ◌==◌, List, [], map, take, length, codes, min, Option, None, Some, unwrap_or, if◌then◌else◌}
use Rattle.std.specs.Int.{is_negative}
use Rattle.resty_base.specs.declared.names.Pair2.{Pair2}
use Rattle.http_base.specs.Names.{lower}
use Rattle.http_in.specs.declared.heads.Head.{Head}
use Rattle.uri_args.specs.declared.targets.Target.{Target}
use Rattle.request_api.specs.declared.replies.Reply.{Reply}
use Rattle.request_api.specs.declared.requests.Req.{Req}
use Rattle.request_api.specs.Setting.{with_values}

-- a reply of which nothing was said
abbrev pub new_reply : Reply
new_reply = record { status = 200; headers = []; sent = false; ended = false; given = 0 }

-- a request that begins after so many internal redirects
abbrev pub begun : Head → Target → ℕ → Req
begun head target redirects = record { head = head; target = target; redirects = redirects; reply = new_reply }

-- the request with another head, target or reply
abbrev pub with_head : Req → Head → Req
with_head req head = record { head = head; target = req.target; redirects = req.redirects; reply = req.reply }

abbrev pub with_target : Req → Target → Req
with_target req target = record { head = req.head; target = target; redirects = req.redirects; reply = req.reply }

abbrev pub with_reply : Req → Reply → Req
with_reply req reply = record { head = req.head; target = req.target; redirects = req.redirects; reply = reply }

-- the head with another method and other fields
abbrev pub head_of : Head → List ℕ → List Pair2 → Head
head_of head method fields = record {
  method = method;
  target = head.target;
  minor = head.minor;
  headers = fields;
  body = head.body;
  keep = head.keep;
  expects = head.expects;
}

-- the method of a number, as the constants `ngx.HTTP_GET` to `ngx.HTTP_DELETE` have it
abbrev pub method_numbered : ℕ → Option (List ℕ)
method_numbered number =
    if number == 2 then Some (codes "GET") else if number == 4 then Some (codes "HEAD") else if number == 8 then Some (codes "POST")
    else if number == 16 then Some (codes "PUT") else if number == 32 then Some (codes "DELETE") else None

abbrev pub method_of : ℤ → Option (List ℕ)
method_of number = if is_negative number then None else method_numbered (unsigned_abs number)

-- the request with the method of a number
abbrev pub with_method : Req → ℤ → Req
with_method req number = with_head req (head_of req.head (unwrap_or (method_of number) req.head.method) req.head.headers)

-- the request after the fields of this name were set to these values
abbrev pub with_header : Req → List ℕ → List (List ℕ) → Req
with_header req name values = with_head req (head_of req.head req.head.method (with_values req.head.headers name values))

-- the request with this path, or these arguments
abbrev pub with_path : Req → List ℕ → Req
with_path req path = with_target req (record { path = path; args = req.target.args; host = req.target.host })

abbrev pub with_args : Req → List ℕ → Req
with_args req args = with_target req (record { path = req.target.path; args = args; host = req.target.host })

-- how many of so many are given: `max` at most, or all where `max` is 0
abbrev pub first_count : ℕ → ℕ → ℕ
first_count count max = if max == 0 then count else min count max

-- the field with its name in lower case
abbrev pub lowered : Pair2 → Pair2
lowered field = record { name = lower field.name; value = field.value }

-- the first `max` header fields, or all of them where `max` is 0, with names in lower case
abbrev pub headers : Req → ℕ → List Pair2
headers req max = map lowered (take (first_count (length req.head.headers) max) req.head.headers)
