-- What a site of Lua answers a request with (RFC 9110, 15).
use Rattle.std.specs.Prelude.{ℕ, Bool, false, ◌&&◌, nat_lt, List, [], Option, Some, None, Result, Ok, Err, is_ok, if◌then◌else◌}
use Rattle.http_in.specs.declared.framing.BodyKind.{BodyKind}
use Rattle.http_in.specs.declared.framing.BodyKind.TheVariants as body
use Rattle.conf.specs.declared.sites.Conf.{Conf}
use Rattle.conf.specs.declared.sites.LocationConf.{LocationConf}
use Rattle.conf.specs.declared.sites.Settings.{Settings}
use Rattle.lua_machine.specs.Finishes.{Finish}
use Rattle.lua_values.specs.Heap.{StoreView}
use Rattle.request_api.specs.declared.requests.Req.{Req}
use Rattle.run_threads.specs.declared.handlers.Handled.{Handled}
use Rattle.run_threads.specs.Handlers.{handled}
use Rattle.reply_stages.specs.Lines.{line_of}
use Rattle.reply_stages.specs.Replies.{of_status, by_handler}
use Rattle.reply_stages.specs.Scopes.{Scope, settings_of, scope_of}
use Rattle.lua_run.specs.declared.answers.Replied.{Replied}

-- a site: its configuration, what comes of the thread that runs a block, by the block's number, and the store in which each run begins
pub record Site : Type 0 where
  pub conf : Conf
  pub handler : ℕ → Finish
  pub store : StoreView

-- a body whose length is told is longer than it may be
abbrev pub is_too_long : BodyKind → ℕ → Bool
is_too_long (body.Length count) max = nat_lt max count
is_too_long kind max = false

-- the number of the content handler, or the status of the reply that the server makes itself: without a handler there is nothing
abbrev pub content_of : Option ℕ → Result ℕ ℕ
content_of None = Err 404
content_of (Some number) = Ok number

-- nor is there where no location fits, or to requests from outside at an internal one
abbrev pub located : Option LocationConf → Result ℕ ℕ
located None = Err 404
located (Some location) = if location.internal then Err 404 else content_of location.settings.content

-- a body that is too long is refused before that
abbrev pub answer_in : BodyKind → Scope → Result ℕ ℕ
answer_in kind scope = if is_too_long kind (settings_of scope).max_body then Err 413 else located scope.location

-- whether a handler makes the reply, and not the server itself; a site has a server for each request
abbrev pub has_handler_in : BodyKind → Option Scope → Bool
has_handler_in kind None = false
has_handler_in kind (Some scope) = is_ok (answer_in kind scope)

abbrev pub has_handler : Conf → Req → Bool
has_handler conf req = has_handler_in req.head.body (scope_of conf req.target)

-- what a handler came to, as a reply of this type
abbrev pub replied_by : ℕ → List ℕ → Handled → ℕ → Replied
replied_by level default_type h now = record { line = line_of level now h.end; sent = by_handler default_type h now }

-- the server's own reply of a status
abbrev pub replied_status : Req → List ℕ → ℕ → ℕ → Replied
replied_status req default_type status now = record { line = None; sent = of_status req default_type status now }

-- the handler of a number, run alone for the request, or the server's own reply
abbrev pub replied : Site → Req → List ℕ → Result ℕ ℕ → ℕ → Replied
replied site req default_type (Ok number) now = replied_by site.conf.log_level default_type (handled (site.handler number) site.store req) now
replied site req default_type (Err status) now = replied_status req default_type status now

-- a connection that has no time for a next request isn't kept
abbrev pub with_keepalive : Settings → Req → Req
with_keepalive settings req = record req { head = record req.head { keep = req.head.keep && nat_lt 0 settings.keepalive_timeout.0 } }

abbrev pub reply_in : Site → Req → Scope → ℕ → Replied
reply_in site req scope now =
    let settings = settings_of scope in
    replied site (with_keepalive settings req) settings.default_type (answer_in req.head.body scope) now

-- of a request to a site at a moment; a site has a server for each
abbrev pub reply_by : Site → Req → Option Scope → ℕ → Replied
reply_by site req None now = replied site req [] (Err 404) now
reply_by site req (Some scope) now = reply_in site req scope now

abbrev pub reply_of : Site → Req → ℕ → Replied
reply_of site req now = reply_by site req (scope_of site.conf req.target) now
