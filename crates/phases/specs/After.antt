-- What follows a handler, by how it ended (lua-nginx-module manual, `ngx.exit`, `ngx.exec`, `ngx.redirect`, and "Order of Lua Nginx Module Directives").
use Rattle.std.specs.Prelude.{ℕ, Bool, true, false, not, ◌==◌, ◌&&◌, nat_lt, if◌then◌else◌}
use Rattle.phases.specs.declared.outcomes.Phase.{Phase}
use Rattle.phases.specs.declared.outcomes.Phase.TheVariants.{Rewrite, Access, Content, HeaderFilter, BodyFilter, Log}
use Rattle.phases.specs.declared.outcomes.Sent.{Sent}
use Rattle.phases.specs.declared.outcomes.Sent.TheVariants.{No, Before, Here}
use Rattle.phases.specs.declared.outcomes.Outcome.{Outcome}
use Rattle.phases.specs.declared.outcomes.Outcome.TheVariants.{Ended, ExitOk, Exit, Exec, ExecNamed, Redirect, Failed, Spent}
use Rattle.phases.specs.declared.outcomes.Next.{Next}
use Rattle.phases.specs.declared.outcomes.Next.TheVariants.{Run, Reply, Again, Finish, HangUp}

-- so many internal redirects a request may have
abbrev pub most_redirects : ℕ
most_redirects = 10

-- the phase whose handler comes next, where the reply goes on; a subrequest has no access phase
abbrev pub next_phase : Bool → Phase → Phase
next_phase sub Rewrite = if sub then Content else Access
next_phase sub p = Content

-- a filter makes a part of the reply, and nothing of it comes after
abbrev pub is_filter : Phase → Bool
is_filter HeaderFilter = true
is_filter BodyFilter = true
is_filter p = false

-- a handler that came to its end: the next phase, unless it is a later one, or sent the head and so was the one that answers
abbrev pub after_end : Phase → Bool → Sent → Next
after_end Rewrite sub Here = Finish
after_end Access sub Here = Finish
after_end Rewrite sub sent = Run (next_phase sub Rewrite)
after_end Access sub sent = Run (next_phase sub Access)
after_end p sub sent = Finish

-- a handler that answers with a status: a reply of the server's own from 300 on, where none was begun
abbrev pub after_status : ℕ → Sent → Next
after_status status No = if nat_lt status 300 then Finish else Reply status
after_status status sent = Finish

-- a handler that ends the request with a status; 444 closes without a reply, but for a subrequest
abbrev pub after_exit : ℕ → Bool → Sent → Next
after_exit status sub sent = if status == 444 && not sub then HangUp else after_status status sent

-- a request that can't go on
abbrev pub after_fault : Sent → Next
after_fault No = Reply 500
after_fault sent = HangUp

-- a handler that raised an error; one of a filter has spoiled the reply
abbrev pub after_failure : Phase → Sent → Next
after_failure p sent = if is_filter p then HangUp else after_fault sent

-- a handler that redirects within the server
abbrev pub after_redirect : ℕ → Sent → Next
after_redirect redirects sent = if nat_lt redirects most_redirects then Again else after_fault sent

-- a handler of any phase but the log's
abbrev pub after_handler : Phase → Bool → Sent → ℕ → Outcome → Next
after_handler p sub sent redirects Ended = after_end p sub sent
after_handler p sub sent redirects ExitOk = after_end p sub sent
after_handler p sub sent redirects (Exit status) = after_exit status sub sent
after_handler p sub sent redirects (Exec target) = after_redirect redirects sent
after_handler p sub sent redirects (ExecNamed name) = after_redirect redirects sent
after_handler p sub sent redirects (Redirect status to) = after_status status sent
after_handler p sub sent redirects Failed = after_failure p sent
after_handler p sub sent redirects Spent = after_fault sent

-- the log's handler, which comes when the reply is over
abbrev pub after_log : Outcome → Next
after_log Spent = HangUp
after_log outcome = Finish

-- what follows a handler of this phase, of a request or a subrequest with so many internal redirects before
abbrev pub after : Phase → Bool → Sent → ℕ → Outcome → Next
after Log sub sent redirects outcome = after_log outcome
after p sub sent redirects outcome = after_handler p sub sent redirects outcome
