-- The handlers and the server's own replies of one request, by how its handlers end (lua-nginx-module manual, "Order of Lua Nginx Module
-- Directives"). The filters aren't among them: they run on the reply wherever it is made.
use Rattle.std.specs.Prelude.{ℕ, ◌+◌, Bool, true, false, ◌||◌, List, [], ◌∷◌, if◌then◌else◌}
use Rattle.phases.specs.declared.outcomes.Phase.{Phase}
use Rattle.phases.specs.declared.outcomes.Phase.TheVariants.{Rewrite, Log}
use Rattle.phases.specs.declared.outcomes.Sent.{Sent}
use Rattle.phases.specs.declared.outcomes.Outcome.{Outcome}
use Rattle.phases.specs.declared.outcomes.Outcome.TheVariants.{Spent}
use Rattle.phases.specs.declared.outcomes.Next.{Next}
use Rattle.phases.specs.declared.outcomes.Next.TheVariants.{Run, Reply, Again, Finish, HangUp}
use Rattle.phases.specs.After.{after}

-- what is done for a request, in order
pub data Deed : Type 0 where
  -- the handler of a phase runs, where there is one
  Handles : (p : Phase) → Deed
  -- the server replies by itself
  Replies : (status : ℕ) → Deed

-- how a handler ended: what of the head was sent by then, and its outcome
abbrev pub End : Type 0
End = Sent × Outcome

-- its steps were used up, so no handler of the request comes after it
abbrev pub is_spent : Outcome → Bool
is_spent Spent = true
is_spent outcome = false

-- the log's handler, which comes when the reply is over; a subrequest has none
abbrev pub logging : Bool → Outcome → List Deed
logging sub outcome = if sub || is_spent outcome then [] else Handles Log ∷ []

-- what is done after a handler that ended so, where the next one of the same location, or of another, brings about what `go` says
abbrev pub deeds_after : Bool → Outcome → (ℕ → Phase → List Deed) → ℕ → Next → List Deed
deeds_after sub outcome go redirects (Run p) = go redirects p
deeds_after sub outcome go redirects Again = go (redirects + 1) Rewrite
deeds_after sub outcome go redirects (Reply status) = Replies status ∷ logging sub outcome
deeds_after sub outcome go redirects Finish = logging sub outcome
deeds_after sub outcome go redirects HangUp = logging sub outcome

-- what is done from a phase on, where the handlers from there on end so; the last may be under way still
abbrev pub deeds_from : Bool → ℕ → Phase → List End → List Deed
deeds_from sub redirects p [] = Handles p ∷ []
deeds_from sub redirects p (e ∷ es) = Handles p ∷ deeds_after sub e.1 (λ n q. deeds_from sub n q es) redirects (after p sub e.0 redirects e.1)

-- what is done for a request, or a subrequest, whose handlers end so
abbrev pub phase_list : Bool → List End → List Deed
phase_list sub es = deeds_from sub 0 Rewrite es

-- the handlers that ended so were all that were due
abbrev pub is_over_after : (ℕ → Phase → Bool) → ℕ → Next → Bool
is_over_after go redirects (Run p) = go redirects p
is_over_after go redirects Again = go (redirects + 1) Rewrite
is_over_after go redirects next = true

abbrev pub is_over_from : Bool → ℕ → Phase → List End → Bool
is_over_from sub redirects p [] = false
is_over_from sub redirects p (e ∷ es) = is_over_after (λ n q. is_over_from sub n q es) redirects (after p sub e.0 redirects e.1)

abbrev pub is_over : Bool → List End → Bool
is_over sub es = is_over_from sub 0 Rewrite es

-- the handler of a request's first phase, with which it begins and begins anew
abbrev pub is_beginning : Deed → Bool
is_beginning (Handles Rewrite) = true
is_beginning deed = false
