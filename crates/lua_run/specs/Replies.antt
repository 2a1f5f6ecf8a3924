-- What the exchanges of connections to a site of Lua are: each request's own reply, whatever else came on that connection or on others.
use Rattle.std.specs.Prelude.{◌≡◌, ◌⊎◌, ℕ, true, List, [], ◌∷◌}
use Rattle.uri_args.specs.declared.targets.Target.{Target}
use Rattle.http_in.specs.declared.heads.Head.{Head}
use Rattle.client_line.specs.declared.requests.LineOut.{LineOut}
use Rattle.client_line.specs.declared.requests.LineOut.TheVariants as out
use Rattle.strand_contract.specs.Actions.{LocalAction}
use Rattle.strand_contract.specs.Alone.{moment}
use Rattle.request_api.specs.Requests as request
use Rattle.connection_plan.specs.Clients.{Exchange}
use Rattle.reply_stages.specs.Replies.{refusal}
use Rattle.lua_run.specs.Answers.{Site, has_handler, reply_of}
use Rattle.connection_laws.specs.Replies.{IsUpTo}

-- the bytes of the site's reply to a request, at a moment
abbrev pub reply_to_head : Site → Head → Target → ℕ → List ℕ
reply_to_head site head target now = (reply_of site (request.begun head target 0) now).sent.bytes

module _ {J : Type 0} (es : List (LocalAction J)) (site : Site) where
  -- these are what is made at a moment of what happened
  abbrev pub AreMade : (ℕ → List ℕ) → List ℕ → Type 0
  AreMade made bytes = (before : List (LocalAction J)) × IsUpTo es before × (bytes ≡ made (moment before))

  -- the whole reply to what was asked: a request has its own; after a refused head nothing is asked
  abbrev pub IsWhole : LineOut → List ℕ → Type 0
  IsWhole (out.Request head target) reply = AreMade (reply_to_head site head target) reply
  IsWhole answer reply = ⊥

  -- nothing of the reply was sent yet: a handler makes it
  abbrev pub IsToCome : Head → Target → List ℕ → Type 0
  IsToCome head target reply = (reply ≡ []) × (has_handler site.conf (request.begun head target 0) ≡ true)

  -- the reply to what was asked last: one that a handler makes may be still to come
  abbrev pub IsNewest : LineOut → List ℕ → Type 0
  IsNewest (out.Request head target) reply = IsToCome head target reply ⊎ AreMade (reply_to_head site head target) reply
  IsNewest (out.Refused code) reply = AreMade (refusal code) reply
  IsNewest answer reply = ⊥

  abbrev pub AreWhole : List Exchange → Type 0
  AreWhole [] = Unit {0}
  AreWhole (e ∷ older) = IsWhole e.asked e.reply × AreWhole older

  -- the exchanges of a connection, of which the newest comes first
  abbrev pub EachHasItsOwn : List Exchange → Type 0
  EachHasItsOwn [] = Unit {0}
  EachHasItsOwn (e ∷ older) = IsNewest e.asked e.reply × AreWhole older
