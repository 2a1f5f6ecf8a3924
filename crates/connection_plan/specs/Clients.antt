-- What a connection keeps of its client, beside its ledger (RFC 9112, 9.3 to 9.6).
use Rattle.std.specs.Prelude.{ℕ, Bool, true, false, List, [], ◌∷◌, ◌++◌}
use Rattle.uri_args.specs.declared.targets.Target.{Target}
use Rattle.http_in.specs.declared.heads.Head as http
use Rattle.client_line.specs.declared.requests.LineOut.{LineOut}
use Rattle.client_line.specs.declared.requests.LineOut.TheVariants as out
use Rattle.client_line.specs.Records.{Came}
use Rattle.client_line.specs.Lines.{nothing}
use Rattle.run_contract.specs.declared.turns.LocationTimes.{LocationTimes}

-- how long is waited, in milliseconds: for a head, for the next request, for more of a body, until the client takes bytes
pub record Times : Type 0 where
  pub header : ℕ
  pub keepalive : ℕ
  pub body : ℕ
  pub send : ℕ

pub data Stage : Type 0 where
  -- the next head is due, and none of its bytes came
  Idle : Stage
  -- a head is due: some of its bytes came, or it is the first one
  Head : Stage
  -- a run answers the request, or is the job
  Busy : Stage
  -- the run is over, or the head was refused, and the reply isn't wholly taken
  Flush : Stage
  -- the reply is taken, and the rest of the request's body is dropped as it comes
  Drop : Stage
  -- the life is over
  Over : Stage

-- how far the reply is: nothing of it was sent, some was, or it is whole, and the connection may close after it
pub data Reply : Type 0 where
  Unsent : Reply
  Begun : Reply
  Whole : (closes : Bool) → Reply

-- what the client asked, a request or a head that is refused, and what was sent for it so far
pub record Exchange : Type 0 where
  pub asked : LineOut
  pub reply : List ℕ

abbrev pub exchange : LineOut → List ℕ → Exchange
exchange asked reply = record { asked = asked; reply = reply }

-- what was sent for all that was asked, the newest first
abbrev pub replies_of : List Exchange → List ℕ
replies_of [] = []
replies_of (e ∷ es) = replies_of es ++ e.reply

-- more is sent for the newest; before anything is asked nothing is sent
abbrev pub with_more : List ℕ → List Exchange → List Exchange
with_more bytes [] = exchange out.Waiting bytes ∷ []
with_more bytes (e ∷ es) = exchange e.asked (e.reply ++ bytes) ∷ es

pub record Client : Type 0 where
  -- the bytes that came, and what is read next of them
  pub came : Came
  pub stage : Stage
  -- those of the request, or of the location that its run told last; before the first one, and after a head that is refused, those of the default server
  pub times : Times
  pub reply : Reply
  -- the most bytes that the body may have for which the run waits
  pub limit : ℕ
  -- the client waits for a 100 reply before it sends the body; and more of the body was waited for while nothing of the reply was sent
  pub expects : Bool
  pub waited : Bool
  -- it sends no more
  pub ended : Bool
  -- what it asked so far, the newest first
  pub exchanges : List Exchange

abbrev pub new_client : Times → Client
new_client times = record {
  came = nothing;
  stage = Head;
  times = times;
  reply = Unsent;
  limit = 0;
  expects = false;
  waited = false;
  ended = false;
  exchanges = [];
}

-- as a request begins, with its times
abbrev pub with_request : http.Head → Target → Times → Client → Client
with_request head target times c = record c {
  stage = Busy;
  times = times;
  reply = Unsent;
  expects = head.expects;
  waited = false;
  exchanges = exchange (out.Request head target) [] ∷ c.exchanges;
}

-- as a head is refused, with the times of the default server
abbrev pub with_refusal : (code : ℕ) → Times → Client → Client
with_refusal code times c = record c { stage = Flush; times = times; reply = Whole true; exchanges = exchange (out.Refused code) [] ∷ c.exchanges }

-- another location answers the request: a head is waited for by the default server's time all the same
abbrev pub with_times : LocationTimes → Client → Client
with_times t c = record c { times = record c.times { keepalive = t.keepalive.0; body = t.body.0; send = t.send.0 } }

-- more of the reply is sent
abbrev pub begun : Reply → Reply
begun Unsent = Begun
begun reply = reply

-- the connection closes after the reply; without a whole one it closes too
abbrev pub closes_after : Reply → Bool
closes_after (Whole closes) = closes
closes_after reply = true

-- the reply is whole, and the connection closes after it
abbrev pub is_last : Reply → Bool
is_last (Whole closes) = closes
is_last reply = false
