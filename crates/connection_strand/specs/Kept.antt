-- What is kept of a client in code, in plain values, and what that is by the plan of its connection.
use Rattle.std.specs.Prelude.{ℕ, ◌%◌, Bool, false, not, ◌&&◌, [], Option, if◌then◌else◌}
use Rattle.client_line.specs.declared.line.Held.{Held}
use Rattle.client_line.specs.declared.line.Held.TheVariants as held
use Rattle.client_line.specs.Records.{Came}
use Rattle.client_line.specs.Lines.{nothing, body_answer}
use Rattle.send_queue.specs.Records.{Sending}
use Rattle.strand_contract.specs.declared.turns.Place.TheVariants as place
use Rattle.strand_contract.specs.Alone.{is_some_left}
use Rattle.strand_plans.specs.Ledgers.{Ledger, has_number, numbers, left_at}
use Rattle.run_contract.specs.declared.turns.LocationTimes.{LocationTimes}
use Rattle.run_contract.specs.declared.turns.RunSeen.{RunSeen}
use Rattle.run_contract.specs.declared.turns.RunSeen.TheVariants as seen
use Rattle.run_contract.specs.Runs.{Waits}
use Rattle.connection_plan.specs.Clients.{Stage, Reply, Times, Client}
use Rattle.connection_plan.specs.Clients as stage
use Rattle.connection_plan.specs.Timers.{Timer}
use Rattle.connection_plan.specs.Timers as timer
use Rattle.connection_plan.specs.Turns.{is_there, body_told}
use Rattle.connection_plan.specs.Serving.{times}
use Rattle.connection_strand.specs.declared.client.Stage as code_stage
use Rattle.connection_strand.specs.declared.client.Stage.TheVariants as own
use Rattle.connection_strand.specs.declared.client.Reply as code_reply
use Rattle.connection_strand.specs.declared.client.Reply.TheVariants as own_reply
use Rattle.connection_strand.specs.declared.client.Timer as code_timer
use Rattle.connection_strand.specs.declared.client.Timer.TheVariants as own_timer
use Rattle.connection_strand.specs.declared.client.Client as code_client
use Rattle.connection_strand.specs.declared.waits.Waits as code_waits

-- the words of the plan for those of the code
abbrev pub stage_of : code_stage.Stage → Stage
stage_of own.Idle = stage.Idle
stage_of own.Head = stage.Head
stage_of own.Busy = stage.Busy
stage_of own.Flush = stage.Flush
stage_of own.Drop = stage.Drop
stage_of own.Over = stage.Over

abbrev pub reply_of : code_reply.Reply → Reply
reply_of own_reply.Unsent = stage.Unsent
reply_of own_reply.Begun = stage.Begun
reply_of (own_reply.Whole closes) = stage.Whole closes

abbrev pub timer_of : code_timer.Timer → Timer
timer_of own_timer.Header = timer.Header
timer_of own_timer.Keepalive = timer.Keepalive
timer_of own_timer.Body = timer.Body
timer_of own_timer.Send = timer.Send

abbrev pub waits_of : code_waits.Waits → Waits
waits_of w = record { body = w.body; taken = w.taken; client = w.client; asks = w.asks }

-- what is kept: the client's line; what the plan has of it but for the exchanges; its place; and whether the deadlines 0 and 1 are armed
pub record Kept : Type 0 where
  pub came : Came
  pub sending : Sending
  pub stage : Stage
  pub times : Times
  pub reply : Reply
  pub limit : ℕ
  pub expects : Bool
  pub waited : Bool
  pub ended : Bool
  pub opened : Bool
  pub off : Bool
  pub waits : Bool
  pub sends : Bool

-- by the code
abbrev pub kept : code_client.Client → Kept
kept c = record {
  came = c.line.came;
  sending = c.line.sending;
  stage = stage_of c.stage;
  times = times c.times;
  reply = reply_of c.reply;
  limit = c.limit;
  expects = c.expects;
  waited = c.waited;
  ended = c.has_ended;
  opened = c.is_open;
  off = c.is_put_off;
  waits = c.is_waiting;
  sends = c.is_sending;
}

-- by the plan: what is left to be sent, nothing to a client that isn't there
abbrev pub sending_of : {J : Type 0} → Ledger J → Sending
sending_of b = record {
  bytes = if is_there b then left_at place.Client b else [];
  phase = b.taken place.Client % 16_384;
  gone = not (is_there b);
}

abbrev pub kept_of : {J : Type 0} → Ledger J → Client → Kept
kept_of b c = record {
  came = c.came;
  sending = sending_of b;
  stage = c.stage;
  times = c.times;
  reply = c.reply;
  limit = c.limit;
  expects = c.expects;
  waited = c.waited;
  ended = c.ended;
  opened = is_there b;
  off = b.put_off place.Client;
  waits = has_number 0 (numbers b.armed);
  sends = has_number 1 (numbers b.armed);
}

-- as a connection begins, for a client or for a job
abbrev pub fresh : Times → Bool → Kept
fresh times opened = record {
  came = nothing;
  sending = record { bytes = []; phase = 0; gone = not opened };
  stage = stage.Head;
  times = times;
  reply = stage.Unsent;
  limit = 0;
  expects = false;
  waited = false;
  ended = false;
  opened = opened;
  off = false;
  waits = false;
  sends = false;
}

-- ---- what is asked of it

-- the deadline of a timer is armed, or not
abbrev pub with_armed : Timer → Bool → Kept → Kept
with_armed timer.Send c k = record k { sends = c }
with_armed t c k = record k { waits = c }

abbrev pub is_armed : Timer → Kept → Bool
is_armed timer.Send k = k.sends
is_armed t k = k.waits

-- more of a head or of a body that is dropped is waited for: the stage at which it is, and the timer that runs
abbrev pub stage_waiting : Held → Stage
stage_waiting held.Body = stage.Drop
stage_waiting held.Nothing = stage.Idle
stage_waiting h = stage.Head

abbrev pub timer_waiting : Held → Timer
timer_waiting held.Body = timer.Body
timer_waiting held.Nothing = timer.Keepalive
timer_waiting h = timer.Header

-- another location answers the request
abbrev pub with_times : LocationTimes → Kept → Kept
with_times t k = record k { times = record k.times { keepalive = t.keepalive.0; body = t.body.0; send = t.send.0 } }

-- nothing of what was sent is left to be taken
abbrev pub all_taken : Kept → Bool
all_taken k = not (k.opened && is_some_left k.sending.bytes)

-- something of it is left, and the client takes bytes
abbrev pub wants_offer : Kept → Bool
wants_offer k = k.opened && is_some_left k.sending.bytes && not k.off

-- the client of a plan that keeps this, where nothing was asked
abbrev pub client_of : Kept → Client
client_of k = record {
  came = k.came;
  stage = k.stage;
  times = k.times;
  reply = k.reply;
  limit = k.limit;
  expects = k.expects;
  waited = k.waited;
  ended = k.ended;
  exchanges = [];
}

-- what a run is told of the body that it waits for
abbrev pub seen_of_body : Kept → Option RunSeen
seen_of_body k = body_told (k.opened && not k.ended) (client_of k) (body_answer k.came k.limit)

-- and whether all is taken, which it asks
abbrev pub seen_of_taken : Kept → RunSeen
seen_of_taken k = if all_taken k then seen.AllTaken else seen.NotYet
