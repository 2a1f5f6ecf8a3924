-- The four timers of a connection. One of the first three runs at a time.
--
-- timer      begins                                                              ends                                          setting
-- Header     as the client comes; with the first byte of a later head            with the head, whole or refused               default server
-- Keepalive  where the reply is taken, the body read or dropped, no head begun   with the first byte of the next head          request
-- Body       with a wait for more of a body; anew with each piece of it          where it is whole, refused or not waited for  request
-- Send       where the client takes no bytes for now; anew each time             where it takes bytes again                    request
--
-- One that runs out closes the connection without a reply.
use Rattle.std.specs.Prelude.{ℕ, ◌+◌, ◌-◌, ◌^◌, min}
use Rattle.resty_base.specs.declared.names.Ms.{Ms}
use Rattle.connection_plan.specs.Clients.{Times}

pub data Timer : Type 0 where
  Header : Timer
  Keepalive : Timer
  Body : Timer
  Send : Timer

-- the deadline by which it is kept
abbrev pub number_of : Timer → ℕ
number_of Send = 1
number_of timer = 0

-- its setting, by the times of the default server and those of the request
abbrev pub time_of : Times → Times → Timer → ℕ
time_of default_times times Header = default_times.header
time_of default_times times Keepalive = times.keepalive
time_of default_times times Body = times.body
time_of default_times times Send = times.send

-- so long after now: a moment that a number of 64 bits can tell
abbrev pub later : ℕ → ℕ → Ms
later now time = record { 0 = min (now + time) (2 ^ 64 - 1) }
