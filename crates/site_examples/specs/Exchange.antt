-- One exchange: a client asks, gets its reply, and its connection is closed. Histories and executions have the newest first.
use Rattle.std.specs.Prelude.{ℕ, List, [], ◌∷◌, ◌++◌, None, codes}
use Rattle.resty_base.specs.declared.names.Id.TheVariants as id
use Rattle.resty_base.specs.declared.names.StrandId.TheVariants as strand
use Rattle.resty_world.specs.declared.event.Event.{Event}
use Rattle.resty_world.specs.declared.event.Event.TheVariants as event
use Rattle.resty_world.specs.declared.entry.Entry.{Entry}
use Rattle.resty_world.specs.declared.entry.Entry.TheVariants as entry
use Rattle.resty_world.specs.declared.schedule_line.SchedLine.{SchedLine}
use Rattle.resty_world.specs.declared.schedule_line.SchedLine.TheVariants as line
use Rattle.strand_contract.specs.declared.turns.Place.TheVariants as place
use Rattle.strand_contract.specs.declared.turns.Start.TheVariants as start
use Rattle.strand_contract.specs.Actions.{Moment, Stop, Action, Began, Bytes, Run, Offer, Put, Close, Gone}
use Rattle.executions.specs.Executions.{GlobalAction, Of, Everyone}
use Rattle.http_reply.specs.Lines.{line_end}
use Rattle.run_contract.specs.declared.stored.NoJob.{NoJob}

-- what the client asks
abbrev pub request : List ℕ
request = codes "GET / HTTP/1.0\r\n\r\n"

-- what it gets, with the date of the second in which the reply is made
abbrev pub reply_dated : List ℕ → List ℕ
reply_dated date =
    codes "HTTP/1.1 200 OK" ++ line_end
    ++ codes "Server: resty" ++ line_end
    ++ codes "Date: " ++ date ++ line_end
    ++ codes "Content-Type: text/plain" ++ line_end
    ++ codes "Connection: close" ++ line_end ++ line_end ++ codes "hi\n"

abbrev pub hi_reply : List ℕ
hi_reply = reply_dated (codes "Thu, 01 Jan 1970 00:00:01 GMT")

-- what is given: a moment, the client's arrival and its request
abbrev pub at_second_1 : Event
at_second_1 = event.Moment (record { 0 = 1_000 })

abbrev pub arrives : Event
arrives = event.Arrive 1

abbrev pub asks : Event
asks = event.Bytes (id.Conn 1) request

-- the lines of the schedule
abbrev pub lines : List SchedLine
lines = line.Given at_second_1 ∷ line.Given arrives ∷ line.Given asks ∷ line.Given event.Stop ∷ []

-- the history: up to the request, and whole
abbrev pub asked : List Entry
asked = entry.Given asks ∷ entry.Given arrives ∷ entry.Given at_second_1 ∷ []

abbrev pub history : List Entry
history = entry.Given event.Stop ∷ entry.Close (id.Conn 1) ∷ entry.Put (id.Conn 1) hi_reply ∷ asked

-- the execution: a thread runs for the request, and the reply that it makes is offered
abbrev pub of_client : Action NoJob → GlobalAction NoJob
of_client x = Of (strand.Conn 1) x None

abbrev pub exchange : List (GlobalAction NoJob)
exchange =
    Everyone Stop ∷ of_client Gone ∷ of_client (Close place.Client) ∷ of_client (Put place.Client hi_reply)
    ∷ of_client (Offer place.Client) ∷ of_client (Run 0) ∷ of_client (Bytes place.Client request)
    ∷ of_client (Began 1_000 (start.Client 1)) ∷ Everyone (Moment 1_000) ∷ []
