-- The event and the line of a schedule that a text is, if it is one. A text that begins with no word of a line is taken as the
-- event `Fault`, which no line gives.
use Rattle.std.specs.Prelude.{List, ℕ, Option, Some, None, codes, if◌then◌else◌}
use Rattle.resty_base.specs.Ascii.{letter_a}
use Rattle.resty_world.specs.declared.event.Event.{Event}
use Rattle.resty_world.specs.declared.event.Event.TheVariants as event
use Rattle.resty_world.specs.declared.schedule_line.SchedLine.{SchedLine}
use Rattle.resty_world.specs.declared.schedule_line.SchedLine.TheVariants as line
use Rattle.schedule_text.specs.Found.{begins, is, word_of, rest_of, numbered, number_in, id_in, unquoted}

-- the coming of bytes: an id, and the bytes
abbrev pub bytes_event : List ℕ → Event
bytes_event text = event.Bytes (id_in (word_of text)) (unquoted (rest_of text))

-- an event but the coming of bytes, by its first word and what stands after that
abbrev pub plain_event : List ℕ → List ℕ → Event
plain_event word rest =
    if is word (codes "arrive") then event.Arrive (numbered rest)
    else if is word (codes "ended") then event.Ended (id_in rest)
    else if is word (codes "broken") then event.Broken (id_in rest)
    else if is word (codes "ready") then event.Ready (id_in rest)
    else if is word (codes "dialled") then event.Dialled (numbered rest)
    else if is word (codes "refused") then event.Refused (numbered rest)
    else if is word (codes "moment") then event.Moment record { 0 = number_in rest }
    else if is word (codes "stop") then event.Stop
    else event.Fault

-- an event
abbrev pub event_in : List ℕ → Event
event_in text = if is (word_of text) (codes "bytes") then bytes_event (rest_of text) else plain_event (word_of text) (rest_of text)

-- `all`, or for how many bytes there is room
abbrev pub room_in : List ℕ → Option ℕ
room_in text = if begins letter_a text then None else Some (number_in text)

-- what is to fail
abbrev pub fail_in : List ℕ → SchedLine
fail_in text =
    if is text (codes "next") then line.FailNext
    else if is text (codes "dial") then line.FailDial
    else if is text (codes "log") then line.FailLog
    else if is text (codes "listen") then line.FailListen
    else line.FailPut (id_in (rest_of text))

-- a line
abbrev pub line_in : List ℕ → SchedLine
line_in text =
    if is (word_of text) (codes "room") then line.Room (id_in (word_of (rest_of text))) (room_in (rest_of (rest_of text)))
    else if is (word_of text) (codes "fail") then fail_in (rest_of text)
    else line.Given (event_in text)
