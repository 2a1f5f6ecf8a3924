-- The texts of events and of the lines of a schedule.
use Rattle.std.specs.Prelude.{ℕ, List, [], ◌++◌, codes, decimal, Some, None}
use Rattle.std.specs.List.{flat_map}
use Rattle.resty_world.specs.declared.event.Event.{Event}
use Rattle.resty_world.specs.declared.event.Event.TheVariants as event
use Rattle.resty_world.specs.declared.schedule_line.SchedLine.{SchedLine}
use Rattle.resty_world.specs.declared.schedule_line.SchedLine.TheVariants as line
use Rattle.schedule_text.specs.Words.{id_text, quoted}

-- an event; what no world gives has no text
abbrev pub event_text : Event → List ℕ
event_text (event.Arrive k) = codes "arrive c" ++ decimal k
event_text (event.Bytes i bytes) = codes "bytes " ++ id_text i ++ codes " " ++ quoted bytes
event_text (event.Ended i) = codes "ended " ++ id_text i
event_text (event.Broken i) = codes "broken " ++ id_text i
event_text (event.Ready i) = codes "ready " ++ id_text i
event_text (event.Dialled n) = codes "dialled s" ++ decimal n
event_text (event.Refused n) = codes "refused s" ++ decimal n
event_text (event.Moment t) = codes "moment " ++ decimal t.0
event_text event.Stop = codes "stop"
event_text e = []

-- a line of a schedule, without its end
abbrev pub line_text : SchedLine → List ℕ
line_text (line.Given e) = event_text e
line_text (line.Room i (Some n)) = codes "room " ++ id_text i ++ codes " " ++ decimal n
line_text (line.Room i None) = codes "room " ++ id_text i ++ codes " all"
line_text line.FailNext = codes "fail next"
line_text line.FailDial = codes "fail dial"
line_text line.FailLog = codes "fail log"
line_text line.FailListen = codes "fail listen"
line_text (line.FailPut i) = codes "fail put " ++ id_text i

-- a line with its end
abbrev pub whole_line : SchedLine → List ℕ
whole_line l = line_text l ++ codes "\n"

-- the lines of a schedule in order
abbrev pub schedule_text : List SchedLine → List ℕ
schedule_text lines = flat_map whole_line lines
