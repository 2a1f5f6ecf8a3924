-- The ranges of what stands in a line: each kind of line has one case here and one in its texts.
use Rattle.std.specs.Prelude.{◌≡◌, ℕ, ◌+◌, ◌<◌, ◌≤◌, ℤ, pos, negsuc, Bool, true, ◌==◌, ◌||◌, ◌&&◌, nat_le, List, length, All, Option, Some, None}
use Rattle.resty_base.specs.Ascii.{dash, dot, underscore}
use Rattle.resty_base.specs.declared.dictionary.DictAnswer.{DictAnswer}
use Rattle.resty_base.specs.declared.dictionary.DictAnswer.TheVariants as answer
use Rattle.resty_base.specs.declared.dictionary.DictCall.{DictCall}
use Rattle.resty_base.specs.declared.dictionary.DictCall.TheVariants as call
use Rattle.resty_base.specs.declared.dictionary.DictValue.{DictValue}
use Rattle.resty_base.specs.declared.dictionary.DictValue.TheVariants as value
use Rattle.resty_base.specs.declared.names.Id.{Id}
use Rattle.resty_base.specs.declared.names.Id.TheVariants as id
use Rattle.resty_base.specs.declared.names.StrandId.{StrandId}
use Rattle.resty_base.specs.declared.names.StrandId.TheVariants as strand
use Rattle.resty_world.specs.declared.answers.TimerAnswer.{TimerAnswer}
use Rattle.resty_world.specs.declared.answers.TimerAnswer.TheVariants as timer
use Rattle.resty_world.specs.declared.entry.Entry.{Entry}
use Rattle.resty_world.specs.declared.entry.Entry.TheVariants as entry
use Rattle.resty_world.specs.declared.event.Event.{Event}
use Rattle.resty_world.specs.declared.event.Event.TheVariants as event
use Rattle.resty_world.specs.declared.schedule_line.SchedLine.{SchedLine}
use Rattle.resty_world.specs.declared.schedule_line.SchedLine.TheVariants as line
use Rattle.resty_world.specs.Given.{last_moment}

-- the greatest number: one of 18 digits
abbrev pub last_number : ℕ
last_number = 999_999_999_999_999_999

-- a number from 0 on
abbrev pub IsNumber : ℕ → Type 0
IsNumber n = n ≤ last_number

-- the number of a connection, a socket or a job: each kind is numbered from 1
abbrev pub IsOrdinal : ℕ → Type 0
IsOrdinal n = (0 < n) × (n ≤ last_number)

-- a number of at most 32 bits: flags, uses, a size, a count
abbrev pub IsSmall : ℕ → Type 0
IsSmall n = n ≤ 4_294_967_295

-- a number that may be below 0
abbrev pub IsInteger : ℤ → Type 0
IsInteger (pos n) = IsNumber n
IsInteger (negsuc n) = IsNumber (n + 1)

-- each is below 256
abbrev pub IsBytes : List ℕ → Type 0
IsBytes bytes = All (λ b. b < 256) bytes

-- bytes that came at a time
pub record IsReceived (bytes : List ℕ) : Type 0 where
  pub some : 0 < length bytes
  pub within : length bytes ≤ 65_536
  pub each : IsBytes bytes

-- four numbers below 256
pub record IsHost (host : List ℕ) : Type 0 where
  pub four : length host ≡ 4
  pub each : IsBytes host

-- a letter (97 to 122 and 65 to 90), a digit (48 to 57), `_`, `-` or `.`
abbrev pub is_zone_byte : ℕ → Bool
is_zone_byte b =
    nat_le 97 b && nat_le b 122 || nat_le 65 b && nat_le b 90 || nat_le 48 b && nat_le b 57 || b == underscore || b == dash || b == dot

-- the name of a dictionary
pub record IsZone (zone : List ℕ) : Type 0 where
  pub some : 0 < length zone
  pub each : All (λ b. is_zone_byte b ≡ true) zone

-- a connection or a socket
abbrev pub IsId : Id → Type 0
IsId (id.Conn c) = IsOrdinal c
IsId (id.Sock n) = IsOrdinal n

-- a strand
abbrev pub IsStrand : StrandId → Type 0
IsStrand (strand.Conn c) = IsOrdinal c
IsStrand (strand.Job n) = IsOrdinal n

-- an event that a world gives
abbrev pub IsEvent : Event → Type 0
IsEvent (event.Arrive k) = IsOrdinal k
IsEvent (event.Bytes i bytes) = IsId i × IsReceived bytes
IsEvent (event.Ended i) = IsId i
IsEvent (event.Broken i) = IsId i
IsEvent (event.Ready i) = IsId i
IsEvent (event.Dialled n) = IsOrdinal n
IsEvent (event.Refused n) = IsOrdinal n
IsEvent (event.Moment t) = t.0 ≤ last_moment
IsEvent event.Stop = Unit {0}
IsEvent e = ⊥

-- for how many bytes there is room, for all where no number stands
abbrev pub IsRoom : Option ℕ → Type 0
IsRoom None = Unit {0}
IsRoom (Some n) = IsNumber n

-- a line of a schedule
abbrev pub IsLine : SchedLine → Type 0
IsLine (line.Given e) = IsEvent e
IsLine (line.Room i n) = IsId i × IsRoom n
IsLine line.FailNext = Unit {0}
IsLine line.FailDial = Unit {0}
IsLine line.FailLog = Unit {0}
IsLine line.FailListen = Unit {0}
IsLine (line.FailPut i) = IsId i

-- a socket, if there is one
abbrev pub IsSocket : Option ℕ → Type 0
IsSocket None = Unit {0}
IsSocket (Some n) = IsOrdinal n

-- a value that a dictionary keeps
abbrev pub IsValue : DictValue → Type 0
IsValue (value.Text bytes) = IsBytes bytes
IsValue (value.Number n) = IsInteger n
IsValue (value.Truth b) = Unit {0}

-- the value with which a key that isn't there begins to count, and its time to live, which is 0 where there is none
abbrev pub IsInit : Option ℤ → ℕ → Type 0
IsInit None ttl = ttl ≡ 0
IsInit (Some n) ttl = IsInteger n × IsNumber ttl

-- a call of a dictionary
abbrev pub IsCall : DictCall → Type 0
IsCall (call.Get key) = IsBytes key
IsCall (call.Store how key value ttl flags) = IsBytes key × IsValue value × IsNumber ttl × IsSmall flags
IsCall (call.Delete key) = IsBytes key
IsCall (call.Incr key by init ttl) = IsBytes key × IsInteger by × IsInit init ttl
IsCall call.FlushAll = Unit {0}
IsCall (call.FlushExpired most) = IsSmall most
IsCall (call.Keys most) = IsSmall most

-- the answer of a dictionary
abbrev pub IsAnswer : DictAnswer → Type 0
IsAnswer (answer.Found v flags) = IsValue v × IsSmall flags
IsAnswer answer.Nothing = Unit {0}
IsAnswer (answer.Done forcible) = Unit {0}
IsAnswer answer.Exists = Unit {0}
IsAnswer answer.Missing = Unit {0}
IsAnswer (answer.NoMemory forcible) = Unit {0}
IsAnswer answer.NotNumber = Unit {0}
IsAnswer answer.OutOfRange = Unit {0}
IsAnswer (answer.Number n forcible) = IsInteger n
IsAnswer (answer.Count n) = IsSmall n
IsAnswer (answer.Names names) = All IsBytes names

-- what a pool gave: a socket and its uses
abbrev pub IsTaken : Option (ℕ × ℕ) → Type 0
IsTaken None = Unit {0}
IsTaken (Some taken) = IsOrdinal taken.0 × IsSmall taken.1

-- what was returned where a timer was asked for
abbrev pub IsTimer : TimerAnswer → Type 0
IsTimer (timer.Job n) = IsOrdinal n
IsTimer timer.Full = Unit {0}
IsTimer timer.Exiting = Unit {0}

-- an entry of a history that isn't of what a strand did
abbrev pub IsPlain : Entry → Type 0
IsPlain (entry.Given e) = IsEvent e
IsPlain (entry.Put i bytes) = IsId i × IsBytes bytes
IsPlain (entry.Later i) = IsId i
IsPlain (entry.Lost i) = IsId i
IsPlain (entry.Close i) = IsId i
IsPlain (entry.Start n) = IsOrdinal n
IsPlain (entry.Turned c) = IsOrdinal c
IsPlain (entry.Dropped who) = IsStrand who
IsPlain e = ⊥

-- an entry of a history
abbrev pub IsEntry : Entry → Type 0
IsEntry (entry.Dial who host port n) = IsStrand who × IsHost host × (port ≤ 65_535) × IsSocket n
IsEntry (entry.Log who text written) = IsStrand who × IsBytes text
IsEntry (entry.Dict who zone call answer) = IsStrand who × IsZone zone × IsCall call × IsAnswer answer
IsEntry (entry.Take who key got) = IsStrand who × IsBytes key × IsTaken got
IsEntry (entry.Keep who n key idle size closed) = IsStrand who × IsOrdinal n × IsBytes key × IsNumber idle.0 × IsSmall size × IsSocket closed
IsEntry (entry.Timer who due answer) = IsStrand who × IsNumber due.0 × IsTimer answer
IsEntry e = IsPlain e
