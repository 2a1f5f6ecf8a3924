-- The words of a command, and the table of modes.
use Rattle.std.specs.Prelude.{◌≡◌, ◌≢◌, ℕ, ◌<◌, ◌^◌, Bool, true, false, List, [], ◌∷◌, map, codes, decimal, string_bytes}
use Rattle.std.specs.declared.alloc.Global.{Global}
use Rattle.std.specs.declared.string.String.{String}
use Rattle.commands.specs.declared.command_line.Mode.{Mode}
use Rattle.commands.specs.declared.command_line.Mode.TheVariants as mode
use Rattle.commands.specs.declared.command_line.Row.{Row}

-- the bytes of each word
abbrev pub texts : List (String Global) → List (List ℕ)
texts words = map string_bytes words

-- the name of a mode
abbrev pub mode_name : Mode → List ℕ
mode_name mode.Check = codes "check"
mode_name mode.Replay = codes "replay"
mode_name mode.Serve = codes "serve"

-- the table of modes: which options each takes after `--conf F`
abbrev pub row_of : Mode → Row
row_of mode.Check = record { has_schedule = false; counts_events = false }
row_of mode.Replay = record { has_schedule = true; counts_events = true }
row_of mode.Serve = record { has_schedule = false; counts_events = true }

-- what words ask for: a mode, the name of the configuration and that of the schedule, and how many events are given at most
pub record Command : Type 0 where
  pub mode : Mode
  pub conf : List ℕ
  pub schedule : List ℕ
  pub events : ℕ

-- a value isn't empty, and doesn't begin with a dash
abbrev pub IsValue : List ℕ → Type 0
IsValue [] = ⊥
IsValue (first ∷ rest) = first ≢ 45

-- the words are `--schedule` and a name, and these come after it; where the mode has no schedule the world's lines are called `live`
abbrev pub HasSchedule : Bool → List ℕ → List (List ℕ) → List (List ℕ) → Type 0
HasSchedule true name rest words = (words ≡ codes "--schedule" ∷ name ∷ rest) × IsValue name
HasSchedule false name rest words = (words ≡ rest) × (name ≡ codes "live")

-- a number of events has 1 to 18 digits, the first of which isn't 0
pub record IsCount (word : List ℕ) (count : ℕ) : Type 0 where
  pub digits : word ≡ decimal count
  pub some : 0 < count
  pub short : count < 10 ^ 18

-- how many events are given at most where the words don't say it
abbrev pub all_events : ℕ
all_events = 900_000_000_000_000_000

-- the words are `--events` and a number, where the mode takes it, or none
abbrev pub AsksEvents : Bool → ℕ → List (List ℕ) → Type 0
AsksEvents takes count [] = count ≡ all_events
AsksEvents true count (option ∷ word ∷ []) = (option ≡ codes "--events") × IsCount word count
AsksEvents takes count words = ⊥

-- the words are this command: its mode, `--conf` and a name, and then what the table says
pub record Says (words : List (List ℕ)) (command : Command) : Type 0 where
  pub options : List (List ℕ)
  pub last : List (List ℕ)
  pub form : words ≡ mode_name command.mode ∷ codes "--conf" ∷ command.conf ∷ options
  pub conf : IsValue command.conf
  pub schedule : HasSchedule (row_of command.mode).has_schedule command.schedule last options
  pub events : AsksEvents (row_of command.mode).counts_events command.events last

-- the words are a command
abbrev pub IsForm : List (List ℕ) → Type 0
IsForm words = (command : Command) × Says words command

-- the words ask to serve the live world
abbrev pub AsksToServe : List (List ℕ) → Type 0
AsksToServe words = (command : Command) × Says words command × (command.mode ≡ mode.Serve)
