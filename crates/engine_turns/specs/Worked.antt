-- What turns do to the world: no event is asked of it, and a log line that wasn't written is remembered.
use Rattle.std.specs.Prelude.{◌≡◌, Bool, true, false, List, [], ◌∷◌, IfSome}
use Rattle.std.specs.Option.{option_map}
use Rattle.resty_base.specs.Counting.{Rose}
use Rattle.resty_world.specs.declared.entry.Entry.{Entry}
use Rattle.resty_world.specs.declared.entry.Entry.TheVariants as entry
use Rattle.resty_world.specs.Book.{Book}
use Rattle.engine_turns.specs.declared.turns.Turns.{Turns}

-- the history up to its newest event
abbrev pub to_event : List Entry → List Entry
to_event [] = []
to_event (entry.Given e ∷ h) = entry.Given e ∷ h
to_event (e ∷ h) = to_event h

-- a log line wasn't written
abbrev pub has_failed_log : List Entry → Bool
has_failed_log [] = false
has_failed_log (entry.Log who line false ∷ h) = true
has_failed_log (e ∷ h) = has_failed_log h

abbrev pub HasFailedLog : List Entry → Type 0
HasFailedLog h = has_failed_log h ≡ true

-- a world since it was at an older book: nothing failed, or a log line wasn't written
abbrev pub Logs : Book → Bool → Book → Type 0
Logs old false new = (new.faults ≡ old.faults) × (option_map has_failed_log new.history ≡ option_map has_failed_log old.history)
Logs old true new = Rose old.faults new.faults × IfSome new.history HasFailedLog

-- a world some calls later, of which no event was asked; the flag says whether a log line wasn't written
pub record Worked {V : Type 0} (same : V → V → Type 0) (book : V → Book) (old new : V) (failed_before failed : Bool) : Type 0 where
  pub later : same old new
  pub event : option_map to_event (book new).history ≡ option_map to_event (book old).history
  pub port : (book new).port ≡ (book old).port
  pub logs : (first : Book) → Logs first failed_before (book old) → Logs first failed (book new)

-- the same for turns that were taken
abbrev pub Works : {S V : Type 0} → (V → V → Type 0) → (V → Book) → Turns S → Turns S → V → V → Type 0
Works same book before after old new = Worked same book old new before.log_failed after.log_failed
