-- The strands for which room is set aside in the history of a replay, and how much room that is with all else.
use Rattle.std.specs.Prelude.{◌≡◌, ℕ, ◌+◌, ◌*◌, Bool, true, false, List, length, Option, Some, None, if◌then◌else◌}
use Rattle.resty_base.specs.declared.names.StrandId.{StrandId}
use Rattle.resty_world.specs.declared.entry.Entry.{Entry}
use Rattle.resty_world.specs.Calls.{uses_aside, sets_aside, is_strand}
use Rattle.resty_world.specs.Ids.{same_strand}
use Rattle.schedule.specs.OpenIds.{has}

-- the strands, and how many more need no memory
pub record Aside : Type 0 where
  pub strands : List StrandId
  pub free : ℕ

-- room is set aside for the strand
abbrev pub is_aside : Aside → StrandId → Bool
is_aside aside s = has same_strand s aside.strands

-- room is set aside for the strand that is meant
abbrev pub HasAside : Aside → Option StrandId → Type 0
HasAside aside None = Unit {0}
HasAside aside (Some s) = is_aside aside s ≡ true

-- the second is the first after an entry is noted: it has the strand for which that sets room aside, and not the one whose room it uses
abbrev pub IsNoted : Entry → Aside → Aside → Type 0
IsNoted e old new =
    (s : StrandId) → is_aside new s ≡ (if is_strand (sets_aside e) s then true else if is_strand (uses_aside e) s then false else is_aside old s)

-- for how many entries: one for each open id and for each strand, and two for each note, which may set room aside for one more
abbrev pub rooms : ℕ → Aside → ℕ → ℕ
rooms open_count aside spare = open_count + length aside.strands + 2 * spare
