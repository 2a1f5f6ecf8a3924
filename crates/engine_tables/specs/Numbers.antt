-- The numbers of deadlines, by strand and by the strand's own number.
use Rattle.std.specs.Prelude.{ℕ, nat_eq, ◌==◌, ◌&&◌, length, Option, Some, None, if◌then◌else◌}
use Rattle.std.specs.Map.{lookup}
use Rattle.indexmap.specs.IndexMap.{IndexMap, get}
use Rattle.resty_base.specs.contracts.names.StrandIdPartialEq.TheImpl as derived
use Rattle.resty_base.specs.declared.names.StrandId.{StrandId}
use Rattle.resty_world.specs.Ids.{same_strand}
use Rattle.engine_tables.specs.declared.numbers.Numbers.{Numbers}

-- a strand's deadlines that are armed, by its own numbers
abbrev pub number_in : {H : Type 0} → ℕ → Option (IndexMap ℕ ℕ H) → Option ℕ
number_in k None = None
number_in k (Some own) = get nat_eq own k

abbrev pub number_at : Numbers → StrandId → ℕ → Option ℕ
number_at numbers s k = number_in k (lookup (derived.ghosts.eq s) numbers.by_strand.entries)

-- how many they are
abbrev pub count_in : {H : Type 0} → Option (IndexMap ℕ ℕ H) → ℕ
count_in None = 0
count_in (Some own) = length own.entries

abbrev pub count_at : Numbers → StrandId → ℕ
count_at numbers s = count_in (lookup (derived.ghosts.eq s) numbers.by_strand.entries)

-- the numbers, where that of one deadline is put, or is taken out
abbrev pub changed : StrandId → ℕ → Option ℕ → (StrandId → ℕ → Option ℕ) → StrandId → ℕ → Option ℕ
changed who k number numbers s j = if same_strand who s && (k == j) then number else numbers s j
