-- Comparison of values (Lua 5.1 Reference Manual, 2.5.2). Bytes are unsigned, whatever the locale.
use Rattle.std.specs.Prelude.{Bool, true, false, ◌&&◌, if◌then◌else◌}
use Rattle.std.specs.declared.cmp.Ordering.{Ordering}
use Rattle.std.specs.Ordering.{nat_cmp, int_cmp, is_lt, is_le}
use Rattle.std.specs.Cmp.Lexicographic.{slice_cmp}
use Rattle.lua_values.specs.declared.values.Value.{Value}
use Rattle.lua_values.specs.declared.values.Value.TheVariants.{Truth, Number, Text, Table}
use Rattle.lua_values.specs.Values.{same}
use Rattle.lua_operators.specs.declared.comparison.ComparisonOperator.{ComparisonOperator}
use Rattle.lua_operators.specs.declared.comparison.ComparisonOperator.TheVariants.{Less, LessOrEqual}
use Rattle.lua_operators.specs.declared.events.Event.{Event}
use Rattle.lua_operators.specs.declared.events.Event.TheVariants as events
use Rattle.lua_operators.specs.declared.outcome.Outcome.{Outcome}
use Rattle.lua_operators.specs.declared.outcome.Outcome.TheVariants.{Gives, NeedsEvent}

-- its event (2.8)
abbrev pub event_of : ComparisonOperator → Event
event_of Less = events.Lt
event_of LessOrEqual = events.Le

-- the comparison holds of two things in this order
abbrev pub holds : ComparisonOperator → Ordering → Bool
holds Less order = is_lt order
holds LessOrEqual order = is_le order

-- `a < b` or `a <= b`: numbers are ordered as such, and texts by the first bytes that differ, else by their lengths
abbrev pub compared : ComparisonOperator → Value → Value → Outcome
compared operator (Number m) (Number n) = Gives (Truth (holds operator (int_cmp m n)))
compared operator (Text s) (Text t) = Gives (Truth (holds operator (slice_cmp nat_cmp s t)))
compared operator a b = NeedsEvent

abbrev pub is_table : Value → Bool
is_table (Table t) = true
is_table value = false

-- `a == b`: one value is equal to itself, and of two values only tables may have a metatable that says more
abbrev pub equality : Value → Value → Outcome
equality a b = if same a b then Gives (Truth true) else if is_table a && is_table b then NeedsEvent else Gives (Truth false)
