-- The position of one Lua function.
use Rattle.std.specs.Prelude.{◌≡◌, ℕ, List, ◌∷◌, Option, Some, None}
use Rattle.lua_meaning.specs.declared.positions.Position.{Position}
use Rattle.lua_meaning.specs.Works.{Caller}
use Rattle.lua_meaning.specs.Setting.{Setting}
use Rattle.lua_meaning.specs.Positions.{position_of}

-- this position, if there is one, is that of faults in the function at the line; if not, it is that of the callers around it
abbrev pub IsPositionIn : Setting → ℕ → ℕ → Option Position → Type 0
IsPositionIn S function line None = (callers : List Caller) → position_of S ((record { function = function; line = line }) ∷ callers) ≡ position_of S callers
IsPositionIn S function line (Some position) = (callers : List Caller) → position_of S ((record { function = function; line = line }) ∷ callers) ≡ Some position
