-- Positions, and faults with their texts. The position of a fault is that of the innermost running Lua function whose file
-- has a name.
use Rattle.std.specs.Prelude.{ℕ, Bool, true, false, List, [], ◌∷◌, ◌++◌, Option, Some, None, slice_get, unwrap_or, if◌then◌else◌}
use Rattle.std.specs.Option.{option_map}
use Rattle.lua_ast.specs.declared.programs.Function.{Function}
use Rattle.lua_values.specs.declared.values.Value.{Value}
use Rattle.lua_values.specs.declared.values.Value.TheVariants.{Text}
use Rattle.lua_operators.specs.declared.faults.Fault.{Fault}
use Rattle.lua_operators.specs.declared.faults.OperandFault.{OperandFault}
use Rattle.lua_operators.specs.Faults.{fault_text}
use Rattle.lua_operators.specs.OperandFaults.{operand_fault_text}
use Rattle.lua_operators.specs.Positions.{position}
use Rattle.lua_meaning.specs.declared.positions.Position.{Position}
use Rattle.lua_meaning.specs.Works.{Caller, Places, Slots, Failed, Work, End}
use Rattle.lua_meaning.specs.Setting.{Setting}

-- the Lua functions that run at a place, of which the innermost is at this line
abbrev pub callers_at : Places → ℕ → List Caller
callers_at p line = if p.lua then (record { function = p.function; line = line }) ∷ p.around else p.around

-- the name of a file of the program
abbrev pub name_of : Setting → ℕ → List ℕ
name_of S file = unwrap_or (slice_get S.program.files file) []

-- the file of a function of the program
abbrev pub file_of : Setting → ℕ → Option ℕ
file_of S function = option_map (λ (f : Function). f.file) (slice_get S.program.functions.items function)

abbrev pub is_name : List ℕ → Bool
is_name [] = false
is_name (c ∷ cs) = true

abbrev pub is_named : Setting → Option ℕ → Bool
is_named S None = false
is_named S (Some file) = is_name (name_of S file)

-- the position of the first of these functions whose file has a name
abbrev pub position_of : Setting → List Caller → Option Position
position_of S [] = None
position_of S (c ∷ callers) =
    if is_named S (file_of S c.function)
    then Some (record { file = unwrap_or (file_of S c.function) 0; line = c.line })
    else position_of S callers

-- its text, which stands before that of a fault
abbrev pub position_text : Setting → Option Position → List ℕ
position_text S None = []
position_text S (Some at) = position (name_of S at.file) at.line

-- a text after the position
abbrev pub positioned : Setting → List Caller → List ℕ → Value
positioned S callers text = Text (position_text S (position_of S callers) ++ text)

-- a fault ends a node
abbrev pub raise : Setting → List Caller → List ℕ → Slots → Work
raise S callers text s = End (Failed (positioned S callers text)) s

abbrev pub raise_fault : Setting → List Caller → Fault → Slots → Work
raise_fault S callers fault s = raise S callers (fault_text fault) s

abbrev pub raise_operand : Setting → List Caller → OperandFault → Slots → Work
raise_operand S callers fault s = raise S callers (operand_fault_text fault) s
