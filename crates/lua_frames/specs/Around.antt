-- The Lua functions around a call.
use Rattle.std.specs.Prelude.{Bool, true, false, List, [], ◌∷◌, if◌then◌else◌}
use Rattle.lua_frames.specs.declared.frames.Frame.{Frame}
use Rattle.lua_frames.specs.declared.frames.Kind.{Kind}
use Rattle.lua_frames.specs.declared.frames.Kind.TheVariants.{Base, Lua, Guard, Handled, Handling}
use Rattle.lua_meaning.specs.Works.{Caller, Places}

abbrev pub is_lua : Kind → Bool
is_lua Base = false
is_lua Lua = true
is_lua Guard = false
is_lua (Handled h) = false
is_lua Handling = false

-- the Lua functions around a call that a frame makes, the innermost first: those around the frame, and its own
abbrev pub deeper : List Caller → Frame → List Caller
deeper around f = if is_lua f.kind then (record { function = f.function; line = f.line }) ∷ around else around

-- and those around one that the innermost of some frames makes, the outermost first
abbrev pub around_of : List Caller → List Frame → List Caller
around_of around [] = around
around_of around (f ∷ fs) = around_of (deeper around f) fs

-- where a frame evaluates
abbrev pub places_of : List Caller → Frame → Places
places_of around f =
    record { lua = is_lua f.kind; function = f.function; cells = f.cells.items; extras = f.extras.items; around = around; tail = false }
