-- Local variables and the functions that they are seen from (Lua 5.1 Reference Manual, 2.6).
use Rattle.std.specs.Prelude.{ℕ, ◌+◌, max, List, map, [], ◌∷◌, ◌++◌, take, length, Option, Some, None, option_map, if◌then◌else◌}
use Rattle.std.specs.Str.{bytes_eq}
use Rattle.lua_ast.specs.declared.programs.Capture.{Capture}
use Rattle.lua_ast.specs.declared.programs.Capture.TheVariants.{Slot, Outer}
use Rattle.lua_ast.specs.declared.programs.Function.{Function}
use Rattle.lua_grammar.specs.Tree.{Bytes}

-- a variable of the enclosing function, and the name by which it was captured
pub record Captured : Type 0 where
  pub name : Bytes
  pub variable : Capture

-- a function whose text is being read: the names of its locals in scope in the order of their slots, its captures in the
-- order of their first mention, and how many locals were in scope at most
pub record Frame : Type 0 where
  pub locals : List Bytes
  pub captures : List Captured
  pub slots : ℕ

-- what is known at a position of the text: an entry for each function whose word `function` stands before it, and the
-- functions that enclose it, the innermost first
pub record Scope : Type 0 where
  pub functions : List Function
  pub enclosing : List Frame

-- the index that was found in the rest of a list, one further on, or else the one here
abbrev pub later : Option ℕ → Option ℕ → Option ℕ
later (Some n) here = Some (n + 1)
later None here = here

-- the index of a name's last occurrence
unfoldable pub last_index : Bytes → List Bytes → Option ℕ
last_index name [] = None
last_index name (x ∷ xs) = later (last_index name xs) (if bytes_eq x name then Some 0 else None)

-- a local comes before a capture
abbrev pub local_or : Option ℕ → Option ℕ → Option Capture
local_or (Some slot) capture = Some (Slot slot)
local_or None capture = option_map Outer capture

-- the variable of that name that a function has without looking further out: its newest local, or else a capture
unfoldable pub own : Bytes → Frame → Option Capture
own name f = local_or (last_index name f.locals) (last_index name (map (λ c. c.name) f.captures))

-- what was found in the functions that enclose `f` is a capture of `f` from now on
abbrev pub handed : Bytes → Frame → Option Capture → List Frame → Option Capture × List Frame
handed name f None enclosing = (None, f ∷ enclosing)
handed name f (Some variable) enclosing =
    (Some (Outer (length f.captures)), record f { captures = f.captures ++ record { name = name; variable = variable } ∷ [] } ∷ enclosing)

-- a variable of `f` itself comes before what was found further out
abbrev pub nearest : Bytes → Frame → List Frame → Option Capture → Option Capture × List Frame → Option Capture × List Frame
nearest name f enclosing (Some variable) further = (Some variable, f ∷ enclosing)
nearest name f enclosing None further = handed name f further.0 further.1

-- Where a name is read or written, it is the nearest variable of that name, and each function on the way to it gets one more
-- capture. Where no enclosing function has one, the name is a global, and nothing is captured.
unfoldable pub look : Bytes → List Frame → Option Capture × List Frame
look name [] = (None, [])
look name (f ∷ enclosing) = nearest name f enclosing (own name f) (look name enclosing)

-- the names become locals of the innermost function, in the next slots
abbrev pub with_locals : List Bytes → Frame → Frame
with_locals names f = record f { locals = f.locals ++ names; slots = max f.slots (length f.locals + length names) }

abbrev pub declare_in : List Bytes → List Frame → List Frame
declare_in names [] = []
declare_in names (f ∷ enclosing) = with_locals names f ∷ enclosing

abbrev pub declare : List Bytes → Scope → Scope
declare names s = record s { enclosing = declare_in names s.enclosing }

-- how many locals of the innermost function are in scope
abbrev pub count_in : List Frame → ℕ
count_in [] = 0
count_in (f ∷ enclosing) = length f.locals

abbrev pub in_scope : Scope → ℕ
in_scope s = count_in s.enclosing

-- the slots of names, from that one on
unfoldable pub slots_from : ℕ → List Bytes → List ℕ
slots_from slot [] = []
slots_from slot (name ∷ names) = slot ∷ slots_from (slot + 1) names

-- after a block that was entered with so many locals, those that it declared are out of scope
abbrev pub leave_in : ℕ → List Frame → List Frame
leave_in count [] = []
leave_in count (f ∷ enclosing) = record f { locals = take count f.locals } ∷ enclosing

abbrev pub leave : Scope → Scope → Scope
leave before after = record after { enclosing = leave_in (in_scope before) after.enclosing }

-- a function begins, with its parameters as its first locals: until it ends, `kept` is its entry among the functions
abbrev pub enter : List Bytes → Function → Scope → Scope
enter names kept s = record {
  functions = s.functions ++ kept ∷ [];
  enclosing = record { locals = names; captures = []; slots = length names } ∷ s.enclosing;
}
