-- Numeric `for` loops that have their bounds (Lua 5.1 Reference Manual, 2.4.5).
use Rattle.std.specs.Prelude.{◌≡◌, ℕ, List, drop, Result, Ok, Err}
use Rattle.lua_ast.specs.declared.statements.Stmt.{Stmt}
use Rattle.lua_values.specs.declared.values.Value.{Value}
use Rattle.lua_operators.specs.declared.faults.Fault.{Fault}
use Rattle.lua_meaning.specs.Works.{Places, Slots, Node, AFor, Work, and_then}
use Rattle.lua_meaning.specs.Setting.{Setting}
use Rattle.lua_meaning.specs.Positions.{callers_at, raise_fault}
use Rattle.lua_meaning.specs.Blocks.{block}
use Rattle.lua_meaning.specs.Loops.{after_body, for_from, for_work}
use Rattle.lua_frames.specs.declared.loops.Counter.{Counter}
use Rattle.lua_frames.specs.Items.{counted}
use Rattle.lua_vm_loops.specs.declared.ranges.Range.{Range}

-- a `for` over these numbers, or its fault
abbrev pub ranged : Setting → ℕ → ℕ → Result Range Fault → List Stmt → Places → Slots → Work
ranged S line slot (Ok r) body p s = for_from line slot r.from r.limit r.step body p s
ranged S line slot (Err fault) body p s = raise_fault S (callers_at p line) fault s

-- any `for` with these bounds is one over these numbers
abbrev pub Counts : Value → Value → Value → Result Range Fault → Type 0
Counts from to by r =
    (S : Setting) (line slot : ℕ) (body : List Stmt) (p : Places) (s : Slots) → for_work S line slot from to by body p s ≡ ranged S line slot r body p s

-- a `for` that comes to a counter's number, and a run of its body for that
abbrev pub counts_from : Counter → Places → Slots → Work
counts_from c p s = for_from c.line c.slot c.at c.limit c.step c.body.value.items p s

abbrev pub run_of : Counter → Node
run_of c = AFor c.line c.slot c.at c.limit c.step c.body.value.items

-- what is left of that run, whose statements were run up to an index
abbrev pub run_from : Setting → Counter → ℕ → Places → Slots → Work
run_from S c next p s = and_then (block (drop next c.body.value.items) p s) (after_body (counted S c p))
