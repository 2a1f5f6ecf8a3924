-- Worked rows: what small programs come to, with the steps and the units that they take.
use Rattle.std.specs.Prelude.{◌≡◌, ℕ, ◌-◌, List, [], ◌∷◌, pos, codes}
use Rattle.std.specs.declared.alloc.Global.{Global}
use Rattle.std.specs.declared.vec.Vec.{Vec}
use Rattle.lua_ast.specs.declared.expressions.BinOp.TheVariants.{Add, Sub, Mod, Lt, Eq}
use Rattle.lua_ast.specs.declared.statements.Stmt.{Stmt}
use Rattle.lua_ast.specs.declared.programs.Capture.TheVariants as capture
use Rattle.lua_ast.specs.declared.programs.Function.{Function}
use Rattle.lua_values.specs.declared.values.Value.{Value}
use Rattle.lua_values.specs.declared.values.Value.TheVariants.{Nil, Number, Text, Closure}
use Rattle.lua_values.specs.NativeCalls.{Meaning}
use Rattle.lua_values.specs.Heap.{StoreView}
use Rattle.lua_values.specs.StoreCalls.{new_store, with_closure}
use Rattle.lua_meaning.specs.declared.resumes.Resumed.TheVariants as resumed
use Rattle.lua_meaning.specs.Setting.{Setting}
use Rattle.lua_meaning.specs.Life.{Outcome, Done, Failure, Asks, OutOfSteps, Unbegun, life}
use Rattle.lua_meaning.specs.Trees as tree

-- a row: values or a fault, the steps, and the units beside those from before the call
pub data Row : Type 0 where
  Gives : (vs : List Value) (steps units : ℕ) → Row
  Fails : (v : Value) (steps units : ℕ) → Row
  Other : Row

-- the store before the call: the chunk is a closure of function 0
abbrev pub start : StoreView
start = record { heap = with_closure new_store.heap 0 []; steps = 0 }

abbrev pub row_of : Outcome → Row
row_of (Done vs store) = Gives vs store.steps (store.heap.units - start.heap.units)
row_of (Failure v store) = Fails v store.steps (store.heap.units - start.heap.units)
row_of (Asks number args position store) = Other
row_of OutOfSteps = Other
row_of Unbegun = Other

-- a program with these functions, and any functions of the host
abbrev pub setting_of : ℕ → Meaning → Vec Function Global → Setting
setting_of count lib functions = record { program = tree.program functions; count = count; lib = lib }

-- its row
abbrev pub row : ℕ → Meaning → Vec Function Global → Row
row count lib functions =
    row_of (life (setting_of count lib functions) (Closure 0) [] ((record { store = start; answer = resumed.Values [] }) ∷ []))

-- what holds whatever functions the host has
abbrev pub IsRow : Vec Function Global → Row → Type 0
IsRow functions r = (count : ℕ) (lib : Meaning) → row count lib functions ≡ r

-- a program of one function without parameters, with as many slots as its block needs
abbrev pub chunk : ℕ → Vec Stmt Global → Vec Function Global
chunk slots body = tree.one (tree.function 0 slots tree.none body)

-- `return 1 + 2`
abbrev pub sum : Vec Function Global
sum = chunk 0 (tree.one (tree.returns (tree.one (tree.binary Add (tree.number (pos 1)) (tree.number (pos 2))))))

-- `local a, b = 1 return a, b`
abbrev pub locals : Vec Function Global
locals = chunk 2 (tree.two (tree.locals (tree.two 0 1) (tree.one (tree.number (pos 1)))) (tree.returns (tree.two (tree.slot 0) (tree.slot 1))))

-- `local i = 0 while i < 3 do i = i + 1 end return i`
abbrev pub loop : Vec Function Global
loop = chunk 1 (tree.three (tree.locals (tree.one 0) (tree.one (tree.number (pos 0))))
    (tree.while_do (tree.binary Lt (tree.slot 0) (tree.number (pos 3))) (tree.assign_one (tree.slot 0) (tree.binary Add (tree.slot 0) (tree.number (pos 1)))))
    (tree.returns (tree.one (tree.slot 0))))

-- `if nil then return 1 elseif 2 then return 3 end`
abbrev pub branches : Vec Function Global
branches = chunk 0 (tree.one (tree.if_else_if tree.nil (tree.returns (tree.one (tree.number (pos 1))))
    (tree.number (pos 2)) (tree.returns (tree.one (tree.number (pos 3))))))

-- `local function f(n) if n == 0 then return 0 end return f(n - 1) end return f(3)`
abbrev pub tail_calls : Vec Function Global
tail_calls = tree.two
    (tree.function 0 1 tree.none (tree.two (tree.local_function 0 1) (tree.returns (tree.one (tree.call_one (tree.slot 0) (tree.number (pos 3)))))))
    (tree.function 1 1 (tree.one (capture.Slot 0)) (tree.two
    (tree.if_then (tree.binary Eq (tree.slot 0) (tree.number (pos 0))) (tree.returns (tree.one (tree.number (pos 0)))))
    (tree.returns (tree.one (tree.call_one (tree.captured 0) (tree.binary Sub (tree.slot 0) (tree.number (pos 1))))))))

-- `return 1 % 0`
abbrev pub remainder : Vec Function Global
remainder = chunk 0 (tree.one (tree.returns (tree.one (tree.binary Mod (tree.number (pos 1)) (tree.number (pos 0))))))

-- `local n = 0 for i = 1, 3 do n = n + i end return n`
abbrev pub counting : Vec Function Global
counting = chunk 2 (tree.three (tree.locals (tree.one 0) (tree.one (tree.number (pos 0))))
    (tree.for_do 1 (tree.number (pos 1)) (tree.number (pos 3)) (tree.assign_one (tree.slot 0) (tree.binary Add (tree.slot 0) (tree.slot 1))))
    (tree.returns (tree.one (tree.slot 0))))

-- `local function f(...) return (...), ... end return f(1, 2)`
abbrev pub varargs : Vec Function Global
varargs = tree.two
    (tree.function 0 1 tree.none (tree.two (tree.local_function 0 1)
    (tree.returns (tree.one (tree.call (tree.slot 0) (tree.two (tree.number (pos 1)) (tree.number (pos 2))))))))
    (tree.vararg_function (tree.one (tree.returns (tree.two (tree.paren tree.vararg) tree.vararg))))

-- `local i, t = 1, {} i, t[i] = 2, 3 return i, t[1], t[2]`
abbrev pub assignments : Vec Function Global
assignments = chunk 2 (tree.three (tree.locals (tree.two 0 1) (tree.two (tree.number (pos 1)) tree.empty_table))
    (tree.assigns (tree.two (tree.slot 0) (tree.index (tree.slot 1) (tree.slot 0))) (tree.two (tree.number (pos 2)) (tree.number (pos 3))))
    (tree.returns (tree.three (tree.slot 0) (tree.index (tree.slot 1) (tree.number (pos 1))) (tree.index (tree.slot 1) (tree.number (pos 2))))))

-- `local x = 1 local function f() x = x + 1 return x end return f(), x`
abbrev pub captures : Vec Function Global
captures = tree.two
    (tree.function 0 2 tree.none (tree.three (tree.locals (tree.one 0) (tree.one (tree.number (pos 1)))) (tree.local_function 1 1)
    (tree.returns (tree.two (tree.call (tree.slot 1) tree.none) (tree.slot 0)))))
    (tree.function 0 0 (tree.one (capture.Slot 0)) (tree.two
    (tree.assign_one (tree.captured 0) (tree.binary Add (tree.captured 0) (tree.number (pos 1)))) (tree.returns (tree.one (tree.captured 0)))))

-- each with its steps and units
pub record WorkedRows : Type 0 where
  pub sum : IsRow sum (Gives (Number (pos 3) ∷ []) 5 0)
  pub locals : IsRow locals (Gives (Number (pos 1) ∷ Nil ∷ []) 6 0)
  pub loop : IsRow loop (Gives (Number (pos 3) ∷ []) 36 0)
  pub branches : IsRow branches (Gives (Number (pos 3) ∷ []) 6 0)
  pub tail_calls : IsRow tail_calls (Gives (Number (pos 0) ∷ []) 46 56)
  pub remainder : IsRow remainder (Fails (Text (codes "t.conf:1: attempt to divide by zero")) 5 0)
  pub counting : IsRow counting (Gives (Number (pos 6) ∷ []) 26 0)
  pub varargs : IsRow varargs (Gives (Number (pos 1) ∷ Number (pos 1) ∷ Number (pos 2) ∷ []) 15 32)
  pub assignments : IsRow assignments (Gives (Number (pos 2) ∷ Number (pos 3) ∷ Nil ∷ []) 19 64)
  pub captures : IsRow captures (Gives (Number (pos 2) ∷ Number (pos 2) ∷ []) 16 56)

-- And these are no rows: a step too few, the operands in the other order, and a fault without its position.
pub record SpoiledRows : Type 0 where
  pub step_too_few : IsRow sum (Gives (Number (pos 3) ∷ []) 4 0) → ⊥
  pub other_order : IsRow remainder (Gives (Number (pos 0) ∷ []) 5 0) → ⊥
  pub no_position : IsRow remainder (Fails (Text (codes "attempt to divide by zero")) 5 0) → ⊥
