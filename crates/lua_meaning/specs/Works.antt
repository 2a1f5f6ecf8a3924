-- What there is to evaluate, and what evaluating it asks for: the nodes, how they end, and their works.
use Rattle.std.specs.Prelude.{ℕ, Bool, List, ℤ, Option}
use Rattle.lua_values.specs.declared.values.Value.{Value}
use Rattle.lua_values.specs.Heap.{Heap}
use Rattle.lua_ast.specs.declared.expressions.Expr.{Expr}
use Rattle.lua_ast.specs.declared.statements.Stmt.{Stmt}
use Rattle.lua_meaning.specs.declared.positions.Position.{Position}
use Rattle.lua_meaning.specs.declared.resumes.Resumed.{Resumed}
use Rattle.lua_meaning.specs.declared.slots.Slot.{Slot}

-- a Lua function that is running, by its number in the program, and the line at which it calls
pub record Caller : Type 0 where
  pub function : ℕ
  pub line : ℕ

-- Where something is evaluated: in a Lua function, with the cells that it captured and the arguments after its parameters, or,
-- where `lua` is false, in a call. Around it are the Lua functions that call, the innermost first. A tail call has its caller
-- still around it, but gives that up to a Lua function.
pub record Places : Type 0 where
  pub lua : Bool
  pub function : ℕ
  pub cells : List ℕ
  pub extras : List Value
  pub around : List Caller
  pub tail : Bool

-- the local variables of the running function
abbrev pub Slots : Type 0
Slots = List Slot

-- What is evaluated, at the cost of one step: an expression where one value is wanted or all of them, a statement, a run of
-- a loop's body, a call, or what `__index` or `__newindex` leads on to. A number before the operands is a line.
pub data Node : Type 0 where
  AValue : (e : Expr) → Node
  AnExpr : (e : Expr) → Node
  AStmt : (s : Stmt) → Node
  ATurn : (test : Expr) (body : List Stmt) → Node
  ARepeat : (body : List Stmt) (test : Expr) → Node
  AFor : (line slot : ℕ) (i limit step : ℤ) (body : List Stmt) → Node
  AnIter : (line : ℕ) (slots : List ℕ) (f state : Value) (vs : List Value) (body : List Stmt) → Node
  ACall : (f : Value) (args : List Value) → Node
  AnIndex : (line : ℕ) (v key : Value) → Node
  AStore : (line : ℕ) (v key x : Value) → Node

-- How a node ends, as far as the program can tell: with values, by `return`, by `break`, or in a fault. A statement that
-- ends with values is followed by the next one, whatever they are.
pub data Sign : Type 0 where
  Values : (vs : List Value) → Sign
  Return : (vs : List Value) → Sign
  Break : Sign
  Failed : (v : Value) → Sign

-- The work of a node: it evaluates other nodes, leaves a call of the host to the outside, looks at the heap, replaces it,
-- or counts steps, and goes on with what that gave, until it ends.
pub data Work : Type 0 where
  End : (sign : Sign) (s : Slots) → Work
  Eval : (n : Node) (p : Places) (s : Slots) (go : Sign → Slots → Work) → Work
  Outside : (number : ℕ) (args : List Value) (position : Option Position) (go : Resumed → Work) → Work
  Look : (go : Heap → Work) → Work
  Write : (h : Heap) (go : Work) → Work
  Count : (n : ℕ) (go : Work) → Work

-- work that goes on with other work
abbrev pub and_then : Work → (Sign → Slots → Work) → Work
and_then (End sign s) next = next sign s
and_then (Eval n p s go) next = Eval n p s (λ sign s'. and_then (go sign s') next)
and_then (Outside number args position go) next = Outside number args position (λ resumed. and_then (go resumed) next)
and_then (Look go) next = Look (λ h. and_then (go h) next)
and_then (Write h go) next = Write h (and_then go next)
and_then (Count n go) next = Count n (and_then go next)
