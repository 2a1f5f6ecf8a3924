-- Trees of small programs, written by hand. All of their nodes are at line 1 of the file `t.conf`.
use denote.RawPtr.{null_ptr}
use Rattle.std.specs.Prelude.{ℕ, ℤ, false, [], ◌∷◌, codes, refl, List, None, true}
use Rattle.std.proofs.Common.{lit<, lit≤}
use Rattle.std.specs.declared.rc.Rc.{Rc}
use Rattle.std.specs.declared.vec.Vec.{Vec}
use Rattle.std.specs.declared.alloc.Global.{Global}
use Rattle.lua_ast.specs.declared.expressions.BinOp.{BinOp}
use Rattle.lua_ast.specs.declared.expressions.Expr.{Expr}
use Rattle.lua_ast.specs.declared.expressions.ExprKind.{ExprKind}
use Rattle.lua_ast.specs.declared.expressions.ExprKind.TheVariants as e
use Rattle.lua_ast.specs.declared.statements.Stmt.{Stmt}
use Rattle.lua_ast.specs.declared.statements.StmtKind.{StmtKind}
use Rattle.lua_ast.specs.declared.statements.StmtKind.TheVariants as s
use Rattle.lua_ast.specs.declared.statements.Arm.{Arm, roll-Arm}
use Rattle.lua_ast.specs.declared.programs.Capture.{Capture}
use Rattle.lua_ast.specs.declared.programs.Function.{Function}
use Rattle.lua_ast.specs.declared.programs.Program.{Program}

-- where all of it is kept, which nothing depends on
abbrev pub memory : Global
memory = record { memory = record { seal = record {} } }

abbrev pub shared : {T : Type 0} → T → Rc T Global
shared item = record { ptr = null_ptr; value = item }

-- lists of no item, of one, of two and of three
module _ {T : Type 0} where
  abbrev pub none : Vec T Global
  none = record { ptr = null_ptr; len = 0; cap = 0; alloc = memory; items = []; ok = (refl, lit≤ tt); small = lit< tt }

  abbrev pub one : T → Vec T Global
  one x = record { ptr = null_ptr; len = 1; cap = 1; alloc = memory; items = x ∷ []; ok = (refl, lit≤ tt); small = lit< tt }

  abbrev pub two : T → T → Vec T Global
  two x y = record { ptr = null_ptr; len = 2; cap = 2; alloc = memory; items = x ∷ y ∷ []; ok = (refl, lit≤ tt); small = lit< tt }

  abbrev pub three : T → T → T → Vec T Global
  three x y z = record { ptr = null_ptr; len = 3; cap = 3; alloc = memory; items = x ∷ y ∷ z ∷ []; ok = (refl, lit≤ tt); small = lit< tt }

abbrev pub expr : ExprKind → Expr
expr kind = record { line = 1; kind = kind }

abbrev pub stmt : StmtKind → Stmt
stmt kind = record { line = 1; kind = kind }

abbrev pub number : ℤ → Expr
number n = expr (e.Number n)

abbrev pub slot : ℕ → Expr
slot i = expr (e.Slot i)

abbrev pub captured : ℕ → Expr
captured i = expr (e.Captured i)

abbrev pub nil : Expr
nil = expr e.Nil

abbrev pub vararg : Expr
vararg = expr e.Vararg

abbrev pub paren : Expr → Expr
paren x = expr (e.Paren (shared x))

abbrev pub index : Expr → Expr → Expr
index t key = expr (e.Index (shared t) (shared key))

abbrev pub global : List ℕ → Expr
global name = expr (e.Global name)

-- `function() .. end`, of the function of this number
abbrev pub closure : ℕ → Expr
closure n = expr (e.Function n)

abbrev pub empty_table : Expr
empty_table = expr (e.Table (shared none))

abbrev pub binary : BinOp → Expr → Expr → Expr
binary operator a b = expr (e.Binary operator (shared a) (shared b))

abbrev pub returns : Vec Expr Global → Stmt
returns values = stmt (s.Return (shared values))

-- `local NAMES = VALUES`, in these slots
abbrev pub locals : Vec ℕ Global → Vec Expr Global → Stmt
locals slots values = stmt (s.Local (shared slots) (shared values))

-- `local function NAME`, in a slot, with the function of this number
abbrev pub local_function : ℕ → ℕ → Stmt
local_function i n = stmt (s.LocalFunction i n)

-- `VARIABLE = VALUE`
abbrev pub assign_one : Expr → Expr → Stmt
assign_one target x = stmt (s.Assign (shared (one target)) (shared (one x)))

abbrev pub assigns : Vec Expr Global → Vec Expr Global → Stmt
assigns targets values = stmt (s.Assign (shared targets) (shared values))

-- `FUNCTION(ARGUMENTS)`
abbrev pub call : Expr → Vec Expr Global → Expr
call f args = expr (e.Call (shared f) (shared args))

-- `FUNCTION(ARGUMENT)`
abbrev pub call_one : Expr → Expr → Expr
call_one f x = expr (e.Call (shared f) (shared (one x)))

-- `if TEST then STATEMENT`
abbrev pub arm : Expr → Stmt → Arm
arm test st = roll-Arm (record { test = test; body = shared (one st) })

abbrev pub if_then : Expr → Stmt → Stmt
if_then test st = stmt (s.If (shared (one (arm test st))) (shared none))

abbrev pub if_else_if : Expr → Stmt → Expr → Stmt → Stmt
if_else_if test st other next = stmt (s.If (shared (two (arm test st) (arm other next))) (shared none))

-- `for NAME = FROM, TO do STATEMENT end`, in a slot
abbrev pub for_do : ℕ → Expr → Expr → Stmt → Stmt
for_do i from to st = stmt (s.NumericFor i (shared from) (shared to) None (shared (one st)))

-- `while TEST do STATEMENT end`
abbrev pub while_do : Expr → Stmt → Stmt
while_do test st = stmt (s.While (shared test) (shared (one st)))

-- a function without `...`
abbrev pub function : ℕ → ℕ → Vec Capture Global → Vec Stmt Global → Function
function params slots captures body =
    record { file = 0; params = params; vararg = false; slots = slots; captures = captures; body = shared body; line = 1 }

-- a function with `...` alone
abbrev pub vararg_function : Vec Stmt Global → Function
vararg_function body = record (function 0 0 none body) { vararg = true }

abbrev pub program : Vec Function Global → Program
program functions = record { files = codes "t.conf" ∷ []; functions = functions }
