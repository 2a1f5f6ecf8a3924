-- What statements are built of.
use Rattle.std.specs.Prelude.{◌≡◌, ℕ, List, [], ◌∷◌, Option, Some, None, option_map, Vec}
use Rattle.std.specs.Global.{Global}
use Rattle.lua_ast.specs.declared.expressions.Expr.{Expr}
use Rattle.lua_ast.specs.declared.expressions.ExprKind as kind
use Rattle.lua_ast.specs.declared.statements.Stmt.{Stmt}
use Rattle.lua_ast.specs.declared.statements.StmtKind as stmt
use Rattle.lua_ast.specs.declared.statements.Arm.{Arm, out-Arm}
use Rattle.lua_grammar.specs.Tree.{Line}
use Rattle.lua_grammar.specs.Resolution.{Shared, SharedList, node, statement}
use Rattle.lua_parser_base.specs.declared.statement_nodes.Range.{Range}
use Rattle.lua_parser_base.specs.declared.statement_nodes.LoopBlock.{LoopBlock}

pub record IsArm (e : Expr) (statements : List Stmt) (arm : Arm) : Type 0 where
  pub test : (out-Arm arm).test ≡ e
  pub body : (out-Arm arm).body.value.items ≡ statements

pub record IsIf (line : Line) (arms : List Arm) (otherwise : List Stmt) (s : Stmt) : Type 0 where
  pub list : SharedList Arm
  pub block : SharedList Stmt
  pub same_list : list.value.items ≡ arms
  pub same_block : block.value.items ≡ otherwise
  pub built : s ≡ statement line (stmt.If list block)

pub record IsWhile (line : Line) (test : Expr) (body : List Stmt) (s : Stmt) : Type 0 where
  pub test_node : Shared
  pub run : SharedList Stmt
  pub same_test : test_node.value ≡ test
  pub same_run : run.value.items ≡ body
  pub built : s ≡ statement line (stmt.While test_node run)

pub record IsDo (line : Line) (body : List Stmt) (s : Stmt) : Type 0 where
  pub run : SharedList Stmt
  pub same_run : run.value.items ≡ body
  pub built : s ≡ statement line (stmt.Do run)

pub record IsRepeat (line : Line) (body : List Stmt) (test : Expr) (s : Stmt) : Type 0 where
  pub run : SharedList Stmt
  pub test_node : Shared
  pub same_run : run.value.items ≡ body
  pub same_test : test_node.value ≡ test
  pub built : s ≡ statement line (stmt.Repeat run test_node)

-- the first of the slots, if there is one
abbrev pub Begins : ℕ → List ℕ → Type 0
Begins slot [] = Unit {0}
Begins slot (first ∷ others) = slot ≡ first

pub record IsNumericFor (line : Line) (range : Range) (block : LoopBlock) (s : Stmt) : Type 0 where
  pub slot : ℕ
  pub from : Shared
  pub to : Shared
  pub step : Option Shared
  pub run : SharedList Stmt
  pub first : Begins slot block.slots.items
  pub same_from : from.value ≡ range.from
  pub same_to : to.value ≡ range.to
  pub same_step : option_map (λ e. e.value) step ≡ range.step
  pub same_run : run.value.items ≡ block.body.items
  pub built : s ≡ statement line (stmt.NumericFor slot from to step run)

pub record IsGenericFor (line : Line) (values : List Expr) (block : LoopBlock) (s : Stmt) : Type 0 where
  pub slots : SharedList ℕ
  pub given : SharedList Expr
  pub run : SharedList Stmt
  pub same_slots : slots.value.items ≡ block.slots.items
  pub same_given : given.value.items ≡ values
  pub same_run : run.value.items ≡ block.body.items
  pub built : s ≡ statement line (stmt.GenericFor slots given run)

-- the expressions, none where there are none
abbrev pub given_of : Option (Vec Expr Global) → List Expr
given_of (Some values) = values.items
given_of None = []

pub record IsLocal (line : Line) (slots : List ℕ) (values : Option (Vec Expr Global)) (s : Stmt) : Type 0 where
  pub list : SharedList ℕ
  pub given : SharedList Expr
  pub same_slots : list.value.items ≡ slots
  pub same_given : given.value.items ≡ given_of values
  pub built : s ≡ statement line (stmt.Local list given)

pub record IsAssign (line : Line) (targets values : List Expr) (s : Stmt) : Type 0 where
  pub list : SharedList Expr
  pub given : SharedList Expr
  pub same_list : list.value.items ≡ targets
  pub same_given : given.value.items ≡ values
  pub built : s ≡ statement line (stmt.Assign list given)

-- a function is assigned
abbrev pub Defines : Line → Expr → ℕ → Stmt → Type 0
Defines line target number s = IsAssign line (target ∷ []) (node line (kind.Function number) ∷ []) s

pub record IsReturn (line : Line) (values : List Expr) (s : Stmt) : Type 0 where
  pub given : SharedList Expr
  pub same_given : given.value.items ≡ values
  pub built : s ≡ statement line (stmt.Return given)
