-- What is read of statements between two states: a tree of a production, which prints to the tokens between them, is valid,
-- and resolves in the scope before it to a part of the program and the scope after it.
use Rattle.std.specs.Prelude.{◌≡◌, ℕ, ◌+◌, ◌≤◌, true, List, [], Option, Some, None, Vec}
use Rattle.std.specs.Global.{Global}
use Rattle.lua_ast.specs.declared.expressions.Expr.{Expr}
use Rattle.lua_ast.specs.declared.statements.Stmt.{Stmt}
use Rattle.lua_ast.specs.declared.statements.Arm.{Arm, out-Arm}
use Rattle.lua_lexer.specs.declared.tokens.TokenKind.TheVariants.{Name as NameKind, Sign as SignKind}
use Rattle.lua_lexer.specs.declared.signs.Sign.{Sign}
use Rattle.lua_lexer.specs.declared.signs.Sign.TheVariants.{Assign, Comma}
use Rattle.lua_lexer.specs.declared.words.Word.TheVariants.{Do, End as EndWord, For as ForWord, Function as FunctionWord, If as IfWord, Local as LocalWord}
use Rattle.lua_lexer.specs.declared.words.Word.TheVariants.{Then}
use Rattle.lua_grammar.specs.Tree.{Line, Bytes, Exp, PrefixExp, ExpList, FuncName, Block, Stats, Stat, Arms, LastStat, VarList, NameList}
use Rattle.lua_grammar.specs.Tree as tree
use Rattle.lua_grammar.specs.Printing.{a_kind, a_word, print_exp, print_prefixexp, print_explist, print_block, print_stats, print_stat, print_arms}
use Rattle.lua_grammar.specs.Printing.{print_laststat, print_varlist, print_names, print_funcname}
use Rattle.lua_grammar.specs.Levels.{levels, prefix_levels, list_levels, block_levels, stats_levels, stat_levels, arms_levels, last_levels, vars_levels}
use Rattle.lua_grammar.specs.Levels.{funcname_height}
use Rattle.lua_grammar.specs.Validity.{IsValid, IsValidPrefix, IsVariable, AreValid, IsValidBlock, AreValidStats, IsValidStat, AreValidArms, IsValidLast}
use Rattle.lua_grammar.specs.Validity.{AreValidVars, EndsWithPrefix, ListEndsWithPrefix, StatEndsWithPrefix}
use Rattle.lua_grammar.specs.Resolution.{Resolves, ResolvesPrefix, ResolvesList, ResolvesFuncName, Opens, ResolvesStats, ResolvesStat, ResolvesArms}
use Rattle.lua_grammar.specs.Resolution.{ResolvesLast, ResolvesVars, vars_line, arms_line}
use Rattle.lua_grammar.specs.Scopes.{Scope, declare, leave, in_scope, slots_from}
use Rattle.lua_parser_base.specs.declared.nesting.Nesting.{Nesting}
use Rattle.lua_parser_base.specs.declared.statement_nodes.LoopBlock.{LoopBlock}
use Rattle.lua_parser_base.specs.declared.statement_nodes.FunctionName.{FunctionName}
use Rattle.lua_parser_base.specs.Nodes.{IsMember}
use Rattle.lua_grammar.specs.Stopping.{EndsAt, IsApart, IsNoComma, Stops as EndsBefore, LastStops, StatStops, StatsStop, LastStatStops, BlockStops, ArmsStop}
use Rattle.lua_grammar.specs.Waiting.{Reader, more_vars}
use Rattle.lua_parser_base.specs.States.{State, Takes, Stops}
use Rattle.lua_parser_base.specs.Readers.{Moves}
use Rattle.lua_parser_base.specs.Next.{ahead}

-- a block nested so, with its locals in the scope after it
pub record ReadsBlock (at : Nesting) (s : State) (out : List Stmt) (t : State) : Type 0 where
  pub tree : Block
  pub printed : s.left ≡ print_block tree t.left
  pub valid : IsValidBlock at.vararg at.in_loop tree
  pub deep : at.depth + block_levels tree ≤ 201
  pub resolved : Opens tree s.scope out t.scope
  pub ends : BlockStops tree (a_kind (ahead t) 1 [])

-- a block within one nested so, whose locals are out of scope after it
pub record ReadsScoped (at : Nesting) (s : State) (out : List Stmt) (t : State) : Type 0 where
  pub tree : Block
  pub after : Scope
  pub printed : s.left ≡ print_block tree t.left
  pub valid : IsValidBlock at.vararg at.in_loop tree
  pub deep : at.depth + block_levels tree ≤ 200
  pub opened : Opens tree s.scope out after
  pub scope : t.scope ≡ leave s.scope after
  pub ends : BlockStops tree (a_kind (ahead t) 1 [])

-- the last of the statements ends with a prefix, and no `;` is after it
abbrev pub EndOpenly : Stats → Type 0
EndOpenly (tree.more_stats ss s tree.bare) = StatEndsWithPrefix s
EndOpenly other = ⊥

-- statements of a block nested so
pub record ReadsStats (at : Nesting) (s : State) (out : List Stmt) (t : State) : Type 0 where
  pub tree : Stats
  pub printed : s.left ≡ print_stats tree t.left
  pub valid : AreValidStats at.vararg at.in_loop tree
  pub deep : at.depth + stats_levels tree ≤ 200
  pub resolved : ResolvesStats tree s.scope out t.scope
  pub stops : EndOpenly tree → Stops t
  pub ends : StatsStop tree (a_kind (ahead t) 1 [])

pub record ReadsStat (at : Nesting) (s : State) (out : Stmt) (t : State) : Type 0 where
  pub tree : Stat
  pub printed : s.left ≡ print_stat tree t.left
  pub valid : IsValidStat at.vararg at.in_loop tree
  pub deep : at.depth + stat_levels tree ≤ 200
  pub resolved : ResolvesStat tree s.scope out t.scope
  pub stops : StatEndsWithPrefix tree → Stops t
  pub ends : StatStops tree (a_kind (ahead t) 1 [])

pub record ReadsLast (at : Nesting) (s : State) (out : Stmt) (t : State) : Type 0 where
  pub tree : LastStat
  pub printed : s.left ≡ print_laststat tree t.left
  pub valid : IsValidLast at.vararg at.in_loop tree
  pub deep : at.depth + last_levels tree ≤ 200
  pub resolved : ResolvesLast tree s.scope out t.scope
  pub ends : LastStatStops tree (a_kind (ahead t) 1 [])

-- an expression of a statement in a block nested so
pub record ReadsValue (at : Nesting) (s : State) (e : Expr) (t : State) : Type 0 where
  pub tree : Exp
  pub printed : s.left ≡ print_exp tree t.left
  pub valid : IsValid at.vararg tree
  pub deep : at.depth + levels tree ≤ 200
  pub resolved : Resolves tree s.scope e t.scope
  pub stops : EndsWithPrefix tree → Stops t
  pub ends : EndsBefore tree (a_kind (ahead t) 1 [])
  pub last : EndsAt 1 (ahead t)

-- expressions of a statement in a block nested so
pub record ReadsValues (at : Nesting) (s : State) (out : List Expr) (t : State) : Type 0 where
  pub tree : ExpList
  pub printed : s.left ≡ print_explist tree t.left
  pub valid : AreValid at.vararg tree
  pub deep : at.depth + list_levels tree ≤ 200
  pub resolved : ResolvesList tree s.scope out t.scope
  pub stops : ListEndsWithPrefix tree → Stops t
  pub ends : LastStops tree (a_kind (ahead t) 1 [])
  pub last : IsNoComma (ahead t)

-- a test, `then` and a block
pub record ReadsArm (at : Nesting) (s : State) (arm : Arm) (t : State) : Type 0 where
  pub test : Exp
  pub then_at : Line
  pub block : Block
  pub middle : Scope
  pub after : Scope
  pub printed : s.left ≡ print_exp test (a_word Then then_at (print_block block t.left))
  pub valid_test : IsValid at.vararg test
  pub valid : IsValidBlock at.vararg at.in_loop block
  pub deep_test : at.depth + levels test ≤ 200
  pub deep : at.depth + block_levels block ≤ 200
  pub tested : Resolves test s.scope (out-Arm arm).test middle
  pub opened : Opens block middle (out-Arm arm).body.value.items after
  pub scope : t.scope ≡ leave middle after
  pub ends : BlockStops block (a_kind (ahead t) 1 [])

-- the arms of an `if` after its word, which stands on that line
pub record ReadsArms (at : Nesting) (line : ℕ) (s : State) (out : List Arm) (t : State) : Type 0 where
  pub tree : Arms
  pub printed : a_word IfWord line s.left ≡ print_arms tree t.left
  pub valid : AreValidArms at.vararg at.in_loop tree
  pub deep : at.depth + arms_levels tree ≤ 200
  pub resolved : ResolvesArms tree s.scope out t.scope
  pub begins : arms_line tree ≡ line
  pub ends : ArmsStop tree (a_kind (ahead t) 1 [])

-- `do`, the block of a loop that declares those names in those slots, and `end`
pub record ReadsLoop (at : Nesting) (names : List Bytes) (s : State) (block : LoopBlock) (t : State) : Type 0 where
  pub do_at : Line
  pub tree : Block
  pub end_at : Line
  pub after : Scope
  pub printed : s.left ≡ a_word Do do_at (print_block tree (a_word EndWord end_at t.left))
  pub valid : IsValidBlock at.vararg true tree
  pub deep : at.depth + block_levels tree ≤ 200
  pub opened : Opens tree (declare names s.scope) block.body.items after
  pub scope : t.scope ≡ leave s.scope after
  pub slots : block.slots.items ≡ slots_from (in_scope s.scope) names

-- a value after a comma, if there is one
abbrev pub ReadsStep : Nesting → State → Option Expr → State → Type 0
ReadsStep at s (Some e) t = (comma : Line) × (m : State) × Takes (SignKind Comma) comma s m × ReadsValue at m e t
ReadsStep at s None t = t ≡ s

-- values after `=`, if there are any
abbrev pub ReadsInitial : Nesting → State → Option (Vec Expr Global) → State → Type 0
ReadsInitial at s (Some es) t = (equals : Line) × (m : State) × Takes (SignKind Assign) equals s m × ReadsValues at m es.items t
ReadsInitial at s None t = t ≡ s

-- the name of a function in a statement
pub record ReadsFuncName (s : State) (name : FunctionName) (t : State) : Type 0 where
  pub tree : FuncName
  pub printed : s.left ≡ print_funcname tree t.left
  pub resolved : ResolvesFuncName tree s.scope name.target t.scope
  pub high : funcname_height tree ≡ name.height
  pub low : name.height ≤ 4_000

-- that sign and a name after the name of a function in a statement
pub record ReadsMember (sign : Sign) (object : FunctionName) (s : State) (whole : FunctionName) (t : State) : Type 0 where
  pub line : Line
  pub name_at : Line
  pub name : Bytes
  pub middle : State
  pub taken : Takes (SignKind sign) line s middle
  pub named : Takes (NameKind name) name_at middle t
  pub built : IsMember object.target line name_at name whole.target
  pub high : whole.height ≡ object.height + 1
  pub low : whole.height ≤ 4_000

-- a variable that is assigned to
pub record ReadsTarget (at : Nesting) (s : State) (e : Expr) (t : State) : Type 0 where
  pub tree : PrefixExp
  pub printed : s.left ≡ print_prefixexp tree t.left
  pub valid : IsValidPrefix at.vararg tree
  pub variable : IsVariable tree
  pub deep : at.depth + prefix_levels tree ≤ 200
  pub resolved : ResolvesPrefix tree s.scope e t.scope
  pub ends : IsApart (ahead t)

-- the variables that are assigned to, of which the first begins on that line
pub record ReadsVars (at : Nesting) (line : ℕ) (s : State) (out : List Expr) (t : State) : Type 0 where
  pub tree : VarList
  pub printed : s.left ≡ print_varlist tree t.left
  pub valid : AreValidVars at.vararg tree
  pub deep : at.depth + vars_levels tree ≤ 200
  pub resolved : ResolvesVars tree s.scope out t.scope
  pub begins : vars_line tree ≡ line
  pub ends : IsApart (ahead t)

-- the same, where the first of them were read up to a state, and a reader that has read those moves over the others
pub record ReadsMoreVars (at : Nesting) (line : ℕ) (s : State) (first : VarList) (out : List Expr) (m t : State) : Type 0 where
  pub whole : ReadsVars at line s out t
  pub moves : (k : Stat → Reader) → Moves (more_vars first k) m (more_vars whole.tree k) t

-- before words that were read, the state was that
abbrev pub before_for : Line → NameList → State → State
before_for line names s = record s { left = a_word ForWord line (print_names names s.left) }

abbrev pub before_function : Line → State → State
before_function line s = record s { left = a_word FunctionWord line s.left }

abbrev pub before_local : Line → State → State
before_local line s = record s { left = a_word LocalWord line s.left }
