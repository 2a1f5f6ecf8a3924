-- Which trees fit with that nesting in a function whose text is being read: they are valid there, nest no deeper and are no
-- higher than may be, and have names that resolve with no function over its limits.
use Rattle.std.specs.Prelude.{◌≡◌, ◌+◌, ◌≤◌, true, List}
use Rattle.lua_grammar.specs.Tree.{Line, Bytes, Exp, PrefixExp, Args, ExpList, Table, Fields, Field, FuncBody, Block, Stats, Stat, Arms, LastStat, VarList}
use Rattle.lua_grammar.specs.Levels.{levels, prefix_levels, args_levels, list_levels, table_levels, fields_levels, field_levels, body_levels, block_levels}
use Rattle.lua_grammar.specs.Levels.{stats_levels, stat_levels, arms_levels, last_levels, vars_levels, height, prefix_height, args_height, list_height}
use Rattle.lua_grammar.specs.Levels.{table_height, fields_height, field_height}
use Rattle.lua_grammar.specs.Validity.{IsValid, IsValidPrefix, IsValidArgs, AreValid, IsValidTable, AreValidFields, IsValidField, IsValidBody, IsValidBlock}
use Rattle.lua_grammar.specs.Validity.{AreValidStats, IsValidStat, AreValidArms, IsValidLast, AreValidVars, IsVariable}
use Rattle.lua_grammar.specs.Scopes.{Frame, Scope, declare_in}
use Rattle.lua_grammar.specs.Limits.{Few}
use Rattle.lua_grammar.specs.Resolution.{Resolves, ResolvesPrefix, ResolvesArgs, ResolvesList, ResolvesTable, ResolvesFields, ResolvesField, ResolvesBody}
use Rattle.lua_grammar.specs.Resolution.{Opens, ResolvesStats, ResolvesStat, ResolvesArms, ResolvesLast, ResolvesVars}
use Rattle.lua_parser_base.specs.declared.nesting.Nesting.{Nesting}

-- in some scope with those enclosing functions a tree resolves to something, and no function is then over its limits
pub record IsResolvable {Tree Out : Type 0} (Resolved : Tree → Scope → Out → Scope → Type 0) (enclosing : List Frame) (tree : Tree) : Type 0 where
  pub before : Scope
  pub out : Out
  pub after : Scope
  pub same : before.enclosing ≡ enclosing
  pub resolved : Resolved tree before out after
  pub few : Few after.enclosing

-- ---- expressions

pub record FitsExp (at : Nesting) (enclosing : List Frame) (tree : Exp) : Type 0 where
  pub valid : IsValid at.vararg tree
  pub deep : at.depth + levels tree ≤ 201
  pub low : height tree ≤ at.room
  pub resolvable : IsResolvable Resolves enclosing tree

pub record FitsPrefix (at : Nesting) (enclosing : List Frame) (tree : PrefixExp) : Type 0 where
  pub valid : IsValidPrefix at.vararg tree
  pub deep : at.depth + prefix_levels tree ≤ 200
  pub low : prefix_height tree ≤ at.room
  pub resolvable : IsResolvable ResolvesPrefix enclosing tree

pub record FitsArgs (at : Nesting) (enclosing : List Frame) (tree : Args) : Type 0 where
  pub valid : IsValidArgs at.vararg tree
  pub deep : at.depth + args_levels tree ≤ 200
  pub low : args_height tree + 1 ≤ at.room
  pub resolvable : IsResolvable ResolvesArgs enclosing tree

pub record FitsList (at : Nesting) (enclosing : List Frame) (tree : ExpList) : Type 0 where
  pub valid : AreValid at.vararg tree
  pub deep : at.depth + list_levels tree ≤ 201
  pub low : list_height tree ≤ at.room
  pub resolvable : IsResolvable ResolvesList enclosing tree

pub record FitsTable (at : Nesting) (enclosing : List Frame) (tree : Table) : Type 0 where
  pub valid : IsValidTable at.vararg tree
  pub deep : at.depth + table_levels tree ≤ 200
  pub low : table_height tree ≤ at.room
  pub resolvable : IsResolvable ResolvesTable enclosing tree

pub record FitsFields (at : Nesting) (enclosing : List Frame) (tree : Fields) : Type 0 where
  pub valid : AreValidFields at.vararg tree
  pub deep : at.depth + fields_levels tree ≤ 200
  pub low : fields_height tree + 1 ≤ at.room
  pub resolvable : IsResolvable ResolvesFields enclosing tree

pub record FitsField (at : Nesting) (enclosing : List Frame) (tree : Field) : Type 0 where
  pub valid : IsValidField at.vararg tree
  pub deep : at.depth + field_levels tree ≤ 201
  pub low : field_height tree ≤ at.room
  pub resolvable : IsResolvable ResolvesField enclosing tree

-- before the named parameters stand those
pub record FitsBody (at : Nesting) (line : Line) (first : List Bytes) (enclosing : List Frame) (tree : FuncBody) : Type 0 where
  pub valid : IsValidBody tree
  pub deep : at.depth + body_levels tree ≤ 200
  pub resolvable : IsResolvable (ResolvesBody first line) enclosing tree

-- ---- statements, and expressions of a statement in a block nested so

pub record FitsValue (at : Nesting) (enclosing : List Frame) (tree : Exp) : Type 0 where
  pub valid : IsValid at.vararg tree
  pub deep : at.depth + levels tree ≤ 200
  pub resolvable : IsResolvable Resolves enclosing tree

pub record FitsValues (at : Nesting) (enclosing : List Frame) (tree : ExpList) : Type 0 where
  pub valid : AreValid at.vararg tree
  pub deep : at.depth + list_levels tree ≤ 200
  pub resolvable : IsResolvable ResolvesList enclosing tree

pub record FitsBlock (at : Nesting) (enclosing : List Frame) (tree : Block) : Type 0 where
  pub valid : IsValidBlock at.vararg at.in_loop tree
  pub deep : at.depth + block_levels tree ≤ 201
  pub resolvable : IsResolvable Opens enclosing tree

-- a block within one nested so
pub record FitsScoped (at : Nesting) (enclosing : List Frame) (tree : Block) : Type 0 where
  pub valid : IsValidBlock at.vararg at.in_loop tree
  pub deep : at.depth + block_levels tree ≤ 200
  pub resolvable : IsResolvable Opens enclosing tree

-- the block of a loop that declares those names
pub record FitsLoop (at : Nesting) (names : List Bytes) (enclosing : List Frame) (tree : Block) : Type 0 where
  pub valid : IsValidBlock at.vararg true tree
  pub deep : at.depth + block_levels tree ≤ 200
  pub resolvable : IsResolvable Opens (declare_in names enclosing) tree

pub record FitsStats (at : Nesting) (enclosing : List Frame) (tree : Stats) : Type 0 where
  pub valid : AreValidStats at.vararg at.in_loop tree
  pub deep : at.depth + stats_levels tree ≤ 200
  pub resolvable : IsResolvable ResolvesStats enclosing tree

pub record FitsStat (at : Nesting) (enclosing : List Frame) (tree : Stat) : Type 0 where
  pub valid : IsValidStat at.vararg at.in_loop tree
  pub deep : at.depth + stat_levels tree ≤ 200
  pub resolvable : IsResolvable ResolvesStat enclosing tree

pub record FitsLast (at : Nesting) (enclosing : List Frame) (tree : LastStat) : Type 0 where
  pub valid : IsValidLast at.vararg at.in_loop tree
  pub deep : at.depth + last_levels tree ≤ 200
  pub resolvable : IsResolvable ResolvesLast enclosing tree

pub record FitsArms (at : Nesting) (enclosing : List Frame) (tree : Arms) : Type 0 where
  pub valid : AreValidArms at.vararg at.in_loop tree
  pub deep : at.depth + arms_levels tree ≤ 200
  pub resolvable : IsResolvable ResolvesArms enclosing tree

pub record FitsVars (at : Nesting) (enclosing : List Frame) (tree : VarList) : Type 0 where
  pub valid : AreValidVars at.vararg tree
  pub deep : at.depth + vars_levels tree ≤ 200
  pub resolvable : IsResolvable ResolvesVars enclosing tree

pub record FitsTarget (at : Nesting) (enclosing : List Frame) (tree : PrefixExp) : Type 0 where
  pub valid : IsValidPrefix at.vararg tree
  pub variable : IsVariable tree
  pub deep : at.depth + prefix_levels tree ≤ 200
  pub resolvable : IsResolvable ResolvesPrefix enclosing tree
