-- What is read between two states: a tree of a production, which prints to the tokens between them, is valid, and resolves
-- in the scope before it to a part of the program and the scope after it.
use Rattle.std.specs.Prelude.{◌≡◌, ℕ, ◌+◌, ◌-◌, ◌<◌, ◌≤◌, max, List, []}
use Rattle.lua_grammar.specs.Tree.{Line, Bytes, Exp, PrefixExp, Args, ExpList, Table, Fields, Field, FuncBody}
use Rattle.lua_grammar.specs.Tree as tree
use Rattle.lua_grammar.specs.Printing.{a_kind, print_exp, print_prefixexp, print_args, print_explist, print_table, print_fields, print_field, print_funcbody}
use Rattle.lua_grammar.specs.Levels.{levels, prefix_levels, args_levels, list_levels, table_levels, fields_levels, field_levels, body_levels, height}
use Rattle.lua_grammar.specs.Levels.{prefix_height, args_height, list_height, table_height, fields_height, field_height}
use Rattle.lua_grammar.specs.Validity.{IsValid, IsValidPrefix, IsValidArgs, AreValid, IsValidTable, AreValidFields, IsValidField, IsValidBody, exp_level}
use Rattle.lua_grammar.specs.Validity.{prefix_end, table_end, args_end, EndsWithPrefix, ListEndsWithPrefix}
use Rattle.lua_grammar.specs.Resolution.{Resolves, ResolvesPrefix, ResolvesArgs, ResolvesList, ResolvesTable, ResolvesFields, ResolvesField, ResolvesBody}
use Rattle.lua_parser_base.specs.declared.nesting.Nesting.{Nesting}
use Rattle.lua_parser_base.specs.declared.nodes.Built.{Built}
use Rattle.lua_parser_base.specs.declared.nodes.Prefix.{Prefix}
use Rattle.lua_parser_base.specs.declared.nodes.Values.{Values}
use Rattle.lua_parser_base.specs.declared.nodes.Item.{Item}
use Rattle.lua_parser_base.specs.declared.nodes.Items.{Items}
use Rattle.lua_parser_base.specs.declared.nodes.Form.{Form}
use Rattle.lua_parser_base.specs.declared.nodes.Form.TheVariants.{Variable, Call, Paren}
use Rattle.lua_grammar.specs.Stopping.{FieldStops, LastStops, Stops as EndsBefore}
use Rattle.lua_parser_base.specs.States.{State, Stops}
use Rattle.lua_parser_base.specs.Next.{ahead}

-- what a prefix is
abbrev pub form_of : PrefixExp → Form
form_of (tree.variable l n) = Variable
form_of (tree.paren o e c) = Paren
form_of (tree.item p o e c) = Variable
form_of (tree.member p d l n) = Variable
form_of (tree.call p a) = Call
form_of (tree.method p c l n a) = Call

-- an expression; each part at its end is read as far as it goes
pub record ReadsExp (at : Nesting) (s : State) (b : Built) (t : State) : Type 0 where
  pub tree : Exp
  pub printed : s.left ≡ print_exp tree t.left
  pub valid : IsValid at.vararg tree
  pub deep : at.depth + levels tree ≤ 201
  pub resolved : Resolves tree s.scope b.expr t.scope
  pub high : height tree ≡ b.height
  pub low : b.height ≤ at.room
  pub precedes : exp_level tree ≡ b.level
  pub stops : EndsWithPrefix tree → Stops t
  pub ends : EndsBefore tree (a_kind (ahead t) 1 [])

-- a prefix, whose parts are parts of an expression nested so
pub record ReadsPrefix (at : Nesting) (s : State) (p : Prefix) (t : State) : Type 0 where
  pub tree : PrefixExp
  pub printed : s.left ≡ print_prefixexp tree t.left
  pub valid : IsValidPrefix at.vararg tree
  pub deep : at.depth + prefix_levels tree ≤ 200
  pub resolved : ResolvesPrefix tree s.scope p.expr t.scope
  pub high : prefix_height tree ≡ p.height
  pub low : p.height ≤ at.room
  pub form : form_of tree ≡ p.form
  pub ends : prefix_end tree ≡ t.last

-- a prefix that was read up to a state is the beginning of a longer one
abbrev pub Extends : Nesting → Prefix → State → Prefix → State → Type 0
Extends at object m p t = (s : State) → ReadsPrefix at s object m → ReadsPrefix at s p t

-- arguments of a call nested so
pub record ReadsArgs (at : Nesting) (s : State) (values : Values) (t : State) : Type 0 where
  pub tree : Args
  pub printed : s.left ≡ print_args tree t.left
  pub valid : IsValidArgs at.vararg tree
  pub deep : at.depth + args_levels tree ≤ 200
  pub resolved : ResolvesArgs tree s.scope values.exprs.items t.scope
  pub high : args_height tree ≡ values.height
  pub low : values.height ≤ max (at.room - 1) 1
  pub ends : args_end tree ≡ t.last

-- expressions, each nested so
pub record ReadsList (at : Nesting) (s : State) (values : Values) (t : State) : Type 0 where
  pub tree : ExpList
  pub printed : s.left ≡ print_explist tree t.left
  pub valid : AreValid at.vararg tree
  pub deep : at.depth + list_levels tree ≤ 201
  pub resolved : ResolvesList tree s.scope values.exprs.items t.scope
  pub high : list_height tree ≡ values.height
  pub low : values.height ≤ at.room
  pub stops : ListEndsWithPrefix tree → Stops t
  pub ends : LastStops tree (a_kind (ahead t) 1 [])

-- a table constructor
pub record ReadsTable (at : Nesting) (s : State) (b : Built) (t : State) : Type 0 where
  pub tree : Table
  pub printed : s.left ≡ print_table tree t.left
  pub valid : IsValidTable at.vararg tree
  pub deep : at.depth + table_levels tree ≤ 200
  pub resolved : ResolvesTable tree s.scope b.expr t.scope
  pub high : table_height tree ≡ b.height
  pub low : b.height ≤ at.room
  pub ends : table_end tree ≡ t.last
  pub own : b.level ≡ 9

-- the fields of a table constructor nested so, each with a separator
pub record ReadsFields (at : Nesting) (s : State) (items : Items) (t : State) : Type 0 where
  pub tree : Fields
  pub printed : s.left ≡ print_fields tree t.left
  pub valid : AreValidFields at.vararg tree
  pub deep : at.depth + fields_levels tree ≤ 200
  pub resolved : ResolvesFields tree s.scope items.items.items t.scope
  pub high : fields_height tree ≡ items.height
  pub low : items.height < at.room

-- a field, with expressions nested so
pub record ReadsField (at : Nesting) (s : State) (item : Item) (t : State) : Type 0 where
  pub tree : Field
  pub printed : s.left ≡ print_field tree t.left
  pub valid : IsValidField at.vararg tree
  pub deep : at.depth + field_levels tree ≤ 201
  pub resolved : ResolvesField tree s.scope item.item t.scope
  pub high : field_height tree ≡ item.height
  pub low : item.height ≤ at.room
  pub ends : FieldStops tree (a_kind (ahead t) 1 [])

-- parameters, block and `end` of the function of that number, whose word `function` is on that line; before its named
-- parameters stand those
pub record ReadsBody (at : Nesting) (line : Line) (before : List Bytes) (s : State) (number : ℕ) (t : State) : Type 0 where
  pub tree : FuncBody
  pub printed : s.left ≡ print_funcbody tree t.left
  pub valid : IsValidBody tree
  pub deep : at.depth + body_levels tree ≤ 200
  pub resolved : ResolvesBody before line tree s.scope number t.scope
