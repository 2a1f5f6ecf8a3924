-- How deep a tree nests, and how high its expressions are.
use Rattle.std.specs.Prelude.{ℕ, ◌+◌, max}
use Rattle.lua_grammar.specs.Tree.{Line, Bytes, NameList, Params, FuncName, Separator, End, Exp, PrefixExp, Args, ExpList, Table, Fields, Field, FuncBody}
use Rattle.lua_grammar.specs.Tree.{Block, Stats, Stat, Arms, LastStat, VarList}
use Rattle.lua_grammar.specs.Tree as tree

-- How many levels a tree opens. A block is a level, and so is each expression that isn't the left operand of an operator or
-- the prefix of an index or a call: so a chain of operators to the left, of `.`, of calls or of `elseif` doesn't nest.
unfoldable mutual
  pub levels : Exp → ℕ
  levels (tree.function l body) = body_levels body + 1
  levels (tree.prefix p) = prefix_levels p + 1
  levels (tree.table t) = table_levels t + 1
  levels (tree.binary a op l b) = max (levels a) (levels b + 1)
  levels (tree.unary op l e) = levels e + 1
  levels leaf = 1

  pub prefix_levels : PrefixExp → ℕ
  prefix_levels (tree.variable l n) = 0
  prefix_levels (tree.paren o e c) = levels e
  prefix_levels (tree.item p o e c) = max (prefix_levels p) (levels e)
  prefix_levels (tree.member p d l n) = prefix_levels p
  prefix_levels (tree.call p a) = max (prefix_levels p) (args_levels a)
  prefix_levels (tree.method p c l n a) = max (prefix_levels p) (args_levels a)

  pub args_levels : Args → ℕ
  args_levels (tree.no_args o c) = 0
  args_levels (tree.args o es c) = list_levels es
  args_levels (tree.table_arg t) = table_levels t
  args_levels (tree.string_arg l bytes) = 0

  pub list_levels : ExpList → ℕ
  list_levels (tree.one e) = levels e
  list_levels (tree.more es c e) = max (list_levels es) (levels e)

  pub table_levels : Table → ℕ
  table_levels (tree.separated o fs c) = fields_levels fs
  table_levels (tree.ending o fs f c) = max (fields_levels fs) (field_levels f)

  pub fields_levels : Fields → ℕ
  fields_levels tree.no_fields = 0
  fields_levels (tree.more_fields fs f s) = max (fields_levels fs) (field_levels f)

  pub field_levels : Field → ℕ
  field_levels (tree.keyed o k c q e) = max (levels k) (levels e)
  field_levels (tree.named l n q e) = levels e
  field_levels (tree.plain e) = levels e

  pub body_levels : FuncBody → ℕ
  body_levels (tree.function_body o ps c b e) = block_levels b

  pub block_levels : Block → ℕ
  block_levels (tree.statements ss) = stats_levels ss + 1
  block_levels (tree.with_last ss s e) = max (stats_levels ss) (last_levels s) + 1

  pub stats_levels : Stats → ℕ
  stats_levels tree.no_stats = 0
  stats_levels (tree.more_stats ss s e) = max (stats_levels ss) (stat_levels s)

  pub stat_levels : Stat → ℕ
  stat_levels (tree.assign vs q es) = max (vars_levels vs) (list_levels es)
  stat_levels (tree.call_statement p) = prefix_levels p
  stat_levels (tree.do_block d b e) = block_levels b
  stat_levels (tree.while_loop w t d b e) = max (levels t) (block_levels b)
  stat_levels (tree.repeat_loop r b u t) = max (block_levels b) (levels t)
  stat_levels (tree.if_then list e) = arms_levels list
  stat_levels (tree.if_else list l b e) = max (arms_levels list) (block_levels b)
  stat_levels (tree.for_range f l n q from c to d b e) = max (max (levels from) (levels to)) (block_levels b)
  stat_levels (tree.for_steps f l n q from c to k step d b e) = max (max (max (levels from) (levels to)) (levels step)) (block_levels b)
  stat_levels (tree.for_in f ns i es d b e) = max (list_levels es) (block_levels b)
  stat_levels (tree.function_statement f n b) = body_levels b
  stat_levels (tree.method_statement f n c l m b) = body_levels b
  stat_levels (tree.local_function l f m n b) = body_levels b
  stat_levels (tree.local l ns) = 0
  stat_levels (tree.local_values l ns q es) = list_levels es

  pub arms_levels : Arms → ℕ
  arms_levels (tree.if_arm i t h b) = max (levels t) (block_levels b)
  arms_levels (tree.elseif_arm list i t h b) = max (arms_levels list) (max (levels t) (block_levels b))

  pub last_levels : LastStat → ℕ
  last_levels (tree.return_values r es) = list_levels es
  last_levels other = 0

  pub vars_levels : VarList → ℕ
  vars_levels (tree.one_var p) = prefix_levels p
  vars_levels (tree.more_vars vs c p) = max (vars_levels vs) (prefix_levels p)

-- the height of the variable or the field that a function is assigned to
abbrev pub funcname_height : FuncName → ℕ
funcname_height (tree.root_name l n) = 1
funcname_height (tree.name_member f d l n) = funcname_height f + 1

-- The height of an expression: 1 for a leaf and for a function, and one more than that of its highest part for any other.
unfoldable mutual
  pub height : Exp → ℕ
  height (tree.prefix p) = prefix_height p
  height (tree.table t) = table_height t
  height (tree.binary a op l b) = max (height a) (height b) + 1
  height (tree.unary op l e) = height e + 1
  height leaf = 1

  pub prefix_height : PrefixExp → ℕ
  prefix_height (tree.variable l n) = 1
  prefix_height (tree.paren o e c) = height e + 1
  prefix_height (tree.item p o e c) = max (prefix_height p) (height e) + 1
  prefix_height (tree.member p d l n) = prefix_height p + 1
  prefix_height (tree.call p a) = max (prefix_height p) (args_height a) + 1
  prefix_height (tree.method p c l n a) = max (prefix_height p) (args_height a) + 1

  pub args_height : Args → ℕ
  args_height (tree.no_args o c) = 0
  args_height (tree.args o es c) = list_height es
  args_height (tree.table_arg t) = table_height t
  args_height (tree.string_arg l bytes) = 1

  pub list_height : ExpList → ℕ
  list_height (tree.one e) = height e
  list_height (tree.more es c e) = max (list_height es) (height e)

  pub table_height : Table → ℕ
  table_height (tree.separated o fs c) = fields_height fs + 1
  table_height (tree.ending o fs f c) = max (fields_height fs) (field_height f) + 1

  pub fields_height : Fields → ℕ
  fields_height tree.no_fields = 0
  fields_height (tree.more_fields fs f s) = max (fields_height fs) (field_height f)

  pub field_height : Field → ℕ
  field_height (tree.keyed o k c q e) = max (height k) (height e)
  field_height (tree.named l n q e) = height e
  field_height (tree.plain e) = height e
