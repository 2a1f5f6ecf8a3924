-- What a program mentions, in the order of its text: modules, by the literal names after `require`, and functions.
use Rattle.std.specs.Prelude.{ℕ, Bool, not, ◌&&◌, ◌||◌, ◌==◌, List, [], ◌∷◌, ◌++◌, length, flat_map, codes, bytes_eq, slice_get}
use Rattle.std.specs.Prelude.{Option, Some, None, option_map, if◌then◌else◌}
use Rattle.std.specs.List.{list_all}
use Rattle.std.specs.Char.{is_ascii_alphanumeric}
use Rattle.std.specs.Global.{Global}
use Rattle.std.specs.declared.rc.Rc.{Rc}
use Rattle.resty_base.specs.Ascii.{dash, dot, underscore}
use Rattle.lua_ast.specs.declared.expressions.Expr.{Expr}
use Rattle.lua_ast.specs.declared.expressions.ExprKind.{ExprKind}
use Rattle.lua_ast.specs.declared.expressions.ExprKind as kind
use Rattle.lua_ast.specs.declared.expressions.TableItem.{TableItem}
use Rattle.lua_ast.specs.declared.expressions.TableItem as item
use Rattle.lua_ast.specs.declared.statements.Stmt.{Stmt}
use Rattle.lua_ast.specs.declared.statements.StmtKind.{StmtKind}
use Rattle.lua_ast.specs.declared.statements.StmtKind as stmt
use Rattle.lua_ast.specs.declared.statements.Arm.{Arm}
use Rattle.lua_ast.specs.declared.statements.Arm as arm
use Rattle.lua_linking.specs.declared.mentions.Mention.{Mention}
use Rattle.lua_linking.specs.declared.mentions.Mention.TheVariants.{Module, Inner}

-- the names of modules are made of letters, digits, `_`, `-` and `.`
abbrev pub is_name_byte : ℕ → Bool
is_name_byte b = is_ascii_alphanumeric b || b == underscore || b == dash || b == dot

abbrev pub is_module_name : List ℕ → Bool
is_module_name text = not (length text == 0) && list_all is_name_byte text

-- a call of the global of this name with this text as its first argument names a module (Lua 5.1 Reference Manual, 5.3)
abbrev pub is_required : List ℕ → List ℕ → Bool
is_required function text = bytes_eq function (codes "require") && is_module_name text

-- the module that a call names by its function and its first argument, if it has one
abbrev pub module_of : ExprKind → Option ExprKind → List Mention
module_of (kind.Global function) (Some (kind.Text text)) = if is_required function text then Module text ∷ [] else []
module_of callee value = []

abbrev pub first_kind : List Expr → Option ExprKind
first_kind values = option_map (λ e. e.kind) (slice_get values 0)

abbrev pub module_in : Expr → List Expr → List Mention
module_in callee values = module_of callee.kind (first_kind values)

abbrev pub row_head : {m : _} → kind.Row_of-Expr m → Option ExprKind
row_head kind.end_of-Expr = None
row_head (kind.more_of-Expr l k row) = Some k

-- In the patterns `k` and `j` are the kinds of the children, `row` is a list of them, and the rest are their lines and addresses.
abbrev mutual
  pub kind_mentions : ExprKind → List Mention
  kind_mentions (kind.Function n) = Inner n ∷ []
  kind_mentions (kind.Index' p l k q m j) = kind_mentions k ++ kind_mentions j
  kind_mentions (kind.Call' p l k q shape row) = module_of k (row_head row) ++ (kind_mentions k ++ row_mentions row)
  kind_mentions (kind.Method' p l k name q shape row) = kind_mentions k ++ row_mentions row
  kind_mentions (kind.Unary' op p l k) = kind_mentions k
  kind_mentions (kind.Binary' op p l k q m j) = kind_mentions k ++ kind_mentions j
  kind_mentions (kind.And' p l k q m j) = kind_mentions k ++ kind_mentions j
  kind_mentions (kind.Or' p l k q m j) = kind_mentions k ++ kind_mentions j
  kind_mentions (kind.Paren' p l k) = kind_mentions k
  kind_mentions (kind.Table' q shape row) = items_mentions row
  kind_mentions leaf = []

  pub row_mentions : {m : _} → kind.Row_of-Expr m → List Mention
  row_mentions kind.end_of-Expr = []
  row_mentions (kind.more_of-Expr l k row) = kind_mentions k ++ row_mentions row

  pub items_mentions : {m : _} → kind.Row_of-TableItem m → List Mention
  items_mentions kind.end_of-TableItem = []
  items_mentions (kind.more_of-TableItem i row) = mentions_in_item i ++ items_mentions row

  pub mentions_in_item : TableItem → List Mention
  mentions_in_item (item.Item' l k) = kind_mentions k
  mentions_in_item (item.Pair' l k m j) = kind_mentions k ++ kind_mentions j

abbrev pub mentions_in : Expr → List Mention
mentions_in e = kind_mentions e.kind

abbrev pub mentions_in_step : Option (Rc Expr Global) → List Mention
mentions_in_step None = []
mentions_in_step (Some step) = mentions_in step.value

-- the numbers of a loop
abbrev pub mentions_in_range : Expr → Expr → Option (Rc Expr Global) → List Mention
mentions_in_range from to step = mentions_in from ++ (mentions_in to ++ mentions_in_step step)

abbrev mutual
  pub stmt_mentions : StmtKind → List Mention
  stmt_mentions (stmt.Local slots values) = flat_map mentions_in values.value.items
  stmt_mentions (stmt.LocalFunction slot n) = Inner n ∷ []
  stmt_mentions (stmt.Assign targets values) = flat_map mentions_in targets.value.items ++ flat_map mentions_in values.value.items
  stmt_mentions (stmt.Call e) = mentions_in e
  stmt_mentions (stmt.Do' p shape row) = block_mentions row
  stmt_mentions (stmt.While' test p shape row) = mentions_in test.value ++ block_mentions row
  stmt_mentions (stmt.Repeat' p shape row test) = block_mentions row ++ mentions_in test.value
  stmt_mentions (stmt.If' p shape arms q form row) = arms_mentions arms ++ block_mentions row
  stmt_mentions (stmt.NumericFor' slot from to step p shape row) = mentions_in_range from.value to.value step ++ block_mentions row
  stmt_mentions (stmt.GenericFor' slots values p shape row) = flat_map mentions_in values.value.items ++ block_mentions row
  stmt_mentions (stmt.Return values) = flat_map mentions_in values.value.items
  stmt_mentions stmt.Break = []

  pub block_mentions : {m : _} → stmt.Row_of-Stmt m → List Mention
  block_mentions stmt.end_of-Stmt = []
  block_mentions (stmt.more_of-Stmt l k row) = stmt_mentions k ++ block_mentions row

  pub arms_mentions : {m : _} → stmt.Row_of-Arm m → List Mention
  arms_mentions stmt.end_of-Arm = []
  arms_mentions (stmt.more_of-Arm a row) = mentions_in_arm a ++ arms_mentions row

  pub mentions_in_arm : Arm → List Mention
  mentions_in_arm (arm.Arm' test p shape row) = mentions_in test ++ block_mentions row

-- what stands in a statement before its last block: all of one without blocks, and nothing of a `repeat`, whose test comes after its block
abbrev pub head_mentions : StmtKind → List Mention
head_mentions (stmt.Local slots values) = flat_map mentions_in values.value.items
head_mentions (stmt.LocalFunction slot n) = Inner n ∷ []
head_mentions (stmt.Assign targets values) = flat_map mentions_in targets.value.items ++ flat_map mentions_in values.value.items
head_mentions (stmt.Call e) = mentions_in e
head_mentions (stmt.While' test p shape row) = mentions_in test.value
head_mentions (stmt.If' p shape arms q form row) = arms_mentions arms
head_mentions (stmt.NumericFor' slot from to step p shape row) = mentions_in_range from.value to.value step
head_mentions (stmt.GenericFor' slots values p shape row) = flat_map mentions_in values.value.items
head_mentions (stmt.Return values) = flat_map mentions_in values.value.items
head_mentions other = []

abbrev pub mentions_in_stmt : Stmt → List Mention
mentions_in_stmt s = stmt_mentions s.kind
