-- What is built of parts. A height is exact as long as no part is so high that the whole can't be counted.
use Rattle.std.specs.Prelude.{◌≡◌, ℕ, ◌+◌, ◌<◌, max, [], ◌∷◌, ◌++◌}
use Rattle.lua_ast.specs.declared.expressions.Expr.{Expr}
use Rattle.lua_ast.specs.declared.expressions.ExprKind.{ExprKind}
use Rattle.lua_ast.specs.declared.expressions.ExprKind as kind
use Rattle.lua_ast.specs.declared.expressions.TableItem.{TableItem}
use Rattle.lua_ast.specs.declared.expressions.UnOp.{UnOp}
use Rattle.lua_grammar.specs.declared.operators.Operator.{Operator}
use Rattle.lua_grammar.specs.Operators.{level, unary_level, highest_level}
use Rattle.lua_grammar.specs.Tree.{Line, Bytes}
use Rattle.lua_grammar.specs.Resolution.{Shared, SharedList, Index, node, binary_kind}
use Rattle.lua_parser_base.specs.declared.nodes.Built.{Built}
use Rattle.lua_parser_base.specs.declared.nodes.Prefix.{Prefix}
use Rattle.lua_parser_base.specs.declared.nodes.Values.{Values}
use Rattle.lua_parser_base.specs.declared.nodes.Item.{Item}
use Rattle.lua_parser_base.specs.declared.nodes.Items.{Items}
use Rattle.lua_parser_base.specs.declared.nodes.Form.TheVariants.{Variable, Call, Paren}

abbrev pub IsOneHigher : ℕ → ℕ → Type 0
IsOneHigher part whole = part < 4_000 → whole ≡ part + 1

-- an expression of no other
abbrev pub leaf : Line → ExprKind → Built
leaf line k = record { expr = node line k; height = 1; level = highest_level }

pub record IsUnary (op : UnOp) (line : Line) (a whole : Built) : Type 0 where
  pub operand : Shared
  pub same : operand.value ≡ a.expr
  pub built : whole.expr ≡ node line (kind.Unary op operand)
  pub higher : IsOneHigher a.height whole.height
  pub own : whole.level ≡ unary_level

pub record IsBinary (a : Built) (op : Operator) (line : Line) (b whole : Built) : Type 0 where
  pub left : Shared
  pub right : Shared
  pub same_left : left.value ≡ a.expr
  pub same_right : right.value ≡ b.expr
  pub built : whole.expr ≡ node line (binary_kind op left right)
  pub higher : IsOneHigher (max a.height b.height) whole.height
  pub own : whole.level ≡ level op

pub record IsParen (a : Built) (line : Line) (whole : Prefix) : Type 0 where
  pub inner : Shared
  pub same : inner.value ≡ a.expr
  pub built : whole.expr ≡ node line (kind.Paren inner)
  pub higher : IsOneHigher a.height whole.height
  pub form : whole.form ≡ Paren

pub record IsIndexed (p : Prefix) (line : Line) (a : Built) (whole : Prefix) : Type 0 where
  pub object : Shared
  pub key : Shared
  pub same_object : object.value ≡ p.expr
  pub same_key : key.value ≡ a.expr
  pub built : whole.expr ≡ node line (kind.Index object key)
  pub higher : IsOneHigher (max p.height a.height) whole.height
  pub form : whole.form ≡ Variable

pub record IsMember (e : Expr) (dot line : Line) (name : Bytes) (whole : Expr) : Type 0 where
  pub object : Shared
  pub same : object.value ≡ e
  pub built : Index dot object line name whole

pub record IsCalled (p : Prefix) (line : Line) (v : Values) (whole : Prefix) : Type 0 where
  pub callee : Shared
  pub values : SharedList Expr
  pub same_callee : callee.value ≡ p.expr
  pub same_values : values.value.items ≡ v.exprs.items
  pub built : whole.expr ≡ node line (kind.Call callee values)
  pub higher : IsOneHigher (max p.height v.height) whole.height
  pub form : whole.form ≡ Call

pub record IsMethodCalled (p : Prefix) (name : Bytes) (line : Line) (v : Values) (whole : Prefix) : Type 0 where
  pub object : Shared
  pub values : SharedList Expr
  pub same_object : object.value ≡ p.expr
  pub same_values : values.value.items ≡ v.exprs.items
  pub built : whole.expr ≡ node line (kind.Method object name values)
  pub higher : IsOneHigher (max p.height v.height) whole.height
  pub form : whole.form ≡ Call

pub record IsTable (items : Items) (line : Line) (whole : Built) : Type 0 where
  pub list : SharedList TableItem
  pub same : list.value.items ≡ items.items.items
  pub built : whole.expr ≡ node line (kind.Table list)
  pub higher : IsOneHigher items.height whole.height
  pub own : whole.level ≡ highest_level

-- one expression alone
pub record IsAlone (b : Built) (v : Values) : Type 0 where
  pub exprs : v.exprs.items ≡ b.expr ∷ []
  pub height : v.height ≡ b.height

pub record IsNone (v : Values) : Type 0 where
  pub exprs : v.exprs.items ≡ []
  pub height : v.height ≡ 0

-- one more at the end
pub record AddsValue (v : Values) (b : Built) (w : Values) : Type 0 where
  pub exprs : w.exprs.items ≡ v.exprs.items ++ b.expr ∷ []
  pub height : w.height ≡ max v.height b.height

pub record AddsItem (v : Items) (i : Item) (w : Items) : Type 0 where
  pub items : w.items.items ≡ v.items.items ++ i.item ∷ []
  pub height : w.height ≡ max v.height i.height

pub record AreNone (v : Items) : Type 0 where
  pub items : v.items.items ≡ []
  pub height : v.height ≡ 0
