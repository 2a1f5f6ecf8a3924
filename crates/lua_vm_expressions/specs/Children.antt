-- Expressions that begin with another one.
use Rattle.std.specs.Prelude.{◌≡◌, Option, Some, None}
use Rattle.lua_ast.specs.declared.expressions.Expr.{Expr}
use Rattle.lua_ast.specs.declared.expressions.ExprKind.{ExprKind, out-ExprKind}
use Rattle.lua_ast.specs.declared.expressions.ExprKind.TheOpen as e
use Rattle.lua_ast.specs.declared.expressions.ExprKind.TheOpen.{ExprKind-F}
use Rattle.lua_ast.specs.declared.expressions.TableItem.{TableItem}
use Rattle.lua_meaning.specs.Works.{Places, Slots, AValue, Eval}
use Rattle.lua_meaning.specs.Setting.{Setting}
use Rattle.lua_meaning.specs.Expressions.{expr_work, value_work}
use Rattle.lua_frames.specs.declared.items.Item.{Item}
use Rattle.lua_frames.specs.Items.{resume_item}
use Rattle.lua_vm_expressions.specs.declared.children.Child.{Child}

-- its work, where all of its values are wanted or one, is that of this expression, and then that of an item
pub record BeginsWith (x : Expr) (item : Item) (first : Expr) : Type 0 where
  pub all : (S : Setting) (p : Places) (s : Slots) → expr_work S x.line (out-ExprKind x.kind) p s ≡ Eval (AValue first) p s (resume_item S item p)
  pub one : (S : Setting) (p : Places) (s : Slots) → value_work S x.line (out-ExprKind x.kind) p s ≡ Eval (AValue first) p s (resume_item S item p)

-- it begins with no other one
abbrev pub IsLeaf : ExprKind-F ExprKind TableItem Expr → Type 0
IsLeaf e.Nil = Unit {0}
IsLeaf e.True = Unit {0}
IsLeaf e.False = Unit {0}
IsLeaf (e.Number n) = Unit {0}
IsLeaf (e.Text t) = Unit {0}
IsLeaf e.Vararg = Unit {0}
IsLeaf (e.Function n) = Unit {0}
IsLeaf (e.Slot i) = Unit {0}
IsLeaf (e.Captured i) = Unit {0}
IsLeaf (e.Global name) = Unit {0}
IsLeaf (e.Index a b) = ⊥
IsLeaf (e.Call f args) = ⊥
IsLeaf (e.Method a name args) = ⊥
IsLeaf (e.Unary o a) = ⊥
IsLeaf (e.Binary o a b) = ⊥
IsLeaf (e.And a b) = ⊥
IsLeaf (e.Or a b) = ⊥
IsLeaf (e.Paren a) = ⊥
IsLeaf (e.Table items) = Unit {0}

-- the expression with which it begins, if there is one
abbrev pub Begins : Expr → Option Child → Type 0
Begins x None = IsLeaf (out-ExprKind x.kind)
Begins x (Some child) = BeginsWith x child.item child.expr.now

abbrev pub IsChild : Item → Expr → Option Child → Type 0
IsChild item first None = ⊥
IsChild item first (Some child) = (child.item ≡ item) × (child.expr.now ≡ first)
