-- Kinds of expressions without parts, which are no function either.
use Rattle.std.proofs.Common.{◌≡◌, ◌∙◌, ℕ, List, ap, refl, rules, subst, sym}
use denote.Hole.Carrier.{roll}
use Rattle.lua_ast.specs.declared.expressions.BinOp.{BinOp}
use Rattle.lua_ast.specs.declared.expressions.UnOp.{UnOp}
use Rattle.lua_ast.specs.declared.expressions.Expr.{Expr}
use Rattle.lua_ast.specs.declared.expressions.ExprKind.{ExprKind, out-ExprKind}
use Rattle.lua_ast.specs.declared.expressions.ExprKind as kind
use Rattle.lua_ast.specs.declared.expressions.ExprKind.TheOpen.{ExprKind-F}
use Rattle.lua_ast.specs.declared.expressions.ExprKind.TheOpen as level
use Rattle.lua_ast.specs.declared.expressions.ExprKind.TheVariants as variant
use Rattle.lua_ast.specs.declared.expressions.TableItem.{TableItem}
use Rattle.lua_linking.specs.Raising.{Shared, SharedList}

-- what holds of each of them holds of a kind that is none of the others
module _ (P : ExprKind → Type 0) (nil : P kind.Nil) (yes : P kind.True) (no : P kind.False) (number : (n : _) → P (kind.Number n)) (text : (t : _) → P (kind.Text t))
    (vararg : P kind.Vararg) (slot : (n : _) → P (kind.Slot n)) (captured : (n : _) → P (kind.Captured n)) (global : (name : _) → P (kind.Global name)) where
  opened : (o : ExprKind-F ExprKind TableItem Expr)
      → (no_function : (n : ℕ) → o ≡ level.Function n → ⊥)
      → (no_index : (a b : Shared) → o ≡ level.Index a b → ⊥)
      → (no_call : (a : Shared) (xs : SharedList Expr) → o ≡ level.Call a xs → ⊥)
      → (no_method : (a : Shared) (name : List ℕ) (xs : SharedList Expr) → o ≡ level.Method a name xs → ⊥)
      → (no_unary : (op : UnOp) (a : Shared) → o ≡ level.Unary op a → ⊥)
      → (no_binary : (op : BinOp) (a b : Shared) → o ≡ level.Binary op a b → ⊥)
      → (no_and : (a b : Shared) → o ≡ level.And a b → ⊥)
      → (no_or : (a b : Shared) → o ≡ level.Or a b → ⊥)
      → (no_paren : (a : Shared) → o ≡ level.Paren a → ⊥)
      → (no_table : (items : SharedList TableItem) → o ≡ level.Table items → ⊥)
      → P (kind.roll-ExprKind o)
  unfolding kind.roll-ExprKind roll
  opened level.Nil no_function no_index no_call no_method no_unary no_binary no_and no_or no_paren no_table = nil
  opened level.True no_function no_index no_call no_method no_unary no_binary no_and no_or no_paren no_table = yes
  opened level.False no_function no_index no_call no_method no_unary no_binary no_and no_or no_paren no_table = no
  opened (level.Number n) no_function no_index no_call no_method no_unary no_binary no_and no_or no_paren no_table = number n
  opened (level.Text t) no_function no_index no_call no_method no_unary no_binary no_and no_or no_paren no_table = text t
  opened level.Vararg no_function no_index no_call no_method no_unary no_binary no_and no_or no_paren no_table = vararg
  opened (level.Slot n) no_function no_index no_call no_method no_unary no_binary no_and no_or no_paren no_table = slot n
  opened (level.Captured n) no_function no_index no_call no_method no_unary no_binary no_and no_or no_paren no_table = captured n
  opened (level.Global name) no_function no_index no_call no_method no_unary no_binary no_and no_or no_paren no_table = global name
  opened (level.Function n) no_function no_index no_call no_method no_unary no_binary no_and no_or no_paren no_table = absurd (no_function n refl)
  opened (level.Index a b) no_function no_index no_call no_method no_unary no_binary no_and no_or no_paren no_table = absurd (no_index a b refl)
  opened (level.Call a xs) no_function no_index no_call no_method no_unary no_binary no_and no_or no_paren no_table = absurd (no_call a xs refl)
  opened (level.Method a name xs) no_function no_index no_call no_method no_unary no_binary no_and no_or no_paren no_table = absurd (no_method a name xs refl)
  opened (level.Unary op a) no_function no_index no_call no_method no_unary no_binary no_and no_or no_paren no_table = absurd (no_unary op a refl)
  opened (level.Binary op a b) no_function no_index no_call no_method no_unary no_binary no_and no_or no_paren no_table = absurd (no_binary op a b refl)
  opened (level.And a b) no_function no_index no_call no_method no_unary no_binary no_and no_or no_paren no_table = absurd (no_and a b refl)
  opened (level.Or a b) no_function no_index no_call no_method no_unary no_binary no_and no_or no_paren no_table = absurd (no_or a b refl)
  opened (level.Paren a) no_function no_index no_call no_method no_unary no_binary no_and no_or no_paren no_table = absurd (no_paren a refl)
  opened (level.Table items) no_function no_index no_call no_method no_unary no_binary no_and no_or no_paren no_table = absurd (no_table items refl)

  pub leaf : (k : ExprKind)
      → (no_function : (n : ℕ) → k ≡ kind.Function n → ⊥)
      → (no_index : (a b : Shared) → k ≡ kind.Index a b → ⊥)
      → (no_call : (a : Shared) (xs : SharedList Expr) → k ≡ kind.Call a xs → ⊥)
      → (no_method : (a : Shared) (name : List ℕ) (xs : SharedList Expr) → k ≡ kind.Method a name xs → ⊥)
      → (no_unary : (op : UnOp) (a : Shared) → k ≡ kind.Unary op a → ⊥)
      → (no_binary : (op : BinOp) (a b : Shared) → k ≡ kind.Binary op a b → ⊥)
      → (no_and : (a b : Shared) → k ≡ kind.And a b → ⊥)
      → (no_or : (a b : Shared) → k ≡ kind.Or a b → ⊥)
      → (no_paren : (a : Shared) → k ≡ kind.Paren a → ⊥)
      → (no_table : (items : SharedList TableItem) → k ≡ kind.Table items → ⊥)
      → P k
  leaf k no_function no_index no_call no_method no_unary no_binary no_and no_or no_paren no_table =
      let closed : kind.roll-ExprKind (out-ExprKind k) ≡ k = search (rules, kind.the_lemmas) in
      subst P closed (opened (out-ExprKind k)
      (λ n e. no_function n (sym closed ∙ ap kind.roll-ExprKind e ∙ variant.rolls-Function n))
      (λ a b e. no_index a b (sym closed ∙ ap kind.roll-ExprKind e ∙ variant.rolls-Index a b))
      (λ a xs e. no_call a xs (sym closed ∙ ap kind.roll-ExprKind e ∙ variant.rolls-Call a xs))
      (λ a name xs e. no_method a name xs (sym closed ∙ ap kind.roll-ExprKind e ∙ variant.rolls-Method a name xs))
      (λ op a e. no_unary op a (sym closed ∙ ap kind.roll-ExprKind e ∙ variant.rolls-Unary op a))
      (λ op a b e. no_binary op a b (sym closed ∙ ap kind.roll-ExprKind e ∙ variant.rolls-Binary op a b))
      (λ a b e. no_and a b (sym closed ∙ ap kind.roll-ExprKind e ∙ variant.rolls-And a b))
      (λ a b e. no_or a b (sym closed ∙ ap kind.roll-ExprKind e ∙ variant.rolls-Or a b))
      (λ a e. no_paren a (sym closed ∙ ap kind.roll-ExprKind e ∙ variant.rolls-Paren a))
      (λ items e. no_table items (sym closed ∙ ap kind.roll-ExprKind e ∙ variant.rolls-Table items)))
