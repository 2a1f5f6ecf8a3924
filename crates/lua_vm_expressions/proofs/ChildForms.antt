-- Expressions that begin with another one: their works, by the item that waits.
use Rattle.std.specs.Prelude.{◌≡◌, ℕ, List, Option, Some, None, Result, Ok, Err, IfOk, refl}
use Rattle.std.proofs.Common.{sym, ◌∙◌, subst, Vec, Global}
use Rattle.std.specs.declared.rc.Rc.{Rc}
use Rattle.lua_ast.specs.declared.expressions.BinOp.{BinOp}
use Rattle.lua_ast.specs.declared.expressions.UnOp.{UnOp}
use Rattle.lua_ast.specs.declared.expressions.Expr.{Expr}
use Rattle.lua_ast.specs.declared.expressions.ExprKind.TheViews.{outs-Binary, outs-Unary, outs-And, outs-Or, outs-Paren, outs-Index, outs-Call, outs-Method}
use Rattle.lua_ast.specs.declared.expressions.ExprKind.TheVariants as v
use Rattle.lua_frames.specs.declared.items.Item.{Item}
use Rattle.lua_frames.specs.declared.items.Item.TheVariants as i
use Rattle.lua_vm_expressions.specs.declared.children.Child.{Child}
use Rattle.lua_vm_expressions.specs.Children.{Begins, BeginsWith, IsChild}

pub binary_begins : (x : Expr) (o : BinOp) (a b b' : Rc Expr Global) → x.kind ≡ v.Binary o a b → b'.value ≡ b.value → BeginsWith x (i.Right x.line o b') a.value
binary_begins x o a b b' e h = record { all = λ S p s. rw (e, outs-Binary o a b, h) refl; one = λ S p s. rw (e, outs-Binary o a b, h) refl }

pub unary_begins : (x : Expr) (o : UnOp) (a : Rc Expr Global) → x.kind ≡ v.Unary o a → BeginsWith x (i.Unary x.line o) a.value
unary_begins x o a e = record { all = λ S p s. rw (e, outs-Unary o a) refl; one = λ S p s. rw (e, outs-Unary o a) refl }

pub and_begins : (x : Expr) (a b b' : Rc Expr Global) → x.kind ≡ v.And a b → b'.value ≡ b.value → BeginsWith x (i.AndThen b') a.value
and_begins x a b b' e h = record { all = λ S p s. rw (e, outs-And a b, h) refl; one = λ S p s. rw (e, outs-And a b, h) refl }

pub or_begins : (x : Expr) (a b b' : Rc Expr Global) → x.kind ≡ v.Or a b → b'.value ≡ b.value → BeginsWith x (i.OrElse b') a.value
or_begins x a b b' e h = record { all = λ S p s. rw (e, outs-Or a b, h) refl; one = λ S p s. rw (e, outs-Or a b, h) refl }

pub paren_begins : (x : Expr) (a : Rc Expr Global) → x.kind ≡ v.Paren a → BeginsWith x i.First a.value
paren_begins x a e = record { all = λ S p s. rw (e, outs-Paren a) refl; one = λ S p s. rw (e, outs-Paren a) refl }

pub index_begins : (x : Expr) (a b b' : Rc Expr Global) → x.kind ≡ v.Index a b → b'.value ≡ b.value → BeginsWith x (i.Key x.line b') a.value
index_begins x a b b' e h = record { all = λ S p s. rw (e, outs-Index a b, h) refl; one = λ S p s. rw (e, outs-Index a b, h) refl }

pub call_begins : (x : Expr) (f : Rc Expr Global) (args args' : Rc (Vec Expr Global) Global) → x.kind ≡ v.Call f args → args'.value ≡ args.value → BeginsWith x (i.Callee x.line args') f.value
call_begins x f args args' e h = record { all = λ S p s. rw (e, outs-Call f args, h) refl; one = λ S p s. rw (e, outs-Call f args, h) refl }

pub method_begins : (x : Expr) (a : Rc Expr Global) (name copy : List ℕ) (args args' : Rc (Vec Expr Global) Global) → x.kind ≡ v.Method a name args → copy ≡ name → args'.value ≡ args.value
    → BeginsWith x (i.Method x.line copy args') a.value
method_begins x a name copy args args' e same h = record { all = λ S p s. rw (e, outs-Method a name args, same, h) refl; one = λ S p s. rw (e, outs-Method a name args, same, h) refl }

-- a child that is an item with an expression
pub begins_as : {E : Type 0} (x : Expr) (item : Item) (first target : Expr) (r : Result (Option Child) E) → IfOk r (λ child. IsChild item first child) → first ≡ target → BeginsWith x item target → IfOk r (λ child. Begins x child)
begins_as x item first target (Ok None) h e b = absurd h
begins_as x item first target (Ok (Some child)) h e b = subst (λ (t : Item). BeginsWith x t child.expr.now) (sym (h.0)) (subst (λ (t : Expr). BeginsWith x item t) (sym (h.1 ∙ e)) b)
begins_as x item first target (Err fault) h e b = tt
