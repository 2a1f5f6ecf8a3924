-- Which operator it is.
use Rattle.std.specs.Prelude.{◌≡◌, List, Result}
use Rattle.std.proofs.Common.{sym, subst}
use Rattle.lua_ast.specs.declared.expressions.BinOp.{BinOp}
use Rattle.lua_ast.specs.declared.expressions.UnOp.{UnOp}
use Rattle.lua_values.specs.declared.values.Value.{Value}
use Rattle.lua_values.specs.Heap.{StoreView}
use Rattle.lua_meaning.specs.Works.{Caller}
use Rattle.lua_meaning.specs.Setting.{Setting}
use Rattle.lua_meaning.specs.Operators.{binary_work, unary_work}
use Rattle.lua_frames.specs.declared.flow.Flow.{Flow}
use Rattle.lua_frames.specs.declared.threads.Frames.{Frames}
use Rattle.lua_frames.specs.Frames.{slots_of}
use Rattle.lua_frames.specs.Follows.{Works}

pub binary_as : {E : Type 0} (S : Setting) (callers : List Caller) (o o' : BinOp) (a b : Value) (old new : Frames) (before store : StoreView) (r : Result Flow E)
    → o ≡ o' → Works S (binary_work S callers o' a b (slots_of old)) old before new store r → Works S (binary_work S callers o a b (slots_of old)) old before new store r
binary_as S callers o o' a b old new before store r e w = subst (λ (x : BinOp). Works S (binary_work S callers x a b (slots_of old)) old before new store r) (sym e) w

pub unary_as : {E : Type 0} (S : Setting) (callers : List Caller) (o o' : UnOp) (a : Value) (old new : Frames) (before store : StoreView) (r : Result Flow E)
    → o ≡ o' → Works S (unary_work S callers o' a (slots_of old)) old before new store r → Works S (unary_work S callers o a (slots_of old)) old before new store r
unary_as S callers o o' a old new before store r e w = subst (λ (x : UnOp). Works S (unary_work S callers x a (slots_of old)) old before new store r) (sym e) w
