-- `return`: tail calls that begin, and what it makes of how its list ended.
use Rattle.std.specs.Prelude.{ℕ, List, [], ◌∷◌}
use Rattle.lua_ast.specs.declared.expressions.Expr.{Expr}
use Rattle.lua_values.specs.declared.values.Value.TheVariants.{Text}
use Rattle.lua_meaning.specs.Works.{Places, Slots, Sign, Values, Return, Break, Failed, Work, Count, and_then}
use Rattle.lua_meaning.specs.Setting.{Setting}
use Rattle.lua_meaning.specs.Signs.{first, on_values, value}
use Rattle.lua_meaning.specs.Indexing.{index_work}
use Rattle.lua_meaning.specs.Statements.{tail_work}

-- `return f(args)`: the function is evaluated first, at the cost of a step for the call
abbrev pub tail_begins : ℕ → Expr → List Expr → Places → Slots → Work
tail_begins line f args p s = Count 1 (value f p s (λ v s'. tail_work line v [] args p s'))

-- `return o:name(args)`: the object is evaluated first, and then its method is looked up
abbrev pub tail_method_begins : Setting → ℕ → Expr → List ℕ → List Expr → Places → Slots → Work
tail_method_begins S line object name args p s =
    Count 1 (value object p s (λ v s'. and_then (index_work S line v (Text name) p s')
    (on_values (λ fs s''. tail_work line (first fs) (v ∷ []) args p s''))))

-- what `return` makes of how its list ended
abbrev pub return_sign : Sign → Sign
return_sign (Values vs) = Return vs
return_sign (Return vs) = Return vs
return_sign Break = Break
return_sign (Failed v) = Failed v
