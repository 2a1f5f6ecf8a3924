-- Going on with what a node gave.
use Rattle.std.specs.Prelude.{◌++◌, List, [], ◌∷◌, Option, Some, None}
use Rattle.lua_ast.specs.declared.expressions.Expr.{Expr}
use Rattle.lua_values.specs.declared.values.Value.{Value}
use Rattle.lua_values.specs.declared.values.Value.TheVariants.{Nil}
use Rattle.lua_meaning.specs.Works.{Places, Slots, Node, AValue, AnExpr, Sign, Values, Return, Break, Failed, Work, End, Eval}

-- the first of some values, nil of none (Lua 5.1 Reference Manual, 2.5)
abbrev pub first : List Value → Value
first [] = Nil
first (v ∷ vs) = v

abbrev pub or_nil : Option Value → Value
or_nil None = Nil
or_nil (Some v) = v

-- ends with these values, or with one
abbrev pub give : List Value → Slots → Work
give vs s = End (Values vs) s

abbrev pub give_one : Value → Slots → Work
give_one v s = give (v ∷ []) s

-- goes on with values, and hands on all else: what returns, breaks or fails ends what is around it
abbrev pub on_values : (List Value → Slots → Work) → Sign → Slots → Work
on_values go (Values vs) s = go vs s
on_values go (Return vs) s = End (Return vs) s
on_values go Break s = End Break s
on_values go (Failed v) s = End (Failed v) s

-- evaluates an expression, and goes on with one value
abbrev pub value : Expr → Places → Slots → (Value → Slots → Work) → Work
value x p s go = Eval (AValue x) p s (on_values (λ vs s'. go (first vs) s'))

-- of a list of expressions the last gives all of its values, and each other one (Lua 5.1 Reference Manual, 2.5)
abbrev pub listed : Expr → List Expr → Node
listed x [] = AnExpr x
listed x (y ∷ ys) = AValue x

-- the values of further expressions of a list, after those of the expressions that are done, and those that the last of them gave
abbrev pub more : List Expr → Places → List Value → List Value → Slots → Work
more [] p done vs s = give (done ++ vs) s
more (x ∷ xs) p done vs s = Eval (listed x xs) p s (on_values (more xs p (done ++ first vs ∷ [])))

-- the values of a list of expressions
abbrev pub values_of : List Expr → Places → Slots → Work
values_of [] p s = give [] s
values_of (x ∷ xs) p s = Eval (listed x xs) p s (on_values (more xs p []))
