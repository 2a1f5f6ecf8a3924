-- The names of the modules that functions require, in the order of the text, each function at the place where it is written.
use Rattle.std.specs.Prelude.{ℕ, suc, ◌-◌, nat_lt, List, [], ◌∷◌, flat_map, slice_get, unwrap_or, if◌then◌else◌}
use Rattle.lua_ast.specs.declared.programs.Function.{Function}
use Rattle.lua_linking.specs.Mentions.{mentions_in_stmt}
use Rattle.lua_linking.specs.declared.mentions.Mention.{Mention}
use Rattle.lua_linking.specs.declared.mentions.Mention.TheVariants.{Module, Inner}

abbrev pub Names : Type 0
Names = List (List ℕ)

-- the names in function number `n`, where `known` are those in the functions from number `first` on
abbrev pub names_at : ℕ → List Names → ℕ → Names
names_at first known n = if nat_lt n first then [] else unwrap_or (slice_get known (n - first)) []

-- the names that something mentioned stands for, where `known` are those in the functions from number `first` on
abbrev pub named_by : ℕ → List Names → Mention → Names
named_by first known (Module name) = name ∷ []
named_by first known (Inner n) = names_at first known n

-- the names in a function; the functions within it have greater numbers, from `first` on
abbrev pub names_in_function : ℕ → List Names → Function → Names
names_in_function first known f = flat_map (named_by first known) (flat_map mentions_in_stmt f.body.value.items)

-- the names in function number `n`, and then those in the functions after it
abbrev pub with_names : ℕ → Function → List Names → List Names
with_names n f known = names_in_function (suc n) known f ∷ known

-- the names in each of these functions, of which the first has this number
abbrev pub names_in_each : ℕ → List Function → List Names
names_in_each n [] = []
names_in_each n (f ∷ after) = with_names n f (names_in_each (suc n) after)

-- the names in the function of this number, and in those within it; none where there is no such function
abbrev pub names_of : List Function → ℕ → Names
names_of functions n = unwrap_or (slice_get (names_in_each 0 functions) n) []
