-- What a call of `ngx` is given, as values (lua-nginx-module manual, "Nginx API for Lua": the results of each call).
use Rattle.std.specs.Prelude.{◌≡◌, List, [], ◌∷◌, length, Option, Some, None}
use Rattle.lua_values.specs.declared.values.Value.{Value}
use Rattle.lua_values.specs.declared.values.Value.TheVariants.{Nil, Text}
use Rattle.lua_values.specs.declared.faults.StoreFault.{StoreFault}
use Rattle.lua_values.specs.Heap.{Heap, StoreView}
use Rattle.lua_values.specs.Values.{number}
use Rattle.lua_lib_base.specs.Texts.{text_cause, with_text}
use Rattle.ngx_calls.specs.declared.answers.Given.{Given}
use Rattle.ngx_calls.specs.declared.answers.Given.TheVariants as given

-- its values, and the heap in which their texts are made
pub record GivenValues : Type 0 where
  pub values : List Value
  pub heap : Heap

abbrev pub unless_full : Option StoreFault → GivenValues → Option GivenValues
unless_full None g = Some g
unless_full (Some cause) g = None

-- nothing, 1, or nil and a text, which is made; none where the store has no room for it
abbrev pub values_of : Given → Heap → Option GivenValues
values_of given.Nothing h = Some (record { values = []; heap = h })
values_of given.One h = Some (record { values = number 1 ∷ []; heap = h })
values_of (given.Fault text) h = unless_full (text_cause h (length text)) (record { values = Nil ∷ Text text ∷ []; heap = with_text h (length text) })

-- these are given, and the store has their texts; else it is as before
abbrev pub IsGiven : Option GivenValues → StoreView → StoreView → Option (List Value) → Type 0
IsGiven None old new None = new ≡ old
IsGiven (Some g) old new (Some values) = (values ≡ g.values) × (new ≡ record { heap = g.heap; steps = old.steps })
IsGiven g old new values = ⊥
