-- What a signal says.
use Rattle.std.specs.Prelude.{◌≡◌, List, [], ◌∷◌}
use Rattle.lua_values.specs.declared.values.Value.{Value}
use Rattle.lua_meaning.specs.Works.{Sign, Values, Return, Break, Failed}
use Rattle.lua_meaning.specs.Signs.{first}
use Rattle.lua_frames.specs.declared.signals.Signal.{Signal}
use Rattle.lua_frames.specs.declared.signals.Signal.TheVariants as signal

abbrev pub sign_of : Signal → Sign
sign_of signal.Nothing = Values []
sign_of (signal.One v) = Values (v ∷ [])
sign_of (signal.Many vs) = Values vs.items
sign_of (signal.ReturnedOne v) = Return (v ∷ [])
sign_of (signal.Returned vs) = Return vs.items
sign_of signal.Broke = Break
sign_of (signal.Raised v) = Failed v

-- it gives no values: what waits for values hands it on
abbrev pub Passes : Sign → Type 0
Passes (Values vs) = ⊥
Passes (Return vs) = Unit {0}
Passes Break = Unit {0}
Passes (Failed v) = Unit {0}

-- it gives values, of which this is the first
abbrev pub HasFirst : Sign → Value → Type 0
HasFirst (Values vs) v = v ≡ first vs
HasFirst (Return vs) v = ⊥
HasFirst Break v = ⊥
HasFirst (Failed x) v = ⊥

-- it gives these values
abbrev pub HasValues : Sign → List Value → Type 0
HasValues (Values vs) us = us ≡ vs
HasValues (Return vs) us = ⊥
HasValues Break us = ⊥
HasValues (Failed v) us = ⊥
