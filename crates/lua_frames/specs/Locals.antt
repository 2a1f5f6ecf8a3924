-- Local variables that get values (Lua 5.1 Reference Manual, 2.4.7).
use Rattle.std.specs.Prelude.{◌≡◌, ℕ, slice_set}
use Rattle.lua_values.specs.declared.values.Value.{Value}
use Rattle.lua_meaning.specs.declared.slots.Slot.TheVariants.{Plain}
use Rattle.lua_frames.specs.declared.threads.Frames.{Frames}
use Rattle.lua_frames.specs.Frames.{slots_of}
use Rattle.lua_frames.specs.Changes.{KeepsAllButSlots}

-- a slot of the frame on top has a value of its own from now on
pub record PutsPlain (i : ℕ) (value : Value) (old new : Frames) : Type 0 where
  pub keeps : KeepsAllButSlots old new
  pub slots : slots_of new ≡ slice_set (slots_of old) i (Plain value)
