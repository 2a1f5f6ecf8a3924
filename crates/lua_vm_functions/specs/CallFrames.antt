-- The frame of a call of a Lua function.
use Rattle.std.specs.Prelude.{◌≡◌, ℕ, List, []}
use Rattle.lua_ast.specs.declared.programs.Function.{Function}
use Rattle.lua_values.specs.declared.values.Value.{Value}
use Rattle.lua_meaning.specs.Calls.{slots_from, extras_of}
use Rattle.lua_frames.specs.declared.frames.Frame.{Frame}
use Rattle.lua_frames.specs.declared.frames.Kind.TheVariants.{Lua}

-- the frame of a call of this function over these cells, in which nothing waits yet
pub record IsFrameOf (number : ℕ) (f : Function) (captured : List ℕ) (args : List Value) (frame : Frame) : Type 0 where
  pub kind : frame.kind ≡ Lua
  pub function : frame.function ≡ number
  pub cells : frame.cells.items ≡ captured
  pub extras : frame.extras.items ≡ extras_of f args
  pub slots : frame.slots.items ≡ slots_from f.slots 0 f.params args
  pub items : frame.items.items ≡ []
