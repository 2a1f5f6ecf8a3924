-- Parts of the machine's own functions.
use Rattle.std.specs.Prelude.{◌≡◌, ℕ, List, [], ◌∷◌, codes, nat_eq, if◌then◌else◌}
use Rattle.std.specs.declared.alloc.Global.{Global}
use Rattle.std.specs.declared.vec.Vec.{Vec}
use Rattle.lua_values.specs.declared.values.Value.{Value}
use Rattle.lua_values.specs.Values.{is_nil}
use Rattle.lua_meaning.specs.Works.{Caller, Slots, Work}
use Rattle.lua_meaning.specs.Setting.{Setting}
use Rattle.lua_meaning.specs.Positions.{raise}
use Rattle.lua_meaning.specs.Signs.{first}
use Rattle.lua_meaning.specs.ProtectedCalls.{pcall_work, xpcall_work}
use Rattle.lua_meaning.specs.Natives.{raise_value, error_work, assert_work}
use Rattle.lua_frames.specs.declared.frames.Frame.{Frame}
use Rattle.lua_frames.specs.declared.frames.Kind.{Kind}
use Rattle.lua_frames.specs.declared.items.Item.TheVariants as i
use Rattle.lua_frames.specs.declared.threads.Frames.{Frames}
use Rattle.lua_frames.specs.Changes.{Pushes}

-- what the machine's own functions do once their steps are counted: `pcall`, `xpcall`, `error`, and `assert` of any other number
abbrev pub own_work : Setting → ℕ → List Value → List Caller → Slots → Work
own_work S n args callers s =
    if nat_eq n 0 then pcall_work S args callers s else if nat_eq n 1 then xpcall_work S args callers s
    else if nat_eq n 2 then error_work S args callers s else assert_work S args callers s

-- `assert` fails with the arguments after the first
abbrev pub failed_assertion : Setting → List Value → List Caller → Slots → Work
failed_assertion S more callers s = if is_nil (first more) then raise S callers (codes "assertion failed!") s else raise_value S callers (first more) s

-- the frame of a protected call of a kind, which hasn't begun, is on top
pub record Guards (line : ℕ) (old : Frames) (kind : Kind) (f : Value) (args : List Value) (new : Frames) : Type 0 where
  pub frame : Frame
  pub pushes : Pushes line old frame new
  pub is : frame.kind ≡ kind
  pub items : (kept : Vec Value Global) × (kept.items ≡ args) × (frame.items.items ≡ i.Call 0 f kept ∷ [])
