-- Assignments that are done at once, in the frame on top.
use Rattle.std.specs.Prelude.{◌≡◌, Bool, true, false, [], Result, Ok, IfOk}
use Rattle.lua_values.specs.declared.values.Value.{Value}
use Rattle.lua_values.specs.Heap.{StoreView}
use Rattle.lua_meaning.specs.Works.{Sign, Values, Return, Break, Failed, Work, End}
use Rattle.lua_meaning.specs.Setting.{Setting}
use Rattle.lua_frames.specs.declared.flow.Flow.{Flow}
use Rattle.lua_frames.specs.declared.flow.Flow.TheVariants as flow
use Rattle.lua_frames.specs.declared.threads.Frames.{Frames}
use Rattle.lua_frames.specs.Signals.{sign_of}
use Rattle.lua_frames.specs.Frames.{slots_of}
use Rattle.lua_frames.specs.Changes.{Ends, KeepsAllButSlots}
use Rattle.lua_frames.specs.Follows.{ComesTo}

-- a call that fails with a value
pub record Fails {E : Type 0} (v : Value) (old new : Frames) (r : Result Flow E) : Type 0 where
  pub fails : IfOk r (λ f. Ends {E = E} (Failed v) old new (Ok f))

-- an assignment gives no value, or fails
abbrev pub IsAssigned : Sign → Type 0
IsAssigned (Values vs) = vs ≡ []
IsAssigned (Return vs) = ⊥
IsAssigned Break = ⊥
IsAssigned (Failed v) = Unit {0}

-- what gives a fault has failed
abbrev pub has_failed : Sign → Bool
has_failed (Values vs) = false
has_failed (Return vs) = false
has_failed Break = false
has_failed (Failed v) = true

-- an assignment's work is done: it comes to what is given
pub record Assigns (S : Setting) (q : Work) (old : Frames) (before : StoreView) (new : Frames) (store : StoreView) : Type 0 where
  pub keeps : KeepsAllButSlots old new
  pub comes : ComesTo S q before (End (sign_of new.given) (slots_of new)) store
  pub ends : IsAssigned (sign_of new.given)

abbrev pub IsDone : Setting → Work → Frames → StoreView → Frames → StoreView → Flow → Type 0
IsDone S q old before new store flow.Went = Assigns S q old before new store
IsDone S q old before new store flow.Asked = ⊥
IsDone S q old before new store flow.Spent = ⊥
IsDone S q old before new store flow.Over = ⊥

-- a call that does an assignment's work
pub record Does {E : Type 0} (S : Setting) (q : Work) (old : Frames) (before : StoreView) (new : Frames) (store : StoreView) (r : Result Flow E) : Type 0 where
  pub done : IfOk r (λ f. IsDone S q old before new store f)
