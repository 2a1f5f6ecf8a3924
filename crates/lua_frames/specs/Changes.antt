-- What the parts of the machine change of its frames, and what they leave.
use Rattle.std.specs.Prelude.{◌≡◌, ◌⊎◌, ℕ, List, [], ◌∷◌, ◌++◌, Result, IfOk, Option, MatchOption}
use Rattle.std.specs.declared.alloc.Global.{Global}
use Rattle.std.specs.declared.vec.Vec.{Vec}
use Rattle.lua_values.specs.declared.values.Value.{Value}
use Rattle.lua_meaning.specs.Works.{Sign, Failed}
use Rattle.lua_frames.specs.declared.flow.Flow.{Flow}
use Rattle.lua_frames.specs.declared.flow.Flow.TheVariants as flow
use Rattle.lua_frames.specs.declared.frames.Frame.{Frame}
use Rattle.lua_frames.specs.declared.frames.Kind.{Kind}
use Rattle.lua_frames.specs.declared.frames.Kind.TheVariants.{Handled, Handling}
use Rattle.lua_frames.specs.declared.items.Item.{Item}
use Rattle.lua_frames.specs.declared.items.Item.TheVariants as i
use Rattle.lua_frames.specs.declared.signals.Signal.TheVariants as signal
use Rattle.lua_frames.specs.declared.threads.Frames.{Frames}
use Rattle.lua_frames.specs.Signals.{sign_of, Passes, HasFirst, HasValues}

-- an item more on top
pub record Waits (old : Frames) (item : Item) (new : Frames) : Type 0 where
  pub below : new.below ≡ old.below
  pub kind : new.top.kind ≡ old.top.kind
  pub function : new.top.function ≡ old.top.function
  pub cells : new.top.cells ≡ old.top.cells
  pub extras : new.top.extras ≡ old.top.extras
  pub slots : new.top.slots ≡ old.top.slots
  pub items : new.top.items.items ≡ old.top.items.items ++ item ∷ []

-- what a thread goes on by stays, but for the slots of the frame on top
pub record KeepsAllButSlots (old new : Frames) : Type 0 where
  pub below : new.below ≡ old.below
  pub kind : new.top.kind ≡ old.top.kind
  pub function : new.top.function ≡ old.top.function
  pub cells : new.top.cells ≡ old.top.cells
  pub extras : new.top.extras ≡ old.top.extras
  pub items : new.top.items ≡ old.top.items

-- gives what ends work, and leaves the calls
pub record Ends {E : Type 0} (sign : Sign) (old new : Frames) (r : Result Flow E) : Type 0 where
  pub below : new.below ≡ old.below
  pub top : new.top ≡ old.top
  pub given : sign_of new.given ≡ sign
  pub went : IfOk r (λ f. f ≡ flow.Went)

-- takes the first value of what is given, or leaves what gives no values
pub record TakesFirst (old new : Frames) (r : Option Value) : Type 0 where
  pub below : new.below ≡ old.below
  pub top : new.top ≡ old.top
  pub value : MatchOption r (Passes (sign_of old.given) × (new.given ≡ old.given)) (λ v. HasFirst (sign_of old.given) v)

-- takes all values of what is given, or leaves what gives no values
pub record TakesValues (old new : Frames) (r : Option (List Value)) : Type 0 where
  pub below : new.below ≡ old.below
  pub top : new.top ≡ old.top
  pub values : MatchOption r (Passes (sign_of old.given) × (new.given ≡ old.given)) (λ vs. HasValues (sign_of old.given) vs)

-- a frame of a kind, in which one item waits
pub record IsFrameWith (kind : Kind) (item : Item) (frame : Frame) : Type 0 where
  pub is : frame.kind ≡ kind
  pub items : frame.items.items ≡ item ∷ []

-- a call begins in a frame on top; the one that was on top calls at this line, and the same items wait in it
pub record Pushes (line : ℕ) (old : Frames) (frame : Frame) (new : Frames) : Type 0 where
  pub items : Vec Item Global
  pub same : items.items ≡ old.top.items.items
  pub below : new.below.frames.items ≡ old.below.frames.items ++ (record old.top { line = line; items = items }) ∷ []
  pub top : new.top ≡ frame

-- a frame stands in place of the one on top
pub record Replaces (old : Frames) (frame : Frame) (new : Frames) : Type 0 where
  pub below : new.below ≡ old.below
  pub top : new.top ≡ frame
  pub given : new.given ≡ old.given

-- the frame below is on top again, or all calls have ended
abbrev pub GoesBack : Frames → Frames → Flow → Type 0
GoesBack old new flow.Went = (old.below.frames.items ≡ new.below.frames.items ++ new.top ∷ []) × (new.given ≡ old.given)
GoesBack old new flow.Over = (old.below.frames.items ≡ []) × (new.given ≡ old.given)
GoesBack old new flow.Asked = ⊥
GoesBack old new flow.Spent = ⊥

-- the frame on top calls its handler with a fault as it goes on
pub record Handles (old : Frames) (handler fault : Value) (new : Frames) : Type 0 where
  pub below : new.below ≡ old.below
  pub kind : new.top.kind ≡ Handling
  pub given : new.given ≡ signal.Nothing
  pub items : (args : Vec Value Global) × (args.items ≡ fault ∷ []) × (new.top.items.items ≡ old.top.items.items ++ i.Call 0 handler args ∷ [])

-- the handler of `xpcall`, under which the frame on top runs, is called with the fault in which it ended
pub record CallsHandler (old new : Frames) : Type 0 where
  pub handler : Value
  pub fault : Value
  pub kind : old.top.kind ≡ Handled handler
  pub ended : sign_of old.given ≡ Failed fault
  pub handles : Handles old handler fault new

-- the innermost call has ended: the frame below is on top again, or the handler is called, or all calls have ended
abbrev pub Leaves : Frames → Frames → Flow → Type 0
Leaves old new flow.Went = (old.below.frames.items ≡ new.below.frames.items ++ new.top ∷ []) ⊎ CallsHandler old new
Leaves old new flow.Over = old.below.frames.items ≡ []
Leaves old new flow.Asked = ⊥
Leaves old new flow.Spent = ⊥
