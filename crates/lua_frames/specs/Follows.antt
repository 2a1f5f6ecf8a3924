-- The promise of the machine's functions: what they leave stands for what was to be done.
use Rattle.std.specs.Prelude.{◌≡◌, List, [], Result, IfOk, Option, Some, None}
use Rattle.lua_values.specs.Heap.{StoreView}
use Rattle.lua_meaning.specs.Works.{Node, Work}
use Rattle.lua_meaning.specs.Evaluator.{Resume, Ending, Ended, Spent, answered, do_work}
use Rattle.lua_meaning.specs.Setting.{Setting}
use Rattle.lua_meaning.specs.Nodes.{eval}
use Rattle.lua_frames.specs.declared.flow.Flow.{Flow}
use Rattle.lua_frames.specs.declared.flow.Flow.TheVariants as flow
use Rattle.lua_frames.specs.declared.flow.Op.{Op}
use Rattle.lua_frames.specs.declared.items.Item.{Item}
use Rattle.lua_frames.specs.declared.threads.Frames.{Frames}
use Rattle.lua_frames.specs.Signals.{sign_of}
use Rattle.lua_frames.specs.Items.{resume_item}
use Rattle.lua_frames.specs.Frames.{finish, entering, working, given, here, slots_of}

-- a thread asks this operation of the outside, in a store
abbrev pub Asks : Setting → (List Resume → Ending) → StoreView → Frames → Option Op → Type 0
Asks S o store fs None = ⊥
Asks S o store fs (Some op) = (resumes : List Resume) → o resumes ≡ answered op.number op.args op.position store resumes (given S fs op.position)

-- frames and a store that were left stand for what was to be done, by all with which the thread will still be resumed
abbrev pub Follows : Setting → (List Resume → Ending) → StoreView → Frames → Flow → Type 0
Follows S o store fs flow.Went = (resumes : List Resume) → o resumes ≡ finish S fs (record { store = store; resumes = resumes })
Follows S o store fs flow.Asked = Asks S o store fs fs.asked
Follows S o store fs flow.Spent = (resumes : List Resume) → o resumes ≡ Spent
Follows S o store fs flow.Over = (resumes : List Resume) → o resumes ≡ Ended (sign_of fs.given) [] (record { store = store; resumes = resumes })

-- a call that goes on from what is given
pub record Turns {E : Type 0} (S : Setting) (old : Frames) (before : StoreView) (new : Frames) (store : StoreView)
    (r : Result Flow E) : Type 0 where
  pub follows : IfOk r (λ f. Follows S (λ resumes. finish S old (record { store = before; resumes = resumes })) store new f)

-- a call that evaluates a node on top
pub record Enters {E : Type 0} (S : Setting) (n : Node) (old : Frames) (before : StoreView) (new : Frames) (store : StoreView)
    (r : Result Flow E) : Type 0 where
  pub follows : IfOk r (λ f. Follows S (entering S n old before) store new f)

-- a call that does work on top
pub record Works {E : Type 0} (S : Setting) (q : Work) (old : Frames) (before : StoreView) (new : Frames) (store : StoreView)
    (r : Result Flow E) : Type 0 where
  pub follows : IfOk r (λ f. Follows S (working S q old before) store new f)

-- a call in which an item, taken off the innermost call, does its work with what is given
abbrev pub Takes : {E : Type 0} → Setting → Item → Frames → StoreView → Frames → StoreView → Result Flow E → Type 0
Takes S item old before new store r = Works S (resume_item S item (here old) (sign_of old.given) (slots_of old)) old before new store r

-- work in a store comes to other work in another one, whatever the thread is resumed with
abbrev pub ComesTo : Setting → Work → StoreView → Work → StoreView → Type 0
ComesTo S q before q' store =
    (resumes : List Resume)
    → do_work (eval S) q (record { store = before; resumes = resumes }) ≡ do_work (eval S) q' (record { store = store; resumes = resumes })
