-- What frames stand for: what is left of a thread, by the evaluator.
use Rattle.std.specs.Prelude.{List, [], ◌∷◌, ◌++◌}
use Rattle.lua_values.specs.Heap.{StoreView}
use Rattle.lua_meaning.specs.declared.positions.Position.{Position}
use Rattle.lua_meaning.specs.declared.resumes.Resumed.{Resumed}
use Rattle.lua_meaning.specs.declared.resumes.Resumed.TheVariants as resumed
use Rattle.lua_values.specs.declared.values.Value.TheVariants.{Text}
use Rattle.lua_meaning.specs.Works.{Caller, Places, Node, Slots, Sign, Values, Failed, Work, End}
use Rattle.lua_meaning.specs.Evaluator.{Resume, State, Ending, Ended, after, do_work}
use Rattle.lua_meaning.specs.Setting.{Setting}
use Rattle.lua_meaning.specs.Positions.{position_text}
use Rattle.lua_meaning.specs.Signs.{give}
use Rattle.lua_meaning.specs.Calls.{function_end}
use Rattle.lua_meaning.specs.ProtectedCalls.{protected, protected_by, handled_fault}
use Rattle.lua_meaning.specs.Nodes.{eval}
use Rattle.std.specs.Prelude.{Option}
use Rattle.lua_frames.specs.declared.frames.Frame.{Frame}
use Rattle.lua_frames.specs.declared.frames.Kind.{Kind}
use Rattle.lua_frames.specs.declared.frames.Kind.TheVariants.{Base, Lua, Guard, Handled, Handling}
use Rattle.lua_frames.specs.declared.items.Item.{Item}
use Rattle.lua_frames.specs.declared.threads.Frames.{Frames}
use Rattle.lua_frames.specs.Around.{deeper, around_of, places_of}
use Rattle.lua_frames.specs.Signals.{sign_of}
use Rattle.lua_frames.specs.Items.{resume_item}

-- how a frame of a kind, with these callers around it, ends for the frame below
abbrev pub closing : Setting → Kind → List Caller → Sign → Work
closing S Base around sign = End sign []
closing S Lua around sign = End (function_end sign) []
closing S Guard around sign = give (protected sign) []
closing S (Handled by) around sign = protected_by by around [] sign
closing S Handling around sign = give (handled_fault sign) []

-- The items of one call, the outermost first: each goes on with how those after it end.
abbrev pub finish_items : Setting → Places → List Item → Ending → Ending
finish_items S p [] o = o
finish_items S p (item ∷ items) o = after (finish_items S p items o) (λ sign s w. do_work (eval S) (resume_item S item p sign s) w)

-- how a frame ends whose items end so
abbrev pub closed : Setting → Kind → List Caller → Ending → Ending
closed S kind around o = after o (λ sign s w. do_work (eval S) (closing S kind around sign) w)

-- how the frame above ended, with one's own slots
abbrev pub back : Slots → Ending → Ending
back s o = after o (λ sign s' w. Ended sign s w)

-- Calls that wait, the outermost first: each goes on with how the call that it waits for ends.
abbrev pub finish_calls : Setting → List Caller → List Frame → Ending → Ending
finish_calls S around [] o = o
finish_calls S around (f ∷ fs) o =
    closed S f.kind around (finish_items S (places_of around f) f.items.items (back f.slots.items (finish_calls S (deeper around f) fs o)))

-- the Lua functions around the innermost call, and where it evaluates
abbrev pub around : Frames → List Caller
around fs = around_of [] fs.below.frames.items

abbrev pub here : Frames → Places
here fs = places_of (around fs) fs.top

-- what is left of a thread whose innermost item waits for what ends so
abbrev pub finish_from : Setting → Frames → Ending → Ending
finish_from S fs o = finish_calls S [] fs.below.frames.items (closed S fs.top.kind (around fs) (finish_items S (here fs) fs.top.items.items o))

-- the slots of the innermost call
abbrev pub slots_of : Frames → Slots
slots_of fs = fs.top.slots.items

-- What is left of a thread: the innermost item takes what is given.
abbrev pub finish : Setting → Frames → State → Ending
finish S fs w = finish_from S fs (Ended (sign_of fs.given) (slots_of fs) w)

-- what is left of one that evaluates a node on top, in a store, by what it will be resumed with
abbrev pub entering : Setting → Node → Frames → StoreView → List Resume → Ending
entering S n fs store resumes = finish_from S fs (eval S n (here fs) (slots_of fs) (record { store = store; resumes = resumes }))

-- and of one that does work on top
abbrev pub working : Setting → Work → Frames → StoreView → List Resume → Ending
working S q fs store resumes = finish_from S fs (do_work (eval S) q (record { store = store; resumes = resumes }))

-- what a call that was asked at a position comes to by an answer
abbrev pub answer_sign : Setting → Option Position → Resumed → Sign
answer_sign S position (resumed.Values vs) = Values vs
answer_sign S position (resumed.Raise text) = Failed (Text (position_text S position ++ text))

-- what is left of a thread once its call, asked at a position, is answered
abbrev pub given : Setting → Frames → Option Position → Resumed → State → Ending
given S fs position answer w = finish_from S fs (Ended (answer_sign S position answer) (slots_of fs) w)
