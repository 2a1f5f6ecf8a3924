-- What is left of a thread, by all with which it will still be resumed.
use Rattle.std.specs.Prelude.{◌≡◌, nat_lt, List, [], ◌∷◌, IsSome, if◌then◌else◌}
use Rattle.lua_values.specs.Heap.{step_limit}
use Rattle.lua_meaning.specs.Works.{Sign, Values, Return, Break, Failed}
use Rattle.lua_meaning.specs.Evaluator.{Resume, Ending, Spent}
use Rattle.lua_meaning.specs.Setting.{Setting}
use Rattle.lua_meaning.specs.Life.{Unbegun, outcome_of}
use Rattle.lua_machine.specs.Finishes.{Finish}
use Rattle.lua_frames.specs.declared.flow.Flow.{Flow}
use Rattle.lua_frames.specs.declared.flow.Flow.TheVariants as flow
use Rattle.lua_frames.specs.declared.threads.Frames.{Frames}
use Rattle.lua_frames.specs.Frames.{finish, given}
use Rattle.lua_threads.specs.declared.ended.Ended.{Ended}
use Rattle.lua_threads.specs.declared.ended.Ended.TheVariants as ended
use Rattle.lua_threads.specs.declared.threads.Stage.{Stage}
use Rattle.lua_threads.specs.declared.threads.Stage.TheVariants as stage
use Rattle.lua_threads.specs.declared.threads.Thread.{Thread}

-- frames at a stage, resumed with r and later with these
abbrev pub resumed_at : Setting → Frames → Stage → Resume → List Resume → Ending
resumed_at S fs stage.New r resumes = finish S fs (record { store = r.store; resumes = resumes })
resumed_at S fs (stage.Parked position) r resumes =
    if nat_lt r.store.steps step_limit then given S fs position r.answer (record { store = r.store; resumes = resumes }) else Spent

-- what will come of a thread
abbrev pub left : Setting → Thread → Finish
left S t [] = Unbegun
left S t (r ∷ resumes) = outcome_of (resumed_at S t.frames t.stage r resumes)

-- how a thread ended, by what all its calls gave
abbrev pub HasEnded : Sign → Ended → Type 0
HasEnded (Values vs) e = e ≡ ended.Done vs
HasEnded (Return vs) e = e ≡ ended.Done vs
HasEnded Break e = e ≡ ended.Done []
HasEnded (Failed v) e = e ≡ ended.Failed v

-- frames that were run until they stop don't go on, and what they ask is there
abbrev pub Stops : Frames → Flow → Type 0
Stops fs flow.Went = ⊥
Stops fs flow.Asked = IsSome fs.asked
Stops fs flow.Spent = Unit {0}
Stops fs flow.Over = Unit {0}
