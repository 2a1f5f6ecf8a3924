-- What is left of a thread that was resumed.
use Rattle.std.specs.Prelude.{◌≡◌, ◌≤◌, ◌<◌, nat_lt, List, Bool, true, false, if◌then◌else◌, Option, Some, None, IsSome, Result, IfOk, refl}
use Rattle.std.proofs.Common.{sym, subst, arith}
use Rattle.std.proofs.lemmas.Bool.{ltb-false}
use borrow.Author.Tests.{ltb-true}
use Rattle.lua_ast.specs.declared.programs.Program.{Program}
use Rattle.lua_values.specs.Heap.{StoreView, step_limit}
use Rattle.lua_meaning.specs.declared.positions.Position.{Position}
use Rattle.lua_meaning.specs.declared.resumes.Resumed.{Resumed}
use Rattle.lua_meaning.specs.Evaluator.{Resume, Ending, Spent}
use Rattle.lua_meaning.specs.Setting.{Setting}
use Rattle.lua_meaning.specs.Life.{Outcome}
use Rattle.lua_machine.specs.declared.slices.Slice.{Slice}
use Rattle.lua_machine.specs.Finishes.{IsOutcome}
use Rattle.lua_frames.specs.declared.flow.Flow.{Flow}
use Rattle.lua_frames.specs.declared.flow.Flow.TheVariants as flow
use Rattle.lua_frames.specs.declared.flow.Op.{Op}
use Rattle.lua_frames.specs.declared.threads.Frames.{Frames}
use Rattle.lua_frames.specs.Frames.{finish, given}
use Rattle.lua_frames.specs.Follows.{Follows, Asks}
use Rattle.lua_frames.specs.Starting.{Answers}
use Rattle.lua_threads.specs.declared.threads.Stage.TheVariants as stage
use Rattle.lua_threads.specs.declared.threads.Thread.{Thread}
use Rattle.lua_threads.specs.Left.{resumed_at, left, Stops}

-- the same outcome in another form
pub comes_as : {E : Type 0} (S : Setting) (o same : Outcome) (rs : List Resume) (store : StoreView) (r : Result (Slice Thread) E) → o ≡ same → IfOk r (λ s. IsOutcome (left S) same rs store s) → IfOk r (λ s. IsOutcome (left S) o rs store s)
comes_as S o same rs store r e h = subst (λ (t : Outcome). IfOk r (λ s. IsOutcome (left S) t rs store s)) (sym e) h

-- its call is answered, and it goes on
pub answer_goes : (S : Setting) (program : Program) (position : Option Position) (answer : Resumed) (old new : Frames) (store : StoreView) (rs : List Resume)
    → S.program ≡ program → Answers program position answer old new → finish S new (record { store = store; resumes = rs }) ≡ given S old position answer (record { store = store; resumes = rs })
answer_goes S program position answer old new store rs is h = rw (h.below, h.top, h.given S is) refl

pub steps_left : (S : Setting) (fs : Frames) (position : Option Position) (r : Resume) (rs : List Resume) → r.store.steps < step_limit
    → resumed_at S fs (stage.Parked position) r rs ≡ given S fs position r.answer (record { store = r.store; resumes = rs })
steps_left S fs position r rs few = by_test (nat_lt r.store.steps step_limit) refl
  where
    by_test : (t : Bool) → nat_lt r.store.steps step_limit ≡ t → (if t then given S fs position r.answer (record { store = r.store; resumes = rs }) else Spent) ≡ given S fs position r.answer (record { store = r.store; resumes = rs })
    by_test true e = refl
    by_test false e = absurd (omega (arith, ltb-false _ _ e, few))

pub no_steps_left : (S : Setting) (fs : Frames) (position : Option Position) (r : Resume) (rs : List Resume) → step_limit ≤ r.store.steps → resumed_at S fs (stage.Parked position) r rs ≡ Spent
no_steps_left S fs position r rs none = by_test (nat_lt r.store.steps step_limit) refl
  where
    by_test : (t : Bool) → nat_lt r.store.steps step_limit ≡ t → (if t then given S fs position r.answer (record { store = r.store; resumes = rs }) else Spent) ≡ Spent
    by_test true e = absurd (omega (arith, ltb-true _ _ e, none))
    by_test false e = refl

-- what is asked is there
asked_there : (S : Setting) (o : List Resume → Ending) (store : StoreView) (fs : Frames) (op : Option Op) → Asks S o store fs op → IsSome op
asked_there S o store fs None h = absurd h
asked_there S o store fs (Some op) h = refl

-- frames stop that follow something and don't go on
pub stops : (S : Setting) (o : List Resume → Ending) (store : StoreView) (fs : Frames) (f : Flow) → Follows S o store fs f → (f ≡ flow.Went → ⊥) → Stops fs f
stops S o store fs flow.Went h k = absurd (k refl)
stops S o store fs flow.Asked h k = asked_there S o store fs fs.asked h
stops S o store fs flow.Spent h k = tt
stops S o store fs flow.Over h k = tt
