-- Where a thread begins, and where it goes on.
use Rattle.std.specs.Prelude.{◌≡◌, List, [], Option, false}
use Rattle.lua_ast.specs.declared.programs.Program.{Program}
use Rattle.lua_values.specs.declared.values.Value.{Value}
use Rattle.lua_meaning.specs.declared.positions.Position.{Position}
use Rattle.lua_meaning.specs.declared.resumes.Resumed.{Resumed}
use Rattle.lua_meaning.specs.Works.{ACall}
use Rattle.lua_meaning.specs.Evaluator.{State}
use Rattle.lua_meaning.specs.Setting.{Setting}
use Rattle.lua_meaning.specs.Calls.{calling}
use Rattle.lua_meaning.specs.Nodes.{eval}
use Rattle.lua_meaning.specs.Life.{outcome_of}
use Rattle.lua_frames.specs.declared.threads.Frames.{Frames}
use Rattle.lua_frames.specs.Signals.{sign_of}
use Rattle.lua_frames.specs.Frames.{finish, answer_sign}

-- what is left of the thread is its call, in any store and whatever it will be resumed with
abbrev pub Begins : Value → List Value → Frames → Type 0
Begins f args frames = (S : Setting) (w : State) → outcome_of (finish S frames w) ≡ outcome_of (eval S (ACall f args) (calling [] false) [] w)

-- what was asked at a position is answered, and the calls are as they were
pub record Answers (program : Program) (position : Option Position) (answer : Resumed) (old new : Frames) : Type 0 where
  pub below : new.below ≡ old.below
  pub top : new.top ≡ old.top
  pub given : (S : Setting) → S.program ≡ program → sign_of new.given ≡ answer_sign S position answer
