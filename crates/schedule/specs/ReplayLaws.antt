-- Laws of replays that stand where they say, and of later ones.
use Rattle.std.specs.Prelude.{Some}
use Rattle.std.proofs.Common.{◌∙◌, refl, sym, ap}
use Rattle.std.proofs.Math.Nat.{le_refl, le_trans}
use Rattle.schedule.specs.declared.replay.Replay.{Replay}
use Rattle.schedule.specs.Counts.{losses_in, counted}
use Rattle.schedule.specs.ReplayBook.{book_of, Stands, IsLater}
use Rattle.schedule.specs.Told.{TellsSchedule}

-- a replay that stands at steps tells its schedule
pub tells : (w : Replay) → Stands w → TellsSchedule (book_of w)
tells w s = record {
  lines = w.course;
  schedule = refl;
  steps = s.steps;
  right = s.right;
  passed = s.passed;
  history = ap Some (sym s.history);
  offered = ap Some (sym s.offered);
  faults = s.faults;
  losses = s.losses ∙ ap (λ h. counted (losses_in h)) (sym s.history);
  port = s.port;
}

-- a world is itself, and what comes later than a later world is later
pub IsLater-same : (world : Replay) → IsLater world world
IsLater-same world = record { schedule = refl; passed = le_refl world.passed; stands = λ stands. stands }

pub IsLater-joins : (first second third : Replay) → IsLater first second → IsLater second third → IsLater first third
IsLater-joins first second third early late = record {
  schedule = late.schedule ∙ early.schedule;
  passed = le_trans early.passed late.passed;
  stands = λ stands. late.stands (early.stands stands);
}
