-- What the work on a command comes to.
use Rattle.std.specs.Prelude.{◌≢◌}
use Rattle.commands.specs.declared.endings.Ending.{Ending}
use Rattle.commands.specs.declared.endings.Ending.TheVariants as ending
use Rattle.commands.specs.Due.{IsDue}
use Rattle.commands.specs.Ending.{status_of}
use Rattle.commands.specs.Outside.{Outside}
use Rattle.commands.specs.Words.{Command}
use Rattle.commands.specs.Writing.{Writes}

-- it ends as is due, and wrote what is due
pub record Works (c : Command) (old new : Outside) (e : Ending) : Type 0 where
  pub due : IsDue c old new e
  pub writes : Writes c old.files.told (status_of e) old.out new.out
  pub form : e ≢ ending.Usage
