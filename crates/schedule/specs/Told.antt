-- What a schedule and a history have to do with one another.
use Rattle.std.specs.Prelude.{◌≡◌, ℕ, List, ◌++◌, take, Some}
use Rattle.resty_world.specs.declared.event.Event.TheVariants as event
use Rattle.resty_world.specs.declared.entry.Entry.{Entry}
use Rattle.resty_world.specs.declared.schedule_line.SchedLine.{SchedLine}
use Rattle.resty_world.specs.Book.{Book}
use Rattle.schedule_text.specs.Fitting.{IsSchedule}
use Rattle.schedule.specs.Counts.{losses_in, counted}
use Rattle.schedule.specs.Steps.{Step, AreSteps, history_of, lines_of, offers_of, port_of, newest_given, faults_in}

-- The history tells these lines, which are those that were passed; `offered` are the lengths of the pieces that were taken or put off. There
-- are steps that may come one after the other, in which these lines were passed and these entries were made.
pub record IsTold (passed : List SchedLine) (history : List Entry) (offered : List ℕ) : Type 0 where
  pub steps : List Step
  pub after : List SchedLine
  pub steps_right : AreSteps (passed ++ after) steps
  pub steps_lines : lines_of steps ≡ passed
  pub steps_history : history_of steps ≡ history
  pub steps_offers : offers_of steps ≡ offered

-- the same of a book, whose faults, losses and port are those of the steps
pub record TellsSchedule (book : Book) : Type 0 where
  pub lines : List SchedLine
  pub schedule : book.schedule ≡ Some lines
  pub steps : List Step
  pub right : AreSteps lines steps
  pub passed : lines_of steps ≡ take book.passed lines
  pub history : book.history ≡ Some (history_of steps)
  pub offered : book.offered ≡ Some (offers_of steps)
  pub faults : book.faults ≡ counted (faults_in steps)
  pub losses : book.losses ≡ counted (losses_in (history_of steps))
  pub port : book.port ≡ port_of steps

-- where the newest event of a history that a schedule tells is `stop`, all lines were passed
abbrev pub StopEndsSchedules : Type 0
StopEndsSchedules =
    (lines : List SchedLine) (passed : ℕ) (history : List Entry) (offered : List ℕ)
    → IsSchedule lines → IsTold (take passed lines) history offered → newest_given history ≡ Some event.Stop → take passed lines ≡ lines
