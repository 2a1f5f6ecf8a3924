use Rattle.schedule.proofs.Stopping.{all-passed}
use Rattle.schedule.proofs.laws.stop_ends_the_schedule.Goals as goal

pub returns : goal.returns
returns c = all-passed
