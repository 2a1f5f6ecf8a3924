use Rattle.run_threads.proofs.Handling.{times_hidden}
use Rattle.run_threads.proofs.laws.times_never_show.Goals as goal

pub returns : goal.returns
returns c = times_hidden
