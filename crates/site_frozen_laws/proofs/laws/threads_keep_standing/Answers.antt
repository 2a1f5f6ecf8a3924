use Rattle.site_frozen_laws.proofs.Threads.{threads_keep}
use Rattle.site_frozen_laws.proofs.laws.threads_keep_standing.Goals as goal

pub returns : goal.returns
returns g c finish = threads_keep c.lives_keep_standing.ensures c.resumes_keep_standing.ensures finish
