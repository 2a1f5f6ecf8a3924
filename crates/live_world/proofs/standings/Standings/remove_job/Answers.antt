use Rattle.std.proofs.Common.{false, ap}
use Rattle.live_world.specs.Kept.{Kept}
use Rattle.live_world.proofs.KeptLemmas.{job-updated}
use Rattle.live_world.proofs.standings.Standings.remove_job.Goals as goal

pub returns-clause-jobs : goal.returns-clause-jobs
returns-clause-jobs c = λ n.
    job-updated n c.args.number c.self.inside.jobs.keys c.args.self.now.jobs c.swap_remove.new.self.keys false
    (ap (λ (k : Kept). k.jobs) c.self.view_is) (c.swap_remove.ensures.updates.0 n)
