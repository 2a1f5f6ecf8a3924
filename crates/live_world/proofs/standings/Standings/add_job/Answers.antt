use Rattle.std.proofs.Common.{true, ap}
use Rattle.live_world.specs.Kept.{Kept}
use Rattle.live_world.proofs.KeptLemmas.{job-updated}
use Rattle.live_world.proofs.standings.Standings.add_job.Goals as goal

pub returns-clause-jobs : goal.returns-clause-jobs
returns-clause-jobs c = λ n.
    job-updated n c.args.number c.self.inside.jobs.keys c.args.self.now.jobs c.insert.new.self.keys true
    (ap (λ (k : Kept). k.jobs) c.self.view_is) (c.in-Ok.ensures.updates.0 n)
