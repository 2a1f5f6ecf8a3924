use Rattle.site_frozen_laws.proofs.Sites.{starts_freeze, runs_leave}
use Rattle.site_frozen_laws.proofs.laws.runs_leave_what_init_made.Goals as goal

pub returns-clause-starts : goal.returns-clause-starts
returns-clause-starts c = starts_freeze c.init_is_frozen.ensures

pub returns-clause-runs : goal.returns-clause-runs
returns-clause-runs c = runs_leave c.init_is_frozen.ensures c.lives_keep_standing.ensures
