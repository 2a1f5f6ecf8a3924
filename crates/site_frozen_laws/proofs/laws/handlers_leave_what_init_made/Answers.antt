use Rattle.site_frozen_laws.proofs.Handlers.{handlers_keep, handlers_leave}
use Rattle.site_frozen_laws.proofs.laws.handlers_leave_what_init_made.Goals as goal

pub returns-clause-keep : goal.returns-clause-keep
returns-clause-keep c = handlers_keep c.writes_keep_fitting.ensures c.lives_keep_standing.ensures

pub returns-clause-leave : goal.returns-clause-leave
returns-clause-leave c =
    handlers_leave c.library_is_lawful.ensures c.both_are_lawful.ensures c.writes_keep_fitting.ensures c.lives_keep_standing.ensures c.started_sites_stand.ensures c.runs_leave_what_init_made.ensures.runs
