use Rattle.site_frozen_laws.proofs.Handlers.{sets_stand}
use Rattle.site_frozen_laws.proofs.laws.sound_sets_stand.Goals as goal

pub returns : goal.returns
returns c = sets_stand c.library_is_lawful.ensures c.both_are_lawful.ensures c.started_sites_stand.ensures
