use Rattle.site_frozen_laws.proofs.Sites.{sites_stand}
use Rattle.site_frozen_laws.proofs.laws.started_sites_stand.Goals as goal

pub returns : goal.returns
returns c = sites_stand c.calls_keep_standing.ensures c.starts_stand.ensures
