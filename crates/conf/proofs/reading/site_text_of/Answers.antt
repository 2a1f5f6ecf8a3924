-- A text whose items fit has a server.
use Rattle.conf.proofs.Served.{served}
use Rattle.conf.proofs.reading.site_text_of.Goals as goal

pub conf_of-conf-requires : goal.conf_of-conf-requires
conf_of-conf-requires c = served _ _ _ c.in_ok-items.ensures c.in-Ok.ensures.ok
