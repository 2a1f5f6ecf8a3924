use Rattle.std.proofs.Common.{◌∙◌}
use Rattle.conf.proofs.Entries.{has_entry}
use Rattle.conf.proofs.zones.Zones.has.Goals as goal

pub returns : goal.returns
returns c = rw (← c.self.view_is) (c.contains_key.ensures ∙ has_entry c.self.inside.sizes.entries c.args.name.now)
