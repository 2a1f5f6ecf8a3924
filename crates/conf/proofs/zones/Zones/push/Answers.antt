use Rattle.std.proofs.Common.{◌≡◌, false, ap, map, ◌∙◌}
use Rattle.conf.specs.Entries.{zone_of}
use Rattle.conf.specs.Zones.{has_zone}
use Rattle.conf.proofs.Entries.{one_more}
use Rattle.conf.proofs.zones.Zones.push.Goals as goal

pub returns : goal.returns
returns c =
    let sizes = c.self.inside.sizes.entries in
    let none : has_zone (map zone_of sizes) c.args.name ≡ false = ap (λ zones. has_zone zones c.args.name) c.self.view_is ∙ c.requires in
    rw (← c.self.view_is) (ap (map zone_of) c.in-Ok.ensures.entries ∙ one_more sizes c.args.name c.args.size none)
