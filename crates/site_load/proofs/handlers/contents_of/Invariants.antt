use Rattle.std.proofs.Common.{◌≡◌, take}
use Rattle.std.specs.Prelude.{flat_map}
use Rattle.conf.specs.declared.sites.ServerConf.{ServerConf}
use Rattle.site_load.specs.Handlers.{contents_in}
use Rattle.site_load.proofs.handlers.contents_of.Given as goal

abbrev pub invariant-loop-server : goal.invariant-loop-server
invariant-loop-server l = l.contents.items ≡ flat_map (λ (server : ServerConf). contents_in server.locations) (take l.server-index l.server-items)
