use Rattle.lua_values.specs.declared.values.Value.TheVariants.{Text}
use Rattle.lua_meaning.specs.Indexing.{index_work}
use Rattle.lua_frames.proofs.FollowLemmas.{work_under}
use Rattle.lua_vm_tables.proofs.methods.look_up.Goals as goal

pub returns : goal.returns
returns g c =
    work_under (g.H.Host.setting c.args.host.now) c.args.frames.now c.wait.new.frames c.index.new.frames c.args.item
    (λ p s. index_work (g.H.Host.setting c.args.host.now) c.args.line c.args.object (Text c.args.name) p s) c.args.store.now c.index.new.store c.index.result c.in_ok-wait.ensures c.index.ensures
