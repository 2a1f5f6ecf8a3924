use Rattle.lua_meaning.specs.Signs.{values_of}
use Rattle.lua_frames.proofs.FollowLemmas.{work_under}
use Rattle.lua_vm_expressions.proofs.under.list_under.Goals as goal

pub returns : goal.returns
returns g c =
    work_under (g.H.Host.setting c.args.host.now) c.args.frames.now c.wait.new.frames c.begin_list.new.frames c.args.item (values_of c.args.xs.now.value.items) c.args.store.now c.begin_list.new.store c.begin_list.result c.in_ok-wait.ensures c.begin_list.ensures
