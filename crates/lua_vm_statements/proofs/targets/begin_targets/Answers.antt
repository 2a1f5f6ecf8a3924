use Rattle.lua_vm_statements.proofs.TargetLemmas.{targets_begin}
use Rattle.lua_vm_statements.proofs.targets.begin_targets.Goals as goal

pub returns : goal.returns
returns g c =
    targets_begin (g.H.Host.setting c.args.host.now) c.new-found.result c.args.targets.now c.args.xs.now c.in_ok-targets.targets c.in_ok-values.values c.args.frames.now c.find_targets.new.frames c.args.store.now c.find_targets.new.store c.find_targets.result
    c.new-found.ensures.items c.in_ok-targets.ensures c.in_ok-values.ensures c.find_targets.ensures
