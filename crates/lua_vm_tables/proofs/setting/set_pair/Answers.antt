use Rattle.lua_values.specs.declared.faults.StoreFault.TheVariants.{Frozen, Full, BadKey}
use Rattle.lua_vm_tables.proofs.SetLemmas.{pair_set, pair_refused}
use Rattle.lua_vm_tables.proofs.setting.set_pair.Goals as goal

pub returns-in-Ok : goal.returns-in-Ok
returns-in-Ok c = pair_set c.args.t c.args.key c.args.value c.args.store.now c.set.new.self c.in-Ok.ensures.allowed c.in-Ok.ensures.done

pub returns-in-Err-Frozen : goal.returns-in-Err-Frozen
returns-in-Err-Frozen c =
    pair_refused c.args.t c.args.key c.args.value Frozen c.args.store.now c.set.new.self (rw c.in-Err-Frozen.field-0-is at c.in-Err-Frozen.ensures.cause) (λ h. cc) c.in-Err-Frozen.ensures.kept

pub returns-in-Err-Full : goal.returns-in-Err-Full
returns-in-Err-Full c =
    pair_refused c.args.t c.args.key c.args.value Full c.args.store.now c.set.new.self (rw c.in-Err-Full.field-0-is at c.in-Err-Full.ensures.cause) (λ h. cc) c.in-Err-Full.ensures.kept

pub returns-in-Err-BadKey : goal.returns-in-Err-BadKey
returns-in-Err-BadKey c =
    pair_refused c.args.t c.args.key c.args.value BadKey c.args.store.now c.set.new.self (rw c.in-Err-BadKey.field-0-is at c.in-Err-BadKey.ensures.cause) (λ h. cc) c.in-Err-BadKey.ensures.kept
