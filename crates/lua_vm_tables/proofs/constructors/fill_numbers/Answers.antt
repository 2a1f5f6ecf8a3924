use Rattle.std.proofs.Common.{◌≡◌, refl, get_or}
use Rattle.std.proofs.lemmas.List.{drop_more}
use Rattle.lua_frames.proofs.DropLemmas.{dropped_all}
use Rattle.lua_vm_tables.proofs.SetLemmas.{filled_on, filled_fails, filled_all}
use Rattle.lua_vm_tables.proofs.constructors.fill_numbers.Goals as goal

pub loop-value-init : goal.loop-value-init
loop-value-init c = λ S callers s go rs. refl

pub loop-value-preserved : goal.loop-value-preserved
loop-value-preserved c =
    let copy : c.in_ok-clone.field-0 ≡ get_or c.args.values.now c.loop-value.value-index c.value-item.result = cc (c.in_ok-clone.ensures.cases, c.value-item.is) in
    filled_on c.args.t c.args.number c.loop-value.number c.args.values.now c.args.values.now c.loop-value.value-index c.in_ok-key.key (get_or c.args.values.now c.loop-value.value-index c.value-item.result) c.in_ok-clone.field-0 c.args.store.now c.loop-value.store c.set_pair.new.store
    c.loop-value.invariant (drop_more c.args.values.now c.loop-value.value-index c.value-item.result c.loop-value-test.true) c.in_ok-key.ensures.key copy (rw c.in-None.is at c.in_ok-set_pair.ensures)

pub returns-in-Some : goal.returns-in-Some
returns-in-Some c =
    let copy : c.in_ok-clone.field-0 ≡ get_or c.args.values.now c.loop-value.value-index c.value-item.result = cc (c.in_ok-clone.ensures.cases, c.value-item.is) in
    filled_fails c.args.t c.args.number c.loop-value.number c.args.values.now c.args.values.now c.loop-value.value-index c.in_ok-key.key (get_or c.args.values.now c.loop-value.value-index c.value-item.result) c.in_ok-clone.field-0 c.in-Some.fault c.args.store.now c.loop-value.store c.set_pair.new.store
    c.loop-value.invariant (drop_more c.args.values.now c.loop-value.value-index c.value-item.result c.loop-value-test.true) c.in_ok-key.ensures.key copy (rw c.in-Some.is at c.in_ok-set_pair.ensures)

pub returns : goal.returns
returns c =
    filled_all c.args.t c.args.number c.loop-value.number c.args.values.now _ c.args.store.now c.loop-value.store c.loop-value.invariant (dropped_all c.args.values.now c.loop-value.value-index c.loop-value-test.false)
