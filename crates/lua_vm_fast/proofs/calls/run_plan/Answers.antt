use Rattle.std.proofs.Common.{sym, ◌∙◌, ◌+◌, refl}
use Rattle.lua_values.specs.declared.values.Value.TheVariants.{Number}
use Rattle.lua_vm_fast.proofs.RunLemmas.{counted}
use Rattle.lua_vm_fast.proofs.CallLemmas.{as_seen, change_runs, change_sets}
use Rattle.lua_vm_fast.proofs.calls.run_plan.Goals as goal

pub returns-in-Some : goal.returns-in-Some
returns-in-Some c =
    let follows = rw c.in-Sets.is at c.requires.follows in
    let gives = rw c.deref.ensures.value at c.in-Some.ensures.gives in
    change_sets c.args.site.now c.args.site.now.levels c.args.stmt.now c.in-Sets.slot (c.in-Some.n.steps + c.in-Sets.more) (Number c.in-Some.n.number) c.take_number.result c.args.slots.now.items c.take_number.new.slots.items c.args.store.now c.take_number.new.store
    (follows c.args.site.now c.args.site.now.levels (Number c.in-Some.n.number) c.in-Some.n.steps (as_seen c.args.site.now c.args.site.now.levels c.in-Sets.x.now c.args.slots.now.items c.args.store.now.heap (Number c.in-Some.n.number) c.in-Some.n.steps gives))
    c.take_number.ensures

pub returns-in-Some-value_at : goal.returns-in-Some-value_at
returns-in-Some-value_at c =
    let follows = rw c.in-Sets.is at c.requires.follows in
    let gives = rw c.deref-in-None.ensures.value at c.in-Some-value_at.ensures.gives in
    change_sets c.args.site.now c.args.site.now.levels c.args.stmt.now c.in-Sets.slot (c.in-Some-value_at.v.steps + c.in-Sets.more) c.in-Some-value_at.v.value c.take_value.result c.args.slots.now.items c.take_value.new.slots.items c.args.store.now c.take_value.new.store
    (follows c.args.site.now c.args.site.now.levels c.in-Some-value_at.v.value c.in-Some-value_at.v.steps gives) c.take_value.ensures

pub returns-else-not-affords : goal.returns-else-not-affords
returns-else-not-affords c =
    let follows = rw c.in-Counts.is at c.requires.follows in
    let few = sym c.affords.ensures ∙ c.if-not-affords.false in
    change_runs c.args.site.now c.args.site.now.levels c.args.stmt.now c.args.slots.now.items c.args.slots.now.items c.args.slots.now.items c.args.store.now c.count.new.self c.in-Counts.steps (follows c.args.site.now c.args.site.now.levels) refl few
    (counted c.in-Counts.steps c.args.store.now c.count.new.self c.count.ensures.counted few)
