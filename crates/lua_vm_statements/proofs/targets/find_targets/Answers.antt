use Rattle.std.proofs.Common.{refl, map, subst}
use Rattle.std.specs.Prelude.{Ok}
use Rattle.std.specs.declared.alloc.AllocError.{AllocError}
use Rattle.lua_frames.specs.declared.flow.Flow.TheVariants as flow
use Rattle.lua_frames.specs.declared.threads.Frames.{Frames}
use Rattle.lua_frames.specs.Frames.{here, slots_of}
use Rattle.lua_frames.specs.Follows.{Works}
use Rattle.lua_frames.specs.Items.{target_of, targets_left}
use Rattle.lua_vm_statements.proofs.TargetLemmas.{target_found, target_keyed, target_spent, targets_found}
use Rattle.lua_vm_statements.proofs.targets.find_targets.Goals as goal

pub loop-target-init : goal.loop-target-init
loop-target-init g c = (refl, λ rs. refl)

pub returns-then-not-count : goal.returns-then-not-count
returns-then-not-count g c =
    subst (λ (fs : Frames). Works {E = AllocError} (g.H.Host.setting c.args.host.now) (targets_left (g.H.Host.setting c.args.host.now) c.args.assignment (map target_of c.args.assignment.found.items) (here c.args.frames.now) (slots_of c.args.frames.now)) fs c.args.store.now c.loop-target.frames c.count.new.self (Ok flow.Spent)) c.loop-target.invariant.0
    (target_spent {E = AllocError} (g.H.Host.setting c.args.host.now) (targets_left (g.H.Host.setting c.args.host.now) c.args.assignment (map target_of c.args.assignment.found.items) (here c.args.frames.now) (slots_of c.args.frames.now))
    c.args.assignment.targets.value.items c.args.assignment.values.value.items c.loop-target.next c.in-Some.target.now c.loop-target.found.items c.loop-target.frames c.loop-target.frames c.args.store.now c.loop-target.store c.count.new.self c.count.result
    c.in-Some.ensures c.loop-target.invariant.1 c.count.ensures.below c.if-not-count.true)

pub loop-target-preserved : goal.loop-target-preserved
loop-target-preserved g c = (
  c.loop-target.invariant.0,
  target_found (g.H.Host.setting c.args.host.now) (targets_left (g.H.Host.setting c.args.host.now) c.args.assignment (map target_of c.args.assignment.found.items) (here c.args.frames.now) (slots_of c.args.frames.now))
      c.args.assignment.targets.value.items c.args.assignment.values.value.items c.loop-target.next c.in-Some.target.now c.in-Found.target c.loop-target.found.items c.push.new.self.items c.loop-target.frames c.args.store.now c.loop-target.store c.count.new.self c.count.result
      c.in-Some.ensures c.loop-target.invariant.1 c.count.ensures.counted c.count.ensures.below c.if-not-count.false (rw c.in-Found.is at c.in_ok-target.ensures) c.in_ok-push-in-Found.ensures.items,
)

pub returns-in-Index : goal.returns-in-Index
returns-in-Index g c =
    subst (λ (fs : Frames). Works (g.H.Host.setting c.args.host.now) (targets_left (g.H.Host.setting c.args.host.now) c.args.assignment (map target_of c.args.assignment.found.items) (here c.args.frames.now) (slots_of c.args.frames.now)) fs c.args.store.now c.value_under.new.frames c.value_under.new.store c.value_under.result) c.loop-target.invariant.0
    (target_keyed (g.H.Host.setting c.args.host.now) (targets_left (g.H.Host.setting c.args.host.now) c.args.assignment (map target_of c.args.assignment.found.items) (here c.args.frames.now) (slots_of c.args.frames.now))
    c.args.assignment.targets c.args.assignment.values c.loop-target.next c.in-Some.target.now c.deref.result.now c.in-Index.line c.in-Index.object c.in-Index.key c.loop-target.found c.in_ok-left-in-Index.left c.loop-target.frames c.value_under.new.frames c.args.store.now c.loop-target.store c.count.new.self c.value_under.new.store c.count.result c.value_under.result
    c.in-Some.ensures c.loop-target.invariant.1 c.count.ensures.counted c.count.ensures.below c.if-not-count.false (rw c.in-Index.is at c.in_ok-target.ensures) c.deref.ensures c.in_ok-left-in-Index.ensures c.value_under.ensures)

pub returns : goal.returns
returns g c =
    subst (λ (fs : Frames). Works (g.H.Host.setting c.args.host.now) (targets_left (g.H.Host.setting c.args.host.now) c.args.assignment (map target_of c.args.assignment.found.items) (here c.args.frames.now) (slots_of c.args.frames.now)) fs c.args.store.now c.list_under.new.frames c.list_under.new.store c.list_under.result) c.loop-target.invariant.0
    (targets_found (g.H.Host.setting c.args.host.now) (targets_left (g.H.Host.setting c.args.host.now) c.args.assignment (map target_of c.args.assignment.found.items) (here c.args.frames.now) (slots_of c.args.frames.now))
    c.args.assignment.targets.value.items c.args.assignment.values.value.items c.loop-target.next c.loop-target.found c.loop-target.frames c.list_under.new.frames c.args.store.now c.loop-target.store c.list_under.new.store c.list_under.result
    c.in_default.ensures c.loop-target.invariant.1 c.list_under.ensures)
