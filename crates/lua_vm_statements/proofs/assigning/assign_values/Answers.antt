use Rattle.std.proofs.Common.{◌≡◌, ◌∙◌, ap, sym, refl, arith, ℕ, length}
use Rattle.std.specs.Prelude.{slice_get, slice_set}
use Rattle.lua_values.specs.declared.values.Value.TheVariants.{Nil}
use Rattle.lua_meaning.specs.Signs.{or_nil}
use Rattle.lua_meaning.specs.Assignments.{assign_to}
use Rattle.lua_frames.specs.Items.{target_of}
use Rattle.lua_frames.specs.Frames.{here, slots_of}
use Rattle.lua_frames.proofs.DropLemmas.{counted, dropped_all}
use Rattle.lua_frames.proofs.MovedLemmas.{kept_on}
use Rattle.lua_vm_statements.specs.Assignments.{Assigns}
use Rattle.lua_vm_statements.proofs.AssignLemmas.{assigns_of, stops_at}
use Rattle.lua_vm_statements.proofs.AssignAllLemmas.{fewer_by_one, fault_ends, at_key, none_left}
use Rattle.lua_vm_statements.proofs.assigning.assign_values.Goals as goal

pub returns-then-has_failed : goal.returns-then-has_failed
returns-then-has_failed g c =
    let count : c.len.result ≡ length c.pop.new.self.items = counted c.len.result c.pop.new.self c.pop.new.self c.len.ensures refl in
    let done : Assigns (g.H.Host.setting c.args.host.now) (assign_to (g.H.Host.setting c.args.host.now) (target_of c.in-Some.target) c.take_value-value.result (here c.loop-target.frames) (slots_of c.loop-target.frames)) c.loop-target.frames c.loop-target.store c.assign_variable.new.frames c.assign_variable.new.store =
    assigns_of (g.H.Host.setting c.args.host.now) _ c.loop-target.frames c.assign_variable.new.frames c.loop-target.store c.assign_variable.new.store c.assign_variable.result _ (c.assign_variable.ensures (g.H.Host.setting c.args.host.now) (sym c.program.ensures)) c.in_ok-flow-in_default-target.was c.in-Went.is in
    fault_ends (g.H.Host.setting c.args.host.now) c.args.targets.items c.pop.new.self.items c.loop-target.targets.items c.in-Some.target c.args.values.items c.loop-target.values.items c.take_value-value.result c.args.frames.now c.loop-target.frames c.assign_variable.new.frames c.args.store.now c.loop-target.store c.assign_variable.new.store
    c.loop-target.invariant.0 c.loop-target.invariant.1 c.in-Some.ensures.items (c.take_value-value.ensures.value ∙ ap (λ (n : ℕ). or_nil (slice_get c.loop-target.values.items n)) count) done (sym c.has_failed.ensures ∙ c.if-has_failed.true)

pub loop-target-preserved : goal.loop-target-preserved
loop-target-preserved g c =
    let count : c.len.result ≡ length c.pop.new.self.items = counted c.len.result c.pop.new.self c.pop.new.self c.len.ensures refl in
    let done : Assigns (g.H.Host.setting c.args.host.now) (assign_to (g.H.Host.setting c.args.host.now) (target_of c.in-Some.target) c.take_value-value.result (here c.loop-target.frames) (slots_of c.loop-target.frames)) c.loop-target.frames c.loop-target.store c.assign_variable.new.frames c.assign_variable.new.store =
    assigns_of (g.H.Host.setting c.args.host.now) _ c.loop-target.frames c.assign_variable.new.frames c.loop-target.store c.assign_variable.new.store c.assign_variable.result _ (c.assign_variable.ensures (g.H.Host.setting c.args.host.now) (sym c.program.ensures)) c.in_ok-flow-in_default-target.was c.in-Went.is in (
      kept_on c.args.frames.now c.loop-target.frames c.assign_variable.new.frames c.loop-target.invariant.0 done.keeps,
      fewer_by_one (g.H.Host.setting c.args.host.now) c.args.targets.items c.pop.new.self.items c.loop-target.targets.items c.in-Some.target c.args.values.items c.loop-target.values.items c.take_value-value.new.values.items c.take_value-value.result c.args.frames.now c.loop-target.frames c.assign_variable.new.frames c.args.store.now c.loop-target.store c.assign_variable.new.store
          c.loop-target.invariant.0 c.loop-target.invariant.1 c.in-Some.ensures.items (c.take_value-value.ensures.value ∙ ap (λ (n : ℕ). or_nil (slice_get c.loop-target.values.items n)) count)
          (c.take_value-value.ensures.left ∙ ap (λ (n : ℕ). slice_set c.loop-target.values.items n Nil) count) done (sym c.has_failed.ensures ∙ c.if-has_failed.false),
    )

pub returns-in_default-2 : goal.returns-in_default-2
returns-in_default-2 g c =
    stops_at (g.H.Host.setting c.args.host.now) _ (assign_to (g.H.Host.setting c.args.host.now) (target_of c.in-Some.target) c.take_value-value.result (here c.loop-target.frames) (slots_of c.loop-target.frames))
    c.args.frames.now c.loop-target.frames c.assign_variable.new.frames c.args.store.now c.loop-target.store c.assign_variable.new.store c.assign_variable.result c.in_ok-flow-in_default-target.flow
    (c.assign_variable.ensures (g.H.Host.setting c.args.host.now) (sym c.program.ensures)) c.in_ok-flow-in_default-target.was c.in_default-2.not-Went

pub returns-in-AtKey : goal.returns-in-AtKey
returns-in-AtKey g c =
    let count : c.len.result ≡ length c.pop.new.self.items = counted c.len.result c.pop.new.self c.pop.new.self c.len.ensures refl in
    at_key (g.H.Host.setting c.args.host.now) c.args.targets c.pop.new.self c.loop-target.targets.items c.in-Some.target c.in-AtKey.line c.in-AtKey.object c.in-AtKey.key c.args.values c.loop-target.values
    c.take_value-value.new.values c.take_value-value.result c.args.frames.now c.loop-target.frames c.wait.new.frames c.store_at.new.frames c.args.store.now c.loop-target.store c.store_at.new.store c.store_at.result
    c.loop-target.invariant.0 c.loop-target.invariant.1 c.in-Some.ensures.items c.in-AtKey.is (c.take_value-value.ensures.value ∙ ap (λ (n : ℕ). or_nil (slice_get c.loop-target.values.items n)) count)
    (c.take_value-value.ensures.left ∙ ap (λ (n : ℕ). slice_set c.loop-target.values.items n Nil) count) c.in_ok-wait-in-AtKey.ensures c.store_at.ensures

pub returns : goal.returns
returns g c =
    let none : 0 ≡ length c.loop-target.targets.items = counted 0 c.loop-target.targets c.loop-target.targets (sym c.in_default.ensures.cases.0) refl in
    none_left (g.H.Host.setting c.args.host.now) c.args.targets.items c.loop-target.targets.items c.args.values.items c.loop-target.values.items c.args.frames.now c.loop-target.frames c.give_nothing.new.frames c.args.store.now c.loop-target.store c.give_nothing.result
    c.loop-target.invariant.0 c.loop-target.invariant.1 (dropped_all c.loop-target.targets.items 0 (omega (arith, none))) c.give_nothing.ensures
