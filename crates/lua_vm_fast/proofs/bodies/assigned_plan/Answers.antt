use Rattle.std.proofs.Common.{◌≡◌, ◌∙◌, ◌+◌, ap, sym, refl, Vec, Global}
use Rattle.lua_ast.specs.declared.expressions.Expr.{Expr}
use Rattle.lua_vm_fast.proofs.BodyLemmas.{assigned_changes}
use Rattle.lua_vm_fast.proofs.bodies.assigned_plan.Goals as goal

pub returns-in_ok-x-in-Slot-clause-follows : goal.returns-in_ok-x-in-Slot-clause-follows
returns-in_ok-x-in-Slot-clause-follows c = λ st is h site levels u n g.
    let targets : c.as_slice.result.now ≡ c.args.targets.now.value.items = c.as_slice.ensures.value ∙ ap (λ (v : Vec Expr Global). v.items) c.deref.ensures in
    let values : c.as_slice-in-Slot.result.now ≡ c.args.xs.now.value.items = c.as_slice-in-Slot.ensures.value ∙ ap (λ (v : Vec Expr Global). v.items) c.deref-in-Slot.ensures in
    assigned_changes site levels st c.args.targets.now.value.items c.args.xs.now.value.items c.in_ok-target.target.now c.in_ok-x-in-Slot.x.now c.in-Slot.i n (n + 2) u c.args.slots.now h
    (sym targets ∙ c.in_ok-target.ensures) (sym values ∙ c.in_ok-x-in-Slot.ensures) c.in-Slot.is (sym c.is_plain.ensures ∙ c.if-not-is_plain.false) is g refl
