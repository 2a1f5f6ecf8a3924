use Rattle.std.proofs.Common.{refl, sym}
use Rattle.lua_frames.specs.Frames.{here, slots_of}
use Rattle.lua_frames.proofs.FollowLemmas.{works_as}
use Rattle.lua_vm_statements.proofs.StatementForms.{local_form, local_function_form, assign_form, call_form, do_form, while_form, repeat_form, numeric_for_form, generic_for_form, return_form}
use Rattle.lua_vm_statements.proofs.statements.begin_stmt.Goals as goal

pub returns-in-LocalFunction : goal.returns-in-LocalFunction
returns-in-LocalFunction g c =
    works_as _ _ _ _ _ _ _ _ (c.local_function.ensures (g.H.Host.setting c.args.host.now) (sym c.program.ensures))
    (local_function_form (g.H.Host.setting c.args.host.now) c.args.stmt.now.line c.args.stmt.now.kind c.in-LocalFunction.slot c.in-LocalFunction.function (here c.args.frames.now) (slots_of c.args.frames.now) c.in-LocalFunction.is)

pub returns-in-Do : goal.returns-in-Do
returns-in-Do g c =
    works_as _ _ _ _ _ _ _ _ (c.begin_block.ensures (g.H.Host.setting c.args.host.now) c.args.store.now)
    (do_form (g.H.Host.setting c.args.host.now) c.args.stmt.now.line c.args.stmt.now.kind c.in-Do.body (here c.args.frames.now) (slots_of c.args.frames.now) c.in-Do.is)

pub returns-in-Assign : goal.returns-in-Assign
returns-in-Assign g c =
    works_as _ _ _ _ _ _ _ _ c.begin_assignment.ensures
    (assign_form (g.H.Host.setting c.args.host.now) c.args.stmt.now.line c.args.stmt.now.kind c.in-Assign.targets c.in-Assign.xs c.in-Assign.targets.value.items (here c.args.frames.now) (slots_of c.args.frames.now) c.in-Assign.is refl)

pub returns-in_ok-share-in-Local : goal.returns-in_ok-share-in-Local
returns-in_ok-share-in-Local g c =
    works_as _ _ _ _ _ _ _ _ c.list_under.ensures
    (local_form (g.H.Host.setting c.args.host.now) c.args.stmt.now.line c.args.stmt.now.kind c.in-Local.slots c.in_ok-share-in-Local.field-0 c.in-Local.xs (here c.args.frames.now) (slots_of c.args.frames.now) c.in-Local.is c.in_ok-share-in-Local.ensures)

pub returns-in-Call : goal.returns-in-Call
returns-in-Call g c =
    works_as _ _ _ _ _ _ _ _ c.expr_under.ensures
    (call_form (g.H.Host.setting c.args.host.now) c.args.stmt.now.line c.args.stmt.now.kind c.in-Call.x (here c.args.frames.now) (slots_of c.args.frames.now) c.in-Call.is)

pub returns-in_ok-share-in-While-2 : goal.returns-in_ok-share-in-While-2
returns-in_ok-share-in-While-2 g c =
    works_as _ _ _ _ _ _ _ _ (rw c.deref.ensures at c.value_under.ensures)
    (while_form (g.H.Host.setting c.args.host.now) c.args.stmt.now.line c.args.stmt.now.kind c.in-While.test c.in_ok-share-in-While.field-0 c.in-While.body c.in_ok-share-in-While-2.field-0 (here c.args.frames.now) (slots_of c.args.frames.now) c.in-While.is c.in_ok-share-in-While.ensures c.in_ok-share-in-While-2.ensures)

pub returns-in-Return : goal.returns-in-Return
returns-in-Return g c =
    works_as _ _ _ _ _ _ _ _ c.begin_return.ensures
    (return_form (g.H.Host.setting c.args.host.now) c.args.stmt.now.line c.args.stmt.now.kind c.in-Return.xs (here c.args.frames.now) (slots_of c.args.frames.now) c.in-Return.is)

pub returns-in_ok-share-in-Repeat : goal.returns-in_ok-share-in-Repeat
returns-in_ok-share-in-Repeat g c =
    works_as _ _ _ _ _ _ _ _ (c.begin_repeat.ensures (g.H.Host.setting c.args.host.now))
    (repeat_form (g.H.Host.setting c.args.host.now) c.args.stmt.now.line c.args.stmt.now.kind c.in-Repeat.body c.in_ok-share-in-Repeat.field-0 c.in-Repeat.test c.in_ok-test-in-Repeat.test (here c.args.frames.now) (slots_of c.args.frames.now) c.in-Repeat.is c.in_ok-share-in-Repeat.ensures c.in_ok-test-in-Repeat.ensures)

pub returns-in_ok-bounds-in-NumericFor : goal.returns-in_ok-bounds-in-NumericFor
returns-in_ok-bounds-in-NumericFor g c =
    works_as _ _ _ _ _ _ _ _ (rw c.deref-in-NumericFor.ensures at c.value_under-in-NumericFor.ensures)
    (numeric_for_form (g.H.Host.setting c.args.host.now) c.args.stmt.now.line c.args.stmt.now.kind c.in-NumericFor.slot c.in-NumericFor.from c.in-NumericFor.to c.in-NumericFor.step c.in-NumericFor.body c.in_ok-bounds-in-NumericFor.bounds (here c.args.frames.now) (slots_of c.args.frames.now) c.in-NumericFor.is c.in_ok-bounds-in-NumericFor.ensures)

pub returns-in_ok-share-in-GenericFor-2 : goal.returns-in_ok-share-in-GenericFor-2
returns-in_ok-share-in-GenericFor-2 g c =
    works_as _ _ _ _ _ _ _ _ c.list_under-in-GenericFor.ensures
    (generic_for_form (g.H.Host.setting c.args.host.now) c.args.stmt.now.line c.args.stmt.now.kind c.in-GenericFor.slots c.in_ok-share-in-GenericFor.field-0 c.in-GenericFor.values c.in-GenericFor.body c.in_ok-share-in-GenericFor-2.field-0 (here c.args.frames.now) (slots_of c.args.frames.now) c.in-GenericFor.is c.in_ok-share-in-GenericFor.ensures c.in_ok-share-in-GenericFor-2.ensures)
