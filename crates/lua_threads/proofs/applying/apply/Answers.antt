use Rattle.std.proofs.Common.{◌∙◌, ap, sym}
use Rattle.lua_values.specs.declared.values.Value.{Value}
use Rattle.lua_frames.specs.declared.items.Item.TheVariants as i
use Rattle.lua_frames.specs.declared.targets.Assignment.{Assignment}
use Rattle.lua_threads.proofs.FrameForms.{as_item}
use Rattle.lua_threads.proofs.applying.apply.Goals as goal

pub returns-in-Call : goal.returns-in-Call
returns-in-Call g c =
    as_item (g.H.Host.setting c.args.host.now) c.args.item _ c.args.frames.now c.call.new.frames c.args.store.now c.call.new.store c.call.result
    (c.in-Call.is ∙ ap (λ (f : Value). i.Call c.in-Call.line f c.in-Call.args) (sym c.into_inner.ensures)) c.call.ensures

pub returns-in-Right : goal.returns-in-Right
returns-in-Right g c = as_item (g.H.Host.setting c.args.host.now) c.args.item _ c.args.frames.now c.right.new.frames c.args.store.now c.right.new.store c.right.result c.in-Right.is c.right.ensures

pub returns-in-Operate : goal.returns-in-Operate
returns-in-Operate g c = as_item (g.H.Host.setting c.args.host.now) c.args.item _ c.args.frames.now c.binary.new.frames c.args.store.now c.binary.new.store c.binary.result c.in-Operate.is c.binary.ensures

pub returns-in-Unary : goal.returns-in-Unary
returns-in-Unary g c = as_item (g.H.Host.setting c.args.host.now) c.args.item _ c.args.frames.now c.unary.new.frames c.args.store.now c.unary.new.store c.unary.result c.in-Unary.is c.unary.ensures

pub returns-in-AndThen : goal.returns-in-AndThen
returns-in-AndThen g c = as_item (g.H.Host.setting c.args.host.now) c.args.item _ c.args.frames.now c.and_then.new.frames c.args.store.now c.and_then.new.store c.and_then.result c.in-AndThen.is c.and_then.ensures

pub returns-in-OrElse : goal.returns-in-OrElse
returns-in-OrElse g c = as_item (g.H.Host.setting c.args.host.now) c.args.item _ c.args.frames.now c.or_else.new.frames c.args.store.now c.or_else.new.store c.or_else.result c.in-OrElse.is c.or_else.ensures

pub returns-in-First : goal.returns-in-First
returns-in-First g c = as_item (g.H.Host.setting c.args.host.now) c.args.item _ c.args.frames.now c.first.new.frames c.args.store.now c.args.store.now c.first.result c.in-First.is (c.first.ensures (g.H.Host.setting c.args.host.now) c.args.store.now)

pub returns-in-Truth : goal.returns-in-Truth
returns-in-Truth g c = as_item (g.H.Host.setting c.args.host.now) c.args.item _ c.args.frames.now c.truth.new.frames c.args.store.now c.args.store.now c.truth.result c.in-Truth.is (c.truth.ensures (g.H.Host.setting c.args.host.now) c.args.store.now)

pub returns-in-Callee : goal.returns-in-Callee
returns-in-Callee g c = as_item (g.H.Host.setting c.args.host.now) c.args.item _ c.args.frames.now c.callee.new.frames c.args.store.now c.callee.new.store c.callee.result c.in-Callee.is c.callee.ensures

pub returns-in-Arguments : goal.returns-in-Arguments
returns-in-Arguments g c = as_item (g.H.Host.setting c.args.host.now) c.args.item _ c.args.frames.now c.arguments.new.frames c.args.store.now c.arguments.new.store c.arguments.result c.in-Arguments.is c.arguments.ensures

pub returns-in-Key : goal.returns-in-Key
returns-in-Key g c = as_item (g.H.Host.setting c.args.host.now) c.args.item _ c.args.frames.now c.key.new.frames c.args.store.now c.key.new.store c.key.result c.in-Key.is c.key.ensures

pub returns-in-More : goal.returns-in-More
returns-in-More g c = as_item (g.H.Host.setting c.args.host.now) c.args.item _ c.args.frames.now c.go_on_with_list.new.frames c.args.store.now c.go_on_with_list.new.store c.go_on_with_list.result c.in-More.is c.go_on_with_list.ensures

pub returns-in-Locals : goal.returns-in-Locals
returns-in-Locals g c = as_item (g.H.Host.setting c.args.host.now) c.args.item _ c.args.frames.now c.locals.new.frames c.args.store.now c.args.store.now c.locals.result c.in-Locals.is (c.locals.ensures (g.H.Host.setting c.args.host.now) c.args.store.now)

pub returns-in-Discard : goal.returns-in-Discard
returns-in-Discard g c = as_item (g.H.Host.setting c.args.host.now) c.args.item _ c.args.frames.now c.discard.new.frames c.args.store.now c.args.store.now c.discard.result c.in-Discard.is (c.discard.ensures (g.H.Host.setting c.args.host.now) c.args.store.now)

pub returns-in-Return : goal.returns-in-Return
returns-in-Return g c = as_item (g.H.Host.setting c.args.host.now) c.args.item _ c.args.frames.now c.return_given.new.frames c.args.store.now c.args.store.now c.return_given.result c.in-Return.is (c.return_given.ensures (g.H.Host.setting c.args.host.now) c.args.store.now)

pub returns-in-TailCallee : goal.returns-in-TailCallee
returns-in-TailCallee g c = as_item (g.H.Host.setting c.args.host.now) c.args.item _ c.args.frames.now c.tail_callee.new.frames c.args.store.now c.tail_callee.new.store c.tail_callee.result c.in-TailCallee.is c.tail_callee.ensures

pub returns-in-TailArguments : goal.returns-in-TailArguments
returns-in-TailArguments g c = as_item (g.H.Host.setting c.args.host.now) c.args.item _ c.args.frames.now c.tail_arguments.new.frames c.args.store.now c.tail_arguments.new.store c.tail_arguments.result c.in-TailArguments.is c.tail_arguments.ensures

pub returns-in-TailReturn : goal.returns-in-TailReturn
returns-in-TailReturn g c = as_item (g.H.Host.setting c.args.host.now) c.args.item _ c.args.frames.now c.return_called.new.frames c.args.store.now c.args.store.now c.return_called.result c.in-TailReturn.is (c.return_called.ensures (g.H.Host.setting c.args.host.now) c.args.store.now)

pub returns-in-Rest : goal.returns-in-Rest
returns-in-Rest g c = as_item (g.H.Host.setting c.args.host.now) c.args.item _ c.args.frames.now c.rest.new.frames c.args.store.now c.rest.new.store c.rest.result c.in-Rest.is c.rest.ensures

pub returns-in-Arm : goal.returns-in-Arm
returns-in-Arm g c = as_item (g.H.Host.setting c.args.host.now) c.args.item _ c.args.frames.now c.arm.new.frames c.args.store.now c.arm.new.store c.arm.result c.in-Arm.is c.arm.ensures

pub returns-in-While : goal.returns-in-While
returns-in-While g c = as_item (g.H.Host.setting c.args.host.now) c.args.item _ c.args.frames.now c.while_test.new.frames c.args.store.now c.while_test.new.store c.while_test.result c.in-While.is (c.while_test.ensures (g.H.Host.setting c.args.host.now))

pub returns-in-Turned : goal.returns-in-Turned
returns-in-Turned g c = as_item (g.H.Host.setting c.args.host.now) c.args.item _ c.args.frames.now c.turned.new.frames c.args.store.now c.turned.new.store c.turned.result c.in-Turned.is c.turned.ensures

pub returns-in-Assign : goal.returns-in-Assign
returns-in-Assign g c = as_item (g.H.Host.setting c.args.host.now) c.args.item _ c.args.frames.now c.assign.new.frames c.args.store.now c.assign.new.store c.assign.result c.in-Assign.is c.assign.ensures

pub returns-in-AssignSlot : goal.returns-in-AssignSlot
returns-in-AssignSlot g c = as_item (g.H.Host.setting c.args.host.now) c.args.item _ c.args.frames.now c.assign_to_slot.new.frames c.args.store.now c.assign_to_slot.new.store c.assign_to_slot.result c.in-AssignSlot.is c.assign_to_slot.ensures

pub returns-in-At : goal.returns-in-At
returns-in-At g c = as_item (g.H.Host.setting c.args.host.now) c.args.item _ c.args.frames.now c.at.new.frames c.args.store.now c.at.new.store c.at.result c.in-At.is c.at.ensures

pub returns-in-Method : goal.returns-in-Method
returns-in-Method g c = as_item (g.H.Host.setting c.args.host.now) c.args.item _ c.args.frames.now c.method.new.frames c.args.store.now c.method.new.store c.method.result c.in-Method.is c.method.ensures

pub returns-in-MethodCallee : goal.returns-in-MethodCallee
returns-in-MethodCallee g c = as_item (g.H.Host.setting c.args.host.now) c.args.item _ c.args.frames.now c.method_callee.new.frames c.args.store.now c.method_callee.new.store c.method_callee.result c.in-MethodCallee.is c.method_callee.ensures

pub returns-in-MethodArguments : goal.returns-in-MethodArguments
returns-in-MethodArguments g c = as_item (g.H.Host.setting c.args.host.now) c.args.item _ c.args.frames.now c.method_arguments.new.frames c.args.store.now c.method_arguments.new.store c.method_arguments.result
    (c.in-MethodArguments.is ∙ ap (λ (f : Value). i.MethodArguments c.in-MethodArguments.line f c.in-MethodArguments.object) (sym c.into_inner-in-MethodArguments.ensures) ∙ ap (λ (o : Value). i.MethodArguments c.in-MethodArguments.line c.into_inner-in-MethodArguments.result o) (sym c.into_inner-in-MethodArguments-2.ensures)) c.method_arguments.ensures

pub returns-in-TailMethod : goal.returns-in-TailMethod
returns-in-TailMethod g c = as_item (g.H.Host.setting c.args.host.now) c.args.item _ c.args.frames.now c.tail_method.new.frames c.args.store.now c.tail_method.new.store c.tail_method.result c.in-TailMethod.is c.tail_method.ensures

pub returns-in-TailMethodCallee : goal.returns-in-TailMethodCallee
returns-in-TailMethodCallee g c = as_item (g.H.Host.setting c.args.host.now) c.args.item _ c.args.frames.now c.tail_method_callee.new.frames c.args.store.now c.tail_method_callee.new.store c.tail_method_callee.result c.in-TailMethodCallee.is c.tail_method_callee.ensures

pub returns-in-TailMethodArguments : goal.returns-in-TailMethodArguments
returns-in-TailMethodArguments g c = as_item (g.H.Host.setting c.args.host.now) c.args.item _ c.args.frames.now c.tail_method_arguments.new.frames c.args.store.now c.tail_method_arguments.new.store c.tail_method_arguments.result
    (c.in-TailMethodArguments.is ∙ ap (λ (f : Value). i.TailMethodArguments c.in-TailMethodArguments.line f c.in-TailMethodArguments.object) (sym c.into_inner-in-TailMethodArguments.ensures) ∙ ap (λ (o : Value). i.TailMethodArguments c.in-TailMethodArguments.line c.into_inner-in-TailMethodArguments.result o) (sym c.into_inner-in-TailMethodArguments-2.ensures)) c.tail_method_arguments.ensures

pub returns-in-TargetKey : goal.returns-in-TargetKey
returns-in-TargetKey g c = as_item (g.H.Host.setting c.args.host.now) c.args.item _ c.args.frames.now c.target_key.new.frames c.args.store.now c.target_key.new.store c.target_key.result c.in-TargetKey.is c.target_key.ensures

pub returns-in-TargetAt : goal.returns-in-TargetAt
returns-in-TargetAt g c = as_item (g.H.Host.setting c.args.host.now) c.args.item _ c.args.frames.now c.target_at.new.frames c.args.store.now c.target_at.new.store c.target_at.result
    (c.in-TargetAt.is ∙ ap (λ (o : Value). i.TargetAt c.in-TargetAt.line o c.in-TargetAt.left) (sym c.into_inner-in-TargetAt.ensures) ∙ ap (λ (a : Assignment). i.TargetAt c.in-TargetAt.line c.into_inner-in-TargetAt.result a) (sym c.into_inner-in-TargetAt-2.ensures)) c.target_at.ensures

pub returns-in-Stores : goal.returns-in-Stores
returns-in-Stores g c = as_item (g.H.Host.setting c.args.host.now) c.args.item _ c.args.frames.now c.stores.new.frames c.args.store.now c.stores.new.store c.stores.result c.in-Stores.is c.stores.ensures

pub returns-in-Items : goal.returns-in-Items
returns-in-Items g c = as_item (g.H.Host.setting c.args.host.now) c.args.item _ c.args.frames.now c.next_items.new.frames c.args.store.now c.next_items.new.store c.next_items.result c.in-Items.is c.next_items.ensures

pub returns-in-ItemKey : goal.returns-in-ItemKey
returns-in-ItemKey g c = as_item (g.H.Host.setting c.args.host.now) c.args.item _ c.args.frames.now c.item_key.new.frames c.args.store.now c.item_key.new.store c.item_key.result c.in-ItemKey.is c.item_key.ensures

pub returns-in-ItemAtKey : goal.returns-in-ItemAtKey
returns-in-ItemAtKey g c = as_item (g.H.Host.setting c.args.host.now) c.args.item _ c.args.frames.now c.item_at_key.new.frames c.args.store.now c.item_at_key.new.store c.item_at_key.result
    (c.in-ItemAtKey.is ∙ ap (λ (k : Value). i.ItemAtKey c.in-ItemAtKey.c k) (sym c.into_inner-in-ItemAtKey.ensures)) c.item_at_key.ensures

pub returns-in-ItemAtNumber : goal.returns-in-ItemAtNumber
returns-in-ItemAtNumber g c = as_item (g.H.Host.setting c.args.host.now) c.args.item _ c.args.frames.now c.item_at_number.new.frames c.args.store.now c.item_at_number.new.store c.item_at_number.result c.in-ItemAtNumber.is c.item_at_number.ensures

pub returns-in-ItemsAtNumbers : goal.returns-in-ItemsAtNumbers
returns-in-ItemsAtNumbers g c = as_item (g.H.Host.setting c.args.host.now) c.args.item _ c.args.frames.now c.items_at_numbers.new.frames c.args.store.now c.items_at_numbers.new.store c.items_at_numbers.result c.in-ItemsAtNumbers.is c.items_at_numbers.ensures

pub returns-in-Repeated : goal.returns-in-Repeated
returns-in-Repeated g c = as_item (g.H.Host.setting c.args.host.now) c.args.item _ c.args.frames.now c.repeated.new.frames c.args.store.now c.repeated.new.store c.repeated.result c.in-Repeated.is c.repeated.ensures

pub returns-in-Until : goal.returns-in-Until
returns-in-Until g c = as_item (g.H.Host.setting c.args.host.now) c.args.item _ c.args.frames.now c.until.new.frames c.args.store.now c.until.new.store c.until.result c.in-Until.is (c.until.ensures (g.H.Host.setting c.args.host.now))

pub returns-in-ForFrom : goal.returns-in-ForFrom
returns-in-ForFrom g c = as_item (g.H.Host.setting c.args.host.now) c.args.item _ c.args.frames.now c.for_from.new.frames c.args.store.now c.for_from.new.store c.for_from.result c.in-ForFrom.is c.for_from.ensures

pub returns-in-ForTo : goal.returns-in-ForTo
returns-in-ForTo g c = as_item (g.H.Host.setting c.args.host.now) c.args.item _ c.args.frames.now c.for_to.new.frames c.args.store.now c.for_to.new.store c.for_to.result c.in-ForTo.is c.for_to.ensures

pub returns-in-ForStep : goal.returns-in-ForStep
returns-in-ForStep g c = as_item (g.H.Host.setting c.args.host.now) c.args.item _ c.args.frames.now c.for_step.new.frames c.args.store.now c.for_step.new.store c.for_step.result c.in-ForStep.is c.for_step.ensures

pub returns-in-Counted : goal.returns-in-Counted
returns-in-Counted g c = as_item (g.H.Host.setting c.args.host.now) c.args.item _ c.args.frames.now c.counted.new.frames c.args.store.now c.counted.new.store c.counted.result c.in-Counted.is (c.counted.ensures (g.H.Host.setting c.args.host.now) (sym c.program.ensures))

pub returns-in-Iterate : goal.returns-in-Iterate
returns-in-Iterate g c = as_item (g.H.Host.setting c.args.host.now) c.args.item _ c.args.frames.now c.iterate.new.frames c.args.store.now c.iterate.new.store c.iterate.result c.in-Iterate.is c.iterate.ensures

pub returns-in-Iterated : goal.returns-in-Iterated
returns-in-Iterated g c = as_item (g.H.Host.setting c.args.host.now) c.args.item _ c.args.frames.now c.iterated.new.frames c.args.store.now c.iterated.new.store c.iterated.result c.in-Iterated.is (c.iterated.ensures (g.H.Host.setting c.args.host.now))

pub returns-in-Passed : goal.returns-in-Passed
returns-in-Passed g c = as_item (g.H.Host.setting c.args.host.now) c.args.item _ c.args.frames.now c.passed.new.frames c.args.store.now c.passed.new.store c.passed.result c.in-Passed.is c.passed.ensures
