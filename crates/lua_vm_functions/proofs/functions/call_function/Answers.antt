use Rattle.std.proofs.Common.{List, None, slice_get, refl, sym, ap, ◌∙◌}
use Rattle.std.proofs.lemmas.Option.{slice_get_read, slice_get_past}
use Rattle.lua_ast.specs.declared.programs.Function.{Function}
use Rattle.lua_vm_functions.proofs.BodyLemmas.{function_missing, function_begun, function_refused, in_setting}
use Rattle.lua_vm_functions.proofs.functions.call_function.Goals as goal

pub returns-in-None : goal.returns-in-None
returns-in-None c = λ S store e.
    function_missing S c.args.number _ c.args.cells.now c.args.args.items _ c.args.tail c.args.frames.now _ store _
    (in_setting S c.args.program.now c.args.number None e (ap (λ (xs : List Function). slice_get xs c.args.number) (sym c.deref.ensures.value) ∙ slice_get_past _ _ c.in-None.ensures.lookup.3)) (c.raise_operand.ensures S store e)

pub returns-then-has_room : goal.returns-then-has_room
returns-then-has_room c = λ S store e.
    function_begun S c.args.number _ c.in-Some.f.now c.args.cells.now c.args.args.items _ c.args.tail _ c.args.frames.now _ store _
    (in_setting S c.args.program.now c.args.number _ e (ap (λ (xs : List Function). slice_get xs c.args.number) (sym c.deref.ensures.value) ∙ slice_get_read _ _ _ _ refl c.in-Some.ensures.lookup.3.0 c.in-Some.ensures.lookup.1))
    (c.has_room.ensures c.args.line) c.if-has_room.true (c.begin_function.ensures S store)

pub returns-else-has_room : goal.returns-else-has_room
returns-else-has_room c = λ S store e.
    function_refused S c.args.number _ c.in-Some.f.now c.args.cells.now c.args.args.items _ c.args.tail _ c.args.frames.now _ store _
    (in_setting S c.args.program.now c.args.number _ e (ap (λ (xs : List Function). slice_get xs c.args.number) (sym c.deref.ensures.value) ∙ slice_get_read _ _ _ _ refl c.in-Some.ensures.lookup.3.0 c.in-Some.ensures.lookup.1))
    (c.has_room.ensures c.args.line) c.if-has_room.false (c.raise_fault.ensures S store e)
