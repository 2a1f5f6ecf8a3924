use Rattle.lua_vm_functions.proofs.BodyLemmas.{body_pushes}
use Rattle.lua_vm_functions.proofs.functions.push_function.Goals as goal

pub returns : goal.returns
returns c = λ S store.
    body_pushes S c.args.line c.args.number c.args.f.now c.args.cells.now c.args.args.items _ c.args.frames.now c.push_frame.new.frames _ store store _ c.in_ok-frame.ensures
    (record { items = c.in_ok-push_frame.ensures.items; same = c.in_ok-push_frame.ensures.same; below = c.in_ok-push_frame.ensures.below; top = c.in_ok-push_frame.ensures.top })
    (c.begin_block.ensures S store)
