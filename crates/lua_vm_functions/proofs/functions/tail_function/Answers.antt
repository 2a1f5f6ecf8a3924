use Rattle.lua_vm_functions.proofs.BodyLemmas.{body_replaces}
use Rattle.lua_vm_functions.proofs.functions.tail_function.Goals as goal

pub returns : goal.returns
returns c = λ S store. body_replaces S c.args.line c.args.number c.args.f.now c.args.cells.now c.args.args.items _ c.args.frames.now c.replace_frame.new.frames _ store store _ c.requires c.in_ok-frame.ensures (record { below = c.replace_frame.ensures.below; top = c.replace_frame.ensures.top; given = c.replace_frame.ensures.given }) (c.begin_block.ensures S store)
