use Rattle.lua_values.specs.declared.faults.StoreFault.TheVariants.{Frozen}
use Rattle.lua_meaning.specs.Positions.{callers_at}
use Rattle.lua_frames.specs.Frames.{here}
use Rattle.lua_vm_statements.proofs.AssignLemmas.{cell_refused}
use Rattle.lua_vm_statements.proofs.assigning.write_cell.Goals as goal

pub returns-in-Err-Frozen : goal.returns-in-Err-Frozen
returns-in-Err-Frozen c = λ S e.
    cell_refused S (callers_at (here c.args.frames.now) c.args.line) c.args.c c.args.value Frozen c.args.frames.now c.fail.new.frames c.args.store.now c.set_cell.new.self c.fail.result
    (rw c.in-Err-Frozen.field-0-is at c.in-Err-Frozen.ensures.cause) c.in-Err-Frozen.ensures.kept (c.fail.ensures S e)
