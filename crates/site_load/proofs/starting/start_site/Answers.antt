use Rattle.std.proofs.Common.{◌≡◌, ◌∙◌, length, ap, refl, sym, subst, Err}
use Rattle.lua_modules.specs.Sets.{chunks_of}
use Rattle.lua_site.specs.Started.{IsStart, start_with}
use Rattle.site_load.proofs.Begun.{starts, starts_as, out_of_memory}
use Rattle.site_load.proofs.starting.start_site.Goals as goal

pub returns-in-Ok-clause-ok : goal.returns-in-Ok-clause-ok
returns-in-Ok-clause-ok c =
    let program = c.machine_of-machine.ensures ∙ c.into_parts-program.ensures.program in
    let chunks = c.into_parts-program.result.1 in
    let begun = c.in-Ok.field-0 in
    let begins = starts c.args.conf c.args.set c.machine_of-machine.result.program (chunks_of chunks) (length c.as_slice.result.now) c.init_among-init.result _ program
    c.into_parts-program.ensures.chunks (ap length c.as_slice.ensures.value) c.init_among-init.ensures c.in-Ok.ensures in
    starts_as c.args.conf c.args.set (start_with begun.store begun.blocks.items) begins c.machine_of-machine.result program c.new.result c.new.ensures c.with_blocks.result
    c.with_blocks.ensures.kept c.with_blocks.ensures.blocks

pub returns-in-Ok-clause-err : goal.returns-in-Ok-clause-err
returns-in-Ok-clause-err c = out_of_memory c.args.conf c.args.set c.with_blocks.result c.with_blocks.ensures.err

pub returns-in-Err-clause-err : goal.returns-in-Err-clause-err
returns-in-Err-clause-err c =
    let program = c.machine_of-machine.ensures ∙ c.into_parts-program.ensures.program in
    let chunks = c.into_parts-program.result.1 in
    let same = starts c.args.conf c.args.set c.machine_of-machine.result.program (chunks_of chunks) (length c.as_slice.result.now) c.init_among-init.result _ program
    c.into_parts-program.ensures.chunks (ap length c.as_slice.ensures.value) c.init_among-init.ensures refl in
    c.of_start.ensures c.args.conf c.args.set (subst (λ meant. IsStart meant (Err c.in-Err.fault)) (sym same) c.in-Err.ensures)
