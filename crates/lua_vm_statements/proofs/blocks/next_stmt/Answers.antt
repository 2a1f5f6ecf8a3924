use Rattle.std.proofs.Common.{refl, sym, drop}
use Rattle.lua_meaning.specs.Blocks.{block}
use Rattle.lua_frames.specs.Frames.{here, slots_of}
use Rattle.lua_vm_loops.proofs.SiteLemmas.{allows_here}
use Rattle.lua_frames.proofs.MovedLemmas.{works_moved}
use Rattle.lua_vm_statements.proofs.blocks.next_stmt.Goals as goal

pub returns : goal.returns
returns g c =
    let mid = record c.args.frames.now { top = record c.args.frames.now.top { slots = c.run_block-next.new.slots } } in
    works_moved (g.H.Host.setting c.args.host.now) (block (drop c.args.next c.args.stmts.value.items) (here c.args.frames.now) (slots_of c.args.frames.now)) (block (drop c.run_block-next.result c.args.stmts.value.items) (here mid) (slots_of mid))
    c.args.frames.now mid c.begin_next.new.frames c.args.store.now c.run_block-next.new.store c.begin_next.new.store c.begin_next.result
    (record { below = refl; kind = refl; function = refl; cells = refl; extras = refl; items = refl }) (c.run_block-next.ensures (g.H.Host.setting c.args.host.now) (here c.args.frames.now) (allows_here (g.H.Host.setting c.args.host.now) c.args.frames.now _ (sym c.program.ensures) c.as_slice.ensures.value c.levels_of-levels.ensures)) c.begin_next.ensures
