use Rattle.std.proofs.Common.{sym}
use Rattle.lua_values.specs.declared.values.Value.TheVariants.{Table}
use Rattle.lua_meaning.specs.Positions.{callers_at}
use Rattle.lua_meaning.specs.Signs.{give_one}
use Rattle.lua_meaning.specs.Tables.{fill}
use Rattle.lua_frames.proofs.TakeForms.{takes_all}
use Rattle.lua_vm_tables.proofs.constructors.items_at_numbers.Goals as goal

pub returns : goal.returns
returns g c =
    takes_all (g.H.Host.setting c.args.host.now) (λ p vs s. fill (g.H.Host.setting c.args.host.now) (callers_at p c.args.c.line) c.args.c.table c.args.c.number vs s (give_one (Table c.args.c.table) s)) c.in-Some.values.items
    c.args.frames.now c.take_values.new.frames c.fill.new.frames c.args.store.now c.fill.new.store c.fill.result
    (rw c.in-Some.is at c.in_ok-take_values.ensures.values) c.in_ok-take_values.ensures.below c.in_ok-take_values.ensures.top (c.fill.ensures (g.H.Host.setting c.args.host.now) (sym c.program.ensures))
