use Rattle.std.proofs.Common.{sym}
use Rattle.lua_frames.specs.Frames.{here, slots_of}
use Rattle.lua_frames.proofs.FollowLemmas.{works_as}
use Rattle.lua_vm_expressions.proofs.LeafForms.{vararg_form, function_form, global_form}
use Rattle.lua_vm_expressions.proofs.TableForms.{table_form}
use Rattle.lua_vm_expressions.proofs.leaves.leaf_all.Goals as goal

pub returns-in-Vararg : goal.returns-in-Vararg
returns-in-Vararg g c =
    works_as _ _ _ _ _ _ _ _ (c.give_extras.ensures (g.H.Host.setting c.args.host.now)) (vararg_form (g.H.Host.setting c.args.host.now) c.args.x.now (here c.args.frames.now) (slots_of c.args.frames.now) c.in-Vararg.is)

pub returns-in-Function : goal.returns-in-Function
returns-in-Function g c =
    works_as _ _ _ _ _ _ _ _ (c.give_closure.ensures (g.H.Host.setting c.args.host.now) (sym c.program.ensures)) (function_form (g.H.Host.setting c.args.host.now) c.args.x.now c.in-Function.function (here c.args.frames.now) (slots_of c.args.frames.now) c.in-Function.is)

pub returns-in-Global : goal.returns-in-Global
returns-in-Global g c =
    works_as _ _ _ _ _ _ _ _ (c.give_global.ensures (g.H.Host.setting c.args.host.now)) (global_form (g.H.Host.setting c.args.host.now) c.args.x.now c.in-Global.name (here c.args.frames.now) (slots_of c.args.frames.now) c.in-Global.is)

pub returns-in-Table : goal.returns-in-Table
returns-in-Table g c =
    works_as _ _ _ _ _ _ _ _ (c.begin_table.ensures (g.H.Host.setting c.args.host.now) (sym c.program-in-Table.ensures)) (table_form (g.H.Host.setting c.args.host.now) c.args.x.now c.in-Table.items (here c.args.frames.now) (slots_of c.args.frames.now) c.in-Table.is)
