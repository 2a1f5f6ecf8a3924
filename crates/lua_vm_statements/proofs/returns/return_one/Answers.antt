use Rattle.lua_frames.specs.Frames.{here, slots_of}
use Rattle.lua_frames.proofs.FollowLemmas.{works_as}
use Rattle.lua_vm_statements.proofs.ReturnForms.{tail_form, tail_method_form, plain_form}
use Rattle.lua_vm_statements.proofs.returns.return_one.Goals as goal

pub returns-in-Call : goal.returns-in-Call
returns-in-Call g c =
    works_as _ _ _ _ _ _ _ _ c.begin_tail_call.ensures (tail_form (g.H.Host.setting c.args.host.now) c.args.xs.now.value.items c.args.x.now c.in-Call.f c.in-Call.args (here c.args.frames.now) (slots_of c.args.frames.now) c.requires c.in-Call.is)

pub returns-in_default : goal.returns-in_default
returns-in_default g c =
    works_as _ _ _ _ _ _ _ _ c.list_under.ensures (plain_form (g.H.Host.setting c.args.host.now) c.args.xs.now.value.items c.args.x.now (here c.args.frames.now) (slots_of c.args.frames.now) c.requires c.in_default.not-Call c.in_default.not-Method)

pub returns-in-Method : goal.returns-in-Method
returns-in-Method g c =
    works_as _ _ _ _ _ _ _ _ c.begin_tail_method.ensures (tail_method_form (g.H.Host.setting c.args.host.now) c.args.xs.now.value.items c.args.x.now c.in-Method.a c.in-Method.name c.in-Method.args (here c.args.frames.now) (slots_of c.args.frames.now) c.requires c.in-Method.is)
