use Rattle.lua_frames.specs.Frames.{here, slots_of}
use Rattle.lua_frames.proofs.FollowLemmas.{works_as}
use Rattle.lua_vm_expressions.proofs.LeafForms.{first_vararg_form, one_form}
use Rattle.lua_vm_expressions.proofs.leaves.leaf_one.Goals as goal

pub returns-in-Vararg : goal.returns-in-Vararg
returns-in-Vararg g c =
    works_as _ _ _ _ _ _ _ _ (c.give_first_extra.ensures (g.H.Host.setting c.args.host.now)) (first_vararg_form (g.H.Host.setting c.args.host.now) c.args.x.now (here c.args.frames.now) (slots_of c.args.frames.now) c.in-Vararg.is)

pub returns-in_default : goal.returns-in_default
returns-in_default g c =
    works_as _ _ _ _ _ _ _ _ c.leaf_all.ensures (one_form (g.H.Host.setting c.args.host.now) c.args.x.now.line c.args.x.now.kind (here c.args.frames.now) (slots_of c.args.frames.now) c.in_default.not-Vararg)
