use Rattle.lua_frames.specs.Frames.{here, slots_of}
use Rattle.lua_frames.proofs.FollowLemmas.{works_as}
use Rattle.lua_vm_statements.proofs.ReturnForms.{many_form}
use Rattle.lua_vm_statements.proofs.returns.begin_return.Goals as goal

pub return_one-requires : goal.return_one-requires
return_one-requires g c = rw c.in-Some.is at c.only.ensures

pub returns-in-None : goal.returns-in-None
returns-in-None g c =
    works_as _ _ _ _ _ _ _ _ c.list_under.ensures (many_form (g.H.Host.setting c.args.host.now) c.args.xs.now.value.items (here c.args.frames.now) (slots_of c.args.frames.now) (rw c.in-None.is at c.only.ensures))
