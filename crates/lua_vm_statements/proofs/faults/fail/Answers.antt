use Rattle.std.proofs.Common.{◌∙◌, refl}
use Rattle.lua_vm_statements.proofs.AssignLemmas.{fails_as}
use Rattle.lua_vm_statements.proofs.faults.fail.Goals as goal

pub returns : goal.returns
returns c = λ S e.
    fails_as _ _ c.args.frames.now c.raise_value.new.frames c.raise_value.result c.raise_value.ensures (c.in_ok-text.ensures S e ∙ rw (c.position_at-position.ensures S e, c.text.ensures) refl)
