use Rattle.std.proofs.Common.{[], ◌∷◌, refl, ap, ◌∙◌}
use Rattle.lua_values.specs.declared.values.Value.{Value}
use Rattle.lua_frames.specs.declared.items.Item.TheVariants as i
use Rattle.lua_vm_calls.proofs.GuardLemmas.{guards}
use Rattle.lua_vm_calls.proofs.protected.push_guard.Goals as goal

pub returns : goal.returns
returns c =
    guards c.args.line c.args.kind c.args.frames.now _ c.in_ok-frame.frame _ c.args.function c.args.args c.args.args.items _ c.push_frame.ensures refl refl c.in_ok-frame.ensures.is refl
    (c.in_ok-frame.ensures.items ∙ ap (λ (f : Value). i.Call 0 f c.args.args ∷ []) c.in_ok-function.ensures)
