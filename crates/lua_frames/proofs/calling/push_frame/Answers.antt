use Rattle.std.proofs.Common.{[], ◌∷◌, ◌++◌, ◌∙◌, ap}
use Rattle.lua_frames.specs.declared.frames.Frame.{Frame}
use Rattle.lua_frames.proofs.calling.push_frame.Goals as goal

pub returns : goal.returns
returns c =
    record {
      items = c.tighten.new.items;
      same = c.tighten.ensures;
      below = c.in_ok-push.ensures ∙ ap (λ (f : Frame). c.args.frames.now.below.frames.items ++ f ∷ []) c.replace-caller.ensures.value;
      top = c.replace-caller.ensures.after;
    }
