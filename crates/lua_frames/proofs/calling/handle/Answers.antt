use Rattle.std.proofs.Common.{refl, ◌∙◌, ap, List, ◌++◌, ◌∷◌, []}
use Rattle.lua_values.specs.declared.values.Value.{Value}
use Rattle.lua_frames.specs.declared.items.Item.TheVariants as i
use Rattle.lua_frames.proofs.calling.handle.Goals as goal

pub returns : goal.returns
returns c =
    record {
      below = refl;
      kind = refl;
      given = refl;
      items = (
        c.push.new.self,
        c.in_ok-push.ensures.items ∙ ap (λ (xs : List Value). xs ++ c.args.fault ∷ []) c.fresh-args.ensures,
        c.in_ok-push-2.ensures.items ∙ ap (λ (h : Value). c.args.frames.now.top.items.items ++ i.Call 0 h c.push.new.self ∷ []) c.in_ok-handler.ensures,
      );
    }
