use Rattle.std.proofs.Common.{◌∙◌, ◌+◌, ◌∷◌, ◌++◌, ℕ, if◌then◌else◌, ap, sym, List, length, []}
use Rattle.lua_frames.specs.declared.frames.Frame.{Frame}
use Rattle.lua_frames.specs.Around.{is_lua, around_of}
use Rattle.lua_frames.proofs.StackLemmas.{count_push, fits_one_more}
use Rattle.lua_frames.proofs.stack.Stack.push.Goals as goal

pub overflow_add-self : goal.overflow_add-self
overflow_add-self c = fits_one_more c.args.self.now.frames c.args.self.now.functions c.args.frame _ c.args.self.now.counted c.count_of-more.ensures

pub invariant_of-self-2 : goal.invariant_of-self-2
invariant_of-self-2 c =
    record {
      counted =
          ap (λ (n : ℕ). c.args.self.now.functions + n) c.count_of-more.ensures
          ∙ ap (λ (n : ℕ). n + (if is_lua c.args.frame.kind then 1 else 0)) c.args.self.now.counted
          ∙ sym (count_push c.args.self.now.frames.items c.args.frame)
          ∙ ap (λ (fs : List Frame). length (around_of [] fs))
          (sym (c.in_ok-push.ensures.items ∙ ap (λ (fs : List Frame). fs ++ c.args.frame ∷ []) c.make_room.ensures));
    }
