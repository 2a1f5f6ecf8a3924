use Rattle.std.proofs.Common.{◌∙◌, List, [], ◌∷◌, ◌++◌, ap, refl}
use Rattle.lua_values.specs.declared.values.Value.{Value}
use Rattle.lua_vm_calls.proofs.TextLemmas.{call_waits}
use Rattle.lua_vm_calls.proofs.texts.wait_for_call.Goals as goal

pub returns : goal.returns
returns c = λ S store.
    call_waits S c.args.line c.in_ok-by.by c.args.by (c.args.value ∷ []) c.push.new.self c.args.frames.now _ c.wait.new.frames _ store _ refl refl c.in_ok-wait.ensures c.in_ok-by.ensures
    (c.in_ok-push.ensures.items ∙ ap (λ (vs : List Value). vs ++ c.args.value ∷ []) c.fresh-args.ensures) c.give_nothing.ensures
