use Rattle.std.proofs.Common.{◌≡◌, ◌∙◌, ap, List, ℕ, Some, None, codes, to_z, of_z, w64, rules}
use Rattle.std.proofs.lemmas.Int.{to_z-of_z}
use Rattle.lua_operators.specs.NamedFaults.{argument_text}
use Rattle.lua_operators.specs.TypeNames.{type_name}
use Rattle.lua_meaning.specs.Signs.{first}
use Rattle.lua_frames.proofs.FaultLemmas.{raise_as}
use Rattle.lua_vm_calls.proofs.ErrorLemmas.{error_works, level_as}
use Rattle.lua_vm_calls.proofs.errors.error_call.Goals as goal

pub returns-in-None : goal.returns-in-None
returns-in-None c = λ S store e.
    error_works S _ c.args.args.items c.take-value.result c.take-level.result None c.args.frames.now _ store _ c.take-value.ensures.value (c.take-level.ensures.value ∙ ap first c.take-value.ensures.left) c.in-None.ensures
    (raise_as S _ _ _ c.args.frames.now _ store _ (c.raise.ensures S store e)
    (c.as_slice.ensures ∙ c.in_ok-text-in-None.ensures ∙ ap (λ (t : List ℕ). argument_text 2 (codes "error") (codes "number") t) (c.name.ensures ∙ ap type_name c.type_of.ensures)))

pub returns : goal.returns
returns c = λ S store e.
    let t : to_z w64 (of_z w64 c.in-Some.n) ≡ c.in-Some.n = to_z-of_z w64 c.in-Some.n (search rules) in
    error_works S _ c.args.args.items c.take-value.result c.take-level.result (Some c.in-Some.n) c.args.frames.now _ store _ c.take-value.ensures.value (c.take-level.ensures.value ∙ ap first c.take-value.ensures.left) c.in-Some.ensures
    (level_as S _ _ c.in-Some.n c.take-level.result c.take-value.result c.args.frames.now _ store _ t (c.raise_at_level.ensures S store c.take-level.result e))
