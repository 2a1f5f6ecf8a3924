use Rattle.std.specs.Prelude.{◌≡◌, [], ◌∷◌}
use Rattle.std.proofs.Common.{inl, inr, sym, ◌∙◌}
use Rattle.execution_laws.specs.Inputs.{Input}
use Rattle.execution_laws.proofs.histories.one_action.Goals as goal
use Rattle.execution_laws.proofs.OneAction.{meet}

same-input : (i j : Input) → i ∷ [] ≡ j ∷ [] → i ≡ j
same-input i j h = let f : i ∷ [] ≡ j ∷ [] = h in cc

pub returns : goal.returns
returns g c b m k ms quiet f h d e = elim (meet b quiet m k ms f h d) [
  | inl w ↦ w
  | inr w ↦ w.4 (same-input w.0 w.1 (sym w.2 ∙ e ∙ w.3))
]
