use Rattle.std.specs.Prelude.{◌≡◌, [], ◌∷◌}
use Rattle.std.proofs.Common.{sym, ◌∙◌, ap}
use Rattle.resty_world.specs.declared.event.Event.{Event}
use Rattle.execution_laws.specs.Inputs.{Gives}
use Rattle.execution_laws.specs.Givens.{given}
use Rattle.execution_laws.proofs.histories.one_event.Goals as goal
use Rattle.execution_laws.proofs.OneEvent.{one-event}

same-event : (d e : Event) → Gives d ∷ [] ≡ Gives e ∷ [] → d ≡ e
same-event d e h = let f : Gives d ∷ [] ≡ Gives e ∷ [] = h in cc

pub returns : goal.returns
returns g c b m ms e quiet run is h = let w = one-event b quiet m ms run is in w.3 ∙ ap (λ e. given b e ms) (same-event w.0 e (sym w.1 ∙ h))
