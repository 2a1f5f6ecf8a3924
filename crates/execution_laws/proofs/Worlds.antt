-- A part shows what came from outside, and is determined by it.
use Rattle.std.proofs.Common.{◌≡◌, false, List, [], ◌∷◌, ◌++◌, refl, ap, sym, ◌∙◌}
use Rattle.resty_base.specs.declared.names.StrandId.{StrandId}
use Rattle.strand_contract.specs.Actions.{Dropped, Run, Offer, Due, Halted, Gone, LocalAction, Told, Did}
use Rattle.executions.specs.Executions.{GlobalAction, projection}
use Rattle.strand_contract.specs.Behaviors.{Behavior}
use Rattle.strand_contract.specs.Alone.{was_dropped}
use Rattle.executions.specs.Histories.{part, without_internal}
use Rattle.executions.specs.Lawful.{IsLawful}
use Rattle.strand_contract.specs.Laws.{IsQuiet}
use Rattle.execution_laws.specs.StrandInputs.{inputs_of, gave}
use Rattle.execution_laws.proofs.Alone.{one-at-rest}

module _ {J : Type 0} where
  pub gave-shown : (es : List (LocalAction J)) → gave (without_internal es) ≡ gave es
  gave-shown [] = refl
  gave-shown (Told w ∷ es) = ap (λ l. inputs_of {J = J} (Told w) ++ l) (gave-shown es)
  gave-shown (Did (Run k) ∷ es) = gave-shown es
  gave-shown (Did (Offer q) ∷ es) = gave-shown es
  gave-shown (Did (Due n) ∷ es) = gave-shown es
  gave-shown (Did Halted ∷ es) = gave-shown es
  gave-shown (Did Gone ∷ es) = gave-shown es
  gave-shown (Did x ∷ es) = ap (λ l. inputs_of (Did x) ++ l) (gave-shown es)

  pub dropped-shown : (es : List (LocalAction J)) → was_dropped (without_internal es) ≡ was_dropped es
  dropped-shown [] = refl
  dropped-shown (Told w ∷ es) = dropped-shown es
  dropped-shown (Did Dropped ∷ es) = refl
  dropped-shown (Did x ∷ es) = dropped-shown es

  pub same-part : (b : Behavior J) → IsQuiet b → (ms ns : List (GlobalAction J)) (s t : StrandId) → IsLawful b ms → IsLawful b ns
      → was_dropped (part s ms) ≡ false → was_dropped (part t ns) ≡ false → gave (part s ms) ≡ gave (part t ns) → part s ms ≡ part t ns
  same-part b quiet ms ns s t f g v w e = ap without_internal (one-at-rest b (projection s ms) (projection t ns) quiet (f.alone s) (g.alone t)
      (sym (dropped-shown (projection s ms)) ∙ v) (sym (dropped-shown (projection t ns)) ∙ w) (f.rests.each s) (g.rests.each t)
      (sym (gave-shown (projection s ms)) ∙ e ∙ gave-shown (projection t ns)))
