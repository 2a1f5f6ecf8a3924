-- What follows where a strand is dropped.
use Rattle.std.proofs.Common.{◌≡◌, inl, inr, true, false, List, [], ◌∷◌, ◌++◌, refl, ap, sym, ◌∙◌}
use Rattle.resty_base.specs.declared.names.StrandId.{StrandId}
use Rattle.resty_base.specs.BoolLaws.{by_test, clash}
use Rattle.strand_contract.specs.declared.turns.Place.{Place}
use Rattle.strand_contract.specs.declared.turns.Act.{Act}
use Rattle.strand_contract.specs.Actions.{Began, Bytes, Ended, Broken, Ready, Dialled, Refused, Put, Later, Lost, Close, Log, Dict, Take, Dial, Keep, Timer, Dropped, Run, Offer, Due, Halted, Gone, LocalAction, Told, Did}
use Rattle.executions.specs.Executions.{GlobalAction, projection}
use Rattle.strand_contract.specs.Behaviors.{Behavior}
use Rattle.strand_contract.specs.Alone.{IsQuiescent, lives, was_dropped, is_open, todo, IsExecution}
use Rattle.executions.specs.Lawful.{IsLawful}
use Rattle.strand_contract.specs.ClientOnly.{IsOver}
use Rattle.strand_contract.specs.Laws.{IsQuiet}
use Rattle.strand_contract.specs.ClientOnlyLaws.{over}
use Rattle.strand_contract.specs.OpenPlaceLaws.{first-open, no-place-open}
use Rattle.execution_laws.specs.StrandDrops.{EndsByClosings, before_drop}
use Rattle.execution_laws.specs.StrandInputs.{Input, gave}
use Rattle.execution_laws.proofs.Alone.{beginning}

module _ {J : Type 0} where
  some-acts : {C : Type 0} (b : Behavior J) (es : List (LocalAction J)) (rest : List (Act J)) (a : Act J) → IsOver b es → todo b es ≡ a ∷ rest → C
  some-acts b es rest a o e = absurd (let f : a ∷ rest ≡ [] = sym e ∙ o.no_act in cc)

  -- after its dropping only its open places are closed
  pub closings : (b : Behavior J) (es : List (LocalAction J)) → IsQuiet b → IsExecution b es → was_dropped es ≡ true → EndsByClosings es
  closings b [] quiet f w = clash w refl
  closings b (Told x ∷ es) quiet f w = clash f.1.0 (over b quiet es f.0 w).dead
  closings b (Did (Began now begin) ∷ es) quiet f w = clash w (ap was_dropped f.1)
  closings b (Did (Bytes q bytes) ∷ es) quiet f w = clash f.1.0.living (over b quiet es f.0 w).dead
  closings b (Did (Ended q) ∷ es) quiet f w = clash f.1.living (over b quiet es f.0 w).dead
  closings b (Did (Broken q) ∷ es) quiet f w = clash f.1.living (over b quiet es f.0 w).dead
  closings b (Did (Ready q) ∷ es) quiet f w = clash f.1.living (over b quiet es f.0 w).dead
  closings b (Did (Dialled k) ∷ es) quiet f w = clash f.1.living (over b quiet es f.0 w).dead
  closings b (Did (Refused k) ∷ es) quiet f w = clash f.1.living (over b quiet es f.0 w).dead
  closings b (Did (Put q bytes) ∷ es) quiet f w = clash f.1.0.living (over b quiet es f.0 w).dead
  closings b (Did (Later q) ∷ es) quiet f w = clash f.1.living (over b quiet es f.0 w).dead
  closings b (Did (Lost q) ∷ es) quiet f w = clash f.1.living (over b quiet es f.0 w).dead
  closings b (Did (Close q) ∷ es) quiet f w = elim f.1 [
    | inl next ↦ some-acts b es _ _ (over b quiet es f.0 w) next.0.1
    | inr first ↦ (first-open q first.1.0 es first.1.1, closings b es quiet f.0 w)
  ]
  closings b (Did (Log line done) ∷ es) quiet f w = some-acts b es _ _ (over b quiet es f.0 w) f.1.1
  closings b (Did (Dict zone call answer) ∷ es) quiet f w = some-acts b es _ _ (over b quiet es f.0 w) f.1.0
  closings b (Did (Take key uses) ∷ es) quiet f w = some-acts b es _ _ (over b quiet es f.0 w) f.1
  closings b (Did (Dial host port done) ∷ es) quiet f w = some-acts b es _ _ (over b quiet es f.0 w) f.1
  closings b (Did (Keep k key idle size) ∷ es) quiet f w = some-acts b es _ _ (over b quiet es f.0 w) f.1.0
  closings b (Did (Timer at answer) ∷ es) quiet f w = some-acts b es _ _ (over b quiet es f.0 w) f.1.1
  closings b (Did Dropped ∷ es) quiet f w = f.1
  closings b (Did (Run k) ∷ es) quiet f w = clash f.1.0.living (over b quiet es f.0 w).dead
  closings b (Did (Offer q) ∷ es) quiet f w = clash f.1.0.living (over b quiet es f.0 w).dead
  closings b (Did (Due n) ∷ es) quiet f w = clash f.1.0.living (over b quiet es f.0 w).dead
  closings b (Did Halted ∷ es) quiet f w = clash f.1.0.living (over b quiet es f.0 w).dead
  closings b (Did Gone ∷ es) quiet f w = some-acts b es _ _ (over b quiet es f.0 w) f.1

  fallen : (b : Behavior J) (es : List (LocalAction J)) → IsExecution b es → was_dropped es ≡ true → lives es ≡ false
  fallen b [] f w = refl
  fallen b (Did (Began now begin) ∷ es) f w = clash w (ap was_dropped f.1)
  fallen b (Did Dropped ∷ es) f w = refl
  fallen b (Did Gone ∷ es) f w = refl
  fallen b (a ∷ es) f w = fallen b es f.0 w

  -- and all of them are in the end
  pub closed : (b : Behavior J) (s : StrandId) (q : Place) (ms : List (GlobalAction J)) → IsLawful b ms → was_dropped (projection s ms) ≡ true → is_open q (projection s ms) ≡ false
  closed b s q ms lawful w = no-place-open q (projection s ms) ((lawful.rests.each s).closed (fallen b (projection s ms) (lawful.alone s) w))

  -- before it was dropped it had done what it does alone
  alone-before : (b : Behavior J) (es : List (LocalAction J)) → IsExecution b es → IsExecution b (before_drop es)
  alone-before b [] f = f
  alone-before b (Did Dropped ∷ es) f = f.0
  alone-before b (a ∷ es) f = alone-before b es f.0

  lived-before : (b : Behavior J) (es : List (LocalAction J)) → IsExecution b es → was_dropped es ≡ true → was_dropped (before_drop es) ≡ false
  lived-before b [] f w = refl
  lived-before b (Did Dropped ∷ es) f w = by_test (was_dropped es) (λ on. elim f.1 [ inl live ↦ clash live (fallen b es f.0 on) | inr none ↦ clash on (ap was_dropped none) ]) (λ off. off)
  lived-before b (a ∷ es) f w = lived-before b es f.0 w

  gave-before : (es : List (LocalAction J)) → EndsByClosings es → gave es ≡ gave (before_drop es)
  gave-before [] h = refl
  gave-before (Did Dropped ∷ es) h = refl
  gave-before (Did (Close q) ∷ es) h = gave-before es h.1
  gave-before (a ∷ es) h = absurd h

  pub before : (b : Behavior J) (es fs : List (LocalAction J)) (more : List (Input J)) → IsQuiet b → IsExecution b es → IsExecution b fs → was_dropped es ≡ true → was_dropped fs ≡ false
      → IsQuiescent b fs → gave fs ≡ more ++ gave es → (later : List (LocalAction J)) × (fs ≡ later ++ before_drop es)
  before b es fs more quiet f g v w rests e = beginning b (before_drop es) fs more quiet (alone-before b es f) g (lived-before b es f v) w rests
      (e ∙ ap (λ l. more ++ l) (gave-before es (closings b es quiet f v)))
