-- What came from outside determines the action, where the action may come.
use Rattle.std.proofs.Common.{◌≡◌, ℕ, Bool, true, false, List, [], ◌∷◌, ◌++◌, Option, Some, None, length, take, refl, sym, ap, ◌∙◌}
use Rattle.std.proofs.Math.Seq.{take-append_seam}
use Rattle.resty_base.specs.BoolLaws.{clash}
use Rattle.strand_contract.specs.declared.turns.Act.{Act}
use Rattle.strand_contract.specs.declared.turns.Act.TheVariants as act
use Rattle.strand_contract.specs.declared.turns.Seen.TheVariants as seen
use Rattle.strand_contract.specs.declared.turns.Answer.TheVariants as answer
use Rattle.strand_contract.specs.Actions.{Action, Began, Bytes, Ended, Broken, Ready, Dialled, Refused, Put, Later, Lost, Close, Log, Dict, Take, Dial, Keep, Timer, Dropped, Run, Offer, Due, Halted, Gone, LocalAction, Told, Did}
use Rattle.strand_contract.specs.Behaviors.{Behavior}
use Rattle.strand_contract.specs.Alone.{todo, piece, Enabled}
use Rattle.strand_contract.specs.Calls.{action_of, answered}
use Rattle.execution_laws.specs.StrandInputs.{Input, Starts, Hears, Sees, Wrote, Learns, inputs_of, gave}
use Rattle.execution_laws.proofs.OwnSteps.{is_own}

taken-first : (xs rest ys : List ℕ) → xs ++ rest ≡ ys → take (length xs) ys ≡ xs
taken-first xs rest ys e = ap (take (length xs)) (sym e) ∙ take-append_seam xs rest

module _ {J : Type 0} where
  -- the action that an input means
  abbrev written : List (Act J) → Bool → Option (LocalAction J)
  written (act.Log line ∷ acts) done = Some (Did (Log line done))
  written acts done = None

  abbrev did : Option (Action J) → Option (LocalAction J)
  did None = None
  did (Some x) = Some (Did x)

  abbrev pub meant : Behavior J → List (LocalAction J) → Input J → Option (LocalAction J)
  meant b es (Starts now begin) = Some (Did (Began now begin))
  meant b es (Hears w) = Some (Told w)
  meant b es (Sees shown) = Some (Did (action_of b es shown))
  meant b es (Wrote done) = written (todo b es) done
  meant b es (Learns given) = did (answered (todo b es) given)

  pub record Means (b : Behavior J) (es : List (LocalAction J)) (a : LocalAction J) : Type 0 where
    pub input : Input J
    pub is : inputs_of a ≡ input ∷ []
    pub means : meant b es input ≡ Some a

  pub means : (b : Behavior J) (es : List (LocalAction J)) (a : LocalAction J) → Enabled b es a → is_own a ≡ false → (a ≡ Did Dropped → ⊥) → Means b es a
  means b es (Told w) may own whole = record { input = Hears w; is = refl; means = refl }
  means b es (Did (Began now begin)) may own whole = record { input = Starts now begin; is = refl; means = refl }
  means b es (Did (Bytes q bytes)) may own whole = record { input = Sees (seen.Bytes q bytes); is = refl; means = refl }
  means b es (Did (Ended q)) may own whole = record { input = Sees (seen.Ended q); is = refl; means = refl }
  means b es (Did (Broken q)) may own whole = record { input = Sees (seen.Broken q); is = refl; means = refl }
  means b es (Did (Ready q)) may own whole = record { input = Sees (seen.Ready q); is = refl; means = refl }
  means b es (Did (Dialled k)) may own whole = record { input = Sees (seen.Dialled k); is = refl; means = refl }
  means b es (Did (Refused k)) may own whole = record { input = Sees (seen.Refused k); is = refl; means = refl }
  means b es (Did (Put q bytes)) may own whole = record {
    input = Sees (seen.Took q (length bytes));
    is = refl;
    means = ap (λ taken. Some (Did (Put q taken))) (taken-first bytes may.2.0 (piece b q es) may.2.1);
  }
  means b es (Did (Later q)) may own whole = record { input = Sees (seen.Later q); is = refl; means = refl }
  means b es (Did (Lost q)) may own whole = record { input = Sees (seen.Lost q); is = refl; means = refl }
  means b es (Did (Log line done)) may own whole = record { input = Wrote done; is = refl; means = rw may.1 refl }
  means b es (Did (Dict zone call given)) may own whole = record { input = Learns (answer.Dict given); is = refl; means = rw may.0 refl }
  means b es (Did (Take key uses)) may own whole = record { input = Learns (answer.Took uses); is = refl; means = rw may refl }
  means b es (Did (Dial host port done)) may own whole = record { input = Learns (answer.Dialled done); is = refl; means = rw may refl }
  means b es (Did (Keep k key idle size)) may own whole = record { input = Learns answer.Kept; is = refl; means = rw may.0 refl }
  means b es (Did (Timer at given)) may own whole = record { input = Learns (answer.Timer given); is = refl; means = rw may.1 refl }
  means b es (Did Dropped) may own whole = absurd (whole refl)
  means b es (Did (Close q)) may own whole = clash refl own
  means b es (Did (Run k)) may own whole = clash refl own
  means b es (Did (Offer q)) may own whole = clash refl own
  means b es (Did (Due n)) may own whole = clash refl own
  means b es (Did Halted) may own whole = clash refl own
  means b es (Did Gone) may own whole = clash refl own

  -- of two actions that may come with the same input, each is the other
  pub same-action : (b : Behavior J) (es : List (LocalAction J)) (x y : LocalAction J) (p : Means b es x) (q : Means b es y) → inputs_of x ≡ inputs_of y → x ≡ y
  same-action b es x y p q e =
      let heads : p.input ∷ [] ≡ q.input ∷ [] = sym p.is ∙ e ∙ q.is in
      let same : p.input ≡ q.input = cc in
      let actions : Some x ≡ Some y = sym p.means ∙ ap (meant b es) same ∙ q.means in
      cc

  pub gave-own : (a : LocalAction J) (es : List (LocalAction J)) → is_own a ≡ true → gave (a ∷ es) ≡ gave es
  gave-own (Did (Close q)) es own = refl
  gave-own (Did (Run k)) es own = refl
  gave-own (Did (Offer q)) es own = refl
  gave-own (Did (Due n)) es own = refl
  gave-own (Did Halted) es own = refl
  gave-own (Did Gone) es own = refl
  gave-own a es own = clash own refl
