-- What a strand wrote in the log is what its turns had logged, as far as that was carried out.
use Rattle.std.proofs.Common.{◌≡◌, ℕ, Bool, true, false, List, [], ◌∷◌, ◌++◌, drop, refl, sym, ap, ◌∙◌, subst, append-nil, append_assoc, inl, inr}
use Rattle.strand_contract.specs.declared.turns.Act.{Act}
use Rattle.strand_contract.specs.declared.turns.Act.TheVariants as act
use Rattle.strand_contract.specs.Actions.{LocalAction, Did, Began}
use Rattle.strand_contract.specs.Actions.{Close, Log, Dict, Take, Dial, Keep, Timer, Dropped, Gone}
use Rattle.strand_contract.specs.Behaviors.{Behavior}
use Rattle.strand_contract.specs.Alone.{lives, was_dropped, todo, left_by, carried, Enabled, IsExecution, IsPrefixOf}
use Rattle.strand_contract.specs.Laws.{IsQuiet}
use Rattle.strand_plans.proofs.PlanLaws.{dead}
use Rattle.connection_laws.specs.Replies.{lines_in, lines_by, lines_written}

lines-append : {J : Type 0} (xs ys : List (Act J)) → lines_in (xs ++ ys) ≡ lines_in xs ++ lines_in ys
lines-append [] ys = refl
lines-append (act.Log line ∷ xs) ys = ap (λ ls. line ∷ ls) (lines-append xs ys)
lines-append (act.Ready k ∷ xs) ys = lines-append xs ys
lines-append (act.Unready k ∷ xs) ys = lines-append xs ys
lines-append (act.Offer q ∷ xs) ys = lines-append xs ys
lines-append (act.Arm n at ∷ xs) ys = lines-append xs ys
lines-append (act.Cancel n ∷ xs) ys = lines-append xs ys
lines-append (act.HangUp q ∷ xs) ys = lines-append xs ys
lines-append (act.Dict zone call ∷ xs) ys = lines-append xs ys
lines-append (act.Take key ∷ xs) ys = lines-append xs ys
lines-append (act.Dial host port ∷ xs) ys = lines-append xs ys
lines-append (act.Keep k key idle size ∷ xs) ys = lines-append xs ys
lines-append (act.Timer at job ∷ xs) ys = lines-append xs ys
lines-append (act.Gone ∷ xs) ys = lines-append xs ys

-- an act that is carried out at once logs no line
carried-lines : {J : Type 0} (acts : List (Act J)) → lines_in (carried acts) ≡ lines_in acts
carried-lines [] = refl
carried-lines (act.Log line ∷ acts) = ap (λ ls. line ∷ ls) (carried-lines acts)
carried-lines (act.Ready k ∷ acts) = carried-lines acts
carried-lines (act.Unready k ∷ acts) = carried-lines acts
carried-lines (act.Offer q ∷ acts) = carried-lines acts
carried-lines (act.Arm n at ∷ acts) = carried-lines acts
carried-lines (act.Cancel n ∷ acts) = carried-lines acts
carried-lines (act.HangUp q ∷ acts) = carried-lines acts
carried-lines (act.Dict zone call ∷ acts) = carried-lines acts
carried-lines (act.Take key ∷ acts) = carried-lines acts
carried-lines (act.Dial host port ∷ acts) = carried-lines acts
carried-lines (act.Keep k key idle size ∷ acts) = carried-lines acts
carried-lines (act.Timer at job ∷ acts) = carried-lines acts
carried-lines (act.Gone ∷ acts) = carried-lines acts

module _ {J : Type 0} (b : Behavior J) (quiet : IsQuiet b) where
  -- what was written, and what is still to be carried out
  abbrev Writes : List (LocalAction J) → Type 0
  Writes es = lines_written es ++ lines_in (todo b es) ≡ lines_by b es

  -- with the acts of the newest turn
  with-turn : (a : LocalAction J) (es : List (LocalAction J)) → lines_written (a ∷ es) ++ lines_in (left_by a (todo b es)) ≡ lines_by b es → Writes (a ∷ es)
  with-turn a es h =
      ap (λ ls. lines_written (a ∷ es) ++ ls) (lines-append (left_by a (todo b es)) (carried (b.acts (a ∷ es))) ∙ ap (λ ls. lines_in (left_by a (todo b es)) ++ ls) (carried-lines (b.acts (a ∷ es))))
      ∙ sym (append_assoc (lines_written (a ∷ es)) (lines_in (left_by a (todo b es))) (lines_in (b.acts (a ∷ es))))
      ∙ ap (λ ls. ls ++ lines_in (b.acts (a ∷ es))) h

  -- an act that logs no line is carried out
  one-done : (es : List (LocalAction J)) (x : Act J) (rest : List (Act J)) → lines_in (x ∷ rest) ≡ lines_in rest → todo b es ≡ x ∷ rest → Writes es
      → lines_written es ++ lines_in (drop 1 (todo b es)) ≡ lines_by b es
  one-done es x rest none t h =
      ap (λ acts. lines_written es ++ lines_in (drop 1 acts)) t ∙ ap (λ ls. lines_written es ++ ls) (sym none) ∙ ap (λ acts. lines_written es ++ lines_in acts) (sym t) ∙ h

  one-logged : (es : List (LocalAction J)) (line : List ℕ) (rest : List (Act J)) → todo b es ≡ act.Log line ∷ rest → Writes es
      → (lines_written es ++ line ∷ []) ++ lines_in (drop 1 (todo b es)) ≡ lines_by b es
  one-logged es line rest t h =
      ap (λ acts. (lines_written es ++ line ∷ []) ++ lines_in (drop 1 acts)) t ∙ append_assoc (lines_written es) (line ∷ []) (lines_in rest)
      ∙ ap (λ acts. lines_written es ++ lines_in acts) (sym t) ∙ h

  kept-up : (a : LocalAction J) (es : List (LocalAction J)) → Enabled b es a → was_dropped (a ∷ es) ≡ false → Writes es → lines_written (a ∷ es) ++ lines_in (left_by a (todo b es)) ≡ lines_by b es
  kept-up (Did (Close q)) es en n h = elim en [
    | inl x ↦ one-done es (act.HangUp q) x.0.0 refl x.0.1 h
    | inr x ↦ absurd (let e : true ≡ false = sym x.0 ∙ n in cc)
  ]
  kept-up (Did (Log line done)) es en n h = one-logged es line en.0 en.1 h
  kept-up (Did (Dict zone call given)) es en n h = one-done es _ [] refl en.0 h
  kept-up (Did (Take key uses)) es en n h = one-done es _ [] refl en h
  kept-up (Did (Dial host port done)) es en n h = one-done es _ [] refl en h
  kept-up (Did (Keep k key idle size)) es en n h = one-done es _ [] refl en.0 h
  kept-up (Did (Timer due given)) es en n h = one-done es _ [] refl en.1 h
  kept-up (Did Gone) es en n h = one-done es _ [] refl en h
  kept-up (Did Dropped) es en n h = absurd (let e : true ≡ false = n in cc)
  kept-up a es en n h = h

  dropped-before : (a : LocalAction J) (es : List (LocalAction J)) → was_dropped (a ∷ es) ≡ false → was_dropped es ≡ false
  dropped-before (Did Dropped) es h = absurd (let e : true ≡ false = h in cc)
  dropped-before a es h = h

  writes : (es : List (LocalAction J)) → IsExecution b es → was_dropped es ≡ false → Writes es
  writes [] x n = refl
  writes (a ∷ es) x n = with-turn a es (kept-up a es x.1 n (writes es x.0 (dropped-before a es n)))

  -- more lines later
  longer : (xs ys zs : List (List ℕ)) → IsPrefixOf xs ys → IsPrefixOf xs (ys ++ zs)
  longer xs ys zs h = (h.0 ++ zs, sym (append_assoc xs h.0 zs) ∙ ap (λ ls. ls ++ zs) h.1)

  -- one that was given up does nothing more
  gave-up : (es : List (LocalAction J)) → IsExecution b es → was_dropped es ≡ true → lives es ≡ false
  gave-up [] x d = refl
  gave-up (Did Dropped ∷ es) x d = refl
  gave-up (Did Gone ∷ es) x d = refl
  gave-up (Did (Began now begin) ∷ es) x d = absurd (let e : false ≡ true = sym (ap was_dropped x.1) ∙ d in cc)
  gave-up (a ∷ es) x d = gave-up es x.0 d

  written-after : (a : LocalAction J) (es : List (LocalAction J)) → IsExecution b (a ∷ es) → was_dropped (a ∷ es) ≡ true → lines_written (a ∷ es) ≡ lines_written es
  written-after (Did (Log line done)) es x d =
      absurd (let e : act.Log line ∷ x.1.0 ≡ [] = sym x.1.1 ∙ dead b quiet es x.0 (gave-up es x.0 d) in cc)
  written-after a es x d = refl

  pub first-written : (es : List (LocalAction J)) → IsExecution b es → IsPrefixOf (lines_written es) (lines_by b es)
  first-written [] x = ([], refl)
  first-written (a ∷ es) x = by (was_dropped (a ∷ es)) refl (first-written es x.0)
    where
      by : (c : Bool) → was_dropped (a ∷ es) ≡ c → IsPrefixOf (lines_written es) (lines_by b es) → IsPrefixOf (lines_written (a ∷ es)) (lines_by b (a ∷ es))
      by false n rest = (lines_in (todo b (a ∷ es)), writes (a ∷ es) x n)
      by true d rest = subst (λ ls. IsPrefixOf ls (lines_by b (a ∷ es))) (sym (written-after a es x d)) (longer (lines_written es) (lines_by b es) (lines_in (b.acts (a ∷ es))) rest)

  pub all-written : (es : List (LocalAction J)) → IsExecution b es → was_dropped es ≡ false → todo b es ≡ [] → lines_written es ≡ lines_by b es
  all-written es x n t = sym (append-nil (lines_written es)) ∙ ap (λ acts. lines_written es ++ lines_in acts) (sym t) ∙ writes es x n
