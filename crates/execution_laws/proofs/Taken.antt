-- What a place took of what was sent to it.
use Rattle.std.proofs.Common.{◌≡◌, inl, inr, ℕ, ◌+◌, ◌-◌, ◌%◌, Bool, true, false, List, [], ◌∷◌, ◌++◌, take, drop, length, if◌then◌else◌, refl, sym, ap, subst, ◌∙◌, append_assoc, append-nil, length-append, take-append-drop}
use Rattle.std.proofs.lemmas.List.{drop_at}
use Rattle.std.proofs.Math.Seq.{take-nil}
use Rattle.resty_base.specs.BoolLaws.{clash}
use Rattle.strand_contract.specs.declared.turns.Place.{Place}
use Rattle.strand_contract.specs.Actions.{Put, LocalAction, Did, same_place}
use Rattle.strand_contract.specs.Behaviors.{Behavior}
use Rattle.strand_contract.specs.Alone.{lives, is_open, was_put_off, taken, piece, IsExecution, IsQuiescent, IsPrefixOf}
use Rattle.strand_contract.specs.Laws.{Grows, Keeps}
use Rattle.strand_contract.specs.OpenPlaceLaws.{same-place}
use Rattle.execution_laws.specs.Taken.{took}

further : {A : Type 0} (xs ys zs : List A) → IsPrefixOf xs ys → IsPrefixOf ys zs → IsPrefixOf xs zs
further xs ys zs p q = (p.0 ++ q.0, sym (append_assoc xs p.0 q.0) ∙ ap (λ l. l ++ q.0) p.1 ∙ q.1)

after : {A : Type 0} (xs ys zs : List A) → IsPrefixOf ys zs → IsPrefixOf (xs ++ ys) (xs ++ zs)
after xs ys zs p = (p.0, append_assoc xs ys p.0 ∙ ap (λ l. xs ++ l) p.1)

taken-more : (same : Bool) (xs bytes : List ℕ) (n : ℕ) → length xs ≡ n → length (if same then xs ++ bytes else xs) ≡ (if same then n + length bytes else n)
taken-more true xs bytes n e = length-append xs bytes ∙ ap (λ k. k + length bytes) e
taken-more false xs bytes n e = e

piece-first : (n : ℕ) (opened : Bool) (xs ys : List ℕ) → xs ≡ ys → IsPrefixOf (take n (if opened then xs else [])) ys
piece-first n true xs ys e = (drop n xs, take-append-drop n xs ∙ e)
piece-first n false xs ys e = (ys, ap (λ l. l ++ ys) (take-nil n))

module _ {J : Type 0} where
  length-took : (q : Place) (es : List (LocalAction J)) → length (took q es) ≡ taken q es
  length-took q [] = refl
  length-took q (Did (Put p bytes) ∷ es) = taken-more (same_place q p) (took q es) bytes (taken q es) (length-took q es)
  length-took q (a ∷ es) = length-took q es

  -- what is left of what was sent, while the place is open
  left : (b : Behavior J) (q : Place) (es : List (LocalAction J)) (first : IsPrefixOf (took q es) (b.sent q es)) → drop (taken q es) (b.sent q es) ≡ first.0
  left b q es first = ap (drop (taken q es)) (sym first.1) ∙ drop_at (took q es) first.0 (taken q es) (length-took q es)

  took-more : (b : Behavior J) (q p : Place) (bytes : List ℕ) (es : List (LocalAction J)) (same : Bool) → same_place q p ≡ same → IsPrefixOf bytes (piece b p es)
      → IsPrefixOf (took q es) (b.sent q es) → IsPrefixOf (if same then took q es ++ bytes else took q es) (b.sent q es)
  took-more b q p bytes es true same part first =
      let at : q ≡ p = same-place q p same in
      let mine : IsPrefixOf bytes (piece b q es) = subst (λ (r : Place). IsPrefixOf bytes (piece b r es)) (sym at) part in
      let rest = piece-first (16_384 - taken q es % 16_384) (is_open q es) (drop (taken q es) (b.sent q es)) first.0 (left b q es first) in
      subst (λ l. IsPrefixOf (took q es ++ bytes) l) first.1 (after (took q es) bytes first.0 (further bytes (piece b q es) first.0 mine rest))
  took-more b q p bytes es false same part first = first

  pub first-part : (b : Behavior J) (q : Place) (es : List (LocalAction J)) → Grows b → IsExecution b es → IsPrefixOf (took q es) (b.sent q es)
  first-part b q [] grows f = (b.sent q [], refl)
  first-part b q (Did (Put p bytes) ∷ es) grows f =
      further _ (b.sent q es) _ (took-more b q p bytes es (same_place q p) refl f.1.2 (first-part b q es grows f.0)) (grows q (Did (Put p bytes)) es f)
  first-part b q (a ∷ es) grows f = further (took q es) (b.sent q es) (b.sent q (a ∷ es)) (first-part b q es grows f.0) (grows q a es f)

  pub whole-part : (b : Behavior J) (q : Place) (es : List (LocalAction J)) → Grows b → Keeps b → IsExecution b es → lives es ≡ true → IsQuiescent b es
      → is_open q es ≡ true → was_put_off q es ≡ false → took q es ≡ b.sent q es
  whole-part b q es grows keeps f live rests on off =
      let first = first-part b q es grows f in
      let none : first.0 ≡ [] = sym (left b q es first) ∙ elim (keeps es f live (rests.idle live) q on) [
        | inl empty ↦ sym (ap (λ v. if v then drop (taken q es) (b.sent q es) else []) on) ∙ empty
        | inr later ↦ clash later off
      ] in
      sym (append-nil (took q es)) ∙ ap (λ l. took q es ++ l) (sym none) ∙ first.1
