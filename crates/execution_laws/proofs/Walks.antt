-- Two lists that never part: one is what the other began with. Lists have the newest first.
use Rattle.std.specs.Prelude.{◌≡◌, ◌⊎◌, List, [], ◌∷◌, ◌++◌, refl}
use Rattle.std.proofs.Common.{inl, inr, sym, ◌∙◌, ap}
use Rattle.std.proofs.lemmas.List.{append_assoc, append-nil}

-- the oldest of a list
pub ending : {A : Type 0} (xs : List A) → (xs ≡ []) ⊎ ((ys : List A) × (y : A) × (xs ≡ ys ++ y ∷ []))
ending [] = inl refl
ending (x ∷ xs) = elim (ending xs) [
  | inl e ↦ inr ([], x, ap (λ l. x ∷ l) e)
  | inr e ↦ inr (x ∷ e.0, e.1, ap (λ l. x ∷ l) e.2)
]

final : {A : Type 0} → A → List A → A
final d [] = d
final d (x ∷ xs) = final x xs

final-is : {A : Type 0} (d a : A) (xs : List A) → final d (xs ++ a ∷ []) ≡ a
unfolding final
final-is d a [] = refl
final-is d a (x ∷ xs) = final-is x a xs

pub last-same : {A : Type 0} (a c : A) (xs ys : List A) → xs ++ a ∷ [] ≡ ys ++ c ∷ [] → a ≡ c
last-same a c xs ys h = sym (final-is a a xs) ∙ ap (final a) h ∙ final-is a c ys

-- one is what the other began with
abbrev pub Fits : {A : Type 0} → List A → List A → Type 0
Fits {A} xs ys = ((more : List A) × (more ++ xs ≡ ys)) ⊎ ((more : List A) × (more ++ ys ≡ xs))

-- after the same both go on with the same
abbrev pub NeverPart : {A : Type 0} → List A → List A → Type 0
NeverPart {A} xs ys = (us vs zs : List A) (x y : A) → us ++ x ∷ zs ≡ xs → vs ++ y ∷ zs ≡ ys → x ≡ y

pub fits : {A : Type 0} (xs ys : List A) → NeverPart xs ys → Fits xs ys
fits [] ys h = inl (ys, append-nil ys)
fits (x ∷ xs) ys h = elim (fits xs ys (λ us vs zs u v e f. h (x ∷ us) vs zs u v (ap (λ l. x ∷ l) e) f)) [
  | inr w ↦ inr (x ∷ w.0, ap (λ l. x ∷ l) w.1)
  | inl w ↦ elim (ending w.0) [
    | inl z ↦ inr (x ∷ [], ap (λ l. x ∷ l) (sym w.1 ∙ ap (λ l. l ++ xs) z))
    | inr z ↦ (let at : z.0 ++ z.1 ∷ xs ≡ ys = sym (append_assoc z.0 (z.1 ∷ []) xs) ∙ ap (λ l. l ++ xs) (sym z.2) ∙ w.1 in
        inl (z.0, ap (λ k. z.0 ++ k ∷ xs) (h [] z.0 xs x z.1 refl at) ∙ at))
  ]
]
