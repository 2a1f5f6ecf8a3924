-- A name without `_` stays as it is.
use Rattle.std.proofs.Common.{◌≡◌, ℕ, List, [], ◌∷◌, None, Some, sym, refl, ap, ◌∙◌, ⊎_elim}
use Rattle.std.proofs.lemmas.Bool.{cond-true, cond-false, eq-eqb, ne_eqb, cases_eq}
use Rattle.http_base.specs.Splitting.{after}
use Rattle.request_api.specs.Names.{dashed}

pub dashes_plain : (name : List ℕ) → after 95 name ≡ None → dashed name ≡ name
dashes_plain [] none = refl
dashes_plain (b ∷ name) none =
    ⊎_elim
    (λ same. absurd (let f : Some name ≡ None = sym (cond-true _ _ _ (eq-eqb b 95 same)) ∙ none in cc))
    (λ other.
    ap (λ c. c ∷ dashed name) (cond-false _ _ _ (ne_eqb b 95 other))
    ∙ ap (λ l. b ∷ l) (dashes_plain name (sym (cond-false _ _ _ (ne_eqb b 95 other)) ∙ none)))
    (cases_eq b 95)
