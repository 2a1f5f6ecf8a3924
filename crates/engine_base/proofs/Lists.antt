-- Tests of names, and what one strand has in a line.
use Rattle.std.proofs.Common.{◌≡◌, ℕ, Bool, true, false, ◌==◌, List, [], ◌∷◌, ◌++◌, Option, Some, None, if◌then◌else◌, refl, ap, ◌∙◌, append-nil}
use Rattle.std.proofs.lemmas.Bool.{eq-eqb}
use Rattle.resty_base.specs.declared.names.StrandId.{StrandId}
use Rattle.resty_base.specs.declared.names.StrandId.TheVariants as strand
use Rattle.resty_world.specs.Ids.{same_strand}
use Rattle.resty_world.specs.Book.{told}
use Rattle.resty_world.specs.IdLaws.{same_strand-self}
use Rattle.executions.specs.Queues.{only}
use Rattle.engine_base.specs.Right.{Tells}

pub same-true : (c : ℕ) → (c == c) ≡ true
same-true c = eq-eqb c c refl

module _ {A : Type 0} where
  pub only-append : (s : StrandId) (es fs : List (StrandId × A)) → only s (es ++ fs) ≡ only s es ++ only s fs
  only-append s [] fs = refl
  only-append s (e ∷ es) fs = chosen (same_strand s e.0) e.1 (only s es) (only s fs) (only s (es ++ fs)) (only-append s es fs)
    where
      chosen : (b : Bool) (k : A) (xs ys zs : List A) → zs ≡ xs ++ ys → (if b then k ∷ zs else zs) ≡ (if b then k ∷ xs else xs) ++ ys
      chosen true k xs ys zs h = ap (λ l. k ∷ l) h
      chosen false k xs ys zs h = h

  -- one more at the end, of this strand or of another
  pub only-same : (s : StrandId) (k : A) (es : List (StrandId × A)) → only s (es ++ (s, k) ∷ []) ≡ only s es ++ k ∷ []
  only-same s k es = only-append s es ((s, k) ∷ []) ∙ ap (λ b. only s es ++ (if b then k ∷ [] else [])) (same_strand-self s)

  pub only-other : (t s : StrandId) (k : A) (es : List (StrandId × A)) → same_strand t s ≡ false → only t (es ++ (s, k) ∷ []) ≡ only t es
  only-other t s k es h = only-append t es ((s, k) ∷ []) ∙ ap (λ b. only t es ++ (if b then k ∷ [] else [])) h ∙ append-nil _

pub tells-more : {A : Type 0} (old new : Option (List A)) (es h : List A) → Tells old h → new ≡ told es old → Tells new (es ++ h)
tells-more None new es h t e = rw e tt
tells-more (Some g) new es h t e = rw e (ap (λ l. es ++ l) t)

pub tells-same : {A : Type 0} (old new : Option (List A)) (h : List A) → Tells old h → new ≡ old → Tells new h
tells-same old new h t e = rw e t

pub told-nothing : {A : Type 0} (o : Option (List A)) → told [] o ≡ o
told-nothing None = refl
told-nothing (Some h) = refl
