-- What each strand of a small execution does alone, and how it rests.
use Rattle.std.specs.Prelude.{◌≡◌, true, false, ◌||◌, List, [], ◌∷◌, refl}
use Rattle.std.proofs.Common.{sym, ◌∙◌, ap, subst}
use Rattle.resty_base.specs.declared.names.StrandId.{StrandId}
use Rattle.resty_base.specs.BoolLaws.{by_test}
use Rattle.resty_world.specs.Ids.{same_strand}
use Rattle.resty_world.specs.IdLaws.{same_strand-eq}
use Rattle.strand_contract.specs.Actions.{LocalAction}
use Rattle.strand_contract.specs.Behaviors.{Behavior}
use Rattle.strand_contract.specs.Alone.{lives, open_places, HasNoWork, IsQuiescent}
use Rattle.executions.specs.Executions.{GlobalAction, projection}
use Rattle.executions.specs.Strands.{is_in, strands}
use Rattle.executions.proofs.Strands.{clash, unnamed}

pub no : {A : Type 0} → false ≡ true → A
no h = clash false h refl

module _ {J : Type 0} where
  -- a relation holds of what each of these strands sees
  abbrev pub Each : (List (LocalAction J) → Type 0) → List StrandId → List (GlobalAction J) → Type 0
  Each P [] ms = Unit {0}
  Each P (s ∷ ss) ms = P (projection s ms) × Each P ss ms

  each-in : (P : List (LocalAction J) → Type 0) (ss : List StrandId) (ms : List (GlobalAction J)) → Each P ss ms → (s : StrandId) → is_in s ss ≡ true → P (projection s ms)
  each-in P [] ms h s i = no i
  each-in P (t ∷ ss) ms h s i = by_test (same_strand s t)
      (λ on. subst (λ (r : StrandId). P (projection r ms)) (sym (same_strand-eq s t on)) h.0)
      (λ off. each-in P ss ms h.1 s (ap (λ c. c || is_in s ss) (sym off) ∙ i))

  -- so it holds of what any strand sees
  pub all : (P : List (LocalAction J) → Type 0) (ms : List (GlobalAction J)) → P [] → Each P (strands ms) ms → (s : StrandId) → P (projection s ms)
  all P ms e h s = by_test (is_in s (strands ms)) (λ on. each-in P (strands ms) ms h s on) (λ off. subst P (sym (unnamed s ms off)) e)

  module _ (b : Behavior J) where
    pub unbegun : IsQuiescent b []
    unbegun = record { idle = λ on. no on; closed = λ off. refl }

    pub rests-living : (es : List (LocalAction J)) → lives es ≡ true → HasNoWork b es → IsQuiescent b es
    rests-living es on w = record { idle = λ live. w; closed = λ off. clash (lives es) on off }

    pub rests-dead : (es : List (LocalAction J)) → lives es ≡ false → open_places es ≡ [] → IsQuiescent b es
    rests-dead es off e = record { idle = λ on. clash (lives es) on off; closed = λ gone. e }
