-- What the strands see of an execution in which one of them acts.
use Rattle.std.proofs.Common.{◌≡◌, Bool, true, false, List, [], ◌∷◌, if◌then◌else◌, refl, sym, ap, subst, ◌∙◌}
use Rattle.std.proofs.lemmas.Bool.{eqb-true}
use Rattle.resty_base.specs.declared.names.StrandId.{StrandId}
use Rattle.resty_base.specs.declared.names.StrandId.TheVariants as strand
use Rattle.resty_world.specs.Ids.{same_strand}
use Rattle.strand_contract.specs.Actions.{LocalAction, Did, Told}
use Rattle.executions.specs.Executions.{GlobalAction, Of, Everyone, TurnedAway, IdleGave, IdleClosed, projection}
use Rattle.strand_contract.specs.Alone.{lives}
use Rattle.resty_base.specs.BoolLaws.{clash, by_test}

abbrev pub client : StrandId
client = strand.Conn 1

pub is-client : (s : StrandId) → same_strand s client ≡ true → s ≡ client
is-client (strand.Conn c) h = ap strand.Conn (eqb-true c 1 h)
is-client (strand.Job n) h = clash h refl

module _ {J : Type 0} where
  -- nobody acts but the client
  abbrev pub IsAlone : List (GlobalAction J) → Type 0
  IsAlone [] = Unit {0}
  IsAlone (Of s x n ∷ ms) = (s ≡ client) × IsAlone ms
  IsAlone (m ∷ ms) = IsAlone ms

  unseen-act : (c : Bool) (a : LocalAction J) (es : List (LocalAction J)) → c ≡ false → es ≡ [] → (if c then a ∷ es else es) ≡ []
  unseen-act c a es h e = rw h e

  pub unseen : (s : StrandId) (ms : List (GlobalAction J)) → IsAlone ms → same_strand s client ≡ false → projection s ms ≡ []
  unseen s [] alone h = refl
  unseen s (Of t x n ∷ ms) alone h = unseen-act (same_strand s t) (Did x) (projection s ms) (ap (same_strand s) alone.0 ∙ h) (unseen s ms alone.1 h)
  unseen s (Everyone w ∷ ms) alone h = unseen-act (lives (projection s ms)) (Told w) (projection s ms) (ap lives (unseen s ms alone h)) (unseen s ms alone h)
  unseen s (TurnedAway c ∷ ms) alone h = unseen s ms alone h
  unseen s (IdleGave e ∷ ms) alone h = unseen s ms alone h
  unseen s (IdleClosed n ∷ ms) alone h = unseen s ms alone h

  -- what holds of what the client sees, and of nothing, holds of what anyone sees
  pub of-all : (P : List (LocalAction J) → Type 0) (ms : List (GlobalAction J)) → IsAlone ms → P (projection client ms) → P [] → (s : StrandId) → P (projection s ms)
  of-all P ms alone his none s = by_test (same_strand s client)
      (λ on. subst (λ (t : StrandId). P (projection t ms)) (sym (is-client s on)) his)
      (λ off. subst P (sym (unseen s ms alone off)) none)
