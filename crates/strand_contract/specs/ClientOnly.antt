-- Strands that have nothing but their client's connection: their acts queue turns, hang up and end a life.
use Rattle.std.specs.Prelude.{◌≡◌, ℕ, false, List, [], ◌∷◌}
use Rattle.strand_contract.specs.declared.turns.Place.TheVariants as place
use Rattle.strand_contract.specs.declared.turns.Act.{Act}
use Rattle.strand_contract.specs.declared.turns.Act.TheVariants as act
use Rattle.strand_contract.specs.Actions.{LocalAction}
use Rattle.strand_contract.specs.Behaviors.{Behavior}
use Rattle.strand_contract.specs.Alone.{lives, is_open, todo, armed}

-- the acts queue turns, hang up and end a life, and no more
abbrev pub IsClientOnly : {J : Type 0} → List (Act J) → Type 0
IsClientOnly [] = Unit {0}
IsClientOnly (act.Ready k ∷ acts) = IsClientOnly acts
IsClientOnly (act.Unready k ∷ acts) = IsClientOnly acts
IsClientOnly (act.Offer q ∷ acts) = IsClientOnly acts
IsClientOnly (act.HangUp q ∷ acts) = IsClientOnly acts
IsClientOnly (act.Gone ∷ acts) = IsClientOnly acts
IsClientOnly (a ∷ acts) = ⊥

-- such a strand awaits no answer, arms no deadline and has no socket
pub record HasClientOnly {J : Type 0} (b : Behavior J) (es : List (LocalAction J)) : Type 0 where
  pub to_do : IsClientOnly (todo b es)
  pub no_deadline : armed b es ≡ []
  pub no_socket : (k : ℕ) → is_open (place.Sock k) es ≡ false

-- the strand has nothing left to do and no life
pub record IsOver {J : Type 0} (b : Behavior J) (es : List (LocalAction J)) : Type 0 where
  pub dead : lives es ≡ false
  pub no_act : todo b es ≡ []
