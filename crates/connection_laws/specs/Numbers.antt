-- The numbers that strands get as they begin.
use Rattle.std.specs.Prelude.{◌≡◌, ℕ, List, [], ◌∷◌}
use Rattle.strand_contract.specs.declared.turns.Place.{Place}
use Rattle.strand_contract.specs.declared.turns.Start.TheVariants as start
use Rattle.strand_contract.specs.Actions.{LocalAction, Did, Began}
use Rattle.strand_contract.specs.Behaviors.{Behavior}

-- after either history the newest turn has the same acts, and to each place the same was sent
pub record DoTheSame {J : Type 0} (b : Behavior J) (es fs : List (LocalAction J)) : Type 0 where
  pub acts : b.acts es ≡ b.acts fs
  pub sent : (q : Place) → b.sent q es ≡ b.sent q fs

-- a beginning with the number n in place of its own; any other action as it is
abbrev pub with_number : {J : Type 0} → ℕ → LocalAction J → LocalAction J
with_number n (Did (Began now (start.Client c))) = Did (Began now (start.Client n))
with_number n (Did (Began now (start.Job j premature job))) = Did (Began now (start.Job n premature job))
with_number n a = a

-- the same actions, of a strand that begins with the number n
abbrev pub renumbered : {J : Type 0} → ℕ → List (LocalAction J) → List (LocalAction J)
renumbered n [] = []
renumbered n (a ∷ es) = with_number n a ∷ renumbered n es
