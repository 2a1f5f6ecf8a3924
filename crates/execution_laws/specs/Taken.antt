-- What a place took of what was sent to it.
use Rattle.std.specs.Prelude.{ℕ, List, [], ◌∷◌, ◌++◌, if◌then◌else◌}
use Rattle.strand_contract.specs.declared.turns.Place.{Place}
use Rattle.strand_contract.specs.Actions.{Put, LocalAction, Did, same_place}

-- the bytes that the place took, joined
abbrev pub took : {J : Type 0} → Place → List (LocalAction J) → List ℕ
took q [] = []
took q (Did (Put p bytes) ∷ es) = if same_place q p then took q es ++ bytes else took q es
took q (a ∷ es) = took q es
