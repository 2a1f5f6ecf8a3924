-- What follows where a strand is dropped.
use Rattle.std.specs.Prelude.{◌≡◌, ◌⊎◌, true, List, [], ◌∷◌}
use Rattle.strand_contract.specs.Actions.{Close, Dropped, LocalAction, Did}
use Rattle.strand_contract.specs.Alone.{lives, is_open}

-- a strand that lived, or was to begin, was dropped, and since then only places that were open were closed
abbrev pub EndsByClosings : {J : Type 0} → List (LocalAction J) → Type 0
EndsByClosings [] = ⊥
EndsByClosings (Did Dropped ∷ es) = (lives es ≡ true) ⊎ (es ≡ [])
EndsByClosings (Did (Close q) ∷ es) = (is_open q es ≡ true) × EndsByClosings es
EndsByClosings (a ∷ es) = ⊥

-- what a dropped strand did before that
abbrev pub before_drop : {J : Type 0} → List (LocalAction J) → List (LocalAction J)
before_drop [] = []
before_drop (Did Dropped ∷ es) = es
before_drop (a ∷ es) = before_drop es
