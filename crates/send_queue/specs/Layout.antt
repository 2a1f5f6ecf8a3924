-- How the bytes that wait are kept: shared pieces that end where blocks do, and the beginning of a block. A block has 16,384 bytes.
use Rattle.std.specs.Prelude.{◌≡◌, ℕ, ◌+◌, ◌-◌, ◌*◌, ◌<◌, ◌≤◌, List, [], ◌∷◌, length, All}

-- so many bytes are whole blocks, one or more
abbrev pub AreBlocks : ℕ → Type 0
AreBlocks count = (more : ℕ) × (count ≡ (more + 1) * 16_384)

-- the bytes that come first: those of the first piece, else those of the block that is begun
abbrev pub first : List (List ℕ) → List ℕ → List ℕ
first [] begun = begun
first (piece ∷ pieces) begun = piece

-- how many bytes of the begun block came, those that were taken among them
abbrev pub before : ℕ → ℕ → List (List ℕ) → List ℕ → ℕ
before phase taken [] begun = phase + (length begun - taken)
before phase taken (piece ∷ pieces) begun = length begun

-- each piece ends where a block does, and the begun block isn't full
abbrev pub IsLaidOut : ℕ → ℕ → List (List ℕ) → List ℕ → Type 0
IsLaidOut phase taken [] begun = (taken ≤ length begun) × (phase + (length begun - taken) < 16_384)
IsLaidOut phase taken (piece ∷ pieces) begun =
    (taken < length piece) × AreBlocks (phase + (length piece - taken)) × All (λ p. AreBlocks (length p)) pieces × (length begun < 16_384)

-- a piece alone, and none where it is empty
abbrev pub unless_empty : List ℕ → List (List ℕ)
unless_empty [] = []
unless_empty (b ∷ bs) = (b ∷ bs) ∷ []
