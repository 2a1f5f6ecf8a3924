-- What begins another list.
use Rattle.std.proofs.Common.{◌≡◌, ℕ, List, ◌++◌, take, drop, length, sym, ap, ◌∙◌, take-append-drop, append_assoc}
use Rattle.std.proofs.Math.Seq.{take-append_seam}
use Rattle.strand_contract.specs.Alone.{IsPrefixOf}

-- the bytes that a place took are the first of what was left
pub taken-are : (bytes left : List ℕ) (m : ℕ) → IsPrefixOf bytes (take m left) → take (length bytes) left ≡ bytes
taken-are bytes left m h =
    ap (take (length bytes)) (sym (take-append-drop m left) ∙ ap (λ (xs : List ℕ). xs ++ drop m left) (sym h.1) ∙ append_assoc bytes h.0 (drop m left))
    ∙ take-append_seam bytes (h.0 ++ drop m left)
