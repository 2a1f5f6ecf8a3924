-- Passing the next line.
use Rattle.std.proofs.Common.{◌≡◌, ℕ, ◌+◌, cond, List, [], ◌∷◌, ◌++◌, take, Some, slice_get, ap, ◌∙◌, arith}
use Rattle.std.proofs.lemmas.List.{take_more}
use Rattle.std.proofs.lemmas.List.Sums.{sum_by-append}
use Rattle.std.proofs.lemmas.Option.{slice_get_within, get_or_from_slice_get}
use Rattle.resty_world.specs.declared.schedule_line.SchedLine.{SchedLine}
use Rattle.schedule_text.specs.Lines.{arrivals_in, is_arrival}

-- the lines up to an index, with the line there
pub take-more : {A : Type 0} (xs : List A) (i : ℕ) (x : A) → slice_get xs i ≡ Some x → take (i + 1) xs ≡ take i xs ++ x ∷ []
take-more xs i x here = take_more xs i x (slice_get_within xs i x here) ∙ ap (λ y. take i xs ++ y ∷ []) (get_or_from_slice_get xs i x x here)

-- how many connections arrive in the lines with one more
pub arrivals-more : (lines : List SchedLine) (at : ℕ) (l : SchedLine) → slice_get lines at ≡ Some l
    → arrivals_in (take (at + 1) lines) ≡ arrivals_in (take at lines) + cond (is_arrival l) 1 0
arrivals-more lines at l here =
    let split = sum_by-append (λ x. cond (is_arrival x) 1 0) (take at lines) (l ∷ []) in
    ap arrivals_in (take-more lines at l here) ∙ split ∙ omega arith
