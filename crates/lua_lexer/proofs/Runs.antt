-- Runs of bytes of a class at the front of a text.
use Rattle.std.proofs.Common.{◌≡◌, ℕ, suc, ◌+◌, ◌<◌, Bool, true, false, List, [], ◌∷◌, ◌++◌, length, get_or, drop, take, ⊎_elim, refl, ap, ◌∙◌, arith}
use Rattle.std.specs.List.{prefix_len, AllPass}
use Rattle.std.proofs.lemmas.Bool.{eq-eqb, cases_lt}
use Rattle.std.proofs.lemmas.List.{get_or-take, get_or-drop, get_or_past}
use Rattle.std.proofs.lemmas.List.Folds.{length-prefix_len, prefix_len-append}
use Rattle.std.proofs.lemmas.List.Sums.{prefix_len_is, prefix_len_passes, prefix_len_stops}

module _ (p : ℕ → Bool) where
  pub all_run : (xs : List ℕ) → AllPass p xs → prefix_len p xs ≡ length xs
  all_run xs all = prefix_len_is p xs (length xs) 0 (omega arith) (λ k below. all k 0 below) (λ past. absurd (omega arith))

  pub run_all : (xs : List ℕ) → AllPass p (take (prefix_len p xs) xs)
  run_all xs k d below =
      let inside : k < prefix_len p xs = omega (arith, length-prefix_len p xs) in
      rw (get_or-take (prefix_len p xs) xs k d inside) (prefix_len_passes p xs k d inside)

  pub run_goes : (xs ys : List ℕ) → prefix_len p xs ≡ length xs → prefix_len p (xs ++ ys) ≡ length xs + prefix_len p ys
  run_goes xs ys whole = prefix_len-append p xs ys ∙ rw (whole, eq-eqb (length xs) (length xs) refl) refl

  -- bytes of the class, and how far the run goes on after them
  pub run_over : (xs ys : List ℕ) → AllPass p xs → prefix_len p (xs ++ ys) ≡ length xs + prefix_len p ys
  run_over xs ys all = run_goes xs ys (all_run xs all)

  pub run_none : (xs : List ℕ) → p (get_or xs 0 0) ≡ false → prefix_len p xs ≡ 0
  run_none [] stops = refl
  run_none (c ∷ cs) stops = rw stops refl

  pub run_exact : (xs ys : List ℕ) → AllPass p xs → p (get_or ys 0 0) ≡ false → prefix_len p (xs ++ ys) ≡ length xs
  run_exact xs ys all stops = omega (arith, run_over xs ys all, run_none ys stops)

  pub run_some : (xs : List ℕ) → 0 < length xs → p (get_or xs 0 0) ≡ true → 0 < prefix_len p xs
  run_some [] some is = absurd (omega arith)
  run_some (c ∷ cs) some is = rw is (omega arith)

  -- the byte after the run, which isn't of the class
  pub run_stops : (xs : List ℕ) → p 0 ≡ false → p (get_or (drop (prefix_len p xs) xs) 0 0) ≡ false
  run_stops xs none =
      rw (get_or-drop (prefix_len p xs) xs 0 0)
      (⊎_elim
      (λ inside. let same : prefix_len p xs + 0 ≡ prefix_len p xs = omega arith in rw same (prefix_len_stops p xs 0 inside))
      (λ past. rw (get_or_past xs (prefix_len p xs + 0) 0 (omega arith)) none)
      (cases_lt (prefix_len p xs) (length xs)))

  pub all_first : (xs : List ℕ) → 0 < length xs → AllPass p xs → p (get_or xs 0 0) ≡ true
  all_first xs some all = all 0 0 some

  pub all_rest : (c : ℕ) (cs : List ℕ) → AllPass p (c ∷ cs) → AllPass p cs
  all_rest c cs all k d below = all (suc k) d (omega arith)

-- the first byte of two parts
pub first_left : (xs ys : List ℕ) → 0 < length xs → get_or (xs ++ ys) 0 0 ≡ get_or xs 0 0
first_left [] ys some = absurd (omega arith)
first_left (c ∷ cs) ys some = refl

pub first_after : (n : ℕ) (xs : List ℕ) → get_or (drop n xs) 0 0 ≡ get_or xs n 0
first_after n xs = let same : n + 0 ≡ n = omega arith in get_or-drop n xs 0 0 ∙ ap (λ k. get_or xs k 0) same
