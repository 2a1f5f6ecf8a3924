-- Paths that stay as they are.
use Rattle.std.proofs.Common.{◌≡◌, ℕ, ◌==◌, Bool, true, false, not, ◌&&◌, ◌||◌, cond, List, [], ◌∷◌, ◌++◌, length, Option, None, Some, sym, refl, ap, ◌∙◌, append_assoc, ⊎_elim, arith}
use Rattle.std.specs.Option.{option_map, option_and_then, is_none}
use Rattle.std.proofs.lemmas.Bool.{cond-true, cond-false, and_parts, eqb-true, ne_eqb, cases_Bool, true≢false, not-true}
use Rattle.http_base.specs.Splitting.{before, after, onto_first, split, later_pieces}
use Rattle.http_base.proofs.Pieces.{split_first}
use Rattle.uri_args.specs.Paths.{is_double_dot, is_passed, kept_after, ending, resolved, joined, segments}
use Rattle.uri_args.specs.Plain.{is_kept_last, keeps_all, is_plain}

-- whether a segment is kept as it is
abbrev pub is_kept : List ℕ → Bool → Bool
is_kept segment is_last = cond is_last (is_kept_last segment) (not (is_passed segment))

-- one more segment that is kept, and one that isn't
pub keeps_more : (segment : List ℕ) (rest : Option (List ℕ)) → is_kept segment (is_none rest) ≡ true → keeps_all (segment ∷ later_pieces 47 rest) ≡ keeps_all (later_pieces 47 rest)
keeps_more segment None kept = kept
keeps_more segment (Some rest) kept =
    let pieces = split_first 47 rest in
    ap (λ l. keeps_all (segment ∷ l)) pieces ∙ ap (λ t. t && keeps_all (before 47 rest ∷ later_pieces 47 (after 47 rest))) kept ∙ ap keeps_all (sym pieces)

pub keeps_none : (segment : List ℕ) (rest : Option (List ℕ)) → is_kept segment (is_none rest) ≡ false → keeps_all (segment ∷ later_pieces 47 rest) ≡ false
keeps_none segment None passed = passed
keeps_none segment (Some rest) passed =
    ap (λ l. keeps_all (segment ∷ l)) (split_first 47 rest) ∙ ap (λ t. t && keeps_all (before 47 rest ∷ later_pieces 47 (after 47 rest))) passed

-- a segment that isn't passed is no `..`
no_double_dot : (a b d : Bool) → (a || b || d) ≡ false → d ≡ false
no_double_dot true b d is = absurd (true≢false is)
no_double_dot false true d is = absurd (true≢false is)
no_double_dot false false d is = is

kept_one : (kept : List (List ℕ)) (segment : List ℕ) → is_passed segment ≡ false → kept_after kept segment ≡ Some (kept ++ segment ∷ [])
kept_one kept segment is =
    cond-false _ _ _ (no_double_dot (length segment == 0) _ (is_double_dot segment) is) ∙ ap Some (cond-false _ _ _ is)

-- an empty last segment is kept by the ending
last_stays : (kept : List (List ℕ)) (segment : List ℕ) → is_kept_last segment ≡ true → resolved kept (segment ∷ []) ≡ Some (kept ++ segment ∷ [])
last_stays kept [] is = refl
last_stays kept (b ∷ segment) is =
    let passed = not-true (is_passed (b ∷ segment)) (other (not (is_passed (b ∷ segment))) (length (b ∷ segment) == 0) (ne_eqb (length (b ∷ segment)) 0 (λ none. omega (arith, none))) is) in
    ap (option_and_then (λ more. resolved (more ++ ending (b ∷ segment) []) [])) (kept_one kept (b ∷ segment) passed)
    ∙ ap (λ e. Some ((kept ++ (b ∷ segment) ∷ []) ++ e)) (cond-false _ _ _ passed)
    ∙ ap Some (append_assoc kept ((b ∷ segment) ∷ []) [])
  where
    other : (t u : Bool) → u ≡ false → (t || u) ≡ true → t ≡ true
    other true u empty e = refl
    other false u empty e = sym empty ∙ e

-- segments that are all kept
all_stay : (kept list : List (List ℕ)) → keeps_all list ≡ true → resolved kept list ≡ Some (kept ++ list)
all_stay kept [] is = ap Some (sym (nothing kept))
  where
    nothing : (l : List (List ℕ)) → l ++ [] ≡ l
    nothing [] = refl
    nothing (x ∷ l) = ap (λ r. x ∷ r) (nothing l)
all_stay kept (segment ∷ []) is = last_stays kept segment is
all_stay kept (segment ∷ next ∷ later) is =
    let parts = and_parts (not (is_passed segment)) (keeps_all (next ∷ later)) is in
    let passed = not-true (is_passed segment) parts.0 in
    ap (option_and_then (λ more. resolved (more ++ []) (next ∷ later))) (kept_one kept segment passed)
    ∙ ap (λ l. resolved l (next ∷ later)) (append_assoc kept (segment ∷ []) [])
    ∙ all_stay (kept ++ segment ∷ []) (next ∷ later) parts.1
    ∙ ap Some (append_assoc kept (segment ∷ []) (next ∷ later))

-- the segments with a `/` before each are the path
onto_first_joined : (b : ℕ) (first : List ℕ) (pieces : List (List ℕ)) (text : List ℕ) → joined (first ∷ pieces) ≡ 47 ∷ text → joined (onto_first b (first ∷ pieces)) ≡ 47 ∷ b ∷ text
onto_first_joined b first pieces text is = ap (λ l. 47 ∷ b ∷ l) (tails is)
  where
    tail : List ℕ → List ℕ
    tail [] = []
    tail (x ∷ l) = l

    tails : joined (first ∷ pieces) ≡ 47 ∷ text → first ++ joined pieces ≡ text
    tails e = ap tail e

joined_split : (text : List ℕ) → joined (split 47 text) ≡ 47 ∷ text
joined_split [] = refl
joined_split (b ∷ text) =
    ⊎_elim
    (λ same. ap joined (cond-true _ _ _ same) ∙ ap (λ l. 47 ∷ l) (joined_split text) ∙ ap (λ x. 47 ∷ x ∷ text) (sym (eqb-true b 47 same)))
    (λ other.
    ap joined (cond-false _ _ _ other ∙ ap (onto_first b) (split_first 47 text))
    ∙ onto_first_joined b (before 47 text) (later_pieces 47 (after 47 text)) text (ap joined (sym (split_first 47 text)) ∙ joined_split text))
    (cases_Bool (b == 47))

-- a plain path stays as it is
pub plain_stays : (path : List ℕ) → is_plain path ≡ true → option_map joined (resolved [] (segments path)) ≡ Some path
plain_stays [] is = absurd (true≢false (sym is))
plain_stays (b ∷ rest) is =
    ⊎_elim
    (λ same.
    let kept : keeps_all (split 47 rest) ≡ true = sym (cond-true _ _ _ same) ∙ is in
    let found : segments (b ∷ rest) ≡ split 47 rest = ap (later_pieces 47) (cond-true _ _ _ same) in
    ap (λ l. option_map joined (resolved [] l)) found
    ∙ ap (option_map joined) (all_stay [] (split 47 rest) kept)
    ∙ ap Some (joined_split rest ∙ ap (λ x. x ∷ rest) (sym (eqb-true b 47 same))))
    (λ other. absurd (true≢false (sym is ∙ cond-false _ _ _ other)))
    (cases_Bool (b == 47))
