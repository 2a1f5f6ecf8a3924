-- A keyword is found among those that begin with its first byte.
use Rattle.std.proofs.Common.{◌≡◌, ℕ, Bool, true, false, cond, List, [], ◌∷◌, get_or, Some, find, filter, ◌==◌, refl, ap, sym, ◌∙◌}
use Rattle.std.specs.Prelude.{bytes_eq}
use Rattle.std.proofs.lemmas.Bool.{false_from_ne_true, eq-eqb}
use Rattle.std.proofs.lemmas.Slice.Eq.{bytes_eq-Decides}
use Rattle.lua_lexer.specs.declared.words.Word.{Word}
use Rattle.lua_lexer.specs.Words.{spelling, words}

-- an item that fails a test is passed over
passed_over : (p : Word → Bool) (w : Word) (ws : List Word) → p w ≡ false → find p (w ∷ ws) ≡ find p ws
passed_over p w ws fails = ap (λ b. cond b (Some w) (find p ws)) fails

-- an item more, where those after it are found alike
found_alike : (p q : Word → Bool) (w : Word) (ws : List Word) (kept : Bool) → (p w ≡ true → q w ≡ true) → find p (filter q ws) ≡ find p ws → q w ≡ kept
    → find p (filter q (w ∷ ws)) ≡ find p (w ∷ ws)
found_alike p q w ws true implies alike is =
    ap (λ b. find p (cond b (w ∷ filter q ws) (filter q ws))) is ∙ ap (λ found. cond (p w) (Some w) found) alike
found_alike p q w ws false implies alike is =
    ap (λ b. find p (cond b (w ∷ filter q ws) (filter q ws))) is ∙ (alike ∙ sym (passed_over p w ws (false_from_ne_true (p w) fails)))
  where
    fails : p w ≡ true → ⊥
    fails passes = let kept : q w ≡ true = implies passes in cc

-- what passes one test is found among what passes another, where all that pass the one pass the other
find_kept : (p q : Word → Bool) (ws : List Word) → ((w : Word) → p w ≡ true → q w ≡ true) → find p (filter q ws) ≡ find p ws
find_kept p q [] implies = refl
find_kept p q (w ∷ ws) implies = found_alike p q w ws (q w) (implies w) (find_kept p q ws implies) refl

pub word_among :
    (name : List ℕ) → find (λ w. bytes_eq (spelling w) name) (filter (λ w. get_or name 0 0 == get_or (spelling w) 0 0) words)
    ≡ find (λ w. bytes_eq (spelling w) name) words
word_among name = find_kept (λ w. bytes_eq (spelling w) name) (λ w. get_or name 0 0 == get_or (spelling w) 0 0) words begins
  where
    begins : (w : Word) → bytes_eq (spelling w) name ≡ true → (get_or name 0 0 == get_or (spelling w) 0 0) ≡ true
    begins w is = let same : spelling w ≡ name = (bytes_eq-Decides (spelling w) name).0 is in eq-eqb _ _ (ap (λ bytes. get_or bytes 0 0) (sym same))
