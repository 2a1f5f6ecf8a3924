-- Words and items that stand one after another.
use Rattle.std.proofs.Common.{◌≡◌, ◌≤◌, ◌+◌, ◌-◌, ℕ, false, List, [], ◌∷◌, ◌++◌, length, drop, Some, refl, sym, ap, subst, ◌∙◌, arith, length-drop}
use lib.Seq.{drop-drop}
use Rattle.conf_text.specs.Tokens.{token_at, word_of}
use Rattle.conf_text.specs.Items.{WordsStand, ItemStands, ItemsStand, is_last}
use Rattle.conf_text.specs.declared.items.Item.{Item}
use Rattle.conf_text.specs.declared.tokens.Token.{Token}

-- one more word stands after the others
pub words_more : (text : List ℕ) (line : ℕ) (words : List (List ℕ)) (word rest : List ℕ) (last : ℕ)
    → WordsStand text line words rest last → word_of rest (token_at rest last) ≡ Some word
    → WordsStand text line (words ++ word ∷ []) (drop (token_at rest last).size rest) (token_at rest last).last_line
words_more text line [] word rest last stand next =
    let at_text : WordsStand text last (word ∷ []) (drop (token_at rest last).size rest) (token_at rest last).last_line =
    subst (λ t. WordsStand t last (word ∷ []) (drop (token_at rest last).size rest) (token_at rest last).last_line) (sym stand.0) (next, (refl, refl)) in
    subst (λ n. WordsStand text n (word ∷ []) (drop (token_at rest last).size rest) (token_at rest last).last_line) (sym stand.1) at_text
words_more text line (first ∷ words) word rest last stand next =
    (stand.0, words_more (drop (token_at text line).size text) (token_at text line).last_line words word rest last stand.1 next)

-- one more item stands after the others
pub items_more : (text : List ℕ) (line : ℕ) (items : List Item) (item : Item) (rest after : List ℕ) (last after_line : ℕ)
    → ItemsStand text line items rest last → ItemStands rest last item after after_line → is_last item ≡ false
    → ItemsStand text line (items ++ item ∷ []) after after_line
items_more text line [] item rest after last after_line stand next not_last =
    let at_text : ItemsStand text last (item ∷ []) after after_line =
    subst (λ t. ItemsStand t last (item ∷ []) after after_line) (sym stand.0) (after, (after_line, (next, not_last, (refl, refl)))) in
    subst (λ n. ItemsStand text n (item ∷ []) after after_line) (sym stand.1) at_text
items_more text line (first ∷ items) item rest after last after_line stand next not_last =
    let (middle, more) = stand in
    let (middle_line, parts) = more in
    (middle, (middle_line, (parts.0, parts.1, items_more middle middle_line items item rest after last after_line parts.2 next not_last)))

-- the same by what a reader finds
pub words_step : (text : List ℕ) (line : ℕ) (words new : List (List ℕ)) (word rest after : List ℕ) (last : ℕ) (token : Token)
    → WordsStand text line words rest last → token ≡ token_at rest last → Some word ≡ word_of rest token
    → new ≡ words ++ word ∷ [] → after ≡ drop token.size rest → WordsStand text line new after token.last_line
words_step text line words new word rest after last token stand is next pushed dropped =
    rw (pushed, dropped, is) (words_more text line words word rest last stand (sym (next ∙ ap (word_of rest) is)))

pub items_step : (text : List ℕ) (line : ℕ) (items new : List Item) (item : Item) (rest after : List ℕ) (last after_line size : ℕ)
    → ItemsStand text line items rest last → ItemStands rest last item (drop size rest) after_line → is_last item ≡ false
    → new ≡ items ++ item ∷ [] → after ≡ drop size rest → ItemsStand text line new after after_line
items_step text line items new item rest after last after_line size stand next not_last pushed dropped =
    rw (pushed, dropped) (items_more text line items item rest (drop size rest) last after_line stand next not_last)

-- how many bytes are left after some
pub left_after : (rest after : List ℕ) (size : ℕ) → after ≡ drop size rest → length after ≡ length rest - size
left_after rest after size dropped = ap length dropped ∙ length-drop size rest

-- what is left after more bytes of a text
pub dropped_more : (text rest after : List ℕ) (size : ℕ) → rest ≡ drop (length text - length rest) text → length rest ≤ length text
    → size ≤ length rest → after ≡ drop size rest → after ≡ drop (length text - length after) text
dropped_more text rest after size is within fits dropped =
    let left = left_after rest after size dropped in
    let sum : length text - length after ≡ length text - length rest + size = omega arith in
    dropped ∙ ap (drop size) is ∙ drop-drop size (length text - length rest) text ∙ ap (λ n. drop n text) (sym sum)
