-- A text has one list of items.
use Rattle.std.proofs.Common.{◌≡◌, ℕ, true, false, List, [], ◌∷◌, ◌++◌, drop, Some, None, refl, sym, ap, subst, ◌∙◌}
use Rattle.std.proofs.lemmas.Bool.{both_ways}
use Rattle.conf_text.specs.Tokens.{token_at, word_of}
use Rattle.conf_text.specs.Endings.{ended_at}
use Rattle.conf_text.specs.Items.{WordsStand, NoWordStands, ItemStands, ItemsStand, IsItems, begin_lua, is_last}
use Rattle.conf_text.specs.declared.endings.Ending.{Ending}
use Rattle.conf_text.specs.declared.items.Item.{Item}

-- both end at the same place
record Same (rest other : List ℕ) (last other_last : ℕ) : Type 0 where
  texts : rest ≡ other
  lines : last ≡ other_last

-- where no word comes next, none does at the same place
none_here : (text rest : List ℕ) (line last : ℕ) (word : List ℕ) → text ≡ rest → line ≡ last → NoWordStands rest last
    → word_of text (token_at text line) ≡ Some word → ⊥
none_here text rest line last word texts lines none some =
    let here : word_of text (token_at text last) ≡ None = subst (λ t. word_of t (token_at t last) ≡ None) (sym texts) none in
    let there : word_of text (token_at text line) ≡ None = subst (λ n. word_of text (token_at text n) ≡ None) (sym lines) here in
    cc

-- the words up to the first token that is none are the same
words_once : (words others : List (List ℕ)) (text rest other_rest : List ℕ) (line last other_last : ℕ)
    → WordsStand text line words rest last → NoWordStands rest last → WordsStand text line others other_rest other_last → NoWordStands other_rest other_last
    → (words ≡ others) × Same rest other_rest last other_last
words_once [] [] text rest other_rest line last other_last stand none other other_none =
    (refl, record { texts = sym stand.0 ∙ other.0; lines = sym stand.1 ∙ other.1 })
words_once [] (word ∷ others) text rest other_rest line last other_last stand none other other_none =
    absurd (none_here text rest line last word stand.0 stand.1 none other.0)
words_once (word ∷ words) [] text rest other_rest line last other_last stand none other other_none =
    absurd (none_here text other_rest line other_last word other.0 other.1 other_none stand.0)
words_once (word ∷ words) (next ∷ others) text rest other_rest line last other_last stand none other other_none =
    let more = words_once words others (drop (token_at text line).size text) rest other_rest (token_at text line).last_line last other_last stand.1 none other.1 other_none in
    let both : Some word ≡ Some next = sym stand.0 ∙ other.0 in
    let first : word ≡ next = cc in
    (ap (λ w. w ∷ words) first ∙ ap (λ ws. next ∷ ws) more.0, more.1)

abbrev made : List (List ℕ) → ℕ → Ending → ℕ → Item
made words line ending ending_line = record { words = words; line = line; ending = ending; ending_line = ending_line }

-- items with the same parts are the same
same_item : (item other : Item) → item.words ≡ other.words → item.line ≡ other.line → item.ending ≡ other.ending
    → item.ending_line ≡ other.ending_line → item ≡ other
same_item item other words line ending ending_line =
    ap (λ w. made w item.line item.ending item.ending_line) words
    ∙ ap (λ n. made other.words n item.ending item.ending_line) line
    ∙ ap (λ e. made other.words other.line e item.ending_line) ending
    ∙ ap (λ n. made other.words other.line other.ending n) ending_line

-- the item at the front is the same, and so is what follows
item_once : (text : List ℕ) (line : ℕ) (item other : Item) (rest other_rest : List ℕ) (last other_last : ℕ)
    → ItemStands text line item rest last → ItemStands text line other other_rest other_last → (item ≡ other) × Same rest other_rest last other_last
item_once text line item other rest other_rest last other_last stands others =
    let once = words_once item.words other.words text stands.middle others.middle line stands.middle_line others.middle_line stands.words stands.end others.words others.end in
    let lua = ap begin_lua once.0 in
    let ended = ap (λ b. ended_at b stands.middle stands.middle_line) lua
    ∙ ap (λ t. ended_at (begin_lua other.words) t stands.middle_line) once.1.texts
    ∙ ap (λ n. ended_at (begin_lua other.words) others.middle n) once.1.lines in
    let size = ap (λ e. e.size) ended in
    let dropped = ap (λ n. drop n stands.middle) size ∙ ap (λ t. drop (ended_at (begin_lua other.words) others.middle others.middle_line).size t) once.1.texts in (
      same_item item other once.0 (stands.begins ∙ sym others.begins) (stands.ending ∙ ap (λ e. e.ending) ended ∙ sym others.ending)
          (stands.ending_line ∙ ap (λ e. e.line) ended ∙ sym others.ending_line),
      record { texts = stands.after ∙ dropped ∙ sym others.after; lines = stands.after_line ∙ ap (λ e. e.last_line) ended ∙ sym others.after_line },
    )

-- a last item isn't one of those before the last
not_both : (item other : Item) → item ≡ other → is_last item ≡ true → is_last other ≡ false → ⊥
not_both item other same last not_last = both_ways _ not_last (ap is_last (sym same) ∙ last)

-- the item that stands here, where the text and the line are equal to others
stands_here : (text rest : List ℕ) (line last : ℕ) (item : Item) (after : List ℕ) (after_line : ℕ)
    → text ≡ rest → line ≡ last → ItemStands rest last item after after_line → ItemStands text line item after after_line
stands_here text rest line last item after after_line texts lines stands =
    let here : ItemStands text last item after after_line = subst (λ t. ItemStands t last item after after_line) (sym texts) stands in
    subst (λ n. ItemStands text n item after after_line) (sym lines) here

items_once : (before others : List Item) (text : List ℕ) (line : ℕ) (item other : Item) (rest other_rest after other_after : List ℕ) (last other_last after_line other_line : ℕ)
    → ItemsStand text line before rest last → ItemStands rest last item after after_line → is_last item ≡ true
    → ItemsStand text line others other_rest other_last → ItemStands other_rest other_last other other_after other_line → is_last other ≡ true
    → before ++ item ∷ [] ≡ others ++ other ∷ []
items_once [] [] text line item other rest other_rest after other_after last other_last after_line other_line stand here ends stand_other there ends_other =
    ap (λ i. i ∷ []) (item_once text line item other after other_after after_line other_line (stands_here _ _ _ _ _ _ _ stand.0 stand.1 here) (stands_here _ _ _ _ _ _ _ stand_other.0 stand_other.1 there)).0
items_once [] (next ∷ others) text line item other rest other_rest after other_after last other_last after_line other_line stand here ends (middle, (middle_line, parts)) there ends_other =
    absurd (not_both item next (item_once text line item next after middle after_line middle_line (stands_here _ _ _ _ _ _ _ stand.0 stand.1 here) parts.0).0 ends parts.1)
items_once (first ∷ before) [] text line item other rest other_rest after other_after last other_last after_line other_line (middle, (middle_line, parts)) here ends stand_other there ends_other =
    absurd (not_both other first (item_once text line other first other_after middle other_line middle_line (stands_here _ _ _ _ _ _ _ stand_other.0 stand_other.1 there) parts.0).0 ends_other parts.1)
items_once (first ∷ before) (next ∷ others) text line item other rest other_rest after other_after last other_last after_line other_line (middle, (middle_line, parts)) here ends (other_middle, (other_middle_line, other_parts)) there ends_other =
    let one = item_once text line first next middle other_middle middle_line other_middle_line parts.0 other_parts.0 in
    let at_line : ItemsStand middle other_middle_line before rest last = subst (λ n. ItemsStand middle n before rest last) one.1.lines parts.2 in
    let stand : ItemsStand other_middle other_middle_line before rest last = subst (λ t. ItemsStand t other_middle_line before rest last) one.1.texts at_line in
    let more = items_once before others other_middle other_middle_line item other rest other_rest after other_after last other_last after_line other_line stand here ends other_parts.2 there ends_other in
    ap (λ i. i ∷ (before ++ item ∷ [])) one.0 ∙ ap (λ is. next ∷ is) more

pub one_list : (text : List ℕ) (items others : List Item) → IsItems text items → IsItems text others → items ≡ others
one_list text items others is are =
    is.all ∙ items_once is.before are.before text 1 is.item are.item is.rest are.rest is.after are.after is.line are.line is.after_line are.after_line is.stand is.last is.nothing are.stand are.last are.nothing ∙ sym are.all
