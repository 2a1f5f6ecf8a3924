-- Items, which nginx calls directives: words up to what ends them (beginner's guide, "Configuration File's Structure").
use Rattle.std.specs.Prelude.{◌≡◌, ◌==◌, ℕ, Bool, true, false, List, [], ◌∷◌, ◌++◌, drop, codes, Some, None}
use Rattle.std.specs.List.{ends_with}
use Rattle.conf_text.specs.Tokens.{token_at, word_of}
use Rattle.conf_text.specs.Endings.{ended_at}
use Rattle.conf_text.specs.declared.endings.Ending.{Ending}
use Rattle.conf_text.specs.declared.endings.Ending.TheVariants as ending
use Rattle.conf_text.specs.declared.items.Item.{Item}

-- the words stand one after another at the front of a text on a line, and then comes the rest, on the last line
abbrev pub WordsStand : List ℕ → ℕ → List (List ℕ) → List ℕ → ℕ → Type 0
WordsStand text line [] rest last = (text ≡ rest) × (line ≡ last)
WordsStand text line (word ∷ words) rest last =
    let token = token_at text line in
    (word_of text token ≡ Some word) × WordsStand (drop token.size text) token.last_line words rest last

-- no word comes next
abbrev pub NoWordStands : List ℕ → ℕ → Type 0
NoWordStands text line = word_of text (token_at text line) ≡ None

-- the words begin a block of Lua: the first one ends with `_by_lua_block`
abbrev pub begin_lua : List (List ℕ) → Bool
begin_lua [] = false
begin_lua (name ∷ words) = ends_with (λ a b. a == b) name (codes "_by_lua_block")

-- an item stands at the front of a text on a line: its words, with the line of the first token, and then what ends it,
-- after which comes the rest, on the last line
pub record ItemStands (text : List ℕ) (line : ℕ) (item : Item) (rest : List ℕ) (last : ℕ) : Type 0 where
  pub middle : List ℕ
  pub middle_line : ℕ
  pub words : WordsStand text line item.words middle middle_line
  pub end : NoWordStands middle middle_line
  pub begins : item.line ≡ (token_at text line).line
  pub ending : item.ending ≡ (ended_at (begin_lua item.words) middle middle_line).ending
  pub ending_line : item.ending_line ≡ (ended_at (begin_lua item.words) middle middle_line).line
  pub after : rest ≡ drop (ended_at (begin_lua item.words) middle middle_line).size middle
  pub after_line : last ≡ (ended_at (begin_lua item.words) middle middle_line).last_line

-- nothing can be read after this ending
abbrev pub is_last_ending : Ending → Bool
is_last_ending ending.Unclosed = true
is_last_ending ending.End = true
is_last_ending ending.Broken = true
is_last_ending other = false

-- nothing can be read after the item
abbrev pub is_last : Item → Bool
is_last item = is_last_ending item.ending

-- the items stand one after another at the front of a text on a line, none of them the last, and then comes the rest
abbrev pub ItemsStand : List ℕ → ℕ → List Item → List ℕ → ℕ → Type 0
ItemsStand text line [] rest last = (text ≡ rest) × (line ≡ last)
ItemsStand text line (item ∷ items) rest last =
    (middle : List ℕ) × ((middle_line : ℕ)
    × (ItemStands text line item middle middle_line × (is_last item ≡ false) × ItemsStand middle middle_line items rest last))

-- a text has these items: they stand one after another from its first line on, and nothing can be read after the last one
pub record IsItems (text : List ℕ) (items : List Item) : Type 0 where
  pub before : List Item
  pub item : Item
  pub rest : List ℕ
  pub line : ℕ
  pub after : List ℕ
  pub after_line : ℕ
  pub all : items ≡ before ++ item ∷ []
  pub stand : ItemsStand text 1 before rest line
  pub last : ItemStands rest line item after after_line
  pub nothing : is_last item ≡ true
