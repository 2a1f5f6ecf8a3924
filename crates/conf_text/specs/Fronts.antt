-- What stands at the front of a text that begins with no layout: a word, a sign, or the end (nginx beginner's guide, "Configuration File's Structure").
use Rattle.std.specs.Prelude.{ℕ, ◌+◌, ◌<◌, Bool, true, not, ◌&&◌, ◌||◌, ◌==◌, List, [], ◌∷◌, length, take, drop, Option, None, Some, if◌then◌else◌}
use Rattle.std.specs.List.{prefix_len}
use Rattle.resty_base.specs.Ascii.{double_quote, single_quote, semicolon, open_brace, close_brace, hash}
use Rattle.conf_text.specs.Layout.{is_blank}
use Rattle.conf_text.specs.declared.fronts.Front.{Front}
use Rattle.conf_text.specs.declared.fronts.Front.TheVariants.{Word, Quoted, Semicolon, Open, Close, End, Broken}

-- `;`, `{` and `}` are signs wherever they stand without quotes
abbrev pub is_sign : ℕ → Bool
is_sign b = b == semicolon || b == open_brace || b == close_brace

-- a word without quotes is made of bytes that are neither blanks nor signs
abbrev pub is_word_byte : ℕ → Bool
is_word_byte b = not (is_blank b) && not (is_sign b)

-- how many bytes of a word stand at the front
abbrev pub word_size : List ℕ → ℕ
word_size text = prefix_len is_word_byte text

-- how many bytes stand before the first quote of this kind
abbrev pub quoted_size : ℕ → List ℕ → ℕ
quoted_size quote text = prefix_len (λ b. not (b == quote)) text

-- after a word in quotes stands a blank, a sign, a comment or the end
abbrev pub may_follow : List ℕ → Bool
may_follow [] = true
may_follow (b ∷ text) = not (is_word_byte b) || b == hash

-- the word that a quote before this text begins, by how many bytes stand before the next quote: where there is none, the
-- first quote is wrong, and where something stands right after the next one, that is
abbrev pub quoted_of : List ℕ → ℕ → Front
quoted_of text size =
    if size == length text then Broken 0 else if may_follow (drop (size + 1) text) then Quoted size else Broken (size + 2)

-- the word that a quote before this text begins
abbrev pub quoted : ℕ → List ℕ → Front
quoted quote text = quoted_of text (quoted_size quote text)

-- what stands at the front
abbrev pub front_of : List ℕ → Front
front_of [] = End
front_of (b ∷ text) =
    if b == semicolon then Semicolon
    else if b == open_brace then Open
    else if b == close_brace then Close
    else if b == double_quote || b == single_quote then quoted b text
    else Word (word_size text + 1)

-- how many bytes it has, those before what is wrong where it is no token
abbrev pub front_size : Front → ℕ
front_size (Word size) = size
front_size (Quoted size) = size + 2
front_size Semicolon = 1
front_size Open = 1
front_size Close = 1
front_size End = 0
front_size (Broken size) = size

-- the word at the front, without its quotes, None where there is none
abbrev pub word_at : List ℕ → Front → Option (List ℕ)
word_at text (Word size) = Some (take size text)
word_at text (Quoted size) = Some (take size (drop 1 text))
word_at text front = None

-- a word has at least one byte, with its quotes
abbrev pub HasBytes : Front → Type 0
HasBytes (Word size) = 0 < size
HasBytes front = Unit {0}
