-- Tokens: words and signs behind layout, and their lines (nginx beginner's guide, "Configuration File's Structure"; the numbers of lines are those
-- that its messages name).
use Rattle.std.specs.Prelude.{ℕ, ◌+◌, List, take, drop, Option}
use Rattle.conf_text.specs.Layout.{layout_size, line_after}
use Rattle.conf_text.specs.Fronts.{front_of, front_size, word_at}
use Rattle.conf_text.specs.declared.fronts.Front.{Front}
use Rattle.conf_text.specs.declared.tokens.Token.{Token}

-- the token on a line after so many bytes of layout, by what stands there
abbrev pub token_after : ℕ → ℕ → List ℕ → Front → Token
token_after line layout rest front = record {
  front = front;
  line = line;
  last_line = line_after line (take (front_size front) rest);
  size = layout + front_size front;
}

-- the token at the front of a text that begins on a line
abbrev pub token_at : List ℕ → ℕ → Token
token_at text line =
    let layout = layout_size text in
    let rest = drop layout text in
    token_after (line_after line (take layout text)) layout rest (front_of rest)

-- the word that the token at the front of a text is
abbrev pub word_of : List ℕ → Token → Option (List ℕ)
word_of text token = word_at (drop (layout_size text) text) token.front
