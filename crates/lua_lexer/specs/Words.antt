-- Names and keywords (Lua 5.1 manual, 2.1).
use Rattle.std.specs.Prelude.{ℕ, List, [], ◌∷◌, take, Option, Some, codes, find, bytes_eq, option_map, unwrap_or}
use Rattle.std.specs.List.{prefix_len}
use Rattle.lua_lexer.specs.declared.words.Word.{Word}
use Rattle.lua_lexer.specs.declared.words.Word.TheVariants.{And, Break, Do, Else, ElseIf, End, False, For, Function, If, In, Local, Nil, Not, Or, Repeat}
use Rattle.lua_lexer.specs.declared.words.Word.TheVariants.{Return, Then, True, Until, While}
use Rattle.lua_lexer.specs.declared.tokens.TokenKind.{TokenKind}
use Rattle.lua_lexer.specs.declared.tokens.TokenKind.TheVariants.{Name, Word as WordKind}
use Rattle.lua_lexer.specs.declared.tokens.Piece.{Piece}
use Rattle.lua_lexer.specs.Characters.{is_word_byte}

-- how a keyword is written
unfoldable pub spelling : Word → List ℕ
spelling And = codes "and"
spelling Break = codes "break"
spelling Do = codes "do"
spelling Else = codes "else"
spelling ElseIf = codes "elseif"
spelling End = codes "end"
spelling False = codes "false"
spelling For = codes "for"
spelling Function = codes "function"
spelling If = codes "if"
spelling In = codes "in"
spelling Local = codes "local"
spelling Nil = codes "nil"
spelling Not = codes "not"
spelling Or = codes "or"
spelling Repeat = codes "repeat"
spelling Return = codes "return"
spelling Then = codes "then"
spelling True = codes "true"
spelling Until = codes "until"
spelling While = codes "while"

-- the keywords
unfoldable pub words : List Word
words =
    And ∷ Break ∷ Do ∷ Else ∷ ElseIf ∷ End ∷ False ∷ For ∷ Function ∷ If ∷ In ∷ Local ∷ Nil ∷ Not ∷ Or ∷ Repeat ∷ Return ∷ Then
    ∷ True ∷ Until ∷ While ∷ []

-- the keyword that is written so
unfoldable pub word_of : List ℕ → Option Word
word_of name = find (λ word. bytes_eq (spelling word) name) words

-- a keyword, or else a name
unfoldable pub kind_of_word : List ℕ → TokenKind
kind_of_word name = unwrap_or (option_map WordKind (word_of name)) (Name name)

-- the longest run of letters, digits and underscores at the front, which begins with no digit
unfoldable pub name_or_word : List ℕ → Piece
name_or_word text =
    let size = prefix_len is_word_byte text in
    record { kind = Some (kind_of_word (take size text)); size = size }
