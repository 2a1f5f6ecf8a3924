-- Which token is next where an operand is known.
use Rattle.std.proofs.Common.{◌≡◌, List, [], ◌∷◌, refl}
use Rattle.lua_lexer.specs.declared.tokens.TokenKind.{TokenKind}
use Rattle.lua_lexer.specs.declared.tokens.TokenKind.TheVariants.{Text, Number, Word, Sign}
use Rattle.lua_lexer.specs.declared.signs.Sign.TheVariants as sign
use Rattle.lua_lexer.specs.declared.words.Word.TheVariants as word
use Rattle.lua_grammar.specs.Printing.{Lexeme}
use Rattle.lua_parser_base.specs.declared.operators.Operand.TheVariants as operand
use Rattle.lua_parser_base.specs.Next.{Begin, IsKind, IsText, IsNumber, first_kind}
use Rattle.lua_parser_base.specs.Kinds.{IsUnary, operand_of}

pub unary_kind : (kind : TokenKind) → operand_of kind ≡ operand.Unary → IsUnary kind
unary_kind (Word word.Not) is = tt
unary_kind (Sign sign.Hash) is = tt
unary_kind (Sign sign.Minus) is = tt
unary_kind kind is = cc

pub closure_kind : (kind : TokenKind) → operand_of kind ≡ operand.Closure → kind ≡ Word word.Function
closure_kind (Word word.Function) is = refl
closure_kind (Sign sign.Dot) is = cc
closure_kind kind is = cc

pub table_kind : (kind : TokenKind) → operand_of kind ≡ operand.Table → kind ≡ Sign sign.OpenBrace
table_kind (Sign sign.OpenBrace) is = refl
table_kind (Word word.Nil) is = cc
table_kind kind is = cc

pub nil_kind : (kind : TokenKind) → operand_of kind ≡ operand.Nil → kind ≡ Word word.Nil
nil_kind (Word word.Nil) is = refl
nil_kind (Sign sign.Dot) is = cc
nil_kind kind is = cc

pub true_kind : (kind : TokenKind) → operand_of kind ≡ operand.True → kind ≡ Word word.True
true_kind (Word word.True) is = refl
true_kind (Sign sign.Dot) is = cc
true_kind kind is = cc

pub false_kind : (kind : TokenKind) → operand_of kind ≡ operand.False → kind ≡ Word word.False
false_kind (Word word.False) is = refl
false_kind (Sign sign.Dot) is = cc
false_kind kind is = cc

pub vararg_kind : (kind : TokenKind) → operand_of kind ≡ operand.Vararg → kind ≡ Sign sign.Ellipsis
vararg_kind (Sign sign.Ellipsis) is = refl
vararg_kind (Word word.Nil) is = cc
vararg_kind kind is = cc

number_kind : (kind : TokenKind) → operand_of kind ≡ operand.Number → IsNumber kind
number_kind (Number n) is = tt
number_kind (Word word.Nil) is = cc
number_kind (Sign sign.Dot) is = cc
number_kind kind is = cc

text_kind : (kind : TokenKind) → operand_of kind ≡ operand.Text → IsText kind
text_kind (Text bytes) is = tt
text_kind (Word word.Nil) is = cc
text_kind (Sign sign.Dot) is = cc
text_kind kind is = cc

pub number_next : (left : List Lexeme) → operand_of (first_kind left) ≡ operand.Number → Begin IsNumber left
number_next [] is = cc
number_next (first ∷ after) is = number_kind first.kind is

pub text_next : (left : List Lexeme) → operand_of (first_kind left) ≡ operand.Text → Begin IsText left
text_next [] is = cc
text_next (first ∷ after) is = text_kind first.kind is

-- what the reader sees next is next, but for `end`
pub next_of : (kind : TokenKind) (left : List Lexeme) → (Word word.End ≡ kind → ⊥) → first_kind left ≡ kind → Begin (IsKind kind) left
next_of kind [] other is = absurd (other is)
next_of kind (first ∷ after) other is = is
