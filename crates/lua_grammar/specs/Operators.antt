-- The binary operators and their precedence (Lua 5.1 Reference Manual, 2.5.6).
use Rattle.std.specs.Prelude.{ℕ, ◌+◌}
use Rattle.lua_ast.specs.declared.expressions.BinOp.TheVariants.{Add, Sub, Mul, Div, Mod, Pow, Concat, Eq, Ne, Lt, Le, Gt, Ge}
use Rattle.lua_ast.specs.declared.expressions.UnOp.{UnOp}
use Rattle.lua_ast.specs.declared.expressions.UnOp.TheVariants as unary
use Rattle.lua_lexer.specs.declared.tokens.TokenKind.{TokenKind}
use Rattle.lua_lexer.specs.declared.tokens.TokenKind.TheVariants.{Word, Sign}
use Rattle.lua_lexer.specs.declared.signs.Sign.TheVariants as sign
use Rattle.lua_lexer.specs.declared.words.Word.TheVariants as word
use Rattle.lua_grammar.specs.declared.operators.Operator.{Operator}
use Rattle.lua_grammar.specs.declared.operators.Operator.TheVariants.{Or, And, Plain}

-- the token of an operator
abbrev pub kind_of : Operator → TokenKind
kind_of Or = Word word.Or
kind_of And = Word word.And
kind_of (Plain Add) = Sign sign.Plus
kind_of (Plain Sub) = Sign sign.Minus
kind_of (Plain Mul) = Sign sign.Star
kind_of (Plain Div) = Sign sign.Slash
kind_of (Plain Mod) = Sign sign.Percent
kind_of (Plain Pow) = Sign sign.Caret
kind_of (Plain Concat) = Sign sign.Concat
kind_of (Plain Eq) = Sign sign.Equal
kind_of (Plain Ne) = Sign sign.NotEqual
kind_of (Plain Lt) = Sign sign.Less
kind_of (Plain Le) = Sign sign.LessEqual
kind_of (Plain Gt) = Sign sign.Greater
kind_of (Plain Ge) = Sign sign.GreaterEqual

-- the token of a unary operator
abbrev pub kind_of_unary : UnOp → TokenKind
kind_of_unary unary.Not = Word word.Not
kind_of_unary unary.Length = Sign sign.Hash
kind_of_unary unary.Minus = Sign sign.Minus

-- how tightly an operator binds, from low to high: `or`; `and`; `< > <= >= ~= ==`; `..`; `+ -`; `* / %`; `not # -`, which
-- are unary; and `^`
abbrev pub level : Operator → ℕ
level Or = 1
level And = 2
level (Plain Eq) = 3
level (Plain Ne) = 3
level (Plain Lt) = 3
level (Plain Le) = 3
level (Plain Gt) = 3
level (Plain Ge) = 3
level (Plain Concat) = 4
level (Plain Add) = 5
level (Plain Sub) = 5
level (Plain Mul) = 6
level (Plain Div) = 6
level (Plain Mod) = 6
level (Plain Pow) = 8

-- `not`, `#` and `-` before one operand
abbrev pub unary_level : ℕ
unary_level = 7

-- an expression whose outermost production is no operator
abbrev pub highest_level : ℕ
highest_level = 9

-- the lowest level of a left operand: that of the operator itself, but one more for `..` and `^`, which associate to the
-- right
abbrev pub left_level : Operator → ℕ
left_level (Plain Concat) = 5
left_level (Plain Pow) = 9
left_level op = level op

-- the lowest level of a right operand: one more than that of the operator itself, since all but `..` and `^` associate to
-- the left; that of `..` itself; and after `^` that of a unary operator, as in `2^-3`
abbrev pub right_level : Operator → ℕ
right_level (Plain Concat) = 4
right_level (Plain Pow) = unary_level
right_level op = level op + 1
