-- A reader of tokens: what it waits for, and which tokens it distinguishes.
use Rattle.std.specs.Prelude.{ℕ, Option, Some, None, nat_le, if◌then◌else◌}
use Rattle.lua_ast.specs.declared.expressions.BinOp.TheVariants.{Add, Sub, Mul, Div, Mod, Pow, Concat, Eq, Ne, Lt, Le, Gt, Ge}
use Rattle.lua_lexer.specs.declared.tokens.TokenKind.{TokenKind}
use Rattle.lua_lexer.specs.declared.tokens.TokenKind.TheVariants.{Name, Word, Sign}
use Rattle.lua_lexer.specs.declared.signs.Sign.TheVariants as sign
use Rattle.lua_lexer.specs.declared.words.Word.TheVariants as word
use Rattle.lua_grammar.specs.declared.operators.Operator.{Operator}
use Rattle.lua_grammar.specs.declared.operators.Operator.TheVariants.{Or, And, Plain}
use Rattle.lua_grammar.specs.Operators.{level}
use Rattle.lua_grammar.specs.Tree.{Line, Bytes, NameList, FuncName, End, Exp, PrefixExp, ExpList, Table, Fields, Block, Stats, Stat, Arms, LastStat, VarList}

-- What a reader waits for, and how it goes on with what it has read then. With `more_` or `after_` it has read a part already,
-- and goes on with that at a token that doesn't continue it. With `unless_assign` it goes on in one way at `=`, else in another.
pub data Reader : Type 0 where
  failed : Reader
  chunk : Block → Reader
  token : (TokenKind → Line → Reader) → Reader
  exp : (lowest : ℕ) → (Exp → Reader) → Reader
  more_exp : (lowest : ℕ) → Exp → (Exp → Reader) → Reader
  more_prefix : PrefixExp → (PrefixExp → Reader) → Reader
  more_list : ExpList → (ExpList → Reader) → Reader
  more_fields : Line → Fields → (Table → Reader) → Reader
  more_names : NameList → (NameList → Reader) → (NameList → Line → Line → Reader) → Reader
  more_funcname : FuncName → (FuncName → Reader) → Reader
  more_vars : VarList → (Stat → Reader) → Reader
  more_arms : Arms → (Stat → Reader) → Reader
  more_stats : Stats → (Block → Reader) → Reader
  unless_assign : Reader → (Line → Reader) → Reader
  after_statement : (End → Reader) → Reader
  after_local : Line → NameList → (Stat → Reader) → Reader
  after_return : Line → (LastStat → Reader) → Reader

-- It waits for a token: it hasn't failed, and hasn't read a chunk.
abbrev pub IsWaiting : Reader → Type 0
IsWaiting failed = ⊥
IsWaiting (chunk b) = ⊥
IsWaiting other = Unit {0}

-- ---- tokens

-- the operator that a token is, if it is one
abbrev pub operator_of : TokenKind → Option Operator
operator_of (Word word.Or) = Some Or
operator_of (Word word.And) = Some And
operator_of (Sign sign.Plus) = Some (Plain Add)
operator_of (Sign sign.Minus) = Some (Plain Sub)
operator_of (Sign sign.Star) = Some (Plain Mul)
operator_of (Sign sign.Slash) = Some (Plain Div)
operator_of (Sign sign.Percent) = Some (Plain Mod)
operator_of (Sign sign.Caret) = Some (Plain Pow)
operator_of (Sign sign.Concat) = Some (Plain Concat)
operator_of (Sign sign.Equal) = Some (Plain Eq)
operator_of (Sign sign.NotEqual) = Some (Plain Ne)
operator_of (Sign sign.Less) = Some (Plain Lt)
operator_of (Sign sign.LessEqual) = Some (Plain Le)
operator_of (Sign sign.Greater) = Some (Plain Gt)
operator_of (Sign sign.GreaterEqual) = Some (Plain Ge)
operator_of other = None

-- the same operator, if its level is that or a higher one
abbrev pub above : ℕ → Option Operator → Option Operator
above lowest None = None
above lowest (Some op) = if nat_le lowest (level op) then Some op else None

-- one token, and no other
abbrev pub name : (Line → Bytes → Reader) → TokenKind → Line → Reader
name k (Name n) l = k l n
name k other l = failed

abbrev pub close_parenthesis : (Line → Reader) → TokenKind → Line → Reader
close_parenthesis k (Sign sign.CloseParenthesis) l = k l
close_parenthesis k other l = failed

abbrev pub close_bracket : (Line → Reader) → TokenKind → Line → Reader
close_bracket k (Sign sign.CloseBracket) l = k l
close_bracket k other l = failed

abbrev pub equals : (Line → Reader) → TokenKind → Line → Reader
equals k (Sign sign.Assign) l = k l
equals k other l = failed

abbrev pub comma : (Line → Reader) → TokenKind → Line → Reader
comma k (Sign sign.Comma) l = k l
comma k other l = failed

abbrev pub do_ : (Line → Reader) → TokenKind → Line → Reader
do_ k (Word word.Do) l = k l
do_ k other l = failed

abbrev pub then_ : (Line → Reader) → TokenKind → Line → Reader
then_ k (Word word.Then) l = k l
then_ k other l = failed

abbrev pub end_ : (Line → Reader) → TokenKind → Line → Reader
end_ k (Word word.End) l = k l
end_ k other l = failed

abbrev pub until_ : (Line → Reader) → TokenKind → Line → Reader
until_ k (Word word.Until) l = k l
until_ k other l = failed
