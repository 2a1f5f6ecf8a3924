-- What is left of the tokens, and what is known there.
use Rattle.std.specs.Prelude.{◌≡◌, ℕ, ◌+◌, ◌<◌, ◌≤◌, List, [], ◌∷◌, drop, length, Option, Some, None, Result, IfErr}
use Rattle.lua_lexer.specs.declared.tokens.Token.{Token}
use Rattle.lua_lexer.specs.declared.tokens.TokenKind.{TokenKind}
use Rattle.lua_lexer.specs.declared.tokens.TokenKind.TheVariants.{Text as TextKind, Sign as SignKind}
use Rattle.lua_lexer.specs.declared.signs.Sign.TheVariants.{OpenParenthesis, OpenBrace, OpenBracket, Colon, Dot}
use Rattle.lua_grammar.specs.Operators.{kind_of, level, left_level}
use Rattle.lua_grammar.specs.Tree.{Bytes, Separator}
use Rattle.lua_grammar.specs.Printing.{Lexeme, lexemes, a_sign, print_separator}
use Rattle.lua_grammar.specs.Scopes.{Scope, in_scope}
use Rattle.lua_parser_base.specs.declared.cursor.Parser.{Parser}
use Rattle.lua_parser_base.specs.declared.operators.Infix.{Infix}
use Rattle.lua_parser_base.specs.Frames.{frame_of, frames_of}

-- the line of the last token, 1 of none
abbrev pub last_line : List Lexeme → ℕ
last_line [] = 1
last_line (token ∷ []) = token.line
last_line (token ∷ next ∷ after) = last_line (next ∷ after)

-- the tokens that are left, the line of the token before them, that of the last token of the text, and the scope
pub record State : Type 0 where
  pub left : List Lexeme
  pub last : ℕ
  pub final : ℕ
  pub scope : Scope

abbrev pub scope_of : Parser → Scope
scope_of p = record { functions = p.functions.items; enclosing = frame_of p.frame ∷ frames_of p.enclosing }

unfoldable pub state : List Token → Parser → State
state tokens p = record { left = lexemes (drop p.index tokens); last = p.line; final = last_line (lexemes tokens); scope = scope_of p }

-- where that holds before, an error is one of that relation between the states before and after
abbrev pub IfErrWhere : {A E : Type 0} → (State → Type 0) → Result A E → (State → State → E → Type 0) → List Token → Parser → Parser → Type 0
IfErrWhere Before result R tokens p q = Before (state tokens p) → IfErr result (R (state tokens p) (state tokens q))

-- so many more locals can be declared
abbrev pub CanDeclare : List Bytes → State → Type 0
CanDeclare names s = in_scope s.scope + length names ≤ 200

-- a token of that kind and line stands between two states
pub record Takes (kind : TokenKind) (line : ℕ) (s t : State) : Type 0 where
  pub printed : s.left ≡ record { kind = kind; line = line } ∷ t.left
  pub last : t.last ≡ line
  pub scope : t.scope ≡ s.scope

-- it does where it stands next, and else nothing is read
abbrev pub Skips : TokenKind → Option ℕ → State → State → Type 0
Skips kind (Some line) s t = Takes kind line s t
Skips kind None s t = t ≡ s

-- a separator of fields stands between two states
pub record TakesSeparator (s t : State) : Type 0 where
  pub separator : Separator
  pub printed : s.left ≡ print_separator separator t.left
  pub scope : t.scope ≡ s.scope

-- where the next token is `(`, it is on the line of the last one
abbrev pub OpensOnLine : State → Type 0
OpensOnLine s = (line : ℕ) (after : List Lexeme) → s.left ≡ a_sign OpenParenthesis line after → line ≡ s.last

-- the first token of what a prefix may go on with: an index, a method's name or arguments
abbrev pub GoesOn : TokenKind → Type 0
GoesOn (SignKind Dot) = Unit {0}
GoesOn (SignKind OpenBracket) = Unit {0}
GoesOn (SignKind Colon) = Unit {0}
GoesOn (SignKind OpenParenthesis) = Unit {0}
GoesOn (SignKind OpenBrace) = Unit {0}
GoesOn (TextKind bytes) = Unit {0}
GoesOn other = ⊥

-- no prefix goes on with the next token
abbrev pub Stops : State → Type 0
Stops s = (next : Lexeme) (after : List Lexeme) → s.left ≡ next ∷ after → GoesOn next.kind → ⊥

-- a binary operator that may follow an expression of the level `left` in one of at least the level `lowest`
pub record TakesOperator (left lowest : ℕ) (found : Infix) (s t : State) : Type 0 where
  pub taken : Takes (kind_of found.op) found.line s t
  pub left_fits : left_level found.op ≤ left
  pub high_enough : lowest ≤ level found.op

abbrev pub SkipsOperator : ℕ → ℕ → Option Infix → State → State → Type 0
SkipsOperator left lowest (Some found) s t = TakesOperator left lowest found s t
SkipsOperator left lowest None s t = t ≡ s

-- at least one token was read
pub record Advances (tokens : List Token) (p q : Parser) : Type 0 where
  pub forward : p.index < q.index
  pub within : q.index ≤ length tokens

abbrev pub IfAdvances : {A : Type 0} → Option A → List Token → Parser → Parser → Type 0
IfAdvances (Some found) tokens p q = Advances tokens p q
IfAdvances None tokens p q = q ≡ p

-- the same, or none
pub record AdvancesOrStays (tokens : List Token) (p q : Parser) : Type 0 where
  pub forward : p.index ≤ q.index
  pub within : p.index ≤ length tokens → q.index ≤ length tokens
