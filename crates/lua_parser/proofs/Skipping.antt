-- Whether a token was read, where it is read only if it stands next.
use Rattle.std.proofs.Common.{◌≡◌, ℕ, true, false, List, Option, Some, None, IfNone, is_some}
use Rattle.std.proofs.lemmas.Bool.{false≢true, true≢false}
use Rattle.lua_lexer.specs.declared.tokens.Token.{Token}
use Rattle.lua_lexer.specs.declared.tokens.TokenKind.{TokenKind}
use Rattle.lua_parser_base.specs.declared.cursor.Parser.{Parser}
use Rattle.lua_parser_base.specs.States.{State, Advances, IfAdvances, Skips, Takes}

-- one was
pub skipped : (kind : TokenKind) (found : Option ℕ) (s t : State) → is_some found ≡ true → Skips kind found s t → (line : ℕ) × Takes kind line s t
skipped kind (Some line) s t is h = (line, h)
skipped kind None s t is h = absurd (false≢true is)

pub skipped_on : (found : Option ℕ) (tokens : List Token) (p q : Parser) → is_some found ≡ true → IfAdvances found tokens p q → Advances tokens p q
skipped_on (Some line) tokens p q is h = h
skipped_on None tokens p q is h = absurd (false≢true is)

-- none was
pub stayed : (found : Option ℕ) (tokens : List Token) (p q : Parser) → is_some found ≡ false → IfAdvances found tokens p q → q ≡ p
stayed (Some line) tokens p q is h = absurd (true≢false is)
stayed None tokens p q is h = h

pub not_there : {P : Type 0} (found : Option ℕ) → is_some found ≡ false → IfNone found P → P
not_there (Some line) is h = absurd (true≢false is)
not_there None is h = h
