-- What the fault `At` says of tokens.
use Rattle.std.specs.Prelude.{◌≡◌, ℕ, List, [], ◌∷◌, ◌++◌}
use Rattle.lua_lexer.specs.declared.tokens.Token.{Token}
use Rattle.lua_grammar.specs.Limits.{Few}
use Rattle.lua_grammar.specs.Tree.{Block}
use Rattle.lua_grammar.specs.Printing.{Lexeme, lexemes}
use Rattle.lua_grammar.specs.Waiting.{chunk}
use Rattle.lua_grammar.specs.Reading.{read}
use Rattle.lua_parser_base.specs.declared.faults.ParseFault.{ParseFault}
use Rattle.lua_parser_base.specs.declared.faults.ParseFault.TheVariants.{At}
use Rattle.lua_parser_base.specs.Next.{line_or}
use Rattle.lua_parser_base.specs.States.{State, last_line}
use Rattle.lua_parser_base.specs.Standing.{IsBeginning, Within}

-- tokens that begin as those do, whatever stands after the first; none where those are none
abbrev pub BeginAs : List Lexeme → List Lexeme → Type 0
BeginAs [] xs = xs ≡ []
BeginAs (first ∷ after) xs = (others : List Lexeme) × (xs ≡ first ∷ others)

-- No chunk, whatever its limits, is read from tokens that begin with those up to one on that line; or, where the text ends
-- too soon, with the last token on that line, from all of them. Some chunk is read from tokens that begin with those before it,
-- and those break no rule.
pub record IsUnfit (tokens : List Token) (line : ℕ) : Type 0 where
  pub before : List Lexeme
  pub left : List Lexeme
  pub all : lexemes tokens ≡ before ++ left
  pub reported : line ≡ line_or (last_line (lexemes tokens)) left
  pub stuck : (xs : List Lexeme) → BeginAs left xs → (b : Block) → read (before ++ xs) ≡ chunk b → ⊥
  pub goes_on : (others : List Lexeme) × (b : Block) × (read (before ++ others) ≡ chunk b)
  pub start : State
  pub stop : State
  pub begins : IsBeginning tokens start
  pub within : Within start stop
  pub few : Few stop.scope.enclosing
  pub there : stop.left ≡ left

-- of the fault `At` that is said
abbrev pub OfAt : (ℕ → Type 0) → ParseFault → Type 0
OfAt P (At line) = P line
OfAt P other = Unit {0}
