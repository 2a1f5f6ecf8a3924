-- The next token, and the fault where it isn't what is read.
use Rattle.std.specs.Prelude.{◌≡◌, ◌≤◌, ◌<◌, ◌⊎◌, ℕ, List, [], ◌∷◌}
use Rattle.lua_lexer.specs.declared.tokens.TokenKind.{TokenKind}
use Rattle.lua_lexer.specs.declared.tokens.TokenKind.TheVariants.{Name as NameKind, Text as TextKind, Number as NumberKind, Word as WordKind, Sign as SignKind}
use Rattle.lua_lexer.specs.declared.words.Word.TheVariants.{End}
use Rattle.lua_lexer.specs.declared.signs.Sign.{Sign}
use Rattle.lua_lexer.specs.declared.signs.Sign.TheVariants.{OpenParenthesis}
use Rattle.lua_grammar.specs.Printing.{Lexeme, a_sign}
use Rattle.lua_parser_base.specs.declared.nesting.Nesting.{Nesting}
use Rattle.lua_parser_base.specs.declared.faults.ParseFault.{ParseFault}
use Rattle.lua_parser_base.specs.declared.faults.ParseFault.TheVariants.{At, Depth, Locals, Upvalues, Ambiguous, Memory}
use Rattle.lua_parser_base.specs.States.{State, Takes}

abbrev pub Begin : (TokenKind → Type 0) → List Lexeme → Type 0
Begin P [] = ⊥
Begin P (first ∷ after) = P first.kind

abbrev pub IsKind : TokenKind → TokenKind → Type 0
IsKind kind next = next ≡ kind

abbrev pub IsName : TokenKind → Type 0
IsName (NameKind name) = Unit {0}
IsName other = ⊥

abbrev pub IsText : TokenKind → Type 0
IsText (TextKind bytes) = Unit {0}
IsText other = ⊥

abbrev pub IsNumber : TokenKind → Type 0
IsNumber (NumberKind n) = Unit {0}
IsNumber other = ⊥

-- a token of that kind is next
abbrev pub IsNext : TokenKind → State → Type 0
IsNext kind s = Begin (IsKind kind) s.left

abbrev pub IsNotNext : TokenKind → State → Type 0
IsNotNext kind s = IsNext kind s → ⊥

-- the kind of the first token, that of `end` where there is none
abbrev pub first_kind : List Lexeme → TokenKind
first_kind [] = WordKind End
first_kind (first ∷ after) = first.kind

-- what the reader sees next: an `end` follows the text
abbrev pub ahead : State → TokenKind
ahead s = first_kind s.left

abbrev pub IsAhead : TokenKind → State → Type 0
IsAhead kind s = ahead s ≡ kind

-- the line of the next token, and that of the last one at the end of the text
abbrev pub line_or : ℕ → List Lexeme → ℕ
line_or final [] = final
line_or final (first ∷ after) = first.line

-- the next token is on that line
abbrev pub IsOnLine : ℕ → List Lexeme → Type 0
IsOnLine line [] = ⊥
IsOnLine line (first ∷ after) = line ≡ first.line

-- the fault is `At`, of which that is said, or out of memory
abbrev pub OnAt : (ℕ → Type 0) → ParseFault → Type 0
OnAt P (At line) = P line
OnAt P Memory = Unit {0}
OnAt P other = ⊥

-- the same of a limit of a function
abbrev pub OnLocals : Type 0 → ParseFault → Type 0
OnLocals P (Locals line) = P
OnLocals P Memory = Unit {0}
OnLocals P other = ⊥

-- the limit of locals has that line
abbrev pub IsLocals : ℕ → ParseFault → Type 0
IsLocals line (Locals reported) = reported ≡ line
IsLocals line Memory = Unit {0}
IsLocals line other = ⊥

abbrev pub OnUpvalues : ℕ → Type 0 → ParseFault → Type 0
OnUpvalues line P (Upvalues reported) = P × (reported ≡ line)
OnUpvalues line P Memory = Unit {0}
OnUpvalues line P other = ⊥

abbrev pub IsMemory : ParseFault → Type 0
IsMemory fault = fault ≡ Memory

-- no token is left
pub record Ends (s : State) (line : ℕ) : Type 0 where
  pub nothing : s.left ≡ []
  pub reported : line ≡ s.final

-- no such token is next, and nothing was read
pub record Misses (P : TokenKind → Type 0) (s t : State) (line : ℕ) : Type 0 where
  pub same : t ≡ s
  pub missing : Begin P s.left → ⊥
  pub reported : line ≡ line_or s.final s.left

-- As many constructs are open as may be. Where a token is left, that is a fault of depth.
abbrev pub IsTooDeep : Nesting → State → ParseFault → Type 0
IsTooDeep at s (At line) = Ends s line
IsTooDeep at s (Depth line) = (200 ≤ at.depth) × IsOnLine line s.left
IsTooDeep at s other = ⊥

-- the same of a part of an expression, for which there may be no room either
abbrev pub HasNoPart : Nesting → State → ParseFault → Type 0
HasNoPart at s (At line) = Ends s line
HasNoPart at s (Depth line) = ((200 ≤ at.depth) ⊎ (at.room ≤ 1)) × IsOnLine line s.left
HasNoPart at s other = ⊥

-- an expression of that height has no room in a higher one, which the token on that line makes it a part of
abbrev pub IsTooHigh : Nesting → ℕ → ℕ → ParseFault → Type 0
IsTooHigh at height line (Depth reported) = (at.room ≤ height) × (reported ≡ line)
IsTooHigh at height line other = ⊥

-- arguments can't begin: no token is left, or `(` is on another line
abbrev pub CannotOpen : State → ParseFault → Type 0
CannotOpen s (At line) = Ends s line
CannotOpen s (Ambiguous line) = (after : List Lexeme) × (s.left ≡ a_sign OpenParenthesis line after) × (line ≡ s.last → ⊥)
CannotOpen s other = ⊥

-- the fault where one construct more isn't allowed
abbrev pub IsDepth : State → ParseFault → Type 0
IsDepth s (At line) = Ends s line
IsDepth s (Depth line) = IsOnLine line s.left
IsDepth s other = ⊥

-- no name is next, or so many others stand before it that one more can't be declared
abbrev pub MissesName : ℕ → State → State → ParseFault → Type 0
MissesName count s t (At line) = Misses IsName s t line
MissesName count s t (Locals line) = (name : List ℕ) × Takes (NameKind name) line s t × (200 ≤ count)
MissesName count s t Memory = Unit {0}
MissesName count s t other = ⊥

-- that sign isn't next, or no name after it, or what stands before it isn't below that height
abbrev pub MissesMemberBelow : ℕ → Sign → ℕ → State → State → ParseFault → Type 0
MissesMemberBelow room sign height s t (At line) =
    Misses (IsKind (SignKind sign)) s t line ⊎ ((m : State) × (at : ℕ) × Takes (SignKind sign) at s m × Misses IsName m t line × (height < room))
MissesMemberBelow room sign height s t (Depth line) = Takes (SignKind sign) line s t × (room ≤ height)
MissesMemberBelow room sign height s t Memory = Unit {0}
MissesMemberBelow room sign height s t other = ⊥

-- that sign isn't next, or no name after it, or what stands before it is too high already
abbrev pub MissesMember : Sign → ℕ → State → State → ParseFault → Type 0
MissesMember = MissesMemberBelow 4_000
