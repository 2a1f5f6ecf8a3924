-- What the kind of a token begins, or goes on with.
use Rattle.std.specs.Prelude.{◌≡◌, List, ◌∷◌}
use Rattle.lua_lexer.specs.declared.tokens.TokenKind.{TokenKind}
use Rattle.lua_lexer.specs.declared.tokens.TokenKind.TheVariants.{Text as TextKind, Number as NumberKind, Word as WordKind, Sign as SignKind}
use Rattle.lua_lexer.specs.declared.signs.Sign.TheVariants as sign
use Rattle.lua_lexer.specs.declared.words.Word.TheVariants as word
use Rattle.lua_grammar.specs.Printing.{Lexeme}
use Rattle.lua_parser_base.specs.declared.operators.Operand.{Operand}
use Rattle.lua_parser_base.specs.declared.operators.Operand.TheVariants as operand
use Rattle.lua_parser_base.specs.declared.beginnings.Begins.{Begins}
use Rattle.lua_parser_base.specs.declared.beginnings.Begins.TheVariants as begins
use Rattle.lua_parser_base.specs.declared.suffixes.Suffix.{Suffix}
use Rattle.lua_parser_base.specs.declared.suffixes.Suffix.TheVariants as suffix
use Rattle.lua_parser_base.specs.States.{State}
use Rattle.lua_parser_base.specs.Next.{Begin, IsName, ahead}

-- an operand
abbrev pub operand_of : TokenKind → Operand
operand_of (WordKind word.Not) = operand.Unary
operand_of (SignKind sign.Hash) = operand.Unary
operand_of (SignKind sign.Minus) = operand.Unary
operand_of (WordKind word.Function) = operand.Closure
operand_of (SignKind sign.OpenBrace) = operand.Table
operand_of (WordKind word.Nil) = operand.Nil
operand_of (WordKind word.True) = operand.True
operand_of (WordKind word.False) = operand.False
operand_of (NumberKind n) = operand.Number
operand_of (TextKind bytes) = operand.Text
operand_of (SignKind sign.Ellipsis) = operand.Vararg
operand_of other = operand.Prefix

abbrev pub OperandBegins : Operand → State → Type 0
OperandBegins kind s = operand_of (ahead s) ≡ kind

-- a unary operator
abbrev pub IsUnary : TokenKind → Type 0
IsUnary (WordKind word.Not) = Unit {0}
IsUnary (SignKind sign.Hash) = Unit {0}
IsUnary (SignKind sign.Minus) = Unit {0}
IsUnary other = ⊥

abbrev pub UnaryBegins : State → Type 0
UnaryBegins s = IsUnary (ahead s)

-- a statement, or the end of a block
abbrev pub begins_of : TokenKind → Begins
begins_of (WordKind word.If) = begins.If
begins_of (WordKind word.While) = begins.While
begins_of (WordKind word.Do) = begins.Do
begins_of (WordKind word.For) = begins.For
begins_of (WordKind word.Repeat) = begins.Repeat
begins_of (WordKind word.Function) = begins.Function
begins_of (WordKind word.Local) = begins.Local
begins_of (WordKind word.Return) = begins.Last
begins_of (WordKind word.Break) = begins.Last
begins_of (WordKind word.End) = begins.Nothing
begins_of (WordKind word.Else) = begins.Nothing
begins_of (WordKind word.ElseIf) = begins.Nothing
begins_of (WordKind word.Until) = begins.Nothing
begins_of other = begins.Prefix

abbrev pub StatementBegins : Begins → State → Type 0
StatementBegins kind s = begins_of (ahead s) ≡ kind

-- a name and `=` stand at the beginning
abbrev pub BeginNamed : List Lexeme → Type 0
BeginNamed (name ∷ equals ∷ after) = IsName name.kind × (equals.kind ≡ SignKind sign.Assign)
BeginNamed other = ⊥

abbrev pub NamedFieldBegins : State → Type 0
NamedFieldBegins s = BeginNamed s.left

-- what a prefix goes on with
abbrev pub IsSuffix : Suffix → TokenKind → Type 0
IsSuffix suffix.Member kind = kind ≡ SignKind sign.Dot
IsSuffix suffix.Item kind = kind ≡ SignKind sign.OpenBracket
IsSuffix suffix.Method kind = kind ≡ SignKind sign.Colon
IsSuffix suffix.Arguments (SignKind sign.OpenParenthesis) = Unit {0}
IsSuffix suffix.Arguments (SignKind sign.OpenBrace) = Unit {0}
IsSuffix suffix.Arguments (TextKind bytes) = Unit {0}
IsSuffix suffix.Arguments other = ⊥

abbrev pub SuffixBegins : Suffix → State → Type 0
SuffixBegins suffix s = Begin (IsSuffix suffix) s.left

-- it stands after a field
abbrev pub IsSeparator : TokenKind → Type 0
IsSeparator (SignKind sign.Comma) = Unit {0}
IsSeparator (SignKind sign.Semicolon) = Unit {0}
IsSeparator other = ⊥

-- a statement that isn't the last one of a block
abbrev pub IsStatement : Begins → Type 0
IsStatement begins.Last = ⊥
IsStatement begins.Nothing = ⊥
IsStatement other = Unit {0}
