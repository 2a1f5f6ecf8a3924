-- What stands after a tree where a reader hands it on: a token that doesn't continue it.
use Rattle.std.specs.Prelude.{◌≡◌, ℕ, List, [], ◌∷◌, None}
use Rattle.lua_lexer.specs.declared.tokens.TokenKind.{TokenKind}
use Rattle.lua_lexer.specs.declared.tokens.TokenKind.TheVariants.{Text, Word, Sign}
use Rattle.lua_lexer.specs.declared.signs.Sign.TheVariants as sign
use Rattle.lua_lexer.specs.declared.words.Word.TheVariants as word
use Rattle.lua_grammar.specs.Operators.{right_level}
use Rattle.lua_grammar.specs.Tree.{End, Exp, ExpList, Field, Block, Stats, Stat, Arms, LastStat}
use Rattle.lua_grammar.specs.Tree as tree
use Rattle.lua_grammar.specs.Printing.{Lexeme, print_end}
use Rattle.lua_grammar.specs.Waiting.{operator_of, above}

-- a token of that kind comes next
abbrev pub ComesNext : (TokenKind → Type 0) → List Lexeme → Type 0
ComesNext P [] = ⊥
ComesNext P (first ∷ after) = P first.kind

-- no operator of that level or a higher one
abbrev pub EndsAt : ℕ → TokenKind → Type 0
EndsAt m kind = above m (operator_of kind) ≡ None

abbrev pub IsNoOperator : TokenKind → Type 0
IsNoOperator kind = (m : ℕ) → EndsAt m kind

-- it doesn't continue a prefix
abbrev pub IsApart : TokenKind → Type 0
IsApart (Text bytes) = ⊥
IsApart (Sign sign.Dot) = ⊥
IsApart (Sign sign.Colon) = ⊥
IsApart (Sign sign.OpenBracket) = ⊥
IsApart (Sign sign.OpenBrace) = ⊥
IsApart (Sign sign.OpenParenthesis) = ⊥
IsApart other = Unit {0}

abbrev pub IsNoComma : TokenKind → Type 0
IsNoComma (Sign sign.Comma) = ⊥
IsNoComma other = Unit {0}

abbrev pub IsNoAssign : TokenKind → Type 0
IsNoAssign (Sign sign.Assign) = ⊥
IsNoAssign other = Unit {0}

abbrev pub IsNoSemicolon : TokenKind → Type 0
IsNoSemicolon (Sign sign.Semicolon) = ⊥
IsNoSemicolon other = Unit {0}

-- it ends a block
abbrev pub IsBlockEnd : TokenKind → Type 0
IsBlockEnd (Word word.End) = Unit {0}
IsBlockEnd (Word word.Else) = Unit {0}
IsBlockEnd (Word word.ElseIf) = Unit {0}
IsBlockEnd (Word word.Until) = Unit {0}
IsBlockEnd other = ⊥

-- it may stand after `return`
abbrev pub IsReturnEnd : TokenKind → Type 0
IsReturnEnd (Sign sign.Semicolon) = Unit {0}
IsReturnEnd kind = IsBlockEnd kind

-- ---- what comes next doesn't continue ..

-- an expression, unless it is an operator after the whole of it
abbrev pub Stops : Exp → List Lexeme → Type 0
Stops (tree.prefix p) after = ComesNext IsApart after
Stops (tree.binary a op l b) after = ComesNext (EndsAt (right_level op)) after × Stops b after
Stops (tree.unary op l e) after = ComesNext (EndsAt 7) after × Stops e after
Stops other after = Unit {0}

-- the last of a list of expressions, not even as an operator
abbrev pub LastStops : ExpList → List Lexeme → Type 0
LastStops (tree.one e) after = Stops e after × ComesNext (EndsAt 1) after
LastStops (tree.more es c e) after = Stops e after × ComesNext (EndsAt 1) after

-- a name alone: with `=` after it, it would be that of a field
abbrev pub IsLone : Exp → Type 0
IsLone (tree.prefix (tree.variable l n)) = Unit {0}
IsLone other = ⊥

-- a field
abbrev pub FieldStops : Field → List Lexeme → Type 0
FieldStops (tree.keyed o k c q e) after = Stops e after × ComesNext (EndsAt 1) after
FieldStops (tree.named l n q e) after = Stops e after × ComesNext (EndsAt 1) after
FieldStops (tree.plain e) after = Stops e after × ComesNext (EndsAt 1) after × (IsLone e → ComesNext IsNoAssign after)

-- a statement
abbrev pub StatStops : Stat → List Lexeme → Type 0
StatStops (tree.assign vs q es) after = LastStops es after × ComesNext IsNoComma after
StatStops (tree.call_statement p) after = ComesNext IsApart after
StatStops (tree.repeat_loop r b u t) after = Stops t after × ComesNext (EndsAt 1) after
StatStops (tree.local l ns) after = ComesNext IsNoComma after × ComesNext IsNoAssign after
StatStops (tree.local_values l ns q es) after = LastStops es after × ComesNext IsNoComma after
StatStops other after = Unit {0}

abbrev pub EndStops : End → List Lexeme → Type 0
EndStops tree.bare after = ComesNext IsNoSemicolon after
EndStops (tree.closed l) after = Unit {0}

abbrev pub StatsStop : Stats → List Lexeme → Type 0
StatsStop tree.no_stats after = Unit {0}
StatsStop (tree.more_stats ss s x) after = StatStops s (print_end x after) × EndStops x after

-- the last statement of a block
abbrev pub LastStatStops : LastStat → List Lexeme → Type 0
LastStatStops (tree.return_none r) after = ComesNext IsReturnEnd after
LastStatStops (tree.return_values r es) after = LastStops es after × ComesNext IsNoComma after
LastStatStops (tree.break_ b) after = Unit {0}

-- a block
abbrev pub BlockStops : Block → List Lexeme → Type 0
BlockStops (tree.statements ss) after = StatsStop ss after × ComesNext IsBlockEnd after
BlockStops (tree.with_last ss s x) after = LastStatStops s (print_end x after) × EndStops x after

-- the last block of the arms of an `if`
abbrev pub ArmsStop : Arms → List Lexeme → Type 0
ArmsStop (tree.if_arm i t h b) after = BlockStops b after
ArmsStop (tree.elseif_arm those i t h b) after = BlockStops b after
