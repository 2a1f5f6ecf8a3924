-- Which token is next where it is known what it begins in a block.
use Rattle.std.proofs.Common.{◌≡◌, List, [], ◌∷◌, refl, sym, subst}
use Rattle.lua_lexer.specs.declared.tokens.TokenKind.{TokenKind}
use Rattle.lua_lexer.specs.declared.tokens.TokenKind.TheVariants.{Word, Sign}
use Rattle.lua_lexer.specs.declared.signs.Sign.TheVariants as sign
use Rattle.lua_lexer.specs.declared.words.Word.TheVariants as word
use Rattle.lua_grammar.specs.Printing.{Lexeme}
use Rattle.lua_grammar.specs.Stopping.{IsBlockEnd, IsReturnEnd}
use Rattle.lua_parser_base.specs.declared.beginnings.Begins.{Begins}
use Rattle.lua_parser_base.specs.declared.beginnings.Begins.TheVariants as begins
use Rattle.lua_parser_base.specs.Next.{Begin, IsKind, first_kind}
use Rattle.lua_parser_base.specs.Kinds.{IsStatement, begins_of}

pub if_kind : (kind : TokenKind) → begins_of kind ≡ begins.If → kind ≡ Word word.If
if_kind (Word word.If) is = refl
if_kind (Word word.While) is = cc
if_kind kind is = cc

pub while_kind : (kind : TokenKind) → begins_of kind ≡ begins.While → kind ≡ Word word.While
while_kind (Word word.While) is = refl
while_kind (Word word.If) is = cc
while_kind kind is = cc

pub do_kind : (kind : TokenKind) → begins_of kind ≡ begins.Do → kind ≡ Word word.Do
do_kind (Word word.Do) is = refl
do_kind (Word word.If) is = cc
do_kind kind is = cc

pub for_kind : (kind : TokenKind) → begins_of kind ≡ begins.For → kind ≡ Word word.For
for_kind (Word word.For) is = refl
for_kind (Word word.If) is = cc
for_kind kind is = cc

pub repeat_kind : (kind : TokenKind) → begins_of kind ≡ begins.Repeat → kind ≡ Word word.Repeat
repeat_kind (Word word.Repeat) is = refl
repeat_kind (Word word.If) is = cc
repeat_kind kind is = cc

pub function_kind : (kind : TokenKind) → begins_of kind ≡ begins.Function → kind ≡ Word word.Function
function_kind (Word word.Function) is = refl
function_kind (Word word.If) is = cc
function_kind kind is = cc

pub local_kind : (kind : TokenKind) → begins_of kind ≡ begins.Local → kind ≡ Word word.Local
local_kind (Word word.Local) is = refl
local_kind (Word word.If) is = cc
local_kind kind is = cc

-- the last statement of a block that is no `break` is a `return`
return_kind : (kind : TokenKind) → begins_of kind ≡ begins.Last → (IsKind (Word word.Break) kind → ⊥) → IsKind (Word word.Return) kind
return_kind (Word word.Return) is not = refl
return_kind (Word word.Break) is not = absurd (not refl)
return_kind (Word word.If) is not = cc
return_kind kind is not = cc

pub return_next : (left : List Lexeme) → begins_of (first_kind left) ≡ begins.Last → (Begin (IsKind (Word word.Break)) left → ⊥) → Begin (IsKind (Word word.Return)) left
return_next [] is not = cc
return_next (first ∷ after) is not = return_kind first.kind is not

pub block_end : (kind : TokenKind) → begins_of kind ≡ begins.Nothing → IsBlockEnd kind
block_end (Word word.End) is = tt
block_end (Word word.Else) is = tt
block_end (Word word.ElseIf) is = tt
block_end (Word word.Until) is = tt
block_end (Word word.If) is = cc
block_end kind is = cc

-- what may stand after `return` alone
return_end : (kind : TokenKind) → IsBlockEnd kind → IsReturnEnd kind
return_end (Sign sign.Semicolon) h = tt
return_end kind h = h

pub nothing_returned : (kind : TokenKind) → begins_of kind ≡ begins.Nothing → IsReturnEnd kind
nothing_returned kind is = return_end kind (block_end kind is)

pub semicolon_next : (left : List Lexeme) → Begin (IsKind (Sign sign.Semicolon)) left → IsReturnEnd (first_kind left)
semicolon_next [] next = absurd next
semicolon_next (first ∷ after) next = subst IsReturnEnd (sym next) tt

no_return_end : (kind : TokenKind) → (begins_of kind ≡ begins.Nothing → ⊥) → (IsKind (Sign sign.Semicolon) kind → ⊥) → IsReturnEnd kind → ⊥
no_return_end (Sign sign.Semicolon) x y h = y refl
no_return_end (Word word.End) x y h = x refl
no_return_end (Word word.Else) x y h = x refl
no_return_end (Word word.ElseIf) x y h = x refl
no_return_end (Word word.Until) x y h = x refl
no_return_end kind x y h = h

pub values_next : (left : List Lexeme) → (begins_of (first_kind left) ≡ begins.Nothing → ⊥) → (Begin (IsKind (Sign sign.Semicolon)) left → ⊥) → IsReturnEnd (first_kind left) → ⊥
values_next [] x y h = x refl
values_next (first ∷ after) x y h = no_return_end first.kind x y h

-- a statement that begins with no word begins with a prefix
pub prefix_begins : (b : Begins) → IsStatement b → (b ≡ begins.If → ⊥) → (b ≡ begins.While → ⊥) → (b ≡ begins.Do → ⊥) → (b ≡ begins.For → ⊥) → (b ≡ begins.Repeat → ⊥) →
    (b ≡ begins.Function → ⊥) → (b ≡ begins.Local → ⊥) → b ≡ begins.Prefix
prefix_begins begins.If is i w d f r g l = absurd (i refl)
prefix_begins begins.While is i w d f r g l = absurd (w refl)
prefix_begins begins.Do is i w d f r g l = absurd (d refl)
prefix_begins begins.For is i w d f r g l = absurd (f refl)
prefix_begins begins.Repeat is i w d f r g l = absurd (r refl)
prefix_begins begins.Function is i w d f r g l = absurd (g refl)
prefix_begins begins.Local is i w d f r g l = absurd (l refl)
prefix_begins begins.Last is i w d f r g l = absurd is
prefix_begins begins.Nothing is i w d f r g l = absurd is
prefix_begins begins.Prefix is i w d f r g l = refl

pub is_statement : (b : Begins) → (b ≡ begins.Last → ⊥) → (b ≡ begins.Nothing → ⊥) → IsStatement b
is_statement begins.Last x y = x refl
is_statement begins.Nothing x y = y refl
is_statement other x y = tt
