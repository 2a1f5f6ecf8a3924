-- Where the reader hands on what it has read: at a token that doesn't continue it.
use Rattle.std.proofs.Common.{◌≡◌, ℕ, ◌≤◌, ◌<◌, Bool, List, [], ◌∷◌, Option, Some, None, ◌∙◌, sym, refl, ap, arith, lit≤}
use Rattle.std.proofs.lemmas.Bool.{le-leb, lt-leb}
use Rattle.std.proofs.Math.Decide.{dec_le}
use Rattle.lua_ast.specs.declared.expressions.BinOp.TheVariants.{Add, Sub, Mul, Div, Mod, Pow, Concat, Eq, Ne, Lt, Le, Gt, Ge}
use Rattle.lua_lexer.specs.declared.tokens.TokenKind.{TokenKind}
use Rattle.lua_lexer.specs.declared.tokens.TokenKind.TheVariants.{Name, Text, Word, Sign}
use Rattle.lua_lexer.specs.declared.signs.Sign.TheVariants as sign
use Rattle.lua_lexer.specs.declared.words.Word.TheVariants as word
use Rattle.lua_grammar.specs.declared.operators.Operator.{Operator}
use Rattle.lua_grammar.specs.declared.operators.Operator.TheVariants.{Or, And, Plain}
use Rattle.lua_grammar.specs.Operators.{kind_of, level, left_level, right_level}
use Rattle.lua_grammar.specs.Tree.{Line, NameList, End, Exp, PrefixExp, ExpList, Block, Stats, Stat, LastStat, VarList}
use Rattle.lua_grammar.specs.Tree as tree
use Rattle.lua_grammar.specs.Printing.{Lexeme, a_kind, print_end}
use Rattle.lua_grammar.specs.Validity.{IsValid, IsCall, IsVariable, EndsWithPrefix, ListEndsWithPrefix, exp_level}
use Rattle.lua_grammar.specs.Stopping.{ComesNext, EndsAt, IsBlockEnd, IsReturnEnd, IsNoOperator, IsApart, IsNoComma, IsNoAssign, IsNoSemicolon, Stops, LastStops, EndStops}
use Rattle.lua_grammar.proofs.Grouping.{levels_of, below_right, within_right, below_unary, some_level, fits_right, fits_unary, bounds}
use Rattle.lua_grammar.specs.Waiting.{Reader, exp, more_exp, more_prefix, more_list, more_names, more_vars, more_stats, after_statement, after_local, after_return, operator_of, above}
use Rattle.lua_grammar.specs.Reading.{assigns_or_calls, next_target, feed, run}

-- ---- kinds of tokens

-- it begins a statement or ends a block
abbrev pub IsStart : TokenKind → Type 0
IsStart (Name n) = Unit {0}
IsStart (Sign sign.OpenParenthesis) = Unit {0}
IsStart (Word word.And) = ⊥
IsStart (Word word.Or) = ⊥
IsStart (Word w) = Unit {0}
IsStart other = ⊥

-- it may stand after a statement
abbrev pub IsNext : TokenKind → Type 0
IsNext (Sign sign.Semicolon) = Unit {0}
IsNext kind = IsStart kind

abbrev pub IsNoParen : TokenKind → Type 0
IsNoParen (Sign sign.OpenParenthesis) = ⊥
IsNoParen other = Unit {0}

-- ---- what comes after an expression

pub is_operator : (op : Operator) → operator_of (kind_of op) ≡ Some op
is_operator Or = refl
is_operator And = refl
is_operator (Plain Add) = refl
is_operator (Plain Sub) = refl
is_operator (Plain Mul) = refl
is_operator (Plain Div) = refl
is_operator (Plain Mod) = refl
is_operator (Plain Pow) = refl
is_operator (Plain Concat) = refl
is_operator (Plain Eq) = refl
is_operator (Plain Ne) = refl
is_operator (Plain Lt) = refl
is_operator (Plain Le) = refl
is_operator (Plain Gt) = refl
is_operator (Plain Ge) = refl

operator_apart : (op : Operator) → IsApart (kind_of op)
operator_apart Or = tt
operator_apart And = tt
operator_apart (Plain Add) = tt
operator_apart (Plain Sub) = tt
operator_apart (Plain Mul) = tt
operator_apart (Plain Div) = tt
operator_apart (Plain Mod) = tt
operator_apart (Plain Pow) = tt
operator_apart (Plain Concat) = tt
operator_apart (Plain Eq) = tt
operator_apart (Plain Ne) = tt
operator_apart (Plain Lt) = tt
operator_apart (Plain Le) = tt
operator_apart (Plain Gt) = tt
operator_apart (Plain Ge) = tt

pub goes_on : (m : ℕ) (op : Operator) → m ≤ level op → above m (operator_of (kind_of op)) ≡ Some op
goes_on m op h = rw (is_operator op, le-leb m (level op) h) refl

ends_at : (m : ℕ) (op : Operator) → level op < m → EndsAt m (kind_of op)
ends_at m op h = rw (is_operator op, lt-leb m (level op) h) refl

-- an operator of which an expression may be the left operand
pub stops_at : (rest : Bool) (e : Exp) (op : Operator) (l : Line) (after : List Lexeme) → IsValid rest e → left_level op ≤ exp_level e → Stops e (a_kind (kind_of op) l after)
unfolding IsValid
stops_at rest (tree.prefix p) op l after v h = operator_apart op
stops_at rest (tree.binary a op' l' b) op l after v h =
    let mine = levels_of op' in
    let its = levels_of op in
    let within = within_right _ _ _ _ _ _ mine its h in (
      ends_at _ op (below_right _ _ _ _ _ _ mine its h),
      stops_at rest b op l after v.1 (let right = v.3 in omega (arith, within, right)),
    )
stops_at rest (tree.unary op' l' e) op l after v h = (
  ends_at 7 op (below_unary _ _ _ (levels_of op) h),
  stops_at rest e op l after v.0 (let operand = v.1 in omega (arith, h, operand)),
)
stops_at rest other op l after v h = tt

pub ends_in : (m : ℕ) (after : List Lexeme) → ComesNext IsNoOperator after → ComesNext (EndsAt m) after
ends_in m [] h = h
ends_in m (first ∷ after) h = h m

-- no operator comes next, and nothing that continues a prefix, if that is at the end
pub stops : (e : Exp) (after : List Lexeme) → ComesNext IsNoOperator after → (EndsWithPrefix e → ComesNext IsApart after) → Stops e after
stops (tree.prefix p) after h k = k tt
stops (tree.binary a op l b) after h k = (ends_in (right_level op) after h, stops b after h k)
stops (tree.unary op l e) after h k = (ends_in 7 after h, stops e after h k)
stops other after h k = tt

pub at_least_one : (e : Exp) → 1 ≤ exp_level e
at_least_one (tree.binary a op l b) = some_level _ _ _ (levels_of op)
at_least_one (tree.unary op l e) = lit≤ tt
at_least_one other = lit≤ tt

-- ---- what the reader does there

-- two readers do the same with the first token
pub by_first : (P : TokenKind → Type 0) (r other : Reader) (after : List Lexeme) → ((kind : TokenKind) (l : Line) → P kind → feed r kind l ≡ feed other kind l)
    → ComesNext P after → run r after ≡ run other after
by_first P r other [] same h = absurd h
by_first P r other (first ∷ after) same h = ap (λ r. run r after) (same first.kind first.line h)

pub weaker : (P Q : TokenKind → Type 0) (after : List Lexeme) → ((kind : TokenKind) → P kind → Q kind) → ComesNext P after → ComesNext Q after
weaker P Q [] f h = h
weaker P Q (first ∷ after) f h = f first.kind h

pub exp_goes_on : (m : ℕ) (a : Exp) (op : Operator) (l : Line) (k : Exp → Reader) → m ≤ level op
    → feed (more_exp m a k) (kind_of op) l ≡ exp (right_level op) (λ b. more_exp m (tree.binary a op l b) k)
exp_goes_on m a op l k h = rw (goes_on m op h, feed) refl

pub exp_ends : (m : ℕ) (e : Exp) (k : Exp → Reader) (after : List Lexeme) → ComesNext (EndsAt m) after → run (more_exp m e k) after ≡ run (k e) after
exp_ends m e k after h = by_first (EndsAt m) _ _ after (λ kind l ends. rw (ends, feed) refl) h

pub prefix_ends : (p : PrefixExp) (k : PrefixExp → Reader) (after : List Lexeme) → ComesNext IsApart after → run (more_prefix p k) after ≡ run (k p) after
prefix_ends p k after h = by_first IsApart _ _ after at h
  where
    at : (kind : TokenKind) (l : Line) → IsApart kind → feed (more_prefix p k) kind l ≡ feed (k p) kind l
    at (Text bytes) l h = absurd h
    at (Sign sign.Dot) l h = absurd h
    at (Sign sign.Colon) l h = absurd h
    at (Sign sign.OpenBracket) l h = absurd h
    at (Sign sign.OpenBrace) l h = absurd h
    at (Sign sign.OpenParenthesis) l h = absurd h
    at kind l h = refl

pub last_stops : (es : ExpList) (after : List Lexeme) → ComesNext IsNoOperator after → (ListEndsWithPrefix es → ComesNext IsApart after) → LastStops es after
last_stops (tree.one e) after h k = (stops e after h k, ends_in 1 after h)
last_stops (tree.more es c e) after h k = (stops e after h k, ends_in 1 after h)

pub list_ends : (es : ExpList) (k : ExpList → Reader) (after : List Lexeme) → ComesNext IsNoComma after → run (more_list es k) after ≡ run (k es) after
list_ends es k after h = by_first IsNoComma _ _ after at h
  where
    at : (kind : TokenKind) (l : Line) → IsNoComma kind → feed (more_list es k) kind l ≡ feed (k es) kind l
    at (Sign sign.Comma) l h = absurd h
    at kind l h = refl

pub names_end : (ns : NameList) (k : NameList → Reader) (rest : NameList → Line → Line → Reader) (after : List Lexeme) → ComesNext IsNoComma after
    → run (more_names ns k rest) after ≡ run (k ns) after
names_end ns k rest after h = by_first IsNoComma _ _ after at h
  where
    at : (kind : TokenKind) (l : Line) → IsNoComma kind → feed (more_names ns k rest) kind l ≡ feed (k ns) kind l
    at (Sign sign.Comma) l h = absurd h
    at kind l h = refl

pub local_ends : (at_line : Line) (ns : NameList) (k : Stat → Reader) (after : List Lexeme) → ComesNext IsNoAssign after
    → run (after_local at_line ns k) after ≡ run (k (tree.local at_line ns)) after
local_ends at_line ns k after h = by_first IsNoAssign _ _ after at h
  where
    at : (kind : TokenKind) (l : Line) → IsNoAssign kind → feed (after_local at_line ns k) kind l ≡ feed (k (tree.local at_line ns)) kind l
    at (Sign sign.Assign) l h = absurd h
    at kind l h = refl

pub calls : (p : PrefixExp) (k : Stat → Reader) → IsCall p → assigns_or_calls k p ≡ k (tree.call_statement p)
calls (tree.call p a) k h = refl
calls (tree.method p c l n a) k h = refl
calls p k h = absurd h

pub assigns : (p : PrefixExp) (k : Stat → Reader) → IsVariable p → assigns_or_calls k p ≡ more_vars (tree.one_var p) k
assigns (tree.variable l n) k h = refl
assigns (tree.item p o e c) k h = refl
assigns (tree.member p d l n) k h = refl
assigns p k h = absurd h

pub assigns_next : (p : PrefixExp) (vs : VarList) (c : Line) (k : Stat → Reader) → IsVariable p → next_target vs c k p ≡ more_vars (tree.more_vars vs c p) k
assigns_next (tree.variable l n) vs c k h = refl
assigns_next (tree.item p o e q) vs c k h = refl
assigns_next (tree.member p d l n) vs c k h = refl
assigns_next p vs c k h = absurd h

pub block_ends : (ss : Stats) (k : Block → Reader) (after : List Lexeme) → ComesNext IsBlockEnd after → run (more_stats ss k) after ≡ run (k (tree.statements ss)) after
block_ends ss k after h = by_first IsBlockEnd _ _ after at h
  where
    at : (kind : TokenKind) (l : Line) → IsBlockEnd kind → feed (more_stats ss k) kind l ≡ feed (k (tree.statements ss)) kind l
    at (Word word.End) l h = refl
    at (Word word.Else) l h = refl
    at (Word word.ElseIf) l h = refl
    at (Word word.Until) l h = refl
    at kind l h = absurd h

pub statement_ends : (x : End) (k : End → Reader) (after : List Lexeme) → EndStops x after → run (after_statement k) (print_end x after) ≡ run (k x) after
statement_ends (tree.closed l) k after h = refl
statement_ends tree.bare k after h = by_first IsNoSemicolon _ _ after at h
  where
    at : (kind : TokenKind) (l : Line) → IsNoSemicolon kind → feed (after_statement k) kind l ≡ feed (k tree.bare) kind l
    at (Sign sign.Semicolon) l h = absurd h
    at kind l h = refl

pub return_ends : (r : Line) (k : LastStat → Reader) (after : List Lexeme) → ComesNext IsReturnEnd after
    → run (after_return r k) after ≡ run (k (tree.return_none r)) after
return_ends r k after h = by_first IsReturnEnd _ _ after at h
  where
    at : (kind : TokenKind) (l : Line) → IsReturnEnd kind → feed (after_return r k) kind l ≡ feed (k (tree.return_none r)) kind l
    at (Sign sign.Semicolon) l h = refl
    at (Word word.End) l h = refl
    at (Word word.Else) l h = refl
    at (Word word.ElseIf) l h = refl
    at (Word word.Until) l h = refl
    at kind l h = absurd h

-- ---- the operator after an expression that was read as far as it goes

pub operator_kind : (kind : TokenKind) (op : Operator) → operator_of kind ≡ Some op → kind ≡ kind_of op
operator_kind (Word word.Or) op is = let same : Or ≡ op = cc in ap kind_of same
operator_kind (Word word.And) op is = let same : And ≡ op = cc in ap kind_of same
operator_kind (Sign sign.Plus) op is = let same : Plain Add ≡ op = cc in ap kind_of same
operator_kind (Sign sign.Minus) op is = let same : Plain Sub ≡ op = cc in ap kind_of same
operator_kind (Sign sign.Star) op is = let same : Plain Mul ≡ op = cc in ap kind_of same
operator_kind (Sign sign.Slash) op is = let same : Plain Div ≡ op = cc in ap kind_of same
operator_kind (Sign sign.Percent) op is = let same : Plain Mod ≡ op = cc in ap kind_of same
operator_kind (Sign sign.Caret) op is = let same : Plain Pow ≡ op = cc in ap kind_of same
operator_kind (Sign sign.Concat) op is = let same : Plain Concat ≡ op = cc in ap kind_of same
operator_kind (Sign sign.Equal) op is = let same : Plain Eq ≡ op = cc in ap kind_of same
operator_kind (Sign sign.NotEqual) op is = let same : Plain Ne ≡ op = cc in ap kind_of same
operator_kind (Sign sign.Less) op is = let same : Plain Lt ≡ op = cc in ap kind_of same
operator_kind (Sign sign.LessEqual) op is = let same : Plain Le ≡ op = cc in ap kind_of same
operator_kind (Sign sign.Greater) op is = let same : Plain Gt ≡ op = cc in ap kind_of same
operator_kind (Sign sign.GreaterEqual) op is = let same : Plain Ge ≡ op = cc in ap kind_of same
operator_kind kind op is = cc

below : (m : ℕ) (op : Operator) → EndsAt m (kind_of op) → level op < m
below m op ends = elim (dec_le m (level op)) [
  | yes h ↦ let e : Some op ≡ None = sym (goes_on m op h) ∙ ends in cc
  | no h ↦ omega (arith, h)
]

pub fits : (e : Exp) (op : Operator) → Stops e (a_kind (kind_of op) 1 []) → left_level op ≤ exp_level e
fits (tree.binary a op' l b) op h = fits_right _ _ _ _ _ _ (levels_of op') (levels_of op) (below _ op h.0)
fits (tree.unary op' l e) op h = fits_unary _ _ _ (levels_of op) (below 7 op h.0)
fits other op h = (bounds _ _ _ (levels_of op)).0

pub ends_there : (e : Exp) (m : ℕ) (kind : TokenKind) → Stops e (a_kind kind 1 [])
    → ((op : Operator) → kind ≡ kind_of op → m ≤ level op → left_level op ≤ exp_level e → ⊥) → EndsAt m kind
ends_there e m kind stopped unfit = at (operator_of kind) refl
  where
    at : (found : Option Operator) → operator_of kind ≡ found → above m found ≡ None
    at None is = refl
    at (Some op) is = elim (dec_le m (level op)) [
      | yes h ↦ let same = operator_kind kind op is in absurd (unfit op same h (fits e op (rw same at stopped)))
      | no h ↦ rw (lt-leb m (level op) (omega (arith, h))) refl
    ]
