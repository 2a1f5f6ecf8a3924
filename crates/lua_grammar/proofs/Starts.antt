-- The first tokens of trees, and what may stand after statements.
use Rattle.std.proofs.Common.{◌≡◌, Bool, true, false, List, [], ◌∷◌, refl, ap}
use Rattle.lua_ast.specs.declared.expressions.UnOp.TheVariants as unary
use Rattle.lua_lexer.specs.declared.tokens.TokenKind.{TokenKind}
use Rattle.lua_lexer.specs.declared.tokens.TokenKind.TheVariants.{Name, Text, Number, Word, Sign}
use Rattle.lua_lexer.specs.declared.signs.Sign.TheVariants as sign
use Rattle.lua_lexer.specs.declared.words.Word.TheVariants as word
use Rattle.lua_grammar.specs.Tree.{Line, End, Exp, PrefixExp, ExpList, Stats, Stat, Arms, LastStat, VarList, Block}
use Rattle.lua_grammar.specs.Tree as tree
use Rattle.lua_grammar.specs.Printing.{Lexeme, a_sign, print_exp, print_prefixexp, print_explist, print_varlist, print_arms, print_stat, print_laststat, print_funcbody, print_fields, print_field, print_end}
use Rattle.lua_grammar.specs.Validity.{MayFollow, StatEndsWithPrefix, BeginsWithParen, VarsBeginWithParen, StatBeginsWithParen}
use Rattle.lua_grammar.specs.Waiting.{Reader}
use Rattle.lua_grammar.specs.Reading.{feed, run}
use Rattle.lua_grammar.specs.Stopping.{IsBlockEnd, IsReturnEnd, LastStatStops, BlockStops, ArmsStop, ComesNext, IsNoOperator, IsApart, IsNoComma, IsNoAssign, IsNoSemicolon, LastStops, StatStops, EndStops, StatsStop}
use Rattle.lua_grammar.proofs.Stopping.{last_stops, ends_in, stops, IsStart, IsNext, IsNoParen, weaker}

-- ---- kinds of tokens

-- whether a token begins an expression
abbrev pub begins : TokenKind → Bool
begins (Name n) = true
begins (Text bytes) = true
begins (Number n) = true
begins (Word word.Nil) = true
begins (Word word.False) = true
begins (Word word.True) = true
begins (Word word.Function) = true
begins (Word word.Not) = true
begins (Sign sign.Ellipsis) = true
begins (Sign sign.OpenParenthesis) = true
begins (Sign sign.OpenBrace) = true
begins (Sign sign.Hash) = true
begins (Sign sign.Minus) = true
begins other = false

pub no_operator : (kind : TokenKind) → IsNext kind → IsNoOperator kind
no_operator (Name n) h m = refl
no_operator (Word word.And) h m = absurd h
no_operator (Word word.Or) h m = absurd h
no_operator (Word w) h m = refl
no_operator (Sign sign.Semicolon) h m = refl
no_operator (Sign sign.OpenParenthesis) h m = refl
no_operator kind h m = absurd h

start_is_next : (kind : TokenKind) → IsStart kind → IsNext kind
start_is_next (Sign sign.Semicolon) h = absurd h
start_is_next kind h = h

pub block_end_starts : (kind : TokenKind) → IsBlockEnd kind → IsStart kind
block_end_starts (Word word.End) h = tt
block_end_starts (Word word.Else) h = tt
block_end_starts (Word word.ElseIf) h = tt
block_end_starts (Word word.Until) h = tt
block_end_starts kind h = absurd h

block_end_is_no_paren : (kind : TokenKind) → IsBlockEnd kind → IsNoParen kind
block_end_is_no_paren (Sign sign.OpenParenthesis) h = absurd h
block_end_is_no_paren kind h = tt

block_end_ends_return : (kind : TokenKind) → IsBlockEnd kind → IsReturnEnd kind
block_end_ends_return (Sign sign.Semicolon) h = tt
block_end_ends_return kind h = h

start_is_apart : (after : List Lexeme) → ComesNext IsStart after → ComesNext IsNoParen after → ComesNext IsApart after
start_is_apart [] h k = h
start_is_apart (first ∷ after) h k = at first.kind h k
  where
    at : (kind : TokenKind) → IsStart kind → IsNoParen kind → IsApart kind
    at (Name n) h k = tt
    at (Word w) h k = tt
    at (Sign sign.OpenParenthesis) h k = absurd k
    at kind h k = absurd h

-- ---- expressions

-- two readers do the same with a token that begins an expression
abbrev pub Alike : Reader → Reader → Type 0
Alike r other = (kind : TokenKind) (l : Line) → begins kind ≡ true → feed r kind l ≡ feed other kind l

token_alike : (r other : Reader) (kind : TokenKind) (l : Line) (after : List Lexeme) → Alike r other → begins kind ≡ true
    → run (feed r kind l) after ≡ run (feed other kind l) after
token_alike r other kind l after h k = ap (λ r. run r after) (h kind l k)

mutual
  unfolding print_exp

  pub exp_alike : (e : Exp) (r other : Reader) (after : List Lexeme) → Alike r other → run r (print_exp e after) ≡ run other (print_exp e after)
  exp_alike (tree.nil l) r other after h = token_alike r other (Word word.Nil) l after h refl
  exp_alike (tree.false_ l) r other after h = token_alike r other (Word word.False) l after h refl
  exp_alike (tree.true_ l) r other after h = token_alike r other (Word word.True) l after h refl
  exp_alike (tree.number l n) r other after h = token_alike r other (Number n) l after h refl
  exp_alike (tree.string l bytes) r other after h = token_alike r other (Text bytes) l after h refl
  exp_alike (tree.dots l) r other after h = token_alike r other (Sign sign.Ellipsis) l after h refl
  exp_alike (tree.function l body) r other after h = token_alike r other (Word word.Function) l (print_funcbody body after) h refl
  exp_alike (tree.prefix p) r other after h = prefix_alike p r other after h
  exp_alike (tree.table (tree.separated o fs c)) r other after h = token_alike r other (Sign sign.OpenBrace) o (print_fields fs (a_sign sign.CloseBrace c after)) h refl
  exp_alike (tree.table (tree.ending o fs f c)) r other after h =
      token_alike r other (Sign sign.OpenBrace) o (print_fields fs (print_field f (a_sign sign.CloseBrace c after))) h refl
  exp_alike (tree.binary a op l b) r other after h = exp_alike a r other _ h
  exp_alike (tree.unary unary.Not l e) r other after h = token_alike r other (Word word.Not) l (print_exp e after) h refl
  exp_alike (tree.unary unary.Length l e) r other after h = token_alike r other (Sign sign.Hash) l (print_exp e after) h refl
  exp_alike (tree.unary unary.Minus l e) r other after h = token_alike r other (Sign sign.Minus) l (print_exp e after) h refl

  prefix_alike : (p : PrefixExp) (r other : Reader) (after : List Lexeme) → Alike r other → run r (print_prefixexp p after) ≡ run other (print_prefixexp p after)
  prefix_alike (tree.variable l n) r other after h = token_alike r other (Name n) l after h refl
  prefix_alike (tree.paren o e c) r other after h = token_alike r other (Sign sign.OpenParenthesis) o (print_exp e (a_sign sign.CloseParenthesis c after)) h refl
  prefix_alike (tree.item p o e c) r other after h = prefix_alike p r other _ h
  prefix_alike (tree.member p d l n) r other after h = prefix_alike p r other _ h
  prefix_alike (tree.call p a) r other after h = prefix_alike p r other _ h
  prefix_alike (tree.method p c l n a) r other after h = prefix_alike p r other _ h

pub list_alike : (es : ExpList) (r other : Reader) (after : List Lexeme) → Alike r other → run r (print_explist es after) ≡ run other (print_explist es after)
unfolding print_explist
list_alike (tree.one e) r other after h = exp_alike e r other after h
list_alike (tree.more es c e) r other after h = list_alike es r other _ h

-- ---- statements

-- the first token begins a statement, and is `(` only where that is said
abbrev Starts : Type 0 → List Lexeme → Type 0
Starts paren xs = ComesNext IsStart xs × ((paren → ⊥) → ComesNext IsNoParen xs)

prefix_starts : (p : PrefixExp) (after : List Lexeme) → Starts (BeginsWithParen p) (print_prefixexp p after)
unfolding print_prefixexp
prefix_starts (tree.variable l n) after = (tt, λ h. tt)
prefix_starts (tree.paren o e c) after = (tt, λ h. absurd (h tt))
prefix_starts (tree.item p o e c) after = prefix_starts p _
prefix_starts (tree.member p d l n) after = prefix_starts p _
prefix_starts (tree.call p a) after = prefix_starts p _
prefix_starts (tree.method p c l n a) after = prefix_starts p _

vars_start : (vs : VarList) (after : List Lexeme) → Starts (VarsBeginWithParen vs) (print_varlist vs after)
unfolding print_varlist
vars_start (tree.one_var p) after = prefix_starts p after
vars_start (tree.more_vars vs c p) after = vars_start vs _

arms_start : (arms : Arms) (after : List Lexeme) → Starts ⊥ (print_arms arms after)
unfolding print_arms
arms_start (tree.if_arm i t h b) after = (tt, λ h. tt)
arms_start (tree.elseif_arm arms i t h b) after = arms_start arms _

stat_starts : (s : Stat) (after : List Lexeme) → Starts (StatBeginsWithParen s) (print_stat s after)
unfolding print_stat
stat_starts (tree.assign vs q es) after = vars_start vs _
stat_starts (tree.call_statement p) after = prefix_starts p after
stat_starts (tree.if_then arms x) after = arms_start arms _
stat_starts (tree.if_else arms l b x) after = arms_start arms _
stat_starts other after = (tt, λ h. tt)

last_starts : (s : LastStat) (after : List Lexeme) → ComesNext IsStart (print_laststat s after) × ComesNext IsNoParen (print_laststat s after)
unfolding print_laststat
last_starts (tree.return_none r) after = (tt, tt)
last_starts (tree.return_values r es) after = (tt, tt)
last_starts (tree.break_ b) after = (tt, tt)

-- what may stand after statements
abbrev pub Follows : Stats → List Lexeme → Type 0
Follows (tree.more_stats ss s tree.bare) after = ComesNext IsStart after × (StatEndsWithPrefix s → ComesNext IsNoParen after)
Follows (tree.more_stats ss s (tree.closed l)) after = ComesNext IsStart after
Follows tree.no_stats after = Unit {0}

pub stat_follows : (ss : Stats) (s : Stat) (after : List Lexeme) → MayFollow ss s → Follows ss (print_stat s after)
stat_follows tree.no_stats s after h = tt
stat_follows (tree.more_stats ss before tree.bare) s after h = let starts = stat_starts s after in (starts.0, λ ends. starts.1 (h ends))
stat_follows (tree.more_stats ss before (tree.closed l)) s after h = (stat_starts s after).0

follows : (ss : Stats) (after : List Lexeme) → ComesNext IsStart after → ComesNext IsNoParen after → Follows ss after
follows tree.no_stats after h k = tt
follows (tree.more_stats ss s tree.bare) after h k = (h, λ ends. k)
follows (tree.more_stats ss s (tree.closed l)) after h k = h

pub last_follows : (ss : Stats) (s : LastStat) (after : List Lexeme) → Follows ss (print_laststat s after)
last_follows ss s after = let starts = last_starts s after in follows ss _ starts.0 starts.1

pub end_follows : (ss : Stats) (after : List Lexeme) → ComesNext IsBlockEnd after → Follows ss after
end_follows ss after h = follows ss after (weaker IsBlockEnd IsStart after block_end_starts h) (weaker IsBlockEnd IsNoParen after block_end_is_no_paren h)

-- what stands after a statement, be it a `;` or another
pub record IsAfter (s : Type 0) (xs : List Lexeme) : Type 0 where
  pub next : ComesNext IsNext xs
  pub apart : s → ComesNext IsApart xs

pub after_stat : (ss : Stats) (s : Stat) (x : End) (after : List Lexeme) → Follows (tree.more_stats ss s x) after → IsAfter (StatEndsWithPrefix s) (print_end x after)
after_stat ss s tree.bare after h =
    record { next = weaker IsStart IsNext after start_is_next h.0; apart = λ ends. start_is_apart after h.0 (h.1 ends) }
after_stat ss s (tree.closed l) after h = record { next = tt; apart = λ ends. tt }

pub starts_after : (ss : Stats) (s : Stat) (x : End) (after : List Lexeme) → Follows (tree.more_stats ss s x) after → ComesNext IsStart after
starts_after ss s tree.bare after h = h.0
starts_after ss s (tree.closed l) after h = h

pub after_last : (x : End) (after : List Lexeme) → ComesNext IsBlockEnd after → IsAfter (Unit {0}) (print_end x after)
after_last tree.bare after h =
    let starts = weaker IsBlockEnd IsStart after block_end_starts h in record {
      next = weaker IsStart IsNext after start_is_next starts;
      apart = λ ends. start_is_apart after starts (weaker IsBlockEnd IsNoParen after block_end_is_no_paren h);
    }
after_last (tree.closed l) after h = record { next = tt; apart = λ ends. tt }

pub return_ends_there : (x : End) (after : List Lexeme) → ComesNext IsBlockEnd after → ComesNext IsReturnEnd (print_end x after)
return_ends_there tree.bare after h = weaker IsBlockEnd IsReturnEnd after block_end_ends_return h
return_ends_there (tree.closed l) after h = tt

-- ---- after statements that may stand there each of them is handed on

next_no_comma : (kind : TokenKind) → IsNext kind → IsNoComma kind
next_no_comma (Sign sign.Comma) h = absurd h
next_no_comma kind h = tt

next_no_assign : (kind : TokenKind) → IsNext kind → IsNoAssign kind
next_no_assign (Sign sign.Assign) h = absurd h
next_no_assign kind h = tt

start_no_semicolon : (kind : TokenKind) → IsStart kind → IsNoSemicolon kind
start_no_semicolon (Sign sign.Semicolon) h = absurd h
start_no_semicolon kind h = tt

none : (after : List Lexeme) → ComesNext IsNext after → ComesNext IsNoOperator after
none after h = weaker IsNext IsNoOperator after no_operator h

pub stat_stops : (s : Stat) (after : List Lexeme) → IsAfter (StatEndsWithPrefix s) after → StatStops s after
stat_stops (tree.assign vs q es) after b = (last_stops es after (none after b.next) b.apart, weaker IsNext IsNoComma after next_no_comma b.next)
stat_stops (tree.call_statement p) after b = b.apart tt
stat_stops (tree.repeat_loop r c u t) after b = (stops t after (none after b.next) b.apart, ends_in 1 after (none after b.next))
stat_stops (tree.local l ns) after b = (weaker IsNext IsNoComma after next_no_comma b.next, weaker IsNext IsNoAssign after next_no_assign b.next)
stat_stops (tree.local_values l ns q es) after b = (last_stops es after (none after b.next) b.apart, weaker IsNext IsNoComma after next_no_comma b.next)
stat_stops other after b = tt

end_stops : (x : End) (after : List Lexeme) → ComesNext IsStart after → EndStops x after
end_stops tree.bare after h = weaker IsStart IsNoSemicolon after start_no_semicolon h
end_stops (tree.closed l) after h = tt

pub stats_stop : (ss : Stats) (after : List Lexeme) → Follows ss after → StatsStop ss after
stats_stop tree.no_stats after f = tt
stats_stop (tree.more_stats ss s x) after f = (stat_stops s (print_end x after) (after_stat ss s x after f), end_stops x after (starts_after ss s x after f))

-- after the last statement of a block
pub last_ends : (x : End) (after : List Lexeme) → ComesNext IsBlockEnd after → EndStops x after
last_ends x after h = end_stops x after (weaker IsBlockEnd IsStart after block_end_starts h)

pub last_list : (es : ExpList) (x : End) (after : List Lexeme) → ComesNext IsBlockEnd after → LastStops es (print_end x after) × ComesNext IsNoComma (print_end x after)
last_list es x after h =
    let b = after_last x after h in
    (last_stops es _ (none _ b.next) (λ ends. b.apart tt), weaker IsNext IsNoComma (print_end x after) next_no_comma b.next)

last_stat_stops : (s : LastStat) (x : End) (after : List Lexeme) → ComesNext IsBlockEnd after → LastStatStops s (print_end x after)
last_stat_stops (tree.return_none r) x after h = return_ends_there x after h
last_stat_stops (tree.return_values r es) x after h = last_list es x after h
last_stat_stops (tree.break_ b) x after h = tt

-- where a block ends
pub block_stops : (b : Block) (after : List Lexeme) → ComesNext IsBlockEnd after → BlockStops b after
block_stops (tree.statements ss) after h = (stats_stop ss after (end_follows ss after h), h)
block_stops (tree.with_last ss s x) after h = (last_stat_stops s x after h, last_ends x after h)

pub arms_stop : (arms : Arms) (after : List Lexeme) → ComesNext IsBlockEnd after → ArmsStop arms after
arms_stop (tree.if_arm i t h b) after e = block_stops b after e
arms_stop (tree.elseif_arm those i t h b) after e = block_stops b after e
