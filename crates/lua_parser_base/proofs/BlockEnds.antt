-- What stands after a statement or a block.
use Rattle.std.proofs.Common.{List, [], ◌∷◌, refl}
use Rattle.lua_lexer.specs.declared.tokens.TokenKind.{TokenKind}
use Rattle.lua_lexer.specs.declared.tokens.TokenKind.TheVariants.{Sign}
use Rattle.lua_lexer.specs.declared.signs.Sign.TheVariants as sign
use Rattle.lua_grammar.specs.Tree.{Line, End, Exp, ExpList, Block, Stats, Stat, Arms, LastStat}
use Rattle.lua_grammar.specs.Tree as tree
use Rattle.lua_grammar.specs.Printing.{Lexeme, a_kind}
use Rattle.lua_grammar.specs.Stopping.{IsNoSemicolon, Stops, LastStops, StatStops, StatsStop, LastStatStops, BlockStops, ArmsStop}
use Rattle.lua_parser_base.specs.Next.{Begin, IsKind, first_kind}
use Rattle.lua_parser_base.specs.Readers.{GoOn}
use Rattle.lua_parser_base.proofs.Printed.{go_after}

-- only the kind of the next token matters
exp_alike : (e : Exp) (kind : TokenKind) (l m : Line) (xs ys : List Lexeme) → Stops e (a_kind kind l xs) → Stops e (a_kind kind m ys)
exp_alike (tree.prefix p) kind l m xs ys h = h
exp_alike (tree.binary a op n b) kind l m xs ys h = (h.0, exp_alike b kind l m xs ys h.1)
exp_alike (tree.unary op n e) kind l m xs ys h = (h.0, exp_alike e kind l m xs ys h.1)
exp_alike other kind l m xs ys h = tt

list_alike : (es : ExpList) (kind : TokenKind) (l m : Line) (xs ys : List Lexeme) → LastStops es (a_kind kind l xs) → LastStops es (a_kind kind m ys)
list_alike (tree.one e) kind l m xs ys h = (exp_alike e kind l m xs ys h.0, h.1)
list_alike (tree.more es c e) kind l m xs ys h = (exp_alike e kind l m xs ys h.0, h.1)

stat_alike : (s : Stat) (kind : TokenKind) (l m : Line) (xs ys : List Lexeme) → StatStops s (a_kind kind l xs) → StatStops s (a_kind kind m ys)
stat_alike (tree.assign vs q es) kind l m xs ys h = (list_alike es kind l m xs ys h.0, h.1)
stat_alike (tree.call_statement p) kind l m xs ys h = h
stat_alike (tree.repeat_loop r b u t) kind l m xs ys h = (exp_alike t kind l m xs ys h.0, h.1)
stat_alike (tree.local n ns) kind l m xs ys h = h
stat_alike (tree.local_values n ns q es) kind l m xs ys h = (list_alike es kind l m xs ys h.0, h.1)
stat_alike other kind l m xs ys h = tt

last_stat_alike : (s : LastStat) (kind : TokenKind) (l m : Line) (xs ys : List Lexeme) → LastStatStops s (a_kind kind l xs) → LastStatStops s (a_kind kind m ys)
last_stat_alike (tree.return_none r) kind l m xs ys h = h
last_stat_alike (tree.return_values r es) kind l m xs ys h = (list_alike es kind l m xs ys h.0, h.1)
last_stat_alike (tree.break_ b) kind l m xs ys h = tt

stats_alike : (ss : Stats) (kind : TokenKind) (l m : Line) (xs ys : List Lexeme) → StatsStop ss (a_kind kind l xs) → StatsStop ss (a_kind kind m ys)
stats_alike tree.no_stats kind l m xs ys h = tt
stats_alike (tree.more_stats ss s tree.bare) kind l m xs ys h = (stat_alike s kind l m xs ys h.0, h.1)
stats_alike (tree.more_stats ss s (tree.closed c)) kind l m xs ys h = (stat_alike s (Sign sign.Semicolon) c c (a_kind kind l xs) (a_kind kind m ys) h.0, tt)

block_alike : (b : Block) (kind : TokenKind) (l m : Line) (xs ys : List Lexeme) → BlockStops b (a_kind kind l xs) → BlockStops b (a_kind kind m ys)
block_alike (tree.statements ss) kind l m xs ys h = (stats_alike ss kind l m xs ys h.0, h.1)
block_alike (tree.with_last ss s tree.bare) kind l m xs ys h = (last_stat_alike s kind l m xs ys h.0, h.1)
block_alike (tree.with_last ss s (tree.closed c)) kind l m xs ys h = (last_stat_alike s (Sign sign.Semicolon) c c (a_kind kind l xs) (a_kind kind m ys) h.0, tt)

arms_alike : (arms : Arms) (kind : TokenKind) (l m : Line) (xs ys : List Lexeme) → ArmsStop arms (a_kind kind l xs) → ArmsStop arms (a_kind kind m ys)
arms_alike (tree.if_arm i t h b) kind l m xs ys stops = block_alike b kind l m xs ys stops
arms_alike (tree.elseif_arm those i t h b) kind l m xs ys stops = block_alike b kind l m xs ys stops

pub stat_on : (s : Stat) (left xs : List Lexeme) → GoOn left xs → StatStops s (a_kind (first_kind left) 1 []) → StatStops s xs
stat_on s left xs h stops = go_after (StatStops s) (λ kind l ys. stat_alike s kind 1 l [] ys) left xs h stops

pub last_stat_on : (s : LastStat) (left xs : List Lexeme) → GoOn left xs → LastStatStops s (a_kind (first_kind left) 1 []) → LastStatStops s xs
last_stat_on s left xs h stops = go_after (LastStatStops s) (λ kind l ys. last_stat_alike s kind 1 l [] ys) left xs h stops

pub stats_on : (ss : Stats) (left xs : List Lexeme) → GoOn left xs → StatsStop ss (a_kind (first_kind left) 1 []) → StatsStop ss xs
stats_on ss left xs h stops = go_after (StatsStop ss) (λ kind l ys. stats_alike ss kind 1 l [] ys) left xs h stops

pub block_on : (b : Block) (left xs : List Lexeme) → GoOn left xs → BlockStops b (a_kind (first_kind left) 1 []) → BlockStops b xs
block_on b left xs h stops = go_after (BlockStops b) (λ kind l ys. block_alike b kind 1 l [] ys) left xs h stops

pub arms_on : (arms : Arms) (left xs : List Lexeme) → GoOn left xs → ArmsStop arms (a_kind (first_kind left) 1 []) → ArmsStop arms xs
arms_on arms left xs h stops = go_after (ArmsStop arms) (λ kind l ys. arms_alike arms kind 1 l [] ys) left xs h stops

-- where no `;` is next
other_kind : (kind : TokenKind) → (IsKind (Sign sign.Semicolon) kind → ⊥) → IsNoSemicolon kind
other_kind (Sign sign.Semicolon) h = absurd (h refl)
other_kind kind h = tt

pub no_semicolon : (left : List Lexeme) → (Begin (IsKind (Sign sign.Semicolon)) left → ⊥) → IsNoSemicolon (first_kind left)
no_semicolon [] h = tt
no_semicolon (first ∷ after) h = other_kind first.kind h
