-- What begins a statement is live where the reader is so after each statement.
use Rattle.std.proofs.Common.{[]}
use Rattle.lua_lexer.specs.declared.tokens.TokenKind.{TokenKind}
use Rattle.lua_lexer.specs.declared.tokens.TokenKind.TheVariants.{Name, Word, Sign}
use Rattle.lua_lexer.specs.declared.signs.Sign.TheVariants as sign
use Rattle.lua_lexer.specs.declared.words.Word.TheVariants as word
use Rattle.lua_grammar.specs.Tree.{Line, Bytes, NameList, FuncName, End, Exp, PrefixExp, ExpList, Block, Stats, Stat, Arms, LastStat, VarList}
use Rattle.lua_grammar.specs.Tree as tree
use Rattle.lua_grammar.specs.Waiting.{Reader, token, exp, more_names, more_arms, after_local, end_, until_}
use Rattle.lua_grammar.specs.Reading.{block, list, body, begin_prefix, next_name, no_rest, loop_body, for_limit, for_tail, for_, function_tail, function_, local_, arm, next_statement, last_statement, assigns_or_calls, next_target, statement, last}
use Rattle.lua_grammar.proofs.LiveStates.{CanGoOn, EndsExp, EndsList, EndsBlock, IsOpen, IsLive, IsLiveAt, IsLiveAtSemicolon, IsLivePrefix, do_ends, assign_ends, in_ends, semicolon_ends_names, end_ends, by_token, at_some, at_semicolon, live_at_some, live_of_list, live_more_names, live_more_stats, live_exp}
use Rattle.lua_grammar.proofs.LiveParts.{live_name, live_comma, open_do, live_then, live_until, live_block, live_list, live_to_end, open_body, body_goes_on, live_body, open_begin_prefix, prefix_goes_on}

-- what goes on with a statement
abbrev pub IsLiveStatement : (Stat → Reader) → Type 0
IsLiveStatement k = (s : Stat) → IsLiveAtSemicolon (k s)

-- after a statement that is known
pub live_after : (k : Stat → Reader) → IsLiveStatement k → (s : Stat) → IsLive (k s)
live_after k live s = ((live s).0, by_token (k s) (Sign sign.Semicolon) (live s).1)

-- ---- names

open_next_name : (ns : NameList) (c : Line) (k : NameList → Reader) (rest : NameList → Line → Line → Reader) → IsOpen (more_names ns k rest)
    → (kind : TokenKind) (l : Line) → IsOpen (next_name ns c k rest kind l)
open_next_name ns c k rest live (Name n) l = live
open_next_name ns c k rest live (Sign sign.Ellipsis) d = (live ns).2 c d
open_next_name ns c k rest live other l = tt

pub live_next_name : (ns : NameList) (c : Line) (k : NameList → Reader) (rest : NameList → Line → Line → Reader) → IsOpen (more_names ns k rest)
    → IsLive (token (next_name ns c k rest))
live_next_name ns c k rest live =
    let on = by_token (token (next_name ns c k rest)) (Name []) (live_more_names (tree.next_name ns c 1 []) k rest live).1 in
    ((open_next_name ns c k rest live, on), on)

-- ---- loops

open_loop_body : (k : Line → Block → Line → Reader) → ((d : Line) (b : Block) (e : Line) → IsLive (k d b e)) → (kind : TokenKind) (l : Line) → IsOpen (loop_body k kind l)
open_loop_body k live kind l = open_do (λ d. block (λ b. token (end_ (λ e. k d b e)))) (λ d. live_to_end (k d) (live d)) kind l

-- by `do`
loop_body_goes_on : (k : Line → Block → Line → Reader) → ((d : Line) (b : Block) (e : Line) → IsLive (k d b e)) → CanGoOn (loop_body k (Word word.Do) 1)
loop_body_goes_on k live = (live_to_end (k 1) (live 1)).1

live_loop_body : (k : Line → Block → Line → Reader) → ((d : Line) (b : Block) (e : Line) → IsLive (k d b e)) → IsLiveAt EndsList (token (loop_body k))
live_loop_body k live =
    let on = loop_body_goes_on k live in
    ((open_loop_body k live, by_token (token (loop_body k)) (Word word.Do) on), (Word word.Do, do_ends, on))

open_for_limit : (f l : Line) (n : Bytes) (q : Line) (from : Exp) (c : Line) (to : Exp) (k : Stat → Reader) → IsLiveStatement k
    → (kind : TokenKind) (m : Line) → IsOpen (for_limit f l n q from c to k kind m)
open_for_limit f l n q from c to k live (Sign sign.Comma) m = λ step.
    let after = λ (d : Line) (b : Block) (e : Line). k (tree.for_steps f l n q from c to m step d b e) in
    live_of_list (token (loop_body after)) (live_loop_body after (λ d b e. live_after k live (tree.for_steps f l n q from c to m step d b e)))
open_for_limit f l n q from c to k live kind m =
    open_loop_body (λ d b e. k (tree.for_range f l n q from c to d b e)) (λ d b e. live_after k live (tree.for_range f l n q from c to d b e)) kind m

live_for_limit : (f l : Line) (n : Bytes) (q : Line) (from : Exp) (c : Line) (to : Exp) (k : Stat → Reader) → IsLiveStatement k
    → IsLiveAt EndsExp (token (for_limit f l n q from c to k))
live_for_limit f l n q from c to k live =
    let on = loop_body_goes_on (λ d b e. k (tree.for_range f l n q from c to d b e)) (λ d b e. live_after k live (tree.for_range f l n q from c to d b e)) in
    ((open_for_limit f l n q from c to k live, by_token (token (for_limit f l n q from c to k)) (Word word.Do) on), (Word word.Do, do_ends.last, on))

live_for_in : (f : Line) (k : Stat → Reader) → IsLiveStatement k → (ns : NameList) (i : Line) → IsLive (for_tail f k ns (Word word.In) i)
live_for_in f k live ns i =
    live_list (λ es. token (loop_body (λ d b e. k (tree.for_in f ns i es d b e))))
    (λ es. live_loop_body (λ d b e. k (tree.for_in f ns i es d b e)) (λ d b e. live_after k live (tree.for_in f ns i es d b e)))

open_for_tail : (f : Line) (k : Stat → Reader) → IsLiveStatement k → (ns : NameList) (kind : TokenKind) (i : Line) → IsOpen (for_tail f k ns kind i)
open_for_tail f k live ns (Word word.In) i = (live_for_in f k live ns i).0
open_for_tail f k live (tree.first_name l n) (Sign sign.Assign) q = λ from.
    live_comma (λ c. exp 1 (λ to. token (for_limit f l n q from c to k)))
    (λ c. live_exp 1 (λ to. token (for_limit f l n q from c to k)) (λ to. live_for_limit f l n q from c to k live))
open_for_tail f k live ns other i = tt

open_for : (f : Line) (k : Stat → Reader) → IsLiveStatement k → (kind : TokenKind) (l : Line) → IsOpen (for_ f k kind l)
open_for f k live (Name n) l = λ those.
    let on = (live_for_in f k live those 1).1 in
    ((open_for_tail f k live those, by_token (token (for_tail f k those)) (Word word.In) on), (Word word.In, in_ends, on), λ c d. tt)
open_for f k live other l = tt

live_for : (f : Line) (k : Stat → Reader) → IsLiveStatement k → IsLive (token (for_ f k))
live_for f k live =
    let names = live_more_names (tree.first_name 1 []) (λ ns. token (for_tail f k ns)) no_rest (open_for f k live (Name []) 1) in
    let on = by_token (token (for_ f k)) (Name []) names.1 in
    ((open_for f k live, on), on)

-- ---- functions and locals

open_function_tail : (f : Line) (k : Stat → Reader) → IsLiveStatement k → (n : FuncName) (kind : TokenKind) (l : Line) → IsOpen (function_tail f k n kind l)
open_function_tail f k live n (Sign sign.Colon) c =
    (live_name (λ l m. token (body (λ b. k (tree.method_statement f n c l m b))))
    (λ l m. live_body (λ b. k (tree.method_statement f n c l m b)) (λ b. live_after k live (tree.method_statement f n c l m b)))).0
open_function_tail f k live n kind l = open_body (λ b. k (tree.function_statement f n b)) (λ b. live_after k live (tree.function_statement f n b)) kind l

open_function : (f : Line) (k : Stat → Reader) → IsLiveStatement k → (kind : TokenKind) (l : Line) → IsOpen (function_ f k kind l)
open_function f k live (Name n) l = λ whole.
    let on = body_goes_on (λ b. k (tree.function_statement f whole b)) (λ b. live_after k live (tree.function_statement f whole b)) in
    ((open_function_tail f k live whole, by_token (token (function_tail f k whole)) (Sign sign.OpenParenthesis) on), on)
open_function f k live other l = tt

live_function : (f : Line) (k : Stat → Reader) → IsLiveStatement k → IsLive (token (function_ f k))
live_function f k live =
    let root = tree.root_name 1 [] in
    let on = body_goes_on (λ b. k (tree.function_statement f root b)) (λ b. live_after k live (tree.function_statement f root b)) in
    let named = by_token (token (function_ f k)) (Name []) (by_token _ (Sign sign.OpenParenthesis) on) in
    ((open_function f k live, named), named)

open_local : (l : Line) (k : Stat → Reader) → IsLiveStatement k → (kind : TokenKind) (m : Line) → IsOpen (local_ l k kind m)
open_local l k live (Word word.Function) f =
    (live_name (λ m n. token (body (λ b. k (tree.local_function l f m n b))))
    (λ m n. live_body (λ b. k (tree.local_function l f m n b)) (λ b. live_after k live (tree.local_function l f m n b)))).0
open_local l k live (Name n) m = λ those. (live, (Sign sign.Semicolon, semicolon_ends_names, (live (tree.local l those)).1), λ c d. tt)
open_local l k live other m = tt

live_local : (l : Line) (k : Stat → Reader) → IsLiveStatement k → IsLive (token (local_ l k))
live_local l k live =
    let names = live_more_names (tree.first_name 1 []) (λ ns. after_local l ns k) no_rest (open_local l k live (Name []) 1) in
    let on = by_token (token (local_ l k)) (Name []) names.1 in
    ((open_local l k live, on), on)

-- ---- statements

pub live_arm : (k : Exp → Line → Block → Reader) → ((t : Exp) (h : Line) (b : Block) → IsLiveAt EndsBlock (k t h b)) → IsLive (arm k)
live_arm k live = live_exp 1 _ (λ t. live_then (λ h. block (λ b. k t h b)) (λ h. live_block (λ b. k t h b) (live t h)))

-- arms go on by `end`
pub live_more_arms : (arms : Arms) (k : Stat → Reader) → IsLiveStatement k → IsLiveAt EndsBlock (more_arms arms k)
live_more_arms arms k live = (live, (Word word.End, end_ends, (live_after k live (tree.if_then arms 1)).1))

pub live_next_statement : (ss : Stats) (k : Block → Reader) → ((b : Block) → IsLiveAt EndsBlock (k b)) → IsLiveStatement (next_statement ss k)
live_next_statement ss k live s =
    (λ x. live_more_stats (tree.more_stats ss s x) k live, (live_more_stats (tree.more_stats ss s (tree.closed 1)) k live).1)

pub live_last_statement : (ss : Stats) (k : Block → Reader) → ((b : Block) → IsLiveAt EndsBlock (k b)) → (s : LastStat) → IsLiveAtSemicolon (last_statement ss k s)
live_last_statement ss k live s =
    (λ x. live_at_some (k (tree.with_last ss s x)) (live (tree.with_last ss s x)), at_some (k (tree.with_last ss s (tree.closed 1))) (live (tree.with_last ss s (tree.closed 1))).1)

-- the values of an assignment
pub live_values : (vs : VarList) (k : Stat → Reader) → IsLiveStatement k → (q : Line) → IsLive (list (λ es. k (tree.assign vs q es)))
live_values vs k live q = live_list (λ es. k (tree.assign vs q es)) (λ es. at_semicolon (k (tree.assign vs q es)) (live (tree.assign vs q es)))

open_assigns_or_calls : (k : Stat → Reader) → IsLiveStatement k → (p : PrefixExp) → IsOpen (assigns_or_calls k p)
open_assigns_or_calls k live (tree.variable l n) = live
open_assigns_or_calls k live (tree.item p o e c) = live
open_assigns_or_calls k live (tree.member p d l n) = live
open_assigns_or_calls k live (tree.call p a) = (live (tree.call_statement (tree.call p a))).0
open_assigns_or_calls k live (tree.method p c l n a) = (live (tree.call_statement (tree.method p c l n a))).0
open_assigns_or_calls k live (tree.paren o e c) = tt

live_assigns_or_calls : (k : Stat → Reader) → IsLiveStatement k → IsLivePrefix (assigns_or_calls k)
live_assigns_or_calls k live =
    (open_assigns_or_calls k live, λ p d l n. (Sign sign.Assign, assign_ends, (live_values (tree.one_var (tree.member p d l n)) k live 1).1))

open_next_target : (vs : VarList) (c : Line) (k : Stat → Reader) → IsLiveStatement k → (p : PrefixExp) → IsOpen (next_target vs c k p)
open_next_target vs c k live (tree.variable l n) = live
open_next_target vs c k live (tree.item p o e x) = live
open_next_target vs c k live (tree.member p d l n) = live
open_next_target vs c k live other = tt

live_next_target : (vs : VarList) (c : Line) (k : Stat → Reader) → IsLiveStatement k → IsLivePrefix (next_target vs c k)
live_next_target vs c k live =
    (open_next_target vs c k live, λ p d l n. (Sign sign.Assign, assign_ends, (live_values (tree.more_vars vs c (tree.member p d l n)) k live 1).1))

pub open_more_targets : (vs : VarList) (c : Line) (k : Stat → Reader) → IsLiveStatement k → IsOpen (token (begin_prefix (next_target vs c k)))
open_more_targets vs c k live =
    let target = live_next_target vs c k live in
    (open_begin_prefix (next_target vs c k) target, by_token _ (Name []) (prefix_goes_on (next_target vs c k) target))

pub open_statement : (k : Stat → Reader) → IsLiveStatement k → (kind : TokenKind) (l : Line) → IsOpen (statement k kind l)
open_statement k live (Word word.Do) d = (live_to_end (λ b e. k (tree.do_block d b e)) (λ b e. live_after k live (tree.do_block d b e))).0
open_statement k live (Word word.While) w = λ t.
    let after = λ (d : Line) (b : Block) (e : Line). k (tree.while_loop w t d b e) in
    live_of_list (token (loop_body after)) (live_loop_body after (λ d b e. live_after k live (tree.while_loop w t d b e)))
open_statement k live (Word word.Repeat) r =
    (live_block (λ b. token (until_ (λ u. exp 1 (λ t. k (tree.repeat_loop r b u t)))))
    (λ b. live_until _ (λ u. live_exp 1 (λ t. k (tree.repeat_loop r b u t)) (λ t. live_of_list _ (at_semicolon _ (live (tree.repeat_loop r b u t))))))).0
open_statement k live (Word word.If) i =
    (live_arm (λ t h b. more_arms (tree.if_arm i t h b) k) (λ t h b. live_more_arms (tree.if_arm i t h b) k live)).0
open_statement k live (Word word.For) f = (live_for f k live).0
open_statement k live (Word word.Function) f = (live_function f k live).0
open_statement k live (Word word.Local) l = (live_local l k live).0
open_statement k live kind l = open_begin_prefix (assigns_or_calls k) (live_assigns_or_calls k live) kind l

pub open_last : (k : LastStat → Reader) → ((s : LastStat) → IsLiveAtSemicolon (k s)) → (kind : TokenKind) (l : Line) → IsOpen (last k kind l)
open_last k live (Word word.Return) r = live
open_last k live (Word word.Break) b = (live (tree.break_ b)).0
open_last k live other l = tt
