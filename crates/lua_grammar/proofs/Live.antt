-- From a live state each token leads to a live state or to `failed`; so a reader that hasn't failed can go on to a chunk.
use Rattle.std.proofs.Common.{◌≡◌, ◌⊎◌, inl, inr, List, [], ◌∷◌, ◌++◌, Some, None, ◌∙◌, refl}
use Rattle.lua_lexer.specs.declared.tokens.TokenKind.{TokenKind}
use Rattle.lua_lexer.specs.declared.tokens.TokenKind.TheVariants.{Text, Word, Sign}
use Rattle.lua_lexer.specs.declared.signs.Sign.TheVariants as sign
use Rattle.lua_lexer.specs.declared.words.Word.TheVariants as word
use Rattle.lua_grammar.specs.Tree.{Line, PrefixExp, Block}
use Rattle.lua_grammar.specs.Tree as tree
use Rattle.lua_grammar.specs.Printing.{Lexeme}
use Rattle.lua_grammar.specs.Operators.{right_level}
use Rattle.lua_grammar.specs.Waiting.{Reader, failed, chunk, token, exp, more_exp, more_prefix, more_list, more_fields, more_names, more_funcname, more_vars, more_arms, more_stats, unless_assign, after_statement, after_local, after_return, operator_of, above}
use Rattle.lua_grammar.specs.Reading.{begin_args, next_statement, last_statement, feed, run, read_chunk}
use Rattle.lua_grammar.proofs.LiveStates.{CanGoOn, IsOpen, IsLivePrefix, on_line_one, by_token, at_some, at_semicolon, live_more_exp, live_more_list, live_more_names, live_more_stats, live_more_prefix, live_exp}
use Rattle.lua_grammar.proofs.LiveParts.{live_name, live_close_bracket, live_end, live_list, live_to_end, open_begin_exp, open_begin_list, open_begin_args, live_begin_args, open_fields}
use Rattle.lua_grammar.proofs.LiveStatements.{live_after, live_next_name, live_arm, live_more_arms, live_next_statement, live_last_statement, live_values, open_more_targets, open_statement, open_last}

-- after a prefix, arguments
open_call : (p : PrefixExp) (k : PrefixExp → Reader) → IsLivePrefix k → (kind : TokenKind) (l : Line) → IsOpen (begin_args (λ a. more_prefix (tree.call p a) k) kind l)
open_call p k live kind l = open_begin_args (λ a. more_prefix (tree.call p a) k) (λ a. live_more_prefix (tree.call p a) k live) kind l

pub open_feed : (r : Reader) → IsOpen r → (kind : TokenKind) (l : Line) → IsOpen (feed r kind l)
open_feed failed live kind l = tt
open_feed (chunk b) live kind l = tt
open_feed (token k) live kind l = live.0 kind l
open_feed (exp m k) live kind l = open_begin_exp m k live kind l
open_feed (more_exp m e k) live kind l = elim (above m (operator_of kind))
    as (λ found. IsOpen (elim found [
      | Some op ↦ exp (right_level op) (λ b. more_exp m (tree.binary e op l b) k)
      | None ↦ feed (k e) kind l
    ])) [
      | Some op ↦ λ b. live_more_exp m (tree.binary e op l b) k live
      | None ↦ open_feed (k e) (live e).0 kind l
    ]
open_feed (more_prefix p k) live (Sign sign.Dot) d =
    (live_name (λ l n. more_prefix (tree.member p d l n) k) (λ l n. live_more_prefix (tree.member p d l n) k live)).0
open_feed (more_prefix p k) live (Sign sign.OpenBracket) o = λ e.
    live_close_bracket (λ c. more_prefix (tree.item p o e c) k) (λ c. live_more_prefix (tree.item p o e c) k live)
open_feed (more_prefix p k) live (Sign sign.Colon) c =
    (live_name (λ l n. token (begin_args (λ a. more_prefix (tree.method p c l n a) k)))
    (λ l n. live_begin_args (λ a. more_prefix (tree.method p c l n a) k) (λ a. live_more_prefix (tree.method p c l n a) k live))).0
open_feed (more_prefix p k) live (Sign sign.OpenParenthesis) l = open_call p k live (Sign sign.OpenParenthesis) l
open_feed (more_prefix p k) live (Sign sign.OpenBrace) l = open_call p k live (Sign sign.OpenBrace) l
open_feed (more_prefix p k) live (Text bytes) l = open_call p k live (Text bytes) l
open_feed (more_prefix p k) live kind l = open_feed (k p) (live.0 p) kind l
open_feed (more_list es k) live (Sign sign.Comma) c = λ e. live_more_list (tree.more es c e) k live
open_feed (more_list es k) live kind l = open_feed (k es) (live es).0 kind l
open_feed (more_fields o fs k) live kind l = open_fields o fs k live kind l
open_feed (more_names ns k rest) live (Sign sign.Comma) c = (live_next_name ns c k rest live).0
open_feed (more_names ns k rest) live kind l = open_feed (k ns) (live ns).0 kind l
open_feed (more_funcname f k) live (Sign sign.Dot) d =
    (live_name (λ l n. more_funcname (tree.name_member f d l n) k)
    (λ l n. (live, by_token (more_funcname (tree.name_member f d l n) k) (Sign sign.OpenParenthesis) (live (tree.name_member f d l n)).1))).0
open_feed (more_funcname f k) live kind l = open_feed (k f) (live f).0 kind l
open_feed (more_vars vs k) live (Sign sign.Comma) c = open_more_targets vs c k live
open_feed (more_vars vs k) live (Sign sign.Assign) q = (live_values vs k live q).0
open_feed (more_vars vs k) live kind l = tt
open_feed (more_arms arms k) live (Word word.ElseIf) i =
    (live_arm (λ t h b. more_arms (tree.elseif_arm arms i t h b) k) (λ t h b. live_more_arms (tree.elseif_arm arms i t h b) k live)).0
open_feed (more_arms arms k) live (Word word.Else) l =
    (live_to_end (λ b e. k (tree.if_else arms l b e)) (λ b e. live_after k live (tree.if_else arms l b e))).0
open_feed (more_arms arms k) live (Word word.End) e = (live (tree.if_then arms e)).0
open_feed (more_arms arms k) live kind l = tt
open_feed (more_stats ss k) live (Word word.End) l = open_feed (k (tree.statements ss)) (live (tree.statements ss)).0 (Word word.End) l
open_feed (more_stats ss k) live (Word word.Else) l = open_feed (k (tree.statements ss)) (live (tree.statements ss)).0 (Word word.Else) l
open_feed (more_stats ss k) live (Word word.ElseIf) l = open_feed (k (tree.statements ss)) (live (tree.statements ss)).0 (Word word.ElseIf) l
open_feed (more_stats ss k) live (Word word.Until) l = open_feed (k (tree.statements ss)) (live (tree.statements ss)).0 (Word word.Until) l
open_feed (more_stats ss k) live (Word word.Return) l = open_last (last_statement ss k) (live_last_statement ss k live) (Word word.Return) l
open_feed (more_stats ss k) live (Word word.Break) l = open_last (last_statement ss k) (live_last_statement ss k live) (Word word.Break) l
open_feed (more_stats ss k) live kind l = open_statement (next_statement ss k) (live_next_statement ss k live) kind l
open_feed (unless_assign r k) live (Sign sign.Assign) q = live.1 q
open_feed (unless_assign r k) live kind l = open_feed r live.0 kind l
open_feed (after_statement k) live (Sign sign.Semicolon) l = (live (tree.closed l)).0
open_feed (after_statement k) live kind l = open_feed (k tree.bare) (live tree.bare).0 kind l
open_feed (after_local l ns k) live (Sign sign.Assign) q =
    (live_list (λ es. k (tree.local_values l ns q es)) (λ es. at_semicolon (k (tree.local_values l ns q es)) (live (tree.local_values l ns q es)))).0
open_feed (after_local l ns k) live kind m = open_feed (k (tree.local l ns)) (live (tree.local l ns)).0 kind m
open_feed (after_return r k) live (Sign sign.Semicolon) l = open_feed (k (tree.return_none r)) (live (tree.return_none r)).0 (Sign sign.Semicolon) l
open_feed (after_return r k) live (Word word.End) l = open_feed (k (tree.return_none r)) (live (tree.return_none r)).0 (Word word.End) l
open_feed (after_return r k) live (Word word.Else) l = open_feed (k (tree.return_none r)) (live (tree.return_none r)).0 (Word word.Else) l
open_feed (after_return r k) live (Word word.ElseIf) l = open_feed (k (tree.return_none r)) (live (tree.return_none r)).0 (Word word.ElseIf) l
open_feed (after_return r k) live (Word word.Until) l = open_feed (k (tree.return_none r)) (live (tree.return_none r)).0 (Word word.Until) l
open_feed (after_return r k) live kind l =
    open_begin_list (λ es. k (tree.return_values r es)) (λ es. at_semicolon (k (tree.return_values r es)) (live (tree.return_values r es))) kind l

pub open_run : (r : Reader) → IsOpen r → (xs : List Lexeme) → IsOpen (run r xs)
open_run r live [] = live
open_run r live (first ∷ after) = open_run (feed r first.kind first.line) (open_feed r live first.kind first.line) after

-- ---- what is open has failed, or goes on

pub fails_or_goes_on : (r : Reader) → IsOpen r → (r ≡ failed) ⊎ CanGoOn r
fails_or_goes_on failed live = inl refl
fails_or_goes_on (chunk b) live = inr ([], b, refl)
fails_or_goes_on (token k) live = inr live.1
fails_or_goes_on (exp m k) live = inr (live_exp m k live).1
fails_or_goes_on (more_exp m e k) live = inr (at_some (more_exp m e k) (live_more_exp m e k live).1)
fails_or_goes_on (more_prefix p k) live = inr (live_more_prefix p k live).1
fails_or_goes_on (more_list es k) live = inr (at_some (more_list es k) (live_more_list es k live).1)
fails_or_goes_on (more_fields o fs k) live = inr (by_token (more_fields o fs k) (Sign sign.CloseBrace) (live (tree.separated o fs 1)).1)
fails_or_goes_on (more_names ns k rest) live = inr (live_more_names ns k rest live).1
fails_or_goes_on (more_funcname f k) live = inr (by_token (more_funcname f k) (Sign sign.OpenParenthesis) (live f).1)
fails_or_goes_on (more_vars vs k) live = inr (by_token (more_vars vs k) (Sign sign.Assign) (live_values vs k live 1).1)
fails_or_goes_on (more_arms arms k) live = inr (by_token (more_arms arms k) (Word word.End) (live_after k live (tree.if_then arms 1)).1)
fails_or_goes_on (more_stats ss k) live = inr (live_more_stats ss k live).1
fails_or_goes_on (unless_assign r k) live = inr (by_token (unless_assign r k) (Sign sign.Assign) live.2)
fails_or_goes_on (after_statement k) live = inr (by_token (after_statement k) (Sign sign.Semicolon) (live (tree.closed 1)).1)
fails_or_goes_on (after_local l ns k) live = inr (by_token (after_local l ns k) (Sign sign.Semicolon) (live (tree.local l ns)).1)
fails_or_goes_on (after_return r k) live = inr (by_token (after_return r k) (Sign sign.Semicolon) (live (tree.return_none r)).1)

-- ---- a chunk

pub open_chunk : IsOpen read_chunk
open_chunk = λ b. live_end (λ l. chunk b) (λ l. (tt, ([], b, refl)))

-- what comes after is read by what was made of what comes before
pub run_after : (r : Reader) (xs ys : List Lexeme) → run r (xs ++ ys) ≡ run (run r xs) ys
run_after r [] ys = refl
run_after r (first ∷ after) ys = run_after (feed r first.kind first.line) after ys

pub goes_on_to_chunk : (tokens : List Lexeme) → (run read_chunk tokens ≡ failed → ⊥)
    → (rest : List Lexeme) × (block : Block) × run read_chunk (tokens ++ rest) ≡ chunk block
goes_on_to_chunk tokens reads = elim (fails_or_goes_on (run read_chunk tokens) (open_run read_chunk open_chunk tokens)) [
  | inl fails ↦ absurd (reads fails)
  | inr on ↦ (on_line_one on.0, on.1, run_after read_chunk tokens (on_line_one on.0) ∙ on.2)
]
