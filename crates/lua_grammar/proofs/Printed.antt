-- What a reader reads prints to its tokens.
use Rattle.std.proofs.Common.{◌≡◌, ℕ, Option, Some, None, true, false, nat_le, if◌then◌else◌, List, [], ◌∷◌, ◌++◌, refl, sym, ap, ◌∙◌}
use Rattle.std.proofs.lemmas.List.{append-nil}
use Rattle.lua_lexer.specs.declared.tokens.TokenKind.{TokenKind}
use Rattle.lua_lexer.specs.declared.tokens.TokenKind.TheVariants.{Text, Word, Sign}
use Rattle.lua_lexer.specs.declared.signs.Sign.TheVariants as sign
use Rattle.lua_lexer.specs.declared.words.Word.TheVariants as word
use Rattle.lua_grammar.specs.declared.operators.Operator.{Operator}
use Rattle.lua_grammar.specs.Operators.{kind_of, level, right_level}
use Rattle.lua_grammar.specs.Tree.{Line, Exp, PrefixExp, Block}
use Rattle.lua_grammar.specs.Tree as tree
use Rattle.lua_grammar.specs.Printing.{Lexeme, a_kind, a_word, a_sign, a_name, print_names, print_funcname, print_exp, print_prefixexp, print_explist, print_block, print_stats, print_arms, print_varlist}
use Rattle.lua_grammar.specs.Waiting.{Reader, failed, chunk, token, exp, more_exp, more_prefix, more_list, more_fields, more_names, more_funcname, more_vars, more_arms, more_stats, unless_assign, after_statement, after_local, after_return, operator_of, above, end_}
use Rattle.lua_grammar.specs.Reading.{begin_args, next_statement, last_statement, next_target, feed, run, read_chunk, read}
use Rattle.lua_grammar.proofs.Before.{block_before}
use Rattle.lua_grammar.proofs.PrintedStates.{Tokens, ◌∘◌, IsPrinted}
use Rattle.lua_grammar.proofs.PrintedParts.{printed_name, printed_close_bracket, printed_end, printed_block, printed_list, printed_to_end, printed_begin_prefix, printed_begin_exp, printed_begin_list, printed_begin_args, printed_fields}
use Rattle.lua_grammar.proofs.PrintedStatements.{printed_next_name, printed_arm, printed_next_statement, printed_last_statement, printed_next_target, printed_statement, printed_last}

-- ---- a token that continues an expression is that of its operator

abbrev IsTokenOf : Option Operator → TokenKind → Type 0
IsTokenOf (Some op) kind = kind_of op ≡ kind
IsTokenOf None kind = Unit {0}

token_of_operator : (kind : TokenKind) → IsTokenOf (operator_of kind) kind
token_of_operator (Word word.Or) = refl
token_of_operator (Word word.And) = refl
token_of_operator (Sign sign.Plus) = refl
token_of_operator (Sign sign.Minus) = refl
token_of_operator (Sign sign.Star) = refl
token_of_operator (Sign sign.Slash) = refl
token_of_operator (Sign sign.Percent) = refl
token_of_operator (Sign sign.Caret) = refl
token_of_operator (Sign sign.Concat) = refl
token_of_operator (Sign sign.Equal) = refl
token_of_operator (Sign sign.NotEqual) = refl
token_of_operator (Sign sign.Less) = refl
token_of_operator (Sign sign.LessEqual) = refl
token_of_operator (Sign sign.Greater) = refl
token_of_operator (Sign sign.GreaterEqual) = refl
token_of_operator other = tt

token_above : (m : ℕ) (found : Option Operator) (kind : TokenKind) → IsTokenOf found kind → IsTokenOf (above m found) kind
token_above m None kind is = is
token_above m (Some op) kind is = elim (nat_le m (level op)) as (λ fits. IsTokenOf (if fits then Some op else None) kind) [
  | true ↦ is
  | false ↦ tt
]

-- ---- one token

-- after the same tokens
printed_same : {done those : Tokens} (r : Reader) (kind : TokenKind) (l : Line) → done ≡ those
    → IsPrinted (those ∘ a_kind kind l) r → IsPrinted (done ∘ a_kind kind l) r
printed_same r kind l same printed = rw same printed

-- after an expression, an operator and its second operand
printed_binary : (m : ℕ) (e : Exp) (op : Operator) (l : Line) (k : Exp → Reader) (before : Tokens)
    → ((whole : Exp) → IsPrinted (before ∘ print_exp whole) (k whole)) → (kind : TokenKind) → kind_of op ≡ kind
    → IsPrinted (before ∘ print_exp e ∘ a_kind kind l) (exp (right_level op) (λ b. more_exp m (tree.binary e op l b) k))
unfolding print_exp
printed_binary m e op l k before printed kind is = λ b. (before, ap (λ kind. before ∘ print_exp e ∘ a_kind kind l ∘ print_exp b) (sym is), printed)

-- after a prefix, arguments
printed_call : (p : PrefixExp) (k : PrefixExp → Reader) (before : Tokens) → ((whole : PrefixExp) → IsPrinted (before ∘ print_prefixexp whole) (k whole))
    → (kind : TokenKind) (l : Line) → IsPrinted (before ∘ print_prefixexp p ∘ a_kind kind l) (begin_args (λ a. more_prefix (tree.call p a) k) kind l)
unfolding print_exp
printed_call p k before printed kind l =
    printed_begin_args (λ a. more_prefix (tree.call p a) k) (before ∘ print_prefixexp p) (λ a. (before, refl, printed)) kind l

pub printed_feed : (r : Reader) (done : Tokens) → IsPrinted done r → (kind : TokenKind) (l : Line) → IsPrinted (done ∘ a_kind kind l) (feed r kind l)
unfolding print_exp
printed_feed failed done printed kind l = tt
printed_feed (chunk b) done printed kind l = tt
printed_feed (token k) done printed kind l = printed kind l
printed_feed (exp m k) done printed kind l = printed_begin_exp m k done printed kind l
printed_feed (more_exp m e k) done (before, same, printed) kind l = rw same
    (elim (above m (operator_of kind))
    as (λ found. IsTokenOf found kind → IsPrinted (before ∘ print_exp e ∘ a_kind kind l) (elim found [
      | Some op ↦ exp (right_level op) (λ b. more_exp m (tree.binary e op l b) k)
      | None ↦ feed (k e) kind l
    ])) [
      | Some op ↦ λ is. printed_binary m e op l k before printed kind is
      | None ↦ λ is. printed_feed (k e) (before ∘ print_exp e) (printed e) kind l
    ] (token_above m (operator_of kind) kind (token_of_operator kind)))
printed_feed (more_prefix p k) done (before, same, printed) (Sign sign.Dot) d = rw same
    (printed_name (λ l n. more_prefix (tree.member p d l n) k) (before ∘ print_prefixexp p ∘ a_sign sign.Dot d) (λ l n. (before, refl, printed)))
printed_feed (more_prefix p k) done (before, same, printed) (Sign sign.OpenBracket) o = rw same (λ e.
    printed_close_bracket (λ c. more_prefix (tree.item p o e c) k) (before ∘ print_prefixexp p ∘ a_sign sign.OpenBracket o ∘ print_exp e) (λ c. (before, refl, printed)))
printed_feed (more_prefix p k) done (before, same, printed) (Sign sign.Colon) c =
    let colon = before ∘ print_prefixexp p ∘ a_sign sign.Colon c in
    rw same (printed_name (λ l n. token (begin_args (λ a. more_prefix (tree.method p c l n a) k))) colon
    (λ l n. printed_begin_args (λ a. more_prefix (tree.method p c l n a) k) (colon ∘ a_name l n) (λ a. (before, refl, printed))))
printed_feed (more_prefix p k) done (before, same, printed) (Sign sign.OpenParenthesis) l = rw same (printed_call p k before printed (Sign sign.OpenParenthesis) l)
printed_feed (more_prefix p k) done (before, same, printed) (Sign sign.OpenBrace) l = rw same (printed_call p k before printed (Sign sign.OpenBrace) l)
printed_feed (more_prefix p k) done (before, same, printed) (Text bytes) l = rw same (printed_call p k before printed (Text bytes) l)
printed_feed (more_prefix p k) done (before, same, printed) kind l = rw same (printed_feed (k p) (before ∘ print_prefixexp p) (printed p) kind l)
printed_feed (more_list es k) done (before, same, printed) (Sign sign.Comma) c = rw same (λ e. (before, refl, printed))
printed_feed (more_list es k) done (before, same, printed) kind l = rw same (printed_feed (k es) (before ∘ print_explist es) (printed es) kind l)
printed_feed (more_fields o fs k) done (before, same, printed) kind l = rw same (printed_fields o fs k before printed kind l)
printed_feed (more_names ns k rest) done (before, same, printed, printed_rest) (Sign sign.Comma) c =
    rw same (printed_next_name ns c k rest before printed printed_rest)
printed_feed (more_names ns k rest) done (before, same, printed, printed_rest) kind l =
    rw same (printed_feed (k ns) (before ∘ print_names ns) (printed ns) kind l)
printed_feed (more_funcname f k) done (before, same, printed) (Sign sign.Dot) d = rw same
    (printed_name (λ l n. more_funcname (tree.name_member f d l n) k) (before ∘ print_funcname f ∘ a_sign sign.Dot d) (λ l n. (before, refl, printed)))
printed_feed (more_funcname f k) done (before, same, printed) kind l = rw same (printed_feed (k f) (before ∘ print_funcname f) (printed f) kind l)
printed_feed (more_vars vs k) done (before, same, printed) (Sign sign.Comma) c = rw same
    (printed_begin_prefix (next_target vs c k) (before ∘ print_varlist vs ∘ a_sign sign.Comma c) (printed_next_target vs c k before printed))
printed_feed (more_vars vs k) done (before, same, printed) (Sign sign.Assign) q = rw same
    (printed_list (λ es. k (tree.assign vs q es)) (before ∘ print_varlist vs ∘ a_sign sign.Assign q) (λ es. printed (tree.assign vs q es)))
printed_feed (more_vars vs k) done printed kind l = tt
printed_feed (more_arms arms k) done (before, same, printed) (Word word.ElseIf) i = rw same
    (printed_arm (λ t h b. more_arms (tree.elseif_arm arms i t h b) k) (before ∘ print_arms arms ∘ a_word word.ElseIf i) (λ t h b. (before, refl, printed)))
printed_feed (more_arms arms k) done (before, same, printed) (Word word.Else) l = rw same
    (printed_to_end (λ b e. k (tree.if_else arms l b e)) (before ∘ print_arms arms ∘ a_word word.Else l) (λ b e. printed (tree.if_else arms l b e)))
printed_feed (more_arms arms k) done (before, same, printed) (Word word.End) e = rw same (printed (tree.if_then arms e))
printed_feed (more_arms arms k) done printed kind l = tt
printed_feed (more_stats ss k) done (before, same, printed) (Word word.End) l =
    rw same (printed_feed (k (tree.statements ss)) (before ∘ print_stats ss) (printed (tree.statements ss)) (Word word.End) l)
printed_feed (more_stats ss k) done (before, same, printed) (Word word.Else) l =
    rw same (printed_feed (k (tree.statements ss)) (before ∘ print_stats ss) (printed (tree.statements ss)) (Word word.Else) l)
printed_feed (more_stats ss k) done (before, same, printed) (Word word.ElseIf) l =
    rw same (printed_feed (k (tree.statements ss)) (before ∘ print_stats ss) (printed (tree.statements ss)) (Word word.ElseIf) l)
printed_feed (more_stats ss k) done (before, same, printed) (Word word.Until) l =
    rw same (printed_feed (k (tree.statements ss)) (before ∘ print_stats ss) (printed (tree.statements ss)) (Word word.Until) l)
printed_feed (more_stats ss k) done (before, same, printed) (Word word.Return) l =
    rw same (printed_last (last_statement ss k) (before ∘ print_stats ss) (printed_last_statement ss k before printed) (Word word.Return) l)
printed_feed (more_stats ss k) done (before, same, printed) (Word word.Break) l =
    rw same (printed_last (last_statement ss k) (before ∘ print_stats ss) (printed_last_statement ss k before printed) (Word word.Break) l)
printed_feed (more_stats ss k) done (before, same, printed) kind l = printed_same (feed (more_stats ss k) kind l) kind l same
    (printed_statement (next_statement ss k) (before ∘ print_stats ss) (printed_next_statement ss k before printed) kind l)
printed_feed (unless_assign r k) done printed (Sign sign.Assign) q = printed.1 q
printed_feed (unless_assign r k) done printed kind l = printed_feed r done printed.0 kind l
printed_feed (after_statement k) done printed (Sign sign.Semicolon) l = printed (tree.closed l)
printed_feed (after_statement k) done printed kind l = printed_feed (k tree.bare) done (printed tree.bare) kind l
printed_feed (after_local l ns k) done (before, same, printed) (Sign sign.Assign) q = rw same
    (printed_list (λ es. k (tree.local_values l ns q es)) (before ∘ a_word word.Local l ∘ print_names ns ∘ a_sign sign.Assign q)
    (λ es. printed (tree.local_values l ns q es)))
printed_feed (after_local l ns k) done (before, same, printed) kind m =
    rw same (printed_feed (k (tree.local l ns)) (before ∘ a_word word.Local l ∘ print_names ns) (printed (tree.local l ns)) kind m)
printed_feed (after_return r k) done (before, same, printed) (Sign sign.Semicolon) l =
    rw same (printed_feed (k (tree.return_none r)) (before ∘ a_word word.Return r) (printed (tree.return_none r)) (Sign sign.Semicolon) l)
printed_feed (after_return r k) done (before, same, printed) (Word word.End) l =
    rw same (printed_feed (k (tree.return_none r)) (before ∘ a_word word.Return r) (printed (tree.return_none r)) (Word word.End) l)
printed_feed (after_return r k) done (before, same, printed) (Word word.Else) l =
    rw same (printed_feed (k (tree.return_none r)) (before ∘ a_word word.Return r) (printed (tree.return_none r)) (Word word.Else) l)
printed_feed (after_return r k) done (before, same, printed) (Word word.ElseIf) l =
    rw same (printed_feed (k (tree.return_none r)) (before ∘ a_word word.Return r) (printed (tree.return_none r)) (Word word.ElseIf) l)
printed_feed (after_return r k) done (before, same, printed) (Word word.Until) l =
    rw same (printed_feed (k (tree.return_none r)) (before ∘ a_word word.Return r) (printed (tree.return_none r)) (Word word.Until) l)
printed_feed (after_return r k) done (before, same, printed) kind l = printed_same (feed (after_return r k) kind l) kind l same
    (printed_begin_list (λ es. k (tree.return_values r es)) (before ∘ a_word word.Return r) (λ es. printed (tree.return_values r es)) kind l)

pub printed_run : (r : Reader) (done : Tokens) → IsPrinted done r → (xs : List Lexeme) → IsPrinted (done ∘ ◌++◌ xs) (run r xs)
printed_run r done printed [] = printed
printed_run r done printed (first ∷ after) =
    printed_run (feed r first.kind first.line) (done ∘ a_kind first.kind first.line) (printed_feed r done printed first.kind first.line) after

-- ---- a chunk

-- up to its `end`
printed_chunk : IsPrinted (λ after. after) read_chunk
printed_chunk = printed_block (λ b. token (end_ (λ l. chunk b))) (λ after. after) (λ b. printed_end (λ l. chunk b) (print_block b) (λ l. (l, refl)))

printed_is : (r : Reader) (done : Tokens) (b : Block) → IsPrinted done r → r ≡ chunk b → (l : Line) × done ≡ print_block b ∘ a_word word.End l
printed_is r done b printed is = rw is at printed

-- all but the last
abbrev initial : List Lexeme → List Lexeme
initial [] = []
initial (x ∷ []) = []
initial (x ∷ y ∷ xs) = x ∷ initial (y ∷ xs)

initial_after : (xs : List Lexeme) (x : Lexeme) → initial (xs ++ x ∷ []) ≡ xs
initial_after [] x = refl
initial_after (y ∷ []) x = refl
initial_after (y ∷ z ∷ xs) x = ap (λ those. y ∷ those) (initial_after (z ∷ xs) x)

same_but_last : (xs ys : List Lexeme) (x y : Lexeme) → xs ++ x ∷ [] ≡ ys ++ y ∷ [] → xs ≡ ys
same_but_last xs ys x y same = sym (initial_after xs x) ∙ ap initial same ∙ initial_after ys y

-- the tokens that lead to a chunk are those of the chunk, and an `end`
pub ends_in_end : (tokens : List Lexeme) (block : Block) → run read_chunk tokens ≡ chunk block → (l : Line) × tokens ≡ print_block block [] ++ a_word word.End l []
ends_in_end tokens block is =
    let ends = printed_is (run read_chunk tokens) (◌++◌ tokens) block (printed_run read_chunk (λ after. after) printed_chunk tokens) is in
    (ends.0, sym (append-nil tokens) ∙ ap (λ (f : Tokens). f []) ends.1 ∙ (block_before block).splits [] (a_word word.End ends.0 []))

pub read_prints : (tokens : List Lexeme) (block : Block) → read tokens ≡ chunk block → print_block block [] ≡ tokens
read_prints tokens block is =
    let ends = ends_in_end (tokens ++ a_word word.End 1 []) block is in same_but_last (print_block block []) tokens _ _ (sym ends.1)
