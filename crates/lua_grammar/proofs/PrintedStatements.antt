-- What begins a statement is printed where the statement is so after the tokens of each tree that it may read.
use Rattle.std.proofs.Common.{refl}
use Rattle.lua_lexer.specs.declared.tokens.TokenKind.{TokenKind}
use Rattle.lua_lexer.specs.declared.tokens.TokenKind.TheVariants.{Name, Word, Sign}
use Rattle.lua_lexer.specs.declared.signs.Sign.TheVariants as sign
use Rattle.lua_lexer.specs.declared.words.Word.TheVariants as word
use Rattle.lua_grammar.specs.Tree.{Line, Bytes, NameList, FuncName, Exp, PrefixExp, Block, Stats, Stat, LastStat, VarList}
use Rattle.lua_grammar.specs.Tree as tree
use Rattle.lua_grammar.specs.Printing.{a_kind, a_word, a_sign, a_name, print_names, print_funcname, print_exp, print_prefixexp, print_explist, print_block, print_stats, print_stat, print_laststat, print_varlist}
use Rattle.lua_grammar.specs.Waiting.{Reader, token, exp, more_arms, end_, until_}
use Rattle.lua_grammar.specs.Reading.{block, body, next_name, loop_body, for_limit, for_tail, for_, function_tail, function_, local_, arm, next_statement, last_statement, assigns_or_calls, next_target, statement, last}
use Rattle.lua_grammar.proofs.PrintedStates.{Tokens, ◌∘◌, IsPrinted}
use Rattle.lua_grammar.proofs.PrintedParts.{printed_name, printed_comma, printed_do, printed_then, printed_until, printed_block, printed_list, printed_to_end, printed_body, printed_begin_prefix}

pub printed_next_name : (ns : NameList) (c : Line) (k : NameList → Reader) (rest : NameList → Line → Line → Reader) (before : Tokens)
    → ((those : NameList) → IsPrinted (before ∘ print_names those) (k those))
    → ((those : NameList) (c d : Line) → IsPrinted (before ∘ print_names those ∘ a_sign sign.Comma c ∘ a_sign sign.Ellipsis d) (rest those c d))
    → (kind : TokenKind) (l : Line) → IsPrinted (before ∘ print_names ns ∘ a_sign sign.Comma c ∘ a_kind kind l) (next_name ns c k rest kind l)
printed_next_name ns c k rest before printed printed_rest (Name n) l = (before, refl, printed, printed_rest)
printed_next_name ns c k rest before printed printed_rest (Sign sign.Ellipsis) d = printed_rest ns c d
printed_next_name ns c k rest before printed printed_rest other l = tt

-- ---- loops

pub printed_loop_body : (k : Line → Block → Line → Reader) (done : Tokens)
    → ((d : Line) (b : Block) (e : Line) → IsPrinted (done ∘ a_word word.Do d ∘ print_block b ∘ a_word word.End e) (k d b e))
    → (kind : TokenKind) (l : Line) → IsPrinted (done ∘ a_kind kind l) (loop_body k kind l)
printed_loop_body k done printed kind l =
    printed_do (λ d. block (λ b. token (end_ (λ e. k d b e)))) done (λ d. printed_to_end (k d) (done ∘ a_word word.Do d) (printed d)) kind l

pub printed_for_limit : (f l : Line) (n : Bytes) (q : Line) (from : Exp) (c : Line) (to : Exp) (k : Stat → Reader) (done : Tokens)
    → ((s : Stat) → IsPrinted (done ∘ print_stat s) (k s)) → (kind : TokenKind) (m : Line)
    → IsPrinted
    (done ∘ a_word word.For f ∘ a_name l n ∘ a_sign sign.Assign q ∘ print_exp from ∘ a_sign sign.Comma c ∘ print_exp to ∘ a_kind kind m)
    (for_limit f l n q from c to k kind m)
unfolding print_exp
printed_for_limit f l n q from c to k done printed (Sign sign.Comma) m = λ step.
    let before = done ∘ a_word word.For f ∘ a_name l n ∘ a_sign sign.Assign q ∘ print_exp from ∘ a_sign sign.Comma c ∘ print_exp to in
    printed_loop_body (λ d b e. k (tree.for_steps f l n q from c to m step d b e)) (before ∘ a_sign sign.Comma m ∘ print_exp step)
    (λ d b e. printed (tree.for_steps f l n q from c to m step d b e))
printed_for_limit f l n q from c to k done printed kind m =
    let before = done ∘ a_word word.For f ∘ a_name l n ∘ a_sign sign.Assign q ∘ print_exp from ∘ a_sign sign.Comma c ∘ print_exp to in
    printed_loop_body (λ d b e. k (tree.for_range f l n q from c to d b e)) before (λ d b e. printed (tree.for_range f l n q from c to d b e)) kind m

pub printed_for_tail : (f : Line) (k : Stat → Reader) (done : Tokens) → ((s : Stat) → IsPrinted (done ∘ print_stat s) (k s))
    → (ns : NameList) (kind : TokenKind) (i : Line) → IsPrinted (done ∘ a_word word.For f ∘ print_names ns ∘ a_kind kind i) (for_tail f k ns kind i)
unfolding print_exp
printed_for_tail f k done printed ns (Word word.In) i =
    let before = done ∘ a_word word.For f ∘ print_names ns ∘ a_word word.In i in
    printed_list (λ es. token (loop_body (λ d b e. k (tree.for_in f ns i es d b e)))) before
    (λ es. printed_loop_body (λ d b e. k (tree.for_in f ns i es d b e)) (before ∘ print_explist es) (λ d b e. printed (tree.for_in f ns i es d b e)))
printed_for_tail f k done printed (tree.first_name l n) (Sign sign.Assign) q = λ from.
    printed_comma (λ c. exp 1 (λ to. token (for_limit f l n q from c to k)))
    (done ∘ a_word word.For f ∘ a_name l n ∘ a_sign sign.Assign q ∘ print_exp from) (λ c to. printed_for_limit f l n q from c to k done printed)
printed_for_tail f k done printed ns other i = tt

pub printed_for : (f : Line) (k : Stat → Reader) (done : Tokens) → ((s : Stat) → IsPrinted (done ∘ print_stat s) (k s))
    → (kind : TokenKind) (l : Line) → IsPrinted (done ∘ a_word word.For f ∘ a_kind kind l) (for_ f k kind l)
printed_for f k done printed (Name n) l = (done ∘ a_word word.For f, refl, printed_for_tail f k done printed, λ those c d. tt)
printed_for f k done printed other l = tt

-- ---- functions and locals

pub printed_function_tail : (f : Line) (k : Stat → Reader) (done : Tokens) → ((s : Stat) → IsPrinted (done ∘ print_stat s) (k s))
    → (n : FuncName) (kind : TokenKind) (l : Line)
    → IsPrinted (done ∘ a_word word.Function f ∘ print_funcname n ∘ a_kind kind l) (function_tail f k n kind l)
unfolding print_exp
printed_function_tail f k done printed n (Sign sign.Colon) c =
    let before = done ∘ a_word word.Function f ∘ print_funcname n ∘ a_sign sign.Colon c in
    printed_name (λ l m. token (body (λ b. k (tree.method_statement f n c l m b)))) before
    (λ l m. printed_body (λ b. k (tree.method_statement f n c l m b)) (before ∘ a_name l m) (λ b. printed (tree.method_statement f n c l m b)))
printed_function_tail f k done printed n kind l =
    printed_body (λ b. k (tree.function_statement f n b)) (done ∘ a_word word.Function f ∘ print_funcname n)
    (λ b. printed (tree.function_statement f n b)) kind l

pub printed_function : (f : Line) (k : Stat → Reader) (done : Tokens) → ((s : Stat) → IsPrinted (done ∘ print_stat s) (k s))
    → (kind : TokenKind) (l : Line) → IsPrinted (done ∘ a_word word.Function f ∘ a_kind kind l) (function_ f k kind l)
printed_function f k done printed (Name n) l = (done ∘ a_word word.Function f, refl, printed_function_tail f k done printed)
printed_function f k done printed other l = tt

pub printed_local : (l : Line) (k : Stat → Reader) (done : Tokens) → ((s : Stat) → IsPrinted (done ∘ print_stat s) (k s))
    → (kind : TokenKind) (m : Line) → IsPrinted (done ∘ a_word word.Local l ∘ a_kind kind m) (local_ l k kind m)
unfolding print_exp
printed_local l k done printed (Word word.Function) f =
    let before = done ∘ a_word word.Local l ∘ a_word word.Function f in
    printed_name (λ m n. token (body (λ b. k (tree.local_function l f m n b)))) before
    (λ m n. printed_body (λ b. k (tree.local_function l f m n b)) (before ∘ a_name m n) (λ b. printed (tree.local_function l f m n b)))
printed_local l k done printed (Name n) m = (done ∘ a_word word.Local l, refl, λ those. (done, refl, printed), λ those c d. tt)
printed_local l k done printed other m = tt

-- ---- statements

pub printed_arm : (k : Exp → Line → Block → Reader) (done : Tokens)
    → ((t : Exp) (h : Line) (b : Block) → IsPrinted (done ∘ print_exp t ∘ a_word word.Then h ∘ print_block b) (k t h b)) → IsPrinted done (arm k)
printed_arm k done printed = λ t.
    let tested = done ∘ print_exp t in
    printed_then (λ h. block (λ b. k t h b)) tested (λ h. printed_block (λ b. k t h b) (tested ∘ a_word word.Then h) (printed t h))

pub printed_next_statement : (ss : Stats) (k : Block → Reader) (before : Tokens) → ((b : Block) → IsPrinted (before ∘ print_block b) (k b))
    → (s : Stat) → IsPrinted (before ∘ print_stats ss ∘ print_stat s) (next_statement ss k s)
unfolding print_exp
printed_next_statement ss k before printed s = λ x. (before, refl, printed)

pub printed_last_statement : (ss : Stats) (k : Block → Reader) (before : Tokens) → ((b : Block) → IsPrinted (before ∘ print_block b) (k b))
    → (s : LastStat) → IsPrinted (before ∘ print_stats ss ∘ print_laststat s) (last_statement ss k s)
unfolding print_exp
printed_last_statement ss k before printed s = λ x. printed (tree.with_last ss s x)

pub printed_assigns_or_calls : (k : Stat → Reader) (done : Tokens) → ((s : Stat) → IsPrinted (done ∘ print_stat s) (k s))
    → (p : PrefixExp) → IsPrinted (done ∘ print_prefixexp p) (assigns_or_calls k p)
unfolding print_exp
printed_assigns_or_calls k done printed (tree.variable l n) = (done, refl, printed)
printed_assigns_or_calls k done printed (tree.item p o e c) = (done, refl, printed)
printed_assigns_or_calls k done printed (tree.member p d l n) = (done, refl, printed)
printed_assigns_or_calls k done printed (tree.call p a) = printed (tree.call_statement (tree.call p a))
printed_assigns_or_calls k done printed (tree.method p c l n a) = printed (tree.call_statement (tree.method p c l n a))
printed_assigns_or_calls k done printed (tree.paren o e c) = tt

pub printed_next_target : (vs : VarList) (c : Line) (k : Stat → Reader) (before : Tokens) → ((s : Stat) → IsPrinted (before ∘ print_stat s) (k s))
    → (p : PrefixExp) → IsPrinted (before ∘ print_varlist vs ∘ a_sign sign.Comma c ∘ print_prefixexp p) (next_target vs c k p)
unfolding print_exp
printed_next_target vs c k before printed (tree.variable l n) = (before, refl, printed)
printed_next_target vs c k before printed (tree.item p o e x) = (before, refl, printed)
printed_next_target vs c k before printed (tree.member p d l n) = (before, refl, printed)
printed_next_target vs c k before printed other = tt

pub printed_statement : (k : Stat → Reader) (done : Tokens) → ((s : Stat) → IsPrinted (done ∘ print_stat s) (k s))
    → (kind : TokenKind) (l : Line) → IsPrinted (done ∘ a_kind kind l) (statement k kind l)
unfolding print_exp
printed_statement k done printed (Word word.Do) d =
    printed_to_end (λ b e. k (tree.do_block d b e)) (done ∘ a_word word.Do d) (λ b e. printed (tree.do_block d b e))
printed_statement k done printed (Word word.While) w = λ t.
    printed_loop_body (λ d b e. k (tree.while_loop w t d b e)) (done ∘ a_word word.While w ∘ print_exp t) (λ d b e. printed (tree.while_loop w t d b e))
printed_statement k done printed (Word word.Repeat) r =
    let before = done ∘ a_word word.Repeat r in
    printed_block (λ b. token (until_ (λ u. exp 1 (λ t. k (tree.repeat_loop r b u t))))) before
    (λ b. printed_until (λ u. exp 1 (λ t. k (tree.repeat_loop r b u t))) (before ∘ print_block b) (λ u t. printed (tree.repeat_loop r b u t)))
printed_statement k done printed (Word word.If) i =
    printed_arm (λ t h b. more_arms (tree.if_arm i t h b) k) (done ∘ a_word word.If i) (λ t h b. (done, refl, printed))
printed_statement k done printed (Word word.For) f = printed_for f k done printed
printed_statement k done printed (Word word.Function) f = printed_function f k done printed
printed_statement k done printed (Word word.Local) l = printed_local l k done printed
printed_statement k done printed kind l = printed_begin_prefix (assigns_or_calls k) done (printed_assigns_or_calls k done printed) kind l

pub printed_last : (k : LastStat → Reader) (done : Tokens) → ((s : LastStat) → IsPrinted (done ∘ print_laststat s) (k s))
    → (kind : TokenKind) (l : Line) → IsPrinted (done ∘ a_kind kind l) (last k kind l)
unfolding print_exp
printed_last k done printed (Word word.Return) r = (done, refl, printed)
printed_last k done printed (Word word.Break) b = printed (tree.break_ b)
printed_last k done printed other l = tt
