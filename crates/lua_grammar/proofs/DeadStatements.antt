-- What begins a statement is dead where the statement is so after each tree that it may read.
use Rattle.lua_lexer.specs.declared.tokens.TokenKind.{TokenKind}
use Rattle.lua_lexer.specs.declared.tokens.TokenKind.TheVariants.{Name, Word, Sign}
use Rattle.lua_lexer.specs.declared.signs.Sign.TheVariants as sign
use Rattle.lua_lexer.specs.declared.words.Word.TheVariants as word
use Rattle.lua_grammar.specs.Tree.{Line, Bytes, NameList, FuncName, Exp, PrefixExp, Block, Stats, Stat, LastStat, VarList}
use Rattle.lua_grammar.specs.Tree as tree
use Rattle.lua_grammar.specs.Waiting.{Reader, token, exp, more_names, more_vars, more_arms, more_stats, end_, until_}
use Rattle.lua_grammar.specs.Reading.{block, next_name, loop_body, for_limit, for_tail, for_, function_tail, function_, local_, arm, next_statement, last_statement, assigns_or_calls, next_target, statement, last}
use Rattle.lua_grammar.specs.Dead.{NamesFrom, VarsFrom, StatsFrom, IsDead}
use Rattle.lua_grammar.proofs.DeadParts.{names_from_on, vars_from_on, stats_from_on, dead_name, dead_comma, dead_do, dead_then, dead_until, dead_block, dead_to_end, dead_body, dead_begin_prefix}

pub dead_next_name : (ns : NameList) (c : Line) (k : NameList → Reader) (rest : NameList → Line → Line → Reader) → IsDead (more_names ns k rest)
    → (kind : TokenKind) (l : Line) → IsDead (next_name ns c k rest kind l)
dead_next_name ns c k rest dead (Name n) l = λ those from. dead those (names_from_on (NamesFrom.more ns c l n NamesFrom.alone) from)
dead_next_name ns c k rest dead (Sign sign.Ellipsis) d = (dead ns NamesFrom.alone).1 c d
dead_next_name ns c k rest dead other l = tt

-- ---- loops

pub dead_loop_body : (k : Line → Block → Line → Reader) → ((d : Line) (b : Block) (e : Line) → IsDead (k d b e)) → (kind : TokenKind) (l : Line) → IsDead (loop_body k kind l)
dead_loop_body k dead kind l = dead_do (λ d. block (λ b. token (end_ (λ e. k d b e)))) (λ d. dead_to_end (k d) (dead d)) kind l

pub dead_for_limit : (f l : Line) (n : Bytes) (q : Line) (from : Exp) (c : Line) (to : Exp) (k : Stat → Reader) → ((s : Stat) → IsDead (k s))
    → (kind : TokenKind) (m : Line) → IsDead (for_limit f l n q from c to k kind m)
dead_for_limit f l n q from c to k dead (Sign sign.Comma) m = λ step. dead_loop_body _ (λ d b e. dead (tree.for_steps f l n q from c to m step d b e))
dead_for_limit f l n q from c to k dead kind m =
    dead_loop_body (λ d b e. k (tree.for_range f l n q from c to d b e)) (λ d b e. dead (tree.for_range f l n q from c to d b e)) kind m

pub dead_for_tail : (f : Line) (k : Stat → Reader) → ((s : Stat) → IsDead (k s)) → (ns : NameList) (kind : TokenKind) (i : Line) → IsDead (for_tail f k ns kind i)
dead_for_tail f k dead ns (Word word.In) i = λ e es from. dead_loop_body _ (λ d b x. dead (tree.for_in f ns i es d b x))
dead_for_tail f k dead (tree.first_name l n) (Sign sign.Assign) q = λ from. dead_comma _ (λ c to. dead_for_limit f l n q from c to k dead)
dead_for_tail f k dead ns other i = tt

pub dead_for : (f : Line) (k : Stat → Reader) → ((s : Stat) → IsDead (k s)) → (kind : TokenKind) (l : Line) → IsDead (for_ f k kind l)
dead_for f k dead (Name n) l = λ those from. (dead_for_tail f k dead those, λ c d. tt)
dead_for f k dead other l = tt

-- ---- functions and locals

pub dead_function_tail : (f : Line) (k : Stat → Reader) → ((s : Stat) → IsDead (k s)) → (n : FuncName) (kind : TokenKind) (l : Line) → IsDead (function_tail f k n kind l)
dead_function_tail f k dead n (Sign sign.Colon) c = dead_name _ (λ l m. dead_body _ (λ b. dead (tree.method_statement f n c l m b)))
dead_function_tail f k dead n kind l = dead_body (λ b. k (tree.function_statement f n b)) (λ b. dead (tree.function_statement f n b)) kind l

pub dead_function : (f : Line) (k : Stat → Reader) → ((s : Stat) → IsDead (k s)) → (kind : TokenKind) (l : Line) → IsDead (function_ f k kind l)
dead_function f k dead (Name n) l = λ whole from. dead_function_tail f k dead whole
dead_function f k dead other l = tt

pub dead_local : (l : Line) (k : Stat → Reader) → ((s : Stat) → IsDead (k s)) → (kind : TokenKind) (m : Line) → IsDead (local_ l k kind m)
dead_local l k dead (Word word.Function) f = dead_name _ (λ m n. dead_body _ (λ b. dead (tree.local_function l f m n b)))
dead_local l k dead (Name n) m = λ those from. ((dead (tree.local l those), λ q es. dead (tree.local_values l those q es)), λ c d. tt)
dead_local l k dead other m = tt

-- ---- statements

pub dead_arm : (k : Exp → Line → Block → Reader) → ((t : Exp) (h : Line) (b : Block) → IsDead (k t h b)) → IsDead (arm k)
dead_arm k dead = λ t. dead_then _ (λ h. dead_block (λ b. k t h b) (dead t h))

pub dead_next_statement : (ss : Stats) (k : Block → Reader) → IsDead (more_stats ss k) → (s : Stat) → IsDead (next_statement ss k s)
dead_next_statement ss k dead s = λ x those from. dead those (stats_from_on (StatsFrom.more ss s x StatsFrom.alone) from)

pub dead_last_statement : (ss : Stats) (k : Block → Reader) → IsDead (more_stats ss k) → (s : LastStat) → IsDead (last_statement ss k s)
dead_last_statement ss k dead s = λ x. (dead ss StatsFrom.alone).1 s x

pub dead_assigns_or_calls : (k : Stat → Reader) → ((s : Stat) → IsDead (k s)) → (p : PrefixExp) → IsDead (assigns_or_calls k p)
dead_assigns_or_calls k dead (tree.variable l n) = λ those from q es. dead (tree.assign those q es)
dead_assigns_or_calls k dead (tree.item p o e c) = λ those from q es. dead (tree.assign those q es)
dead_assigns_or_calls k dead (tree.member p d l n) = λ those from q es. dead (tree.assign those q es)
dead_assigns_or_calls k dead (tree.call p a) = dead (tree.call_statement (tree.call p a))
dead_assigns_or_calls k dead (tree.method p c l n a) = dead (tree.call_statement (tree.method p c l n a))
dead_assigns_or_calls k dead (tree.paren o e c) = tt

pub dead_next_target : (vs : VarList) (c : Line) (k : Stat → Reader) → IsDead (more_vars vs k) → (p : PrefixExp) → IsDead (next_target vs c k p)
dead_next_target vs c k dead (tree.variable l n) = λ those from. dead those (vars_from_on (VarsFrom.more vs c (tree.variable l n) VarsFrom.alone) from)
dead_next_target vs c k dead (tree.item p o e x) = λ those from. dead those (vars_from_on (VarsFrom.more vs c (tree.item p o e x) VarsFrom.alone) from)
dead_next_target vs c k dead (tree.member p d l n) = λ those from. dead those (vars_from_on (VarsFrom.more vs c (tree.member p d l n) VarsFrom.alone) from)
dead_next_target vs c k dead other = tt

pub dead_statement : (k : Stat → Reader) → ((s : Stat) → IsDead (k s)) → (kind : TokenKind) (l : Line) → IsDead (statement k kind l)
dead_statement k dead (Word word.Do) d = dead_to_end (λ b e. k (tree.do_block d b e)) (λ b e. dead (tree.do_block d b e))
dead_statement k dead (Word word.While) w = λ t. dead_loop_body _ (λ d b e. dead (tree.while_loop w t d b e))
dead_statement k dead (Word word.Repeat) r =
    dead_block (λ b. token (until_ (λ u. exp 1 (λ t. k (tree.repeat_loop r b u t))))) (λ b. dead_until _ (λ u t. dead (tree.repeat_loop r b u t)))
dead_statement k dead (Word word.If) i = dead_arm (λ t h b. more_arms (tree.if_arm i t h b) k)
    (λ t h b those from. (λ e. dead (tree.if_then those e), λ l c e. dead (tree.if_else those l c e)))
dead_statement k dead (Word word.For) f = dead_for f k dead
dead_statement k dead (Word word.Function) f = dead_function f k dead
dead_statement k dead (Word word.Local) l = dead_local l k dead
dead_statement k dead kind l = dead_begin_prefix (assigns_or_calls k) (dead_assigns_or_calls k dead) kind l

pub dead_last : (k : LastStat → Reader) → ((s : LastStat) → IsDead (k s)) → (kind : TokenKind) (l : Line) → IsDead (last k kind l)
dead_last k dead (Word word.Return) r = (dead (tree.return_none r), λ es. dead (tree.return_values r es))
dead_last k dead (Word word.Break) b = dead (tree.break_ b)
dead_last k dead other l = tt
