-- What a reader of tokens does with a token. It takes one after the other, and looks at no later one.
use Rattle.std.specs.Prelude.{ℕ, Bool, true, false, if◌then◌else◌, List, [], ◌∷◌, ◌++◌, Some, None}
use Rattle.lua_ast.specs.declared.expressions.UnOp.TheVariants as unary
use Rattle.lua_lexer.specs.declared.tokens.TokenKind.{TokenKind}
use Rattle.lua_lexer.specs.declared.tokens.TokenKind.TheVariants.{Name, Text, Number, Word, Sign}
use Rattle.lua_lexer.specs.declared.signs.Sign.TheVariants as sign
use Rattle.lua_lexer.specs.declared.words.Word.TheVariants as word
use Rattle.lua_grammar.specs.Operators.{right_level}
use Rattle.lua_grammar.specs.Tree.{Line, Bytes, NameList, Params, FuncName, End, Exp, PrefixExp, Args, ExpList, Table, Fields, Field, FuncBody, Block, Stats}
use Rattle.lua_grammar.specs.Tree.{Stat, Arms, LastStat, VarList}
use Rattle.lua_grammar.specs.Tree as tree
use Rattle.lua_grammar.specs.Printing.{Lexeme, a_word}
use Rattle.lua_grammar.specs.Waiting.{Reader, failed, chunk, token, exp, more_exp, more_prefix, more_list, more_fields, more_names, more_funcname, more_vars}
use Rattle.lua_grammar.specs.Waiting.{more_arms, more_stats, unless_assign, after_statement, after_local, after_return, operator_of, above, name}
use Rattle.lua_grammar.specs.Waiting.{close_parenthesis, close_bracket, equals, comma, do_, then_, end_, until_}

-- ---- productions from their first token on

abbrev pub block : (Block → Reader) → Reader
block k = more_stats tree.no_stats k

abbrev pub list : (ExpList → Reader) → Reader
list k = exp 1 (λ e. more_list (tree.one e) k)

abbrev pub body_after : Line → (FuncBody → Reader) → Params → Line → Reader
body_after o k ps c = block (λ b. token (end_ (λ e. k (tree.function_body o ps c b e))))

abbrev pub params : Line → (FuncBody → Reader) → TokenKind → Line → Reader
params o k (Sign sign.CloseParenthesis) c = body_after o k tree.no_params c
params o k (Sign sign.Ellipsis) d = token (close_parenthesis (body_after o k (tree.only_vararg d)))
params o k (Name n) l =
    more_names (tree.first_name l n) (λ ns. token (close_parenthesis (body_after o k (tree.names ns))))
    (λ ns c d. token (close_parenthesis (body_after o k (tree.names_and_vararg ns c d))))
params o k other l = failed

abbrev pub body : (FuncBody → Reader) → TokenKind → Line → Reader
body k (Sign sign.OpenParenthesis) o = token (params o k)
body k other o = failed

abbrev pub begin_prefix : (PrefixExp → Reader) → TokenKind → Line → Reader
begin_prefix k (Name n) l = more_prefix (tree.variable l n) k
begin_prefix k (Sign sign.OpenParenthesis) o = exp 1 (λ e. token (close_parenthesis (λ c. more_prefix (tree.paren o e c) k)))
begin_prefix k other l = failed

abbrev pub begin_exp : ℕ → (Exp → Reader) → TokenKind → Line → Reader
begin_exp m k (Word word.Nil) l = more_exp m (tree.nil l) k
begin_exp m k (Word word.False) l = more_exp m (tree.false_ l) k
begin_exp m k (Word word.True) l = more_exp m (tree.true_ l) k
begin_exp m k (Word word.Function) l = token (body (λ b. more_exp m (tree.function l b) k))
begin_exp m k (Word word.Not) l = exp 7 (λ e. more_exp m (tree.unary unary.Not l e) k)
begin_exp m k (Number n) l = more_exp m (tree.number l n) k
begin_exp m k (Text bytes) l = more_exp m (tree.string l bytes) k
begin_exp m k (Name n) l = begin_prefix (λ p. more_exp m (tree.prefix p) k) (Name n) l
begin_exp m k (Sign sign.Ellipsis) l = more_exp m (tree.dots l) k
begin_exp m k (Sign sign.Hash) l = exp 7 (λ e. more_exp m (tree.unary unary.Length l e) k)
begin_exp m k (Sign sign.Minus) l = exp 7 (λ e. more_exp m (tree.unary unary.Minus l e) k)
begin_exp m k (Sign sign.OpenParenthesis) l = begin_prefix (λ p. more_exp m (tree.prefix p) k) (Sign sign.OpenParenthesis) l
begin_exp m k (Sign sign.OpenBrace) l = more_fields l tree.no_fields (λ t. more_exp m (tree.table t) k)
begin_exp m k other l = failed

abbrev pub begin_list : (ExpList → Reader) → TokenKind → Line → Reader
begin_list k kind l = begin_exp 1 (λ e. more_list (tree.one e) k) kind l

abbrev pub args : Line → (Args → Reader) → TokenKind → Line → Reader
args o k (Sign sign.CloseParenthesis) l = k (tree.no_args o l)
args o k kind l = begin_list (λ es. token (close_parenthesis (λ c. k (tree.args o es c)))) kind l

abbrev pub begin_args : (Args → Reader) → TokenKind → Line → Reader
begin_args k (Sign sign.OpenParenthesis) l = token (args l k)
begin_args k (Sign sign.OpenBrace) l = more_fields l tree.no_fields (λ t. k (tree.table_arg t))
begin_args k (Text bytes) l = k (tree.string_arg l bytes)
begin_args k other l = failed

abbrev pub after_field : Line → Fields → (Table → Reader) → Field → TokenKind → Line → Reader
after_field o fs k f (Sign sign.Comma) l = more_fields o (tree.more_fields fs f (tree.comma l)) k
after_field o fs k f (Sign sign.Semicolon) l = more_fields o (tree.more_fields fs f (tree.semicolon l)) k
after_field o fs k f (Sign sign.CloseBrace) l = k (tree.ending o fs f l)
after_field o fs k f other l = failed

-- after a name that begins a field `=` may follow, and then the name is that of the field
abbrev pub field : (Field → TokenKind → Line → Reader) → TokenKind → Line → Reader
field k (Sign sign.OpenBracket) o =
    exp 1 (λ key. token (close_bracket (λ c. token (equals (λ q. exp 1 (λ e. token (k (tree.keyed o key c q e))))))))
field k (Name n) l = unless_assign (begin_exp 1 (λ e. token (k (tree.plain e))) (Name n) l) (λ q. exp 1 (λ e. token (k (tree.named l n q e))))
field k kind l = begin_exp 1 (λ e. token (k (tree.plain e))) kind l

abbrev pub fields : Line → Fields → (Table → Reader) → TokenKind → Line → Reader
fields o fs k (Sign sign.CloseBrace) c = k (tree.separated o fs c)
fields o fs k kind l = field (after_field o fs k) kind l

abbrev pub next_name : NameList → Line → (NameList → Reader) → (NameList → Line → Line → Reader) → TokenKind → Line → Reader
next_name ns c k rest (Name n) l = more_names (tree.next_name ns c l n) k rest
next_name ns c k rest (Sign sign.Ellipsis) d = rest ns c d
next_name ns c k rest other l = failed

-- ---- statements

abbrev pub no_rest : NameList → Line → Line → Reader
no_rest ns c d = failed

abbrev pub loop_body : (Line → Block → Line → Reader) → TokenKind → Line → Reader
loop_body k kind l = do_ (λ d. block (λ b. token (end_ (λ e. k d b e)))) kind l

abbrev pub for_limit : Line → Line → Bytes → Line → Exp → Line → Exp → (Stat → Reader) → TokenKind → Line → Reader
for_limit f l n q from c to k (Sign sign.Comma) m = exp 1 (λ step. token (loop_body (λ d b e. k (tree.for_steps f l n q from c to m step d b e))))
for_limit f l n q from c to k kind m = loop_body (λ d b e. k (tree.for_range f l n q from c to d b e)) kind m

abbrev pub for_tail : Line → (Stat → Reader) → NameList → TokenKind → Line → Reader
for_tail f k ns (Word word.In) i = list (λ es. token (loop_body (λ d b e. k (tree.for_in f ns i es d b e))))
for_tail f k (tree.first_name l n) (Sign sign.Assign) q = exp 1 (λ from. token (comma (λ c. exp 1 (λ to. token (for_limit f l n q from c to k)))))
for_tail f k ns other l = failed

abbrev pub for_ : Line → (Stat → Reader) → TokenKind → Line → Reader
for_ f k (Name n) l = more_names (tree.first_name l n) (λ ns. token (for_tail f k ns)) no_rest
for_ f k other l = failed

abbrev pub function_tail : Line → (Stat → Reader) → FuncName → TokenKind → Line → Reader
function_tail f k n (Sign sign.Colon) c = token (name (λ l m. token (body (λ b. k (tree.method_statement f n c l m b)))))
function_tail f k n kind l = body (λ b. k (tree.function_statement f n b)) kind l

abbrev pub function_ : Line → (Stat → Reader) → TokenKind → Line → Reader
function_ f k (Name n) l = more_funcname (tree.root_name l n) (λ g. token (function_tail f k g))
function_ f k other l = failed

abbrev pub local_ : Line → (Stat → Reader) → TokenKind → Line → Reader
local_ l k (Word word.Function) f = token (name (λ m n. token (body (λ b. k (tree.local_function l f m n b)))))
local_ l k (Name n) m = more_names (tree.first_name m n) (λ ns. after_local l ns k) no_rest
local_ l k other m = failed

abbrev pub arm : (Exp → Line → Block → Reader) → Reader
arm k = exp 1 (λ t. token (then_ (λ h. block (λ b. k t h b))))

abbrev pub next_statement : Stats → (Block → Reader) → Stat → Reader
next_statement ss k s = after_statement (λ e. more_stats (tree.more_stats ss s e) k)

abbrev pub last_statement : Stats → (Block → Reader) → LastStat → Reader
last_statement ss k s = after_statement (λ e. k (tree.with_last ss s e))

-- `var` and `functioncall` among the prefixes
abbrev pub is_variable : PrefixExp → Bool
is_variable (tree.variable l n) = true
is_variable (tree.item p o e c) = true
is_variable (tree.member p d l n) = true
is_variable other = false

abbrev pub is_call : PrefixExp → Bool
is_call (tree.call p a) = true
is_call (tree.method p c l n a) = true
is_call other = false

-- a call is a statement, and a variable is what is assigned to
abbrev pub assigns_or_calls : (Stat → Reader) → PrefixExp → Reader
assigns_or_calls k p =
    if is_call p then k (tree.call_statement p)
    else (if is_variable p then more_vars (tree.one_var p) k else failed)

abbrev pub next_target : VarList → Line → (Stat → Reader) → PrefixExp → Reader
next_target vs c k p = if is_variable p then more_vars (tree.more_vars vs c p) k else failed

abbrev pub statement : (Stat → Reader) → TokenKind → Line → Reader
statement k (Word word.Do) d = block (λ b. token (end_ (λ e. k (tree.do_block d b e))))
statement k (Word word.While) w = exp 1 (λ t. token (loop_body (λ d b e. k (tree.while_loop w t d b e))))
statement k (Word word.Repeat) r = block (λ b. token (until_ (λ u. exp 1 (λ t. k (tree.repeat_loop r b u t)))))
statement k (Word word.If) i = arm (λ t h b. more_arms (tree.if_arm i t h b) k)
statement k (Word word.For) f = token (for_ f k)
statement k (Word word.Function) f = token (function_ f k)
statement k (Word word.Local) l = token (local_ l k)
statement k kind l = begin_prefix (assigns_or_calls k) kind l

abbrev pub last : (LastStat → Reader) → TokenKind → Line → Reader
last k (Word word.Return) r = after_return r k
last k (Word word.Break) b = k (tree.break_ b)
last k other l = failed

-- ---- one token

abbrev pub feed : Reader → TokenKind → Line → Reader
feed failed kind l = failed
feed (chunk b) kind l = failed
feed (token k) kind l = k kind l
feed (exp m k) kind l = begin_exp m k kind l
feed (more_exp m e k) kind l = elim (above m (operator_of kind)) [
  | Some op ↦ exp (right_level op) (λ b. more_exp m (tree.binary e op l b) k)
  | None ↦ feed (k e) kind l
]
feed (more_prefix p k) (Sign sign.Dot) d = token (name (λ l n. more_prefix (tree.member p d l n) k))
feed (more_prefix p k) (Sign sign.OpenBracket) o = exp 1 (λ e. token (close_bracket (λ c. more_prefix (tree.item p o e c) k)))
feed (more_prefix p k) (Sign sign.Colon) c = token (name (λ l n. token (begin_args (λ a. more_prefix (tree.method p c l n a) k))))
feed (more_prefix p k) (Sign sign.OpenParenthesis) l = begin_args (λ a. more_prefix (tree.call p a) k) (Sign sign.OpenParenthesis) l
feed (more_prefix p k) (Sign sign.OpenBrace) l = begin_args (λ a. more_prefix (tree.call p a) k) (Sign sign.OpenBrace) l
feed (more_prefix p k) (Text bytes) l = begin_args (λ a. more_prefix (tree.call p a) k) (Text bytes) l
feed (more_prefix p k) kind l = feed (k p) kind l
feed (more_list es k) (Sign sign.Comma) c = exp 1 (λ e. more_list (tree.more es c e) k)
feed (more_list es k) kind l = feed (k es) kind l
feed (more_fields o fs k) kind l = fields o fs k kind l
feed (more_names ns k rest) (Sign sign.Comma) c = token (next_name ns c k rest)
feed (more_names ns k rest) kind l = feed (k ns) kind l
feed (more_funcname f k) (Sign sign.Dot) d = token (name (λ l n. more_funcname (tree.name_member f d l n) k))
feed (more_funcname f k) kind l = feed (k f) kind l
feed (more_vars vs k) (Sign sign.Comma) c = token (begin_prefix (next_target vs c k))
feed (more_vars vs k) (Sign sign.Assign) q = list (λ es. k (tree.assign vs q es))
feed (more_vars vs k) kind l = failed
feed (more_arms arms k) (Word word.ElseIf) i = arm (λ t h b. more_arms (tree.elseif_arm arms i t h b) k)
feed (more_arms arms k) (Word word.Else) l = block (λ b. token (end_ (λ e. k (tree.if_else arms l b e))))
feed (more_arms arms k) (Word word.End) e = k (tree.if_then arms e)
feed (more_arms arms k) kind l = failed
feed (more_stats ss k) (Word word.End) l = feed (k (tree.statements ss)) (Word word.End) l
feed (more_stats ss k) (Word word.Else) l = feed (k (tree.statements ss)) (Word word.Else) l
feed (more_stats ss k) (Word word.ElseIf) l = feed (k (tree.statements ss)) (Word word.ElseIf) l
feed (more_stats ss k) (Word word.Until) l = feed (k (tree.statements ss)) (Word word.Until) l
feed (more_stats ss k) (Word word.Return) l = last (last_statement ss k) (Word word.Return) l
feed (more_stats ss k) (Word word.Break) l = last (last_statement ss k) (Word word.Break) l
feed (more_stats ss k) kind l = statement (next_statement ss k) kind l
feed (unless_assign r k) (Sign sign.Assign) q = k q
feed (unless_assign r k) kind l = feed r kind l
feed (after_statement k) (Sign sign.Semicolon) l = k (tree.closed l)
feed (after_statement k) kind l = feed (k tree.bare) kind l
feed (after_local l ns k) (Sign sign.Assign) q = list (λ es. k (tree.local_values l ns q es))
feed (after_local l ns k) kind m = feed (k (tree.local l ns)) kind m
feed (after_return r k) (Sign sign.Semicolon) l = feed (k (tree.return_none r)) (Sign sign.Semicolon) l
feed (after_return r k) (Word word.End) l = feed (k (tree.return_none r)) (Word word.End) l
feed (after_return r k) (Word word.Else) l = feed (k (tree.return_none r)) (Word word.Else) l
feed (after_return r k) (Word word.ElseIf) l = feed (k (tree.return_none r)) (Word word.ElseIf) l
feed (after_return r k) (Word word.Until) l = feed (k (tree.return_none r)) (Word word.Until) l
feed (after_return r k) kind l = begin_list (λ es. k (tree.return_values r es)) kind l

-- ---- all tokens

abbrev pub run : Reader → List Lexeme → Reader
run r [] = r
run r (first ∷ after) = run (feed r first.kind first.line) after

-- a chunk is read up to an `end` that is put after it
abbrev pub read_chunk : Reader
read_chunk = block (λ b. token (end_ (λ l. chunk b)))

abbrev pub read : List Lexeme → Reader
read tokens = run read_chunk (tokens ++ a_word word.End 1 [])
