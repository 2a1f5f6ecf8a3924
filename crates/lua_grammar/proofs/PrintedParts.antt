-- What begins a production is printed where the production is so after the tokens of each tree that it may read.
use Rattle.std.proofs.Common.{ℕ, refl}
use Rattle.lua_lexer.specs.declared.tokens.TokenKind.{TokenKind}
use Rattle.lua_lexer.specs.declared.tokens.TokenKind.TheVariants.{Name, Text, Number, Word, Sign}
use Rattle.lua_lexer.specs.declared.signs.Sign.TheVariants as sign
use Rattle.lua_lexer.specs.declared.words.Word.TheVariants as word
use Rattle.lua_grammar.specs.Tree.{Line, Bytes, Params, Exp, PrefixExp, Args, ExpList, Table, Fields, Field, FuncBody, Block}
use Rattle.lua_grammar.specs.Tree as tree
use Rattle.lua_grammar.specs.Printing.{a_kind, a_word, a_sign, a_name, print_params, print_exp, print_prefixexp, print_args, print_explist, print_table, print_fields, print_field, print_funcbody, print_block}
use Rattle.lua_grammar.specs.Waiting.{Reader, token, more_exp, more_prefix, more_list, name, close_parenthesis, close_bracket, equals, comma, do_, then_, end_, until_}
use Rattle.lua_grammar.specs.Reading.{block, list, body_after, params, body, begin_prefix, begin_exp, begin_list, args, begin_args, after_field, field, fields}
use Rattle.lua_grammar.proofs.PrintedStates.{Tokens, ◌∘◌, IsPrinted}

-- ---- one token

pub printed_name : (k : Line → Bytes → Reader) (done : Tokens) → ((l : Line) (n : Bytes) → IsPrinted (done ∘ a_name l n) (k l n))
    → (kind : TokenKind) (l : Line) → IsPrinted (done ∘ a_kind kind l) (name k kind l)
printed_name k done printed (Name n) l = printed l n
printed_name k done printed other l = tt

pub printed_close_parenthesis : (k : Line → Reader) (done : Tokens) → ((l : Line) → IsPrinted (done ∘ a_sign sign.CloseParenthesis l) (k l))
    → (kind : TokenKind) (l : Line) → IsPrinted (done ∘ a_kind kind l) (close_parenthesis k kind l)
printed_close_parenthesis k done printed (Sign sign.CloseParenthesis) l = printed l
printed_close_parenthesis k done printed other l = tt

pub printed_close_bracket : (k : Line → Reader) (done : Tokens) → ((l : Line) → IsPrinted (done ∘ a_sign sign.CloseBracket l) (k l))
    → (kind : TokenKind) (l : Line) → IsPrinted (done ∘ a_kind kind l) (close_bracket k kind l)
printed_close_bracket k done printed (Sign sign.CloseBracket) l = printed l
printed_close_bracket k done printed other l = tt

pub printed_equals : (k : Line → Reader) (done : Tokens) → ((l : Line) → IsPrinted (done ∘ a_sign sign.Assign l) (k l))
    → (kind : TokenKind) (l : Line) → IsPrinted (done ∘ a_kind kind l) (equals k kind l)
printed_equals k done printed (Sign sign.Assign) l = printed l
printed_equals k done printed other l = tt

pub printed_comma : (k : Line → Reader) (done : Tokens) → ((l : Line) → IsPrinted (done ∘ a_sign sign.Comma l) (k l))
    → (kind : TokenKind) (l : Line) → IsPrinted (done ∘ a_kind kind l) (comma k kind l)
printed_comma k done printed (Sign sign.Comma) l = printed l
printed_comma k done printed other l = tt

pub printed_do : (k : Line → Reader) (done : Tokens) → ((l : Line) → IsPrinted (done ∘ a_word word.Do l) (k l))
    → (kind : TokenKind) (l : Line) → IsPrinted (done ∘ a_kind kind l) (do_ k kind l)
printed_do k done printed (Word word.Do) l = printed l
printed_do k done printed other l = tt

pub printed_then : (k : Line → Reader) (done : Tokens) → ((l : Line) → IsPrinted (done ∘ a_word word.Then l) (k l))
    → (kind : TokenKind) (l : Line) → IsPrinted (done ∘ a_kind kind l) (then_ k kind l)
printed_then k done printed (Word word.Then) l = printed l
printed_then k done printed other l = tt

pub printed_end : (k : Line → Reader) (done : Tokens) → ((l : Line) → IsPrinted (done ∘ a_word word.End l) (k l))
    → (kind : TokenKind) (l : Line) → IsPrinted (done ∘ a_kind kind l) (end_ k kind l)
printed_end k done printed (Word word.End) l = printed l
printed_end k done printed other l = tt

pub printed_until : (k : Line → Reader) (done : Tokens) → ((l : Line) → IsPrinted (done ∘ a_word word.Until l) (k l))
    → (kind : TokenKind) (l : Line) → IsPrinted (done ∘ a_kind kind l) (until_ k kind l)
printed_until k done printed (Word word.Until) l = printed l
printed_until k done printed other l = tt

-- ---- blocks, lists and bodies of functions

pub printed_block : (k : Block → Reader) (done : Tokens) → ((b : Block) → IsPrinted (done ∘ print_block b) (k b)) → IsPrinted done (block k)
unfolding print_exp
printed_block k done printed = (done, refl, printed)

pub printed_list : (k : ExpList → Reader) (done : Tokens) → ((es : ExpList) → IsPrinted (done ∘ print_explist es) (k es)) → IsPrinted done (list k)
unfolding print_exp
printed_list k done printed = λ e. (done, refl, printed)

-- a block up to its `end`
pub printed_to_end : (k : Block → Line → Reader) (done : Tokens)
    → ((b : Block) (e : Line) → IsPrinted (done ∘ print_block b ∘ a_word word.End e) (k b e)) → IsPrinted done (block (λ b. token (end_ (λ e. k b e))))
printed_to_end k done printed =
    printed_block (λ b. token (end_ (λ e. k b e))) done (λ b. printed_end (k b) (done ∘ print_block b) (printed b))

pub printed_body_after : (o : Line) (k : FuncBody → Reader) (done : Tokens) → ((b : FuncBody) → IsPrinted (done ∘ print_funcbody b) (k b))
    → (ps : Params) (c : Line)
    → IsPrinted (done ∘ a_sign sign.OpenParenthesis o ∘ print_params ps ∘ a_sign sign.CloseParenthesis c) (body_after o k ps c)
unfolding print_exp
printed_body_after o k done printed ps c =
    printed_to_end (λ b e. k (tree.function_body o ps c b e)) (done ∘ a_sign sign.OpenParenthesis o ∘ print_params ps ∘ a_sign sign.CloseParenthesis c)
    (λ b e. printed (tree.function_body o ps c b e))

-- parameters up to their `)`
printed_params_after : (o : Line) (k : FuncBody → Reader) (done : Tokens) → ((b : FuncBody) → IsPrinted (done ∘ print_funcbody b) (k b))
    → (ps : Params) (kind : TokenKind) (l : Line)
    → IsPrinted (done ∘ a_sign sign.OpenParenthesis o ∘ print_params ps ∘ a_kind kind l) (close_parenthesis (body_after o k ps) kind l)
printed_params_after o k done printed ps =
    printed_close_parenthesis (body_after o k ps) (done ∘ a_sign sign.OpenParenthesis o ∘ print_params ps) (printed_body_after o k done printed ps)

pub printed_params : (o : Line) (k : FuncBody → Reader) (done : Tokens) → ((b : FuncBody) → IsPrinted (done ∘ print_funcbody b) (k b))
    → (kind : TokenKind) (l : Line) → IsPrinted (done ∘ a_sign sign.OpenParenthesis o ∘ a_kind kind l) (params o k kind l)
printed_params o k done printed (Sign sign.CloseParenthesis) c = printed_body_after o k done printed tree.no_params c
printed_params o k done printed (Sign sign.Ellipsis) d = printed_params_after o k done printed (tree.only_vararg d)
printed_params o k done printed (Name n) l = (
  done ∘ a_sign sign.OpenParenthesis o,
  refl,
  λ those. printed_params_after o k done printed (tree.names those),
  λ those c d. printed_params_after o k done printed (tree.names_and_vararg those c d),
)
printed_params o k done printed other l = tt

pub printed_body : (k : FuncBody → Reader) (done : Tokens) → ((b : FuncBody) → IsPrinted (done ∘ print_funcbody b) (k b))
    → (kind : TokenKind) (l : Line) → IsPrinted (done ∘ a_kind kind l) (body k kind l)
printed_body k done printed (Sign sign.OpenParenthesis) o = printed_params o k done printed
printed_body k done printed other o = tt

-- ---- expressions

pub printed_begin_prefix : (k : PrefixExp → Reader) (done : Tokens) → ((p : PrefixExp) → IsPrinted (done ∘ print_prefixexp p) (k p))
    → (kind : TokenKind) (l : Line) → IsPrinted (done ∘ a_kind kind l) (begin_prefix k kind l)
unfolding print_exp
printed_begin_prefix k done printed (Name n) l = (done, refl, printed)
printed_begin_prefix k done printed (Sign sign.OpenParenthesis) o = λ e.
    printed_close_parenthesis (λ c. more_prefix (tree.paren o e c) k) (done ∘ a_sign sign.OpenParenthesis o ∘ print_exp e) (λ c. (done, refl, printed))
printed_begin_prefix k done printed other l = tt

-- after a prefix, an expression goes on
printed_prefix : (m : ℕ) (k : Exp → Reader) (done : Tokens) → ((e : Exp) → IsPrinted (done ∘ print_exp e) (k e))
    → (kind : TokenKind) (l : Line) → IsPrinted (done ∘ a_kind kind l) (begin_prefix (λ p. more_exp m (tree.prefix p) k) kind l)
unfolding print_exp
printed_prefix m k done printed kind l = printed_begin_prefix (λ p. more_exp m (tree.prefix p) k) done (λ p. (done, refl, printed)) kind l

pub printed_begin_exp : (m : ℕ) (k : Exp → Reader) (done : Tokens) → ((e : Exp) → IsPrinted (done ∘ print_exp e) (k e))
    → (kind : TokenKind) (l : Line) → IsPrinted (done ∘ a_kind kind l) (begin_exp m k kind l)
unfolding print_exp
printed_begin_exp m k done printed (Word word.Nil) l = (done, refl, printed)
printed_begin_exp m k done printed (Word word.False) l = (done, refl, printed)
printed_begin_exp m k done printed (Word word.True) l = (done, refl, printed)
printed_begin_exp m k done printed (Word word.Function) l =
    printed_body (λ b. more_exp m (tree.function l b) k) (done ∘ a_word word.Function l) (λ b. (done, refl, printed))
printed_begin_exp m k done printed (Word word.Not) l = λ e. (done, refl, printed)
printed_begin_exp m k done printed (Number n) l = (done, refl, printed)
printed_begin_exp m k done printed (Text bytes) l = (done, refl, printed)
printed_begin_exp m k done printed (Name n) l = printed_prefix m k done printed (Name n) l
printed_begin_exp m k done printed (Sign sign.Ellipsis) l = (done, refl, printed)
printed_begin_exp m k done printed (Sign sign.Hash) l = λ e. (done, refl, printed)
printed_begin_exp m k done printed (Sign sign.Minus) l = λ e. (done, refl, printed)
printed_begin_exp m k done printed (Sign sign.OpenParenthesis) l = printed_prefix m k done printed (Sign sign.OpenParenthesis) l
printed_begin_exp m k done printed (Sign sign.OpenBrace) l = (done, refl, λ t. (done, refl, printed))
printed_begin_exp m k done printed other l = tt

pub printed_begin_list : (k : ExpList → Reader) (done : Tokens) → ((es : ExpList) → IsPrinted (done ∘ print_explist es) (k es))
    → (kind : TokenKind) (l : Line) → IsPrinted (done ∘ a_kind kind l) (begin_list k kind l)
unfolding print_exp
printed_begin_list k done printed kind l = printed_begin_exp 1 (λ e. more_list (tree.one e) k) done (λ e. (done, refl, printed)) kind l

pub printed_args : (o : Line) (k : Args → Reader) (done : Tokens) → ((a : Args) → IsPrinted (done ∘ print_args a) (k a))
    → (kind : TokenKind) (l : Line) → IsPrinted (done ∘ a_sign sign.OpenParenthesis o ∘ a_kind kind l) (args o k kind l)
unfolding print_exp
printed_args o k done printed (Sign sign.CloseParenthesis) l = printed (tree.no_args o l)
printed_args o k done printed kind l =
    let opened = done ∘ a_sign sign.OpenParenthesis o in
    printed_begin_list (λ es. token (close_parenthesis (λ c. k (tree.args o es c)))) opened
    (λ es. printed_close_parenthesis (λ c. k (tree.args o es c)) (opened ∘ print_explist es) (λ c. printed (tree.args o es c))) kind l

pub printed_begin_args : (k : Args → Reader) (done : Tokens) → ((a : Args) → IsPrinted (done ∘ print_args a) (k a))
    → (kind : TokenKind) (l : Line) → IsPrinted (done ∘ a_kind kind l) (begin_args k kind l)
unfolding print_exp
printed_begin_args k done printed (Sign sign.OpenParenthesis) l = printed_args l k done printed
printed_begin_args k done printed (Sign sign.OpenBrace) l = (done, refl, λ t. printed (tree.table_arg t))
printed_begin_args k done printed (Text bytes) l = printed (tree.string_arg l bytes)
printed_begin_args k done printed other l = tt

-- ---- fields of a table

pub printed_after_field : (o : Line) (fs : Fields) (k : Table → Reader) (before : Tokens) → ((t : Table) → IsPrinted (before ∘ print_table t) (k t))
    → (f : Field) (kind : TokenKind) (l : Line)
    → IsPrinted (before ∘ a_sign sign.OpenBrace o ∘ print_fields fs ∘ print_field f ∘ a_kind kind l) (after_field o fs k f kind l)
unfolding print_exp
printed_after_field o fs k before printed f (Sign sign.Comma) l = (before, refl, printed)
printed_after_field o fs k before printed f (Sign sign.Semicolon) l = (before, refl, printed)
printed_after_field o fs k before printed f (Sign sign.CloseBrace) l = printed (tree.ending o fs f l)
printed_after_field o fs k before printed f other l = tt

pub printed_field : (k : Field → TokenKind → Line → Reader) (done : Tokens)
    → ((f : Field) (kind : TokenKind) (l : Line) → IsPrinted (done ∘ print_field f ∘ a_kind kind l) (k f kind l))
    → (kind : TokenKind) (l : Line) → IsPrinted (done ∘ a_kind kind l) (field k kind l)
unfolding print_exp
printed_field k done printed (Sign sign.OpenBracket) o = λ key.
    let after_key = done ∘ a_sign sign.OpenBracket o ∘ print_exp key in
    printed_close_bracket _ after_key (λ c. printed_equals _ (after_key ∘ a_sign sign.CloseBracket c) (λ q e. printed (tree.keyed o key c q e)))
printed_field k done printed (Name n) l =
    (printed_begin_exp 1 (λ e. token (k (tree.plain e))) done (λ e. printed (tree.plain e)) (Name n) l, λ q e. printed (tree.named l n q e))
printed_field k done printed kind l = printed_begin_exp 1 (λ e. token (k (tree.plain e))) done (λ e. printed (tree.plain e)) kind l

pub printed_fields : (o : Line) (fs : Fields) (k : Table → Reader) (before : Tokens) → ((t : Table) → IsPrinted (before ∘ print_table t) (k t))
    → (kind : TokenKind) (l : Line) → IsPrinted (before ∘ a_sign sign.OpenBrace o ∘ print_fields fs ∘ a_kind kind l) (fields o fs k kind l)
unfolding print_exp
printed_fields o fs k before printed (Sign sign.CloseBrace) c = printed (tree.separated o fs c)
printed_fields o fs k before printed kind l =
    printed_field (after_field o fs k) (before ∘ a_sign sign.OpenBrace o ∘ print_fields fs) (printed_after_field o fs k before printed) kind l
