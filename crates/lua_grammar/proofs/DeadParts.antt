-- What begins a production is dead where the production is so after each tree that it may read.
use Rattle.std.proofs.Common.{ℕ}
use Rattle.lua_lexer.specs.declared.tokens.TokenKind.{TokenKind}
use Rattle.lua_lexer.specs.declared.tokens.TokenKind.TheVariants.{Name, Text, Number, Word, Sign}
use Rattle.lua_lexer.specs.declared.signs.Sign.TheVariants as sign
use Rattle.lua_lexer.specs.declared.words.Word.TheVariants as word
use Rattle.lua_grammar.specs.Tree.{Line, Bytes, NameList, Params, FuncName, Exp, PrefixExp, Args, ExpList, Table, Fields, Field, FuncBody, Block, Stats, Arms, VarList}
use Rattle.lua_grammar.specs.Tree as tree
use Rattle.lua_grammar.specs.Waiting.{Reader, token, more_exp, more_list, more_fields, name, close_parenthesis, close_bracket, equals, comma, do_, then_, end_, until_}
use Rattle.lua_grammar.specs.Reading.{block, list, body_after, params, body, begin_prefix, begin_exp, begin_list, args, begin_args, after_field, field, fields}
use Rattle.lua_grammar.specs.Dead.{ExpFrom, PrefixFrom, ListFrom, FieldsFrom, NamesFrom, FuncNameFrom, VarsFrom, ArmsFrom, StatsFrom, IsDead}

-- ---- what goes on from a whole goes on from the first part of that

pub exp_from_on : {e a b : Exp} → ExpFrom e a → ExpFrom a b → ExpFrom e b
exp_from_on h ExpFrom.alone = h
exp_from_on h (ExpFrom.operator a op l b from) = ExpFrom.operator a op l b (exp_from_on h from)

pub prefix_from_on : {p a b : PrefixExp} → PrefixFrom p a → PrefixFrom a b → PrefixFrom p b
prefix_from_on h PrefixFrom.alone = h
prefix_from_on h (PrefixFrom.item p o e c from) = PrefixFrom.item p o e c (prefix_from_on h from)
prefix_from_on h (PrefixFrom.member p d l n from) = PrefixFrom.member p d l n (prefix_from_on h from)
prefix_from_on h (PrefixFrom.call p a from) = PrefixFrom.call p a (prefix_from_on h from)
prefix_from_on h (PrefixFrom.method p c l n a from) = PrefixFrom.method p c l n a (prefix_from_on h from)

pub list_from_on : {es a b : ExpList} → ListFrom es a → ListFrom a b → ListFrom es b
list_from_on h ListFrom.alone = h
list_from_on h (ListFrom.more es c e from) = ListFrom.more es c e (list_from_on h from)

pub fields_from_on : {fs a b : Fields} → FieldsFrom fs a → FieldsFrom a b → FieldsFrom fs b
fields_from_on h FieldsFrom.alone = h
fields_from_on h (FieldsFrom.more fs f s from) = FieldsFrom.more fs f s (fields_from_on h from)

pub names_from_on : {ns a b : NameList} → NamesFrom ns a → NamesFrom a b → NamesFrom ns b
names_from_on h NamesFrom.alone = h
names_from_on h (NamesFrom.more ns c l n from) = NamesFrom.more ns c l n (names_from_on h from)

pub funcname_from_on : {f a b : FuncName} → FuncNameFrom f a → FuncNameFrom a b → FuncNameFrom f b
funcname_from_on h FuncNameFrom.alone = h
funcname_from_on h (FuncNameFrom.more f d l n from) = FuncNameFrom.more f d l n (funcname_from_on h from)

pub vars_from_on : {vs a b : VarList} → VarsFrom vs a → VarsFrom a b → VarsFrom vs b
vars_from_on h VarsFrom.alone = h
vars_from_on h (VarsFrom.more vs c p from) = VarsFrom.more vs c p (vars_from_on h from)

pub arms_from_on : {first a b : Arms} → ArmsFrom first a → ArmsFrom a b → ArmsFrom first b
arms_from_on h ArmsFrom.alone = h
arms_from_on h (ArmsFrom.more those i t c b from) = ArmsFrom.more those i t c b (arms_from_on h from)

pub stats_from_on : {ss a b : Stats} → StatsFrom ss a → StatsFrom a b → StatsFrom ss b
stats_from_on h StatsFrom.alone = h
stats_from_on h (StatsFrom.more ss s x from) = StatsFrom.more ss s x (stats_from_on h from)

-- ---- one token

pub dead_name : (k : Line → Bytes → Reader) → ((l : Line) (n : Bytes) → IsDead (k l n)) → (kind : TokenKind) (l : Line) → IsDead (name k kind l)
dead_name k dead (Name n) l = dead l n
dead_name k dead other l = tt

pub dead_close_parenthesis : (k : Line → Reader) → ((l : Line) → IsDead (k l)) → (kind : TokenKind) (l : Line) → IsDead (close_parenthesis k kind l)
dead_close_parenthesis k dead (Sign sign.CloseParenthesis) l = dead l
dead_close_parenthesis k dead other l = tt

pub dead_close_bracket : (k : Line → Reader) → ((l : Line) → IsDead (k l)) → (kind : TokenKind) (l : Line) → IsDead (close_bracket k kind l)
dead_close_bracket k dead (Sign sign.CloseBracket) l = dead l
dead_close_bracket k dead other l = tt

pub dead_equals : (k : Line → Reader) → ((l : Line) → IsDead (k l)) → (kind : TokenKind) (l : Line) → IsDead (equals k kind l)
dead_equals k dead (Sign sign.Assign) l = dead l
dead_equals k dead other l = tt

pub dead_comma : (k : Line → Reader) → ((l : Line) → IsDead (k l)) → (kind : TokenKind) (l : Line) → IsDead (comma k kind l)
dead_comma k dead (Sign sign.Comma) l = dead l
dead_comma k dead other l = tt

pub dead_do : (k : Line → Reader) → ((l : Line) → IsDead (k l)) → (kind : TokenKind) (l : Line) → IsDead (do_ k kind l)
dead_do k dead (Word word.Do) l = dead l
dead_do k dead other l = tt

pub dead_then : (k : Line → Reader) → ((l : Line) → IsDead (k l)) → (kind : TokenKind) (l : Line) → IsDead (then_ k kind l)
dead_then k dead (Word word.Then) l = dead l
dead_then k dead other l = tt

pub dead_end : (k : Line → Reader) → ((l : Line) → IsDead (k l)) → (kind : TokenKind) (l : Line) → IsDead (end_ k kind l)
dead_end k dead (Word word.End) l = dead l
dead_end k dead other l = tt

pub dead_until : (k : Line → Reader) → ((l : Line) → IsDead (k l)) → (kind : TokenKind) (l : Line) → IsDead (until_ k kind l)
dead_until k dead (Word word.Until) l = dead l
dead_until k dead other l = tt

-- ---- blocks, lists and bodies of functions

pub dead_block : (k : Block → Reader) → ((b : Block) → IsDead (k b)) → IsDead (block k)
dead_block k dead = λ those from. (dead (tree.statements those), λ s x. dead (tree.with_last those s x))

pub dead_list : (k : ExpList → Reader) → ((es : ExpList) → IsDead (k es)) → IsDead (list k)
dead_list k dead = λ e whole from. dead whole

-- a block up to its `end`
pub dead_to_end : (k : Block → Line → Reader) → ((b : Block) (e : Line) → IsDead (k b e)) → IsDead (block (λ b. token (end_ (λ e. k b e))))
dead_to_end k dead = dead_block (λ b. token (end_ (λ e. k b e))) (λ b. dead_end (k b) (dead b))

pub dead_body_after : (o : Line) (k : FuncBody → Reader) → ((b : FuncBody) → IsDead (k b)) → (ps : Params) (c : Line) → IsDead (body_after o k ps c)
dead_body_after o k dead ps c = dead_to_end (λ b e. k (tree.function_body o ps c b e)) (λ b e. dead (tree.function_body o ps c b e))

pub dead_params : (o : Line) (k : FuncBody → Reader) → ((b : FuncBody) → IsDead (k b)) → (kind : TokenKind) (l : Line) → IsDead (params o k kind l)
dead_params o k dead (Sign sign.CloseParenthesis) c = dead_body_after o k dead tree.no_params c
dead_params o k dead (Sign sign.Ellipsis) d = dead_close_parenthesis _ (dead_body_after o k dead (tree.only_vararg d))
dead_params o k dead (Name n) l = λ those from. (
  dead_close_parenthesis _ (dead_body_after o k dead (tree.names those)),
  λ c d. dead_close_parenthesis _ (dead_body_after o k dead (tree.names_and_vararg those c d)),
)
dead_params o k dead other l = tt

pub dead_body : (k : FuncBody → Reader) → ((b : FuncBody) → IsDead (k b)) → (kind : TokenKind) (l : Line) → IsDead (body k kind l)
dead_body k dead (Sign sign.OpenParenthesis) o = dead_params o k dead
dead_body k dead other o = tt

-- ---- expressions

pub dead_begin_prefix : (k : PrefixExp → Reader) → ((p : PrefixExp) → IsDead (k p)) → (kind : TokenKind) (l : Line) → IsDead (begin_prefix k kind l)
dead_begin_prefix k dead (Name n) l = λ whole from. dead whole
dead_begin_prefix k dead (Sign sign.OpenParenthesis) o = λ e. dead_close_parenthesis _ (λ c whole from. dead whole)
dead_begin_prefix k dead other l = tt

pub dead_begin_exp : (m : ℕ) (k : Exp → Reader) → ((e : Exp) → IsDead (k e)) → (kind : TokenKind) (l : Line) → IsDead (begin_exp m k kind l)
dead_begin_exp m k dead (Word word.Nil) l = λ whole from. dead whole
dead_begin_exp m k dead (Word word.False) l = λ whole from. dead whole
dead_begin_exp m k dead (Word word.True) l = λ whole from. dead whole
dead_begin_exp m k dead (Word word.Function) l = dead_body (λ b. more_exp m (tree.function l b) k) (λ b whole from. dead whole)
dead_begin_exp m k dead (Word word.Not) l = λ e whole from. dead whole
dead_begin_exp m k dead (Number n) l = λ whole from. dead whole
dead_begin_exp m k dead (Text bytes) l = λ whole from. dead whole
dead_begin_exp m k dead (Name n) l = dead_begin_prefix (λ p. more_exp m (tree.prefix p) k) (λ p whole from. dead whole) (Name n) l
dead_begin_exp m k dead (Sign sign.Ellipsis) l = λ whole from. dead whole
dead_begin_exp m k dead (Sign sign.Hash) l = λ e whole from. dead whole
dead_begin_exp m k dead (Sign sign.Minus) l = λ e whole from. dead whole
dead_begin_exp m k dead (Sign sign.OpenParenthesis) l =
    dead_begin_prefix (λ p. more_exp m (tree.prefix p) k) (λ p whole from. dead whole) (Sign sign.OpenParenthesis) l
dead_begin_exp m k dead (Sign sign.OpenBrace) l = λ those own. (λ c whole from. dead whole, λ f c whole from. dead whole)
dead_begin_exp m k dead other l = tt

pub dead_begin_list : (k : ExpList → Reader) → ((es : ExpList) → IsDead (k es)) → (kind : TokenKind) (l : Line) → IsDead (begin_list k kind l)
dead_begin_list k dead kind l = dead_begin_exp 1 (λ e. more_list (tree.one e) k) (λ e whole from. dead whole) kind l

pub dead_args : (o : Line) (k : Args → Reader) → ((a : Args) → IsDead (k a)) → (kind : TokenKind) (l : Line) → IsDead (args o k kind l)
dead_args o k dead (Sign sign.CloseParenthesis) l = dead (tree.no_args o l)
dead_args o k dead kind l =
    dead_begin_list (λ es. token (close_parenthesis (λ c. k (tree.args o es c)))) (λ es. dead_close_parenthesis _ (λ c. dead (tree.args o es c))) kind l

pub dead_begin_args : (k : Args → Reader) → ((a : Args) → IsDead (k a)) → (kind : TokenKind) (l : Line) → IsDead (begin_args k kind l)
dead_begin_args k dead (Sign sign.OpenParenthesis) l = dead_args l k dead
dead_begin_args k dead (Sign sign.OpenBrace) l =
    λ those from. (λ c. dead (tree.table_arg (tree.separated l those c)), λ f c. dead (tree.table_arg (tree.ending l those f c)))
dead_begin_args k dead (Text bytes) l = dead (tree.string_arg l bytes)
dead_begin_args k dead other l = tt

-- ---- fields of a table

pub dead_after_field : (o : Line) (fs : Fields) (k : Table → Reader) → IsDead (more_fields o fs k)
    → (f : Field) (kind : TokenKind) (l : Line) → IsDead (after_field o fs k f kind l)
dead_after_field o fs k dead f (Sign sign.Comma) l = λ those from. dead those (fields_from_on (FieldsFrom.more fs f (tree.comma l) FieldsFrom.alone) from)
dead_after_field o fs k dead f (Sign sign.Semicolon) l = λ those from. dead those (fields_from_on (FieldsFrom.more fs f (tree.semicolon l) FieldsFrom.alone) from)
dead_after_field o fs k dead f (Sign sign.CloseBrace) l = (dead fs FieldsFrom.alone).1 f l
dead_after_field o fs k dead f other l = tt

pub dead_field : (k : Field → TokenKind → Line → Reader) → ((f : Field) (kind : TokenKind) (l : Line) → IsDead (k f kind l))
    → (kind : TokenKind) (l : Line) → IsDead (field k kind l)
dead_field k dead (Sign sign.OpenBracket) o =
    λ key. dead_close_bracket _ (λ c. dead_equals _ (λ q e. dead (tree.keyed o key c q e)))
dead_field k dead (Name n) l = (dead_begin_exp 1 (λ e. token (k (tree.plain e))) (λ e. dead (tree.plain e)) (Name n) l, λ q e. dead (tree.named l n q e))
dead_field k dead kind l = dead_begin_exp 1 (λ e. token (k (tree.plain e))) (λ e. dead (tree.plain e)) kind l

pub dead_fields : (o : Line) (fs : Fields) (k : Table → Reader) → IsDead (more_fields o fs k) → (kind : TokenKind) (l : Line) → IsDead (fields o fs k kind l)
dead_fields o fs k dead (Sign sign.CloseBrace) c = (dead fs FieldsFrom.alone).0 c
dead_fields o fs k dead kind l = dead_field (after_field o fs k) (dead_after_field o fs k dead) kind l
