-- What begins a production is live where the reader is so after each tree that the production may read.
use Rattle.std.proofs.Common.{ℕ, []}
use Rattle.lua_lexer.specs.declared.tokens.TokenKind.{TokenKind}
use Rattle.lua_lexer.specs.declared.tokens.TokenKind.TheVariants.{Name, Text, Number, Word, Sign}
use Rattle.lua_lexer.specs.declared.signs.Sign.TheVariants as sign
use Rattle.lua_lexer.specs.declared.words.Word.TheVariants as word
use Rattle.lua_grammar.specs.Tree.{Line, Bytes, NameList, Params, Exp, PrefixExp, Args, ExpList, Table, Fields, Field, FuncBody, Block}
use Rattle.lua_grammar.specs.Tree as tree
use Rattle.lua_grammar.specs.Waiting.{Reader, token, more_exp, more_prefix, more_list, name, close_parenthesis, close_bracket, equals, comma, do_, then_, end_, until_}
use Rattle.lua_grammar.specs.Reading.{block, list, body_after, params, body, begin_prefix, begin_exp, begin_list, args, begin_args, after_field, field, fields}
use Rattle.lua_grammar.proofs.LiveStates.{CanGoOn, EndsExp, EndsList, EndsBlock, IsOpen, IsLive, IsLiveAt, IsLivePrefix, parenthesis_ends, bracket_ends, brace_ends, comma_ends, then_ends, parenthesis_ends_names, end_ends, until_ends, by_token, live_at_some, live_of_list, live_more_exp, live_more_list, live_more_stats, live_more_prefix, live_exp, live_prefix}

-- ---- one token

open_name : (k : Line → Bytes → Reader) → ((l : Line) (n : Bytes) → IsLive (k l n)) → (kind : TokenKind) (l : Line) → IsOpen (name k kind l)
open_name k live (Name n) l = (live l n).0
open_name k live other l = tt

pub live_name : (k : Line → Bytes → Reader) → ((l : Line) (n : Bytes) → IsLive (k l n)) → IsLive (token (name k))
live_name k live = let on = by_token (token (name k)) (Name []) (live 1 []).1 in ((open_name k live, on), on)

open_close_parenthesis : (k : Line → Reader) → ((l : Line) → IsLive (k l)) → (kind : TokenKind) (l : Line) → IsOpen (close_parenthesis k kind l)
open_close_parenthesis k live (Sign sign.CloseParenthesis) l = (live l).0
open_close_parenthesis k live other l = tt

live_close_parenthesis : (k : Line → Reader) → ((l : Line) → IsLive (k l)) → IsLiveAt EndsList (token (close_parenthesis k))
live_close_parenthesis k live = (
  (open_close_parenthesis k live, by_token _ (Sign sign.CloseParenthesis) (live 1).1),
  (Sign sign.CloseParenthesis, parenthesis_ends, (live 1).1),
)

open_close_bracket : (k : Line → Reader) → ((l : Line) → IsLive (k l)) → (kind : TokenKind) (l : Line) → IsOpen (close_bracket k kind l)
open_close_bracket k live (Sign sign.CloseBracket) l = (live l).0
open_close_bracket k live other l = tt

pub live_close_bracket : (k : Line → Reader) → ((l : Line) → IsLive (k l)) → IsLiveAt EndsExp (token (close_bracket k))
live_close_bracket k live = (
  (open_close_bracket k live, by_token _ (Sign sign.CloseBracket) (live 1).1),
  (Sign sign.CloseBracket, bracket_ends, (live 1).1),
)

open_equals : (k : Line → Reader) → ((l : Line) → IsLive (k l)) → (kind : TokenKind) (l : Line) → IsOpen (equals k kind l)
open_equals k live (Sign sign.Assign) l = (live l).0
open_equals k live other l = tt

live_equals : (k : Line → Reader) → ((l : Line) → IsLive (k l)) → IsLive (token (equals k))
live_equals k live = let on = by_token (token (equals k)) (Sign sign.Assign) (live 1).1 in ((open_equals k live, on), on)

open_comma : (k : Line → Reader) → ((l : Line) → IsLive (k l)) → (kind : TokenKind) (l : Line) → IsOpen (comma k kind l)
open_comma k live (Sign sign.Comma) l = (live l).0
open_comma k live other l = tt

pub live_comma : (k : Line → Reader) → ((l : Line) → IsLive (k l)) → IsLiveAt EndsExp (token (comma k))
live_comma k live = ((open_comma k live, by_token _ (Sign sign.Comma) (live 1).1), (Sign sign.Comma, comma_ends, (live 1).1))

pub open_do : (k : Line → Reader) → ((l : Line) → IsLive (k l)) → (kind : TokenKind) (l : Line) → IsOpen (do_ k kind l)
open_do k live (Word word.Do) l = (live l).0
open_do k live other l = tt

open_then : (k : Line → Reader) → ((l : Line) → IsLive (k l)) → (kind : TokenKind) (l : Line) → IsOpen (then_ k kind l)
open_then k live (Word word.Then) l = (live l).0
open_then k live other l = tt

pub live_then : (k : Line → Reader) → ((l : Line) → IsLive (k l)) → IsLiveAt EndsExp (token (then_ k))
live_then k live = ((open_then k live, by_token _ (Word word.Then) (live 1).1), (Word word.Then, then_ends, (live 1).1))

open_end : (k : Line → Reader) → ((l : Line) → IsLive (k l)) → (kind : TokenKind) (l : Line) → IsOpen (end_ k kind l)
open_end k live (Word word.End) l = (live l).0
open_end k live other l = tt

pub live_end : (k : Line → Reader) → ((l : Line) → IsLive (k l)) → IsLiveAt EndsBlock (token (end_ k))
live_end k live = ((open_end k live, by_token _ (Word word.End) (live 1).1), (Word word.End, end_ends, (live 1).1))

open_until : (k : Line → Reader) → ((l : Line) → IsLive (k l)) → (kind : TokenKind) (l : Line) → IsOpen (until_ k kind l)
open_until k live (Word word.Until) l = (live l).0
open_until k live other l = tt

pub live_until : (k : Line → Reader) → ((l : Line) → IsLive (k l)) → IsLiveAt EndsBlock (token (until_ k))
live_until k live = ((open_until k live, by_token _ (Word word.Until) (live 1).1), (Word word.Until, until_ends, (live 1).1))

-- ---- blocks, lists and bodies of functions

pub live_block : (k : Block → Reader) → ((b : Block) → IsLiveAt EndsBlock (k b)) → IsLive (block k)
live_block k live = live_more_stats tree.no_stats k live

pub live_list : (k : ExpList → Reader) → ((es : ExpList) → IsLiveAt EndsList (k es)) → IsLive (list k)
live_list k live = live_exp 1 (λ e. more_list (tree.one e) k) (λ e. live_more_list (tree.one e) k live)

-- a block up to its `end`
pub live_to_end : (k : Block → Line → Reader) → ((b : Block) (e : Line) → IsLive (k b e)) → IsLive (block (λ b. token (end_ (λ e. k b e))))
live_to_end k live = live_block (λ b. token (end_ (λ e. k b e))) (λ b. live_end (k b) (live b))

live_body_after : (o : Line) (k : FuncBody → Reader) → ((b : FuncBody) → IsLive (k b)) → (ps : Params) (c : Line) → IsLive (body_after o k ps c)
live_body_after o k live ps c = live_to_end (λ b e. k (tree.function_body o ps c b e)) (λ b e. live (tree.function_body o ps c b e))

-- parameters up to their `)`, and the body after them
live_params_after : (o : Line) (k : FuncBody → Reader) → ((b : FuncBody) → IsLive (k b)) → (ps : Params)
    → IsLiveAt EndsList (token (close_parenthesis (body_after o k ps)))
live_params_after o k live ps = live_close_parenthesis (body_after o k ps) (live_body_after o k live ps)

open_params : (o : Line) (k : FuncBody → Reader) → ((b : FuncBody) → IsLive (k b)) → (kind : TokenKind) (l : Line) → IsOpen (params o k kind l)
open_params o k live (Sign sign.CloseParenthesis) c = (live_body_after o k live tree.no_params c).0
open_params o k live (Sign sign.Ellipsis) d = (live_params_after o k live (tree.only_vararg d)).0
open_params o k live (Name n) l = λ those. (
  (live_params_after o k live (tree.names those)).0,
  (Sign sign.CloseParenthesis, parenthesis_ends_names, (live_body_after o k live (tree.names those) 1).1),
  λ c d. (live_params_after o k live (tree.names_and_vararg those c d)).0,
)
open_params o k live other l = tt

live_params : (o : Line) (k : FuncBody → Reader) → ((b : FuncBody) → IsLive (k b)) → IsLive (token (params o k))
live_params o k live =
    let on = by_token (token (params o k)) (Sign sign.CloseParenthesis) (live_body_after o k live tree.no_params 1).1 in
    ((open_params o k live, on), on)

pub open_body : (k : FuncBody → Reader) → ((b : FuncBody) → IsLive (k b)) → (kind : TokenKind) (l : Line) → IsOpen (body k kind l)
open_body k live (Sign sign.OpenParenthesis) o = (live_params o k live).0
open_body k live other o = tt

-- by `(`
pub body_goes_on : (k : FuncBody → Reader) → ((b : FuncBody) → IsLive (k b)) → CanGoOn (body k (Sign sign.OpenParenthesis) 1)
body_goes_on k live = (live_params 1 k live).1

pub live_body : (k : FuncBody → Reader) → ((b : FuncBody) → IsLive (k b)) → IsLive (token (body k))
live_body k live = let on = by_token (token (body k)) (Sign sign.OpenParenthesis) (body_goes_on k live) in ((open_body k live, on), on)

-- ---- expressions

pub open_begin_prefix : (k : PrefixExp → Reader) → IsLivePrefix k → (kind : TokenKind) (l : Line) → IsOpen (begin_prefix k kind l)
open_begin_prefix k live (Name n) l = live
open_begin_prefix k live (Sign sign.OpenParenthesis) o =
    λ e. let close = λ (c : Line). more_prefix (tree.paren o e c) k in
    live_of_list (token (close_parenthesis close)) (live_close_parenthesis close (λ c. live_more_prefix (tree.paren o e c) k live))
open_begin_prefix k live other l = tt

-- by a name
pub prefix_goes_on : (k : PrefixExp → Reader) → IsLivePrefix k → CanGoOn (begin_prefix k (Name []) 1)
prefix_goes_on k live = (live_more_prefix (tree.variable 1 []) k live).1

-- what stands after a whole that is known
live_whole : (m : ℕ) (e : Exp) (k : Exp → Reader) → ((e : Exp) → IsLiveAt EndsExp (k e)) → IsLive (more_exp m e k)
live_whole m e k live = live_at_some (more_exp m e k) (live_more_exp m e k live)

pub open_begin_exp : (m : ℕ) (k : Exp → Reader) → ((e : Exp) → IsLiveAt EndsExp (k e)) → (kind : TokenKind) (l : Line) → IsOpen (begin_exp m k kind l)
open_begin_exp m k live (Word word.Nil) l = live
open_begin_exp m k live (Word word.False) l = live
open_begin_exp m k live (Word word.True) l = live
open_begin_exp m k live (Word word.Function) l = (live_body (λ b. more_exp m (tree.function l b) k) (λ b. live_whole m (tree.function l b) k live)).0
open_begin_exp m k live (Word word.Not) l = λ e. live_more_exp m _ k live
open_begin_exp m k live (Number n) l = live
open_begin_exp m k live (Text bytes) l = live
open_begin_exp m k live (Name n) l = open_begin_prefix (λ p. more_exp m (tree.prefix p) k) (live_prefix m k live) (Name n) l
open_begin_exp m k live (Sign sign.Ellipsis) l = live
open_begin_exp m k live (Sign sign.Hash) l = λ e. live_more_exp m _ k live
open_begin_exp m k live (Sign sign.Minus) l = λ e. live_more_exp m _ k live
open_begin_exp m k live (Sign sign.OpenParenthesis) l =
    open_begin_prefix (λ p. more_exp m (tree.prefix p) k) (live_prefix m k live) (Sign sign.OpenParenthesis) l
open_begin_exp m k live (Sign sign.OpenBrace) l = λ t. live_whole m (tree.table t) k live
open_begin_exp m k live other l = tt

pub open_begin_list : (k : ExpList → Reader) → ((es : ExpList) → IsLiveAt EndsList (k es)) → (kind : TokenKind) (l : Line) → IsOpen (begin_list k kind l)
open_begin_list k live kind l = open_begin_exp 1 (λ e. more_list (tree.one e) k) (λ e. live_more_list (tree.one e) k live) kind l

open_args : (o : Line) (k : Args → Reader) → ((a : Args) → IsLive (k a)) → (kind : TokenKind) (l : Line) → IsOpen (args o k kind l)
open_args o k live (Sign sign.CloseParenthesis) l = (live (tree.no_args o l)).0
open_args o k live kind l = open_begin_list (λ es. token (close_parenthesis (λ c. k (tree.args o es c))))
    (λ es. live_close_parenthesis (λ c. k (tree.args o es c)) (λ c. live (tree.args o es c))) kind l

pub open_begin_args : (k : Args → Reader) → ((a : Args) → IsLive (k a)) → (kind : TokenKind) (l : Line) → IsOpen (begin_args k kind l)
open_begin_args k live (Sign sign.OpenParenthesis) l =
    (open_args l k live, by_token (token (args l k)) (Sign sign.CloseParenthesis) (live (tree.no_args l 1)).1)
open_begin_args k live (Sign sign.OpenBrace) l = λ t. live (tree.table_arg t)
open_begin_args k live (Text bytes) l = (live (tree.string_arg l bytes)).0
open_begin_args k live other l = tt

-- by a string
pub live_begin_args : (k : Args → Reader) → ((a : Args) → IsLive (k a)) → IsLive (token (begin_args k))
live_begin_args k live =
    let on = by_token (token (begin_args k)) (Text []) (live (tree.string_arg 1 [])).1 in ((open_begin_args k live, on), on)

-- ---- fields of a table

-- after a field, by `}`
abbrev IsLiveField : (Field → TokenKind → Line → Reader) → Type 0
IsLiveField k = (f : Field) → ((kind : TokenKind) (l : Line) → IsOpen (k f kind l)) × CanGoOn (k f (Sign sign.CloseBrace) 1)

open_after_field : (o : Line) (fs : Fields) (k : Table → Reader) → ((t : Table) → IsLive (k t))
    → (f : Field) (kind : TokenKind) (l : Line) → IsOpen (after_field o fs k f kind l)
open_after_field o fs k live f (Sign sign.Comma) l = live
open_after_field o fs k live f (Sign sign.Semicolon) l = live
open_after_field o fs k live f (Sign sign.CloseBrace) l = (live (tree.ending o fs f l)).0
open_after_field o fs k live f other l = tt

live_after_field : (o : Line) (fs : Fields) (k : Table → Reader) → ((t : Table) → IsLive (k t)) → IsLiveField (after_field o fs k)
live_after_field o fs k live f = (open_after_field o fs k live f, (live (tree.ending o fs f 1)).1)

live_field : (k : Field → TokenKind → Line → Reader) → IsLiveField k → (f : Field) → IsLiveAt EndsExp (token (k f))
live_field k live f = (((live f).0, by_token (token (k f)) (Sign sign.CloseBrace) (live f).1), (Sign sign.CloseBrace, brace_ends, (live f).1))

open_field : (k : Field → TokenKind → Line → Reader) → IsLiveField k → (kind : TokenKind) (l : Line) → IsOpen (field k kind l)
open_field k live (Sign sign.OpenBracket) o =
    λ key. live_close_bracket _ (λ c. live_equals _ (λ q. live_exp 1 (λ e. token (k (tree.keyed o key c q e))) (λ e. live_field k live (tree.keyed o key c q e))))
open_field k live (Name n) l =
    let value = live_exp 1 (λ e. token (k (tree.named l n 1 e))) (λ e. live_field k live (tree.named l n 1 e)) in (
      open_begin_exp 1 (λ e. token (k (tree.plain e))) (λ e. live_field k live (tree.plain e)) (Name n) l,
      λ q e. live_field k live (tree.named l n q e),
      value.1,
    )
open_field k live kind l = open_begin_exp 1 (λ e. token (k (tree.plain e))) (λ e. live_field k live (tree.plain e)) kind l

pub open_fields : (o : Line) (fs : Fields) (k : Table → Reader) → ((t : Table) → IsLive (k t)) → (kind : TokenKind) (l : Line) → IsOpen (fields o fs k kind l)
open_fields o fs k live (Sign sign.CloseBrace) c = (live (tree.separated o fs c)).0
open_fields o fs k live kind l = open_field (after_field o fs k) (live_after_field o fs k live) kind l
