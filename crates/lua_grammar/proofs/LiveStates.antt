-- Live states of a reader: some tokens lead from them to a chunk, and each further token to a live state or to `failed`.
use Rattle.std.proofs.Common.{◌≡◌, ℕ, List, [], ◌∷◌, refl}
use Rattle.lua_lexer.specs.declared.tokens.TokenKind.{TokenKind}
use Rattle.lua_lexer.specs.declared.tokens.TokenKind.TheVariants.{Name, Word, Sign}
use Rattle.lua_lexer.specs.declared.signs.Sign.TheVariants as sign
use Rattle.lua_lexer.specs.declared.words.Word.TheVariants as word
use Rattle.lua_grammar.specs.Tree.{Line, Bytes, NameList, FuncName, End, Exp, PrefixExp, ExpList, Table, Block, Stats, Stat, LastStat}
use Rattle.lua_grammar.specs.Tree as tree
use Rattle.lua_grammar.specs.Printing.{Lexeme, a_kind}
use Rattle.lua_grammar.specs.Waiting.{Reader, failed, chunk, token, exp, more_exp, more_prefix, more_list, more_fields, more_names, more_funcname, more_vars, more_arms, more_stats, unless_assign, after_statement, after_local, after_return}
use Rattle.lua_grammar.specs.Reading.{feed, run}

-- tokens of those kinds, each on line 1
abbrev pub on_line_one : List TokenKind → List Lexeme
on_line_one [] = []
on_line_one (kind ∷ kinds) = a_kind kind 1 (on_line_one kinds)

-- some such tokens lead to a chunk
abbrev pub CanGoOn : Reader → Type 0
CanGoOn r = (rest : List TokenKind) × (b : Block) × run r (on_line_one rest) ≡ chunk b

-- ---- tokens that end what is read: the reader hands it on, with the token

pub record EndsExp (kind : TokenKind) : Type 0 where
  pub prefix : (p : PrefixExp) (k : PrefixExp → Reader) (l : Line) → feed (more_prefix p k) kind l ≡ feed (k p) kind l
  pub exp : (m : ℕ) (e : Exp) (k : Exp → Reader) (l : Line) → feed (more_exp m e k) kind l ≡ feed (k e) kind l

pub record EndsList (kind : TokenKind) : Type 0 where
  pub last : EndsExp kind
  pub list : (es : ExpList) (k : ExpList → Reader) (l : Line) → feed (more_list es k) kind l ≡ feed (k es) kind l

pub record EndsNames (kind : TokenKind) : Type 0 where
  pub names : (ns : NameList) (k : NameList → Reader) (rest : NameList → Line → Line → Reader) (l : Line) → feed (more_names ns k rest) kind l ≡ feed (k ns) kind l

pub record EndsBlock (kind : TokenKind) : Type 0 where
  pub block : (ss : Stats) (k : Block → Reader) (l : Line) → feed (more_stats ss k) kind l ≡ feed (k (tree.statements ss)) kind l

-- such tokens lead to a chunk, where the first is of that sort
abbrev pub CanGoOnAt : (TokenKind → Type 0) → Reader → Type 0
CanGoOnAt Ends r = (kind : TokenKind) × Ends kind × CanGoOn (feed r kind 1)

-- ---- no token leads from an open reader to a dead end, but to `failed`

abbrev pub IsOpen : Reader → Type 0
IsOpen failed = Unit {0}
IsOpen (chunk b) = Unit {0}
IsOpen (token k) = ((kind : TokenKind) (l : Line) → IsOpen (k kind l)) × CanGoOn (token k)
IsOpen (exp m k) = (e : Exp) → IsOpen (k e) × CanGoOnAt EndsExp (k e)
IsOpen (more_exp m e k) = (whole : Exp) → IsOpen (k whole) × CanGoOnAt EndsExp (k whole)
IsOpen (more_prefix p k) =
    ((whole : PrefixExp) → IsOpen (k whole)) × ((whole : PrefixExp) (d l : Line) (n : Bytes) → CanGoOnAt EndsExp (k (tree.member whole d l n)))
IsOpen (more_list es k) = (those : ExpList) → IsOpen (k those) × CanGoOnAt EndsList (k those)
IsOpen (more_fields o fs k) = (t : Table) → IsOpen (k t) × CanGoOn (k t)
IsOpen (more_names ns k rest) =
    (those : NameList) → IsOpen (k those) × CanGoOnAt EndsNames (k those) × ((c d : Line) → IsOpen (rest those c d))
IsOpen (more_funcname f k) = (whole : FuncName) → IsOpen (k whole) × CanGoOn (feed (k whole) (Sign sign.OpenParenthesis) 1)
IsOpen (more_vars vs k) = (s : Stat) → IsOpen (k s) × CanGoOn (feed (k s) (Sign sign.Semicolon) 1)
IsOpen (more_arms first k) = (s : Stat) → IsOpen (k s) × CanGoOn (feed (k s) (Sign sign.Semicolon) 1)
IsOpen (more_stats ss k) = (b : Block) → IsOpen (k b) × CanGoOnAt EndsBlock (k b)
IsOpen (unless_assign r k) = IsOpen r × ((q : Line) → IsOpen (k q)) × CanGoOn (k 1)
IsOpen (after_statement k) = (x : End) → IsOpen (k x) × CanGoOn (k x)
IsOpen (after_local l ns k) = (s : Stat) → IsOpen (k s) × CanGoOn (feed (k s) (Sign sign.Semicolon) 1)
IsOpen (after_return r k) = (s : LastStat) → IsOpen (k s) × CanGoOn (feed (k s) (Sign sign.Semicolon) 1)

abbrev pub IsLive : Reader → Type 0
IsLive r = IsOpen r × CanGoOn r

abbrev pub IsLiveAt : (TokenKind → Type 0) → Reader → Type 0
IsLiveAt Ends r = IsOpen r × CanGoOnAt Ends r

-- what goes on with a statement goes on at `;`
abbrev pub IsLiveAtSemicolon : Reader → Type 0
IsLiveAtSemicolon r = IsOpen r × CanGoOn (feed r (Sign sign.Semicolon) 1)

-- what goes on with a prefix does so where that is a member, which may be a variable
abbrev pub IsLivePrefix : (PrefixExp → Reader) → Type 0
IsLivePrefix k = ((p : PrefixExp) → IsOpen (k p)) × ((p : PrefixExp) (d l : Line) (n : Bytes) → CanGoOnAt EndsExp (k (tree.member p d l n)))

-- ---- which tokens end what

pub parenthesis_ends : EndsList (Sign sign.CloseParenthesis)
parenthesis_ends = record { last = record { prefix = λ p k l. refl; exp = λ m e k l. refl }; list = λ es k l. refl }

pub do_ends : EndsList (Word word.Do)
do_ends = record { last = record { prefix = λ p k l. refl; exp = λ m e k l. refl }; list = λ es k l. refl }

semicolon_ends : EndsList (Sign sign.Semicolon)
semicolon_ends = record { last = record { prefix = λ p k l. refl; exp = λ m e k l. refl }; list = λ es k l. refl }

pub bracket_ends : EndsExp (Sign sign.CloseBracket)
bracket_ends = record { prefix = λ p k l. refl; exp = λ m e k l. refl }

pub brace_ends : EndsExp (Sign sign.CloseBrace)
brace_ends = record { prefix = λ p k l. refl; exp = λ m e k l. refl }

pub comma_ends : EndsExp (Sign sign.Comma)
comma_ends = record { prefix = λ p k l. refl; exp = λ m e k l. refl }

pub assign_ends : EndsExp (Sign sign.Assign)
assign_ends = record { prefix = λ p k l. refl; exp = λ m e k l. refl }

pub then_ends : EndsExp (Word word.Then)
then_ends = record { prefix = λ p k l. refl; exp = λ m e k l. refl }

pub parenthesis_ends_names : EndsNames (Sign sign.CloseParenthesis)
parenthesis_ends_names = record { names = λ ns k rest l. refl }

pub in_ends : EndsNames (Word word.In)
in_ends = record { names = λ ns k rest l. refl }

pub semicolon_ends_names : EndsNames (Sign sign.Semicolon)
semicolon_ends_names = record { names = λ ns k rest l. refl }

pub end_ends : EndsBlock (Word word.End)
end_ends = record { block = λ ss k l. refl }

pub until_ends : EndsBlock (Word word.Until)
until_ends = record { block = λ ss k l. refl }

-- ---- how a reader goes on

-- by a token
pub by_token : (r : Reader) (kind : TokenKind) → CanGoOn (feed r kind 1) → CanGoOn r
by_token r kind on = (kind ∷ on.0, on.1, on.2)

-- by what it hands a token on to
by_same : (r s : Reader) → r ≡ s → CanGoOn s → CanGoOn r
by_same r s same on = rw same on

pub at_some : {Ends : TokenKind → Type 0} (r : Reader) → CanGoOnAt Ends r → CanGoOn r
at_some r on = by_token r on.0 on.2

of_list : (r : Reader) → CanGoOnAt EndsList r → CanGoOnAt EndsExp r
of_list r on = (on.0, on.1.last, on.2)

pub live_at_some : {Ends : TokenKind → Type 0} (r : Reader) → IsLiveAt Ends r → IsLive r
live_at_some r live = (live.0, at_some r live.1)

pub live_of_list : (r : Reader) → IsLiveAt EndsList r → IsLiveAt EndsExp r
live_of_list r live = (live.0, of_list r live.1)

pub at_semicolon : (r : Reader) → IsLiveAtSemicolon r → IsLiveAt EndsList r
at_semicolon r live = (live.0, (Sign sign.Semicolon, semicolon_ends, live.1))

-- after an expression, a list, names and a block
pub live_more_exp : (m : ℕ) (e : Exp) (k : Exp → Reader) → ((e : Exp) → IsLiveAt EndsExp (k e)) → IsLiveAt EndsExp (more_exp m e k)
live_more_exp m e k live =
    let on = (live e).1 in
    (live, (on.0, on.1, by_same (feed (more_exp m e k) on.0 1) (feed (k e) on.0 1) (on.1.exp m e k 1) on.2))

pub live_more_list : (es : ExpList) (k : ExpList → Reader) → ((es : ExpList) → IsLiveAt EndsList (k es)) → IsLiveAt EndsExp (more_list es k)
live_more_list es k live =
    let on = (live es).1 in
    (live, (on.0, on.1.last, by_same (feed (more_list es k) on.0 1) (feed (k es) on.0 1) (on.1.list es k 1) on.2))

pub live_more_names : (ns : NameList) (k : NameList → Reader) (rest : NameList → Line → Line → Reader) → IsOpen (more_names ns k rest) → IsLive (more_names ns k rest)
live_more_names ns k rest open_ =
    let on = (open_ ns).1 in
    (open_, by_token _ on.0 (by_same (feed (more_names ns k rest) on.0 1) (feed (k ns) on.0 1) (on.1.names ns k rest 1) on.2))

pub live_more_stats : (ss : Stats) (k : Block → Reader) → ((b : Block) → IsLiveAt EndsBlock (k b)) → IsLive (more_stats ss k)
live_more_stats ss k live =
    let on = (live (tree.statements ss)).1 in
    (live, by_token _ on.0 (by_same (feed (more_stats ss k) on.0 1) (feed (k (tree.statements ss)) on.0 1) (on.1.block ss k 1) on.2))

-- after a prefix, by a member of it
pub live_more_prefix : (p : PrefixExp) (k : PrefixExp → Reader) → IsLivePrefix k → IsLive (more_prefix p k)
live_more_prefix p k live =
    let whole = tree.member p 1 1 [] in let on = live.1 p 1 1 [] in (
      live,
      by_token _ (Sign sign.Dot) (by_token _ (Name [])
          (by_token _ on.0 (by_same (feed (more_prefix whole k) on.0 1) (feed (k whole) on.0 1) (on.1.prefix whole k 1) on.2))),
    )

-- an expression is `nil`
pub live_exp : (m : ℕ) (k : Exp → Reader) → ((e : Exp) → IsLiveAt EndsExp (k e)) → IsLive (exp m k)
live_exp m k live = (live, by_token _ (Word word.Nil) (at_some _ (live_more_exp m (tree.nil 1) k live).1))

-- what goes on with an expression goes on with a prefix
pub live_prefix : (m : ℕ) (k : Exp → Reader) → ((e : Exp) → IsLiveAt EndsExp (k e)) → IsLivePrefix (λ p. more_exp m (tree.prefix p) k)
live_prefix m k live = (λ p. live, λ p d l n. (live_more_exp m (tree.prefix (tree.member p d l n)) k live).1)
