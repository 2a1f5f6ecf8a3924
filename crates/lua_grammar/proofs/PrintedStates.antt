-- Printed states of a reader: the tokens so far are those of what it has read, whatever it reads after them.
use Rattle.std.proofs.Common.{◌≡◌, List}
use Rattle.lua_lexer.specs.declared.tokens.TokenKind.{TokenKind}
use Rattle.lua_lexer.specs.declared.signs.Sign.TheVariants.{Assign, Comma, OpenBrace, Ellipsis}
use Rattle.lua_lexer.specs.declared.words.Word.TheVariants.{End as EndWord, Local, Return}
use Rattle.lua_grammar.specs.Tree.{Line, NameList, FuncName, End, Exp, PrefixExp, ExpList, Table, Block, Stat, LastStat}
use Rattle.lua_grammar.specs.Printing.{Lexeme, a_kind, a_word, a_sign, print_names, print_funcname, print_end, print_exp, print_prefixexp, print_explist, print_table, print_fields, print_block, print_stats, print_stat, print_arms, print_laststat, print_varlist}
use Rattle.lua_grammar.specs.Waiting.{Reader, failed, chunk, token, exp, more_exp, more_prefix, more_list, more_fields, more_names, more_funcname, more_vars, more_arms, more_stats, unless_assign, after_statement, after_local, after_return}

-- tokens before a rest
abbrev pub Tokens : Type 0
Tokens = List Lexeme → List Lexeme

-- tokens, and others after them
infixr 90 ◌∘◌
abbrev pub ◌∘◌ : Tokens → Tokens → Tokens
(first ∘ second) after = first (second after)

-- A reader that waits for a tree is printed where it is so after the tokens of each tree. Where it has read a part, the last
-- tokens are those of that part, and it is printed where, with a tree in place of the part, it is so after the tokens of each tree.
abbrev pub IsPrinted : Tokens → Reader → Type 0
IsPrinted done failed = Unit {0}
IsPrinted done (chunk b) = (l : Line) × done ≡ print_block b ∘ a_word EndWord l
IsPrinted done (token k) = (kind : TokenKind) (l : Line) → IsPrinted (done ∘ a_kind kind l) (k kind l)
IsPrinted done (exp m k) = (e : Exp) → IsPrinted (done ∘ print_exp e) (k e)
IsPrinted done (more_exp m e k) =
    (before : Tokens) × (done ≡ before ∘ print_exp e) × ((whole : Exp) → IsPrinted (before ∘ print_exp whole) (k whole))
IsPrinted done (more_prefix p k) =
    (before : Tokens) × (done ≡ before ∘ print_prefixexp p) × ((whole : PrefixExp) → IsPrinted (before ∘ print_prefixexp whole) (k whole))
IsPrinted done (more_list es k) =
    (before : Tokens) × (done ≡ before ∘ print_explist es) × ((whole : ExpList) → IsPrinted (before ∘ print_explist whole) (k whole))
IsPrinted done (more_fields o fs k) =
    (before : Tokens) × (done ≡ before ∘ a_sign OpenBrace o ∘ print_fields fs) × ((t : Table) → IsPrinted (before ∘ print_table t) (k t))
IsPrinted done (more_names ns k rest) =
    (before : Tokens) × (done ≡ before ∘ print_names ns)
    × ((those : NameList) → IsPrinted (before ∘ print_names those) (k those))
    × ((those : NameList) (c d : Line) → IsPrinted (before ∘ print_names those ∘ a_sign Comma c ∘ a_sign Ellipsis d) (rest those c d))
IsPrinted done (more_funcname f k) =
    (before : Tokens) × (done ≡ before ∘ print_funcname f) × ((whole : FuncName) → IsPrinted (before ∘ print_funcname whole) (k whole))
IsPrinted done (more_vars vs k) =
    (before : Tokens) × (done ≡ before ∘ print_varlist vs) × ((s : Stat) → IsPrinted (before ∘ print_stat s) (k s))
IsPrinted done (more_arms arms k) =
    (before : Tokens) × (done ≡ before ∘ print_arms arms) × ((s : Stat) → IsPrinted (before ∘ print_stat s) (k s))
IsPrinted done (more_stats ss k) =
    (before : Tokens) × (done ≡ before ∘ print_stats ss) × ((b : Block) → IsPrinted (before ∘ print_block b) (k b))
IsPrinted done (unless_assign r k) = IsPrinted done r × ((q : Line) → IsPrinted (done ∘ a_sign Assign q) (k q))
IsPrinted done (after_statement k) = (x : End) → IsPrinted (done ∘ print_end x) (k x)
IsPrinted done (after_local l ns k) =
    (before : Tokens) × (done ≡ before ∘ a_word Local l ∘ print_names ns) × ((s : Stat) → IsPrinted (before ∘ print_stat s) (k s))
IsPrinted done (after_return r k) =
    (before : Tokens) × (done ≡ before ∘ a_word Return r) × ((s : LastStat) → IsPrinted (before ∘ print_laststat s) (k s))
