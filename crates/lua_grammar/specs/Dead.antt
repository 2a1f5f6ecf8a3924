-- Dead states of a reader: no tokens lead from them to a chunk that stands for a program.
use Rattle.lua_lexer.specs.declared.tokens.TokenKind.{TokenKind}
use Rattle.lua_grammar.specs.declared.operators.Operator.{Operator}
use Rattle.lua_grammar.specs.Tree.{Line, Bytes, NameList, FuncName, Separator, End, Exp, PrefixExp, Args, ExpList, Fields, Field, Block, Stats, Stat, Arms}
use Rattle.lua_grammar.specs.Tree.{LastStat, VarList}
use Rattle.lua_grammar.specs.Tree as tree
use Rattle.lua_grammar.specs.Grammar.{IsChunk}
use Rattle.lua_grammar.specs.Waiting.{Reader, failed, chunk, token, exp, more_exp, more_prefix, more_list, more_fields, more_names, more_funcname, more_vars}
use Rattle.lua_grammar.specs.Waiting.{more_arms, more_stats, unless_assign, after_statement, after_local, after_return}

-- ---- what a part that was read becomes as it goes on: itself, or a whole that begins with it

pub data ExpFrom (first : Exp) : Exp → Type 0 where
  alone : ExpFrom first first
  operator : (a : Exp) (op : Operator) (l : Line) (b : Exp) → ExpFrom first a → ExpFrom first (tree.binary a op l b)

pub data PrefixFrom (first : PrefixExp) : PrefixExp → Type 0 where
  alone : PrefixFrom first first
  item : (p : PrefixExp) (o : Line) (e : Exp) (c : Line) → PrefixFrom first p → PrefixFrom first (tree.item p o e c)
  member : (p : PrefixExp) (d l : Line) (n : Bytes) → PrefixFrom first p → PrefixFrom first (tree.member p d l n)
  call : (p : PrefixExp) (a : Args) → PrefixFrom first p → PrefixFrom first (tree.call p a)
  method : (p : PrefixExp) (c l : Line) (n : Bytes) (a : Args) → PrefixFrom first p → PrefixFrom first (tree.method p c l n a)

pub data ListFrom (first : ExpList) : ExpList → Type 0 where
  alone : ListFrom first first
  more : (es : ExpList) (c : Line) (e : Exp) → ListFrom first es → ListFrom first (tree.more es c e)

pub data FieldsFrom (first : Fields) : Fields → Type 0 where
  alone : FieldsFrom first first
  more : (fs : Fields) (f : Field) (s : Separator) → FieldsFrom first fs → FieldsFrom first (tree.more_fields fs f s)

pub data NamesFrom (first : NameList) : NameList → Type 0 where
  alone : NamesFrom first first
  more : (ns : NameList) (c l : Line) (n : Bytes) → NamesFrom first ns → NamesFrom first (tree.next_name ns c l n)

pub data FuncNameFrom (first : FuncName) : FuncName → Type 0 where
  alone : FuncNameFrom first first
  more : (f : FuncName) (d l : Line) (n : Bytes) → FuncNameFrom first f → FuncNameFrom first (tree.name_member f d l n)

pub data VarsFrom (first : VarList) : VarList → Type 0 where
  alone : VarsFrom first first
  more : (vs : VarList) (c : Line) (p : PrefixExp) → VarsFrom first vs → VarsFrom first (tree.more_vars vs c p)

pub data ArmsFrom (first : Arms) : Arms → Type 0 where
  alone : ArmsFrom first first
  more : (those : Arms) (i : Line) (t : Exp) (h : Line) (b : Block) → ArmsFrom first those → ArmsFrom first (tree.elseif_arm those i t h b)

pub data StatsFrom (first : Stats) : Stats → Type 0 where
  alone : StatsFrom first first
  more : (ss : Stats) (s : Stat) (x : End) → StatsFrom first ss → StatsFrom first (tree.more_stats ss s x)

-- ---- a reader is dead where it is so after each tree that it may go on with

abbrev pub IsDead : Reader → Type 0
IsDead failed = Unit {0}
IsDead (chunk b) = IsChunk b → ⊥
IsDead (token k) = (kind : TokenKind) (l : Line) → IsDead (k kind l)
IsDead (exp m k) = (e : Exp) → IsDead (k e)
IsDead (more_exp m e k) = (whole : Exp) → ExpFrom e whole → IsDead (k whole)
IsDead (more_prefix p k) = (whole : PrefixExp) → PrefixFrom p whole → IsDead (k whole)
IsDead (more_list es k) = (whole : ExpList) → ListFrom es whole → IsDead (k whole)
IsDead (more_fields o fs k) =
    (those : Fields) → FieldsFrom fs those
    → ((c : Line) → IsDead (k (tree.separated o those c))) × ((f : Field) (c : Line) → IsDead (k (tree.ending o those f c)))
IsDead (more_names ns k rest) = (those : NameList) → NamesFrom ns those → IsDead (k those) × ((c d : Line) → IsDead (rest those c d))
IsDead (more_funcname f k) = (whole : FuncName) → FuncNameFrom f whole → IsDead (k whole)
IsDead (more_vars vs k) = (those : VarList) → VarsFrom vs those → (q : Line) (es : ExpList) → IsDead (k (tree.assign those q es))
IsDead (more_arms first k) =
    (those : Arms) → ArmsFrom first those
    → ((e : Line) → IsDead (k (tree.if_then those e))) × ((l : Line) (b : Block) (e : Line) → IsDead (k (tree.if_else those l b e)))
IsDead (more_stats ss k) =
    (those : Stats) → StatsFrom ss those
    → IsDead (k (tree.statements those)) × ((s : LastStat) (x : End) → IsDead (k (tree.with_last those s x)))
IsDead (unless_assign r k) = IsDead r × ((q : Line) → IsDead (k q))
IsDead (after_statement k) = (x : End) → IsDead (k x)
IsDead (after_local l ns k) = IsDead (k (tree.local l ns)) × ((q : Line) (es : ExpList) → IsDead (k (tree.local_values l ns q es)))
IsDead (after_return r k) = IsDead (k (tree.return_none r)) × ((es : ExpList) → IsDead (k (tree.return_values r es)))
