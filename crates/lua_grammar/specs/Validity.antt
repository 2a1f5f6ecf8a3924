-- Which trees are valid: precedence, what may be assigned and called, where `...` and `break` may stand, on which line the
-- arguments of a call begin, which statements need a `;` between them, and how high an expression may be (Lua 5.1 Reference
-- Manual, 2.4 and 2.5).
use Rattle.std.specs.Prelude.{◌≡◌, ℕ, ◌+◌, ◌≤◌, Bool, true, false}
use Rattle.lua_grammar.specs.Operators.{level, left_level, right_level, unary_level, highest_level}
use Rattle.lua_grammar.specs.Levels.{height, prefix_height, table_height, funcname_height}
use Rattle.lua_grammar.specs.Tree.{Line, Bytes, NameList, Params, FuncName, Separator, End, Exp, PrefixExp, Args, ExpList, Table, Fields, Field, FuncBody}
use Rattle.lua_grammar.specs.Tree.{Block, Stats, Stat, Arms, LastStat, VarList}
use Rattle.lua_grammar.specs.Tree as tree

-- the level of precedence of an expression
abbrev pub exp_level : Exp → ℕ
exp_level (tree.binary a op l b) = level op
exp_level (tree.unary op l e) = unary_level
exp_level other = highest_level

-- `var` and `functioncall` among the prefixes
abbrev pub IsVariable : PrefixExp → Type 0
IsVariable (tree.variable l n) = Unit {0}
IsVariable (tree.item p o e c) = Unit {0}
IsVariable (tree.member p d l n) = Unit {0}
IsVariable other = ⊥

abbrev pub IsCall : PrefixExp → Type 0
IsCall (tree.call p a) = Unit {0}
IsCall (tree.method p c l n a) = Unit {0}
IsCall other = ⊥

-- the line of the last token; that of a string is the one on which it begins
abbrev pub table_end : Table → Line
table_end (tree.separated o fs c) = c
table_end (tree.ending o fs f c) = c

abbrev pub args_end : Args → Line
args_end (tree.no_args o c) = c
args_end (tree.args o es c) = c
args_end (tree.table_arg t) = table_end t
args_end (tree.string_arg l bytes) = l

abbrev pub prefix_end : PrefixExp → Line
prefix_end (tree.variable l n) = l
prefix_end (tree.paren o e c) = c
prefix_end (tree.item p o e c) = c
prefix_end (tree.member p d l n) = l
prefix_end (tree.call p a) = args_end a
prefix_end (tree.method p c l n a) = args_end a

-- the `(` of a call stands on the line of the token before it, else the call is ambiguous with a new statement
abbrev pub BeginOn : Line → Args → Type 0
BeginOn line (tree.no_args o c) = o ≡ line
BeginOn line (tree.args o es c) = o ≡ line
BeginOn line other = Unit {0}

-- An expression, a list or a statement whose last tokens are a prefix: a `(` after it would be that of a call.
abbrev pub EndsWithPrefix : Exp → Type 0
EndsWithPrefix (tree.prefix p) = Unit {0}
EndsWithPrefix (tree.binary a op l b) = EndsWithPrefix b
EndsWithPrefix (tree.unary op l e) = EndsWithPrefix e
EndsWithPrefix other = ⊥

abbrev pub ListEndsWithPrefix : ExpList → Type 0
ListEndsWithPrefix (tree.one e) = EndsWithPrefix e
ListEndsWithPrefix (tree.more es c e) = EndsWithPrefix e

abbrev pub StatEndsWithPrefix : Stat → Type 0
StatEndsWithPrefix (tree.assign vs q es) = ListEndsWithPrefix es
StatEndsWithPrefix (tree.call_statement p) = Unit {0}
StatEndsWithPrefix (tree.repeat_loop r b u t) = EndsWithPrefix t
StatEndsWithPrefix (tree.local_values l ns q es) = ListEndsWithPrefix es
StatEndsWithPrefix other = ⊥

-- a prefix, targets or a statement whose first token is `(`
abbrev pub BeginsWithParen : PrefixExp → Type 0
BeginsWithParen (tree.variable l n) = ⊥
BeginsWithParen (tree.paren o e c) = Unit {0}
BeginsWithParen (tree.item p o e c) = BeginsWithParen p
BeginsWithParen (tree.member p d l n) = BeginsWithParen p
BeginsWithParen (tree.call p a) = BeginsWithParen p
BeginsWithParen (tree.method p c l n a) = BeginsWithParen p

abbrev pub VarsBeginWithParen : VarList → Type 0
VarsBeginWithParen (tree.one_var p) = BeginsWithParen p
VarsBeginWithParen (tree.more_vars vs c p) = VarsBeginWithParen vs

abbrev pub StatBeginsWithParen : Stat → Type 0
StatBeginsWithParen (tree.assign vs q es) = VarsBeginWithParen vs
StatBeginsWithParen (tree.call_statement p) = BeginsWithParen p
StatBeginsWithParen other = ⊥

-- A statement may come after others. A `(` that could be that of a call is that of a call: so where this one begins with
-- `(`, and the one before it ends with a prefix, a `;` stands between them.
abbrev pub MayFollow : Stats → Stat → Type 0
MayFollow (tree.more_stats ss before tree.bare) s = StatEndsWithPrefix before → StatBeginsWithParen s → ⊥
MayFollow other s = Unit {0}

-- an expression may be that high, and no higher
abbrev pub IsLow : ℕ → Type 0
IsLow h = h ≤ 4_000

-- whether parameters end with `...`
abbrev pub takes_vararg : Params → Bool
takes_vararg tree.no_params = false
takes_vararg (tree.names ns) = false
takes_vararg (tree.names_and_vararg ns c l) = true
takes_vararg (tree.only_vararg l) = true

-- What is valid depends on the function that it is in: `rest` says whether that takes more arguments, as `...`, and `loop`
-- whether a block or a statement is inside a loop of that function.
unfoldable mutual
  pub IsValid : Bool → Exp → Type 0
  IsValid rest (tree.dots l) = rest ≡ true
  IsValid rest (tree.function l body) = IsValidBody body
  IsValid rest (tree.prefix p) = IsValidPrefix rest p
  IsValid rest (tree.table t) = IsValidTable rest t
  IsValid rest (tree.binary a op l b) =
      IsValid rest a × IsValid rest b × (left_level op ≤ exp_level a) × (right_level op ≤ exp_level b) × IsLow (height (tree.binary a op l b))
  IsValid rest (tree.unary op l e) = IsValid rest e × (unary_level ≤ exp_level e) × IsLow (height (tree.unary op l e))
  IsValid rest leaf = Unit {0}

  pub IsValidPrefix : Bool → PrefixExp → Type 0
  IsValidPrefix rest (tree.variable l n) = Unit {0}
  IsValidPrefix rest (tree.paren o e c) = IsValid rest e × IsLow (prefix_height (tree.paren o e c))
  IsValidPrefix rest (tree.item p o e c) = IsValidPrefix rest p × IsValid rest e × IsLow (prefix_height (tree.item p o e c))
  IsValidPrefix rest (tree.member p d l n) = IsValidPrefix rest p × IsLow (prefix_height (tree.member p d l n))
  IsValidPrefix rest (tree.call p a) =
      IsValidPrefix rest p × IsValidArgs rest a × BeginOn (prefix_end p) a × IsLow (prefix_height (tree.call p a))
  IsValidPrefix rest (tree.method p c l n a) =
      IsValidPrefix rest p × IsValidArgs rest a × BeginOn l a × IsLow (prefix_height (tree.method p c l n a))

  pub IsValidArgs : Bool → Args → Type 0
  IsValidArgs rest (tree.args o es c) = AreValid rest es
  IsValidArgs rest (tree.table_arg t) = IsValidTable rest t
  IsValidArgs rest other = Unit {0}

  pub AreValid : Bool → ExpList → Type 0
  AreValid rest (tree.one e) = IsValid rest e
  AreValid rest (tree.more es c e) = AreValid rest es × IsValid rest e

  pub IsValidTable : Bool → Table → Type 0
  IsValidTable rest (tree.separated o fs c) = AreValidFields rest fs × IsLow (table_height (tree.separated o fs c))
  IsValidTable rest (tree.ending o fs f c) = AreValidFields rest fs × IsValidField rest f × IsLow (table_height (tree.ending o fs f c))

  pub AreValidFields : Bool → Fields → Type 0
  AreValidFields rest tree.no_fields = Unit {0}
  AreValidFields rest (tree.more_fields fs f s) = AreValidFields rest fs × IsValidField rest f

  pub IsValidField : Bool → Field → Type 0
  IsValidField rest (tree.keyed o k c q e) = IsValid rest k × IsValid rest e
  IsValidField rest (tree.named l n q e) = IsValid rest e
  IsValidField rest (tree.plain e) = IsValid rest e

  pub IsValidBody : FuncBody → Type 0
  IsValidBody (tree.function_body o ps c b e) = IsValidBlock (takes_vararg ps) false b

  pub IsValidBlock : Bool → Bool → Block → Type 0
  IsValidBlock rest loop (tree.statements ss) = AreValidStats rest loop ss
  IsValidBlock rest loop (tree.with_last ss s e) = AreValidStats rest loop ss × IsValidLast rest loop s

  pub AreValidStats : Bool → Bool → Stats → Type 0
  AreValidStats rest loop tree.no_stats = Unit {0}
  AreValidStats rest loop (tree.more_stats ss s e) = AreValidStats rest loop ss × IsValidStat rest loop s × MayFollow ss s

  pub IsValidStat : Bool → Bool → Stat → Type 0
  IsValidStat rest loop (tree.assign vs q es) = AreValidVars rest vs × AreValid rest es
  IsValidStat rest loop (tree.call_statement p) = IsValidPrefix rest p × IsCall p
  IsValidStat rest loop (tree.do_block d b e) = IsValidBlock rest loop b
  IsValidStat rest loop (tree.while_loop w t d b e) = IsValid rest t × IsValidBlock rest true b
  IsValidStat rest loop (tree.repeat_loop r b u t) = IsValidBlock rest true b × IsValid rest t
  IsValidStat rest loop (tree.if_then list e) = AreValidArms rest loop list
  IsValidStat rest loop (tree.if_else list l b e) = AreValidArms rest loop list × IsValidBlock rest loop b
  IsValidStat rest loop (tree.for_range f l n q from c to d b e) = IsValid rest from × IsValid rest to × IsValidBlock rest true b
  IsValidStat rest loop (tree.for_steps f l n q from c to k step d b e) =
      IsValid rest from × IsValid rest to × IsValid rest step × IsValidBlock rest true b
  IsValidStat rest loop (tree.for_in f ns i es d b e) = AreValid rest es × IsValidBlock rest true b
  IsValidStat rest loop (tree.function_statement f n b) = IsValidBody b × IsLow (funcname_height n)
  IsValidStat rest loop (tree.method_statement f n c l m b) = IsValidBody b × IsLow (funcname_height n + 1)
  IsValidStat rest loop (tree.local_function l f m n b) = IsValidBody b
  IsValidStat rest loop (tree.local l ns) = Unit {0}
  IsValidStat rest loop (tree.local_values l ns q es) = AreValid rest es

  pub AreValidArms : Bool → Bool → Arms → Type 0
  AreValidArms rest loop (tree.if_arm i t h b) = IsValid rest t × IsValidBlock rest loop b
  AreValidArms rest loop (tree.elseif_arm list i t h b) = AreValidArms rest loop list × IsValid rest t × IsValidBlock rest loop b

  pub IsValidLast : Bool → Bool → LastStat → Type 0
  IsValidLast rest loop (tree.return_none r) = Unit {0}
  IsValidLast rest loop (tree.return_values r es) = AreValid rest es
  IsValidLast rest loop (tree.break_ b) = loop ≡ true

  pub AreValidVars : Bool → VarList → Type 0
  AreValidVars rest (tree.one_var p) = IsValidPrefix rest p × IsVariable p
  AreValidVars rest (tree.more_vars vs c p) = AreValidVars rest vs × IsValidPrefix rest p × IsVariable p
