-- The program that a tree stands for. Names are resolved in the order of the text, from the scope before a part of the tree
-- to the scope after it.
use Rattle.std.specs.Prelude.{◌≡◌, ℕ, ◌≤◌, Bool, List, [], ◌∷◌, ◌++◌, map, length, slice_set, Option, Some, None, Vec, codes}
use Rattle.std.specs.Global.{Global}
use Rattle.std.specs.declared.rc.Rc.{Rc}
use Rattle.lua_ast.specs.declared.expressions.Expr.{Expr}
use Rattle.lua_ast.specs.declared.expressions.ExprKind.{ExprKind}
use Rattle.lua_ast.specs.declared.expressions.ExprKind as kind
use Rattle.lua_ast.specs.declared.expressions.TableItem.{TableItem}
use Rattle.lua_ast.specs.declared.expressions.TableItem as tableitem
use Rattle.lua_ast.specs.declared.statements.Stmt.{Stmt}
use Rattle.lua_ast.specs.declared.statements.StmtKind.{StmtKind}
use Rattle.lua_ast.specs.declared.statements.StmtKind as stmt
use Rattle.lua_ast.specs.declared.statements.Arm.{Arm, out-Arm}
use Rattle.lua_ast.specs.declared.programs.Capture.{Capture}
use Rattle.lua_ast.specs.declared.programs.Capture.TheVariants.{Slot, Outer}
use Rattle.lua_ast.specs.declared.programs.Function.{Function}
use Rattle.lua_grammar.specs.declared.operators.Operator.{Operator}
use Rattle.lua_grammar.specs.declared.operators.Operator.TheVariants.{Or, And, Plain}
use Rattle.lua_grammar.specs.Scopes.{Frame, Scope, look, declare, in_scope, slots_from, leave, enter}
use Rattle.lua_grammar.specs.Validity.{takes_vararg}
use Rattle.lua_grammar.specs.Tree.{Line, Bytes, NameList, Params, FuncName, Exp, PrefixExp, Args, ExpList, Table, Fields, Field, FuncBody, Block, Stats, Stat}
use Rattle.lua_grammar.specs.Tree.{Arms, LastStat, VarList}
use Rattle.lua_grammar.specs.Tree as tree

-- an expression that is a part of another, or of a statement
abbrev pub Shared : Type 0
Shared = Rc Expr Global

abbrev pub SharedList : Type 0 → Type 0
SharedList X = Rc (Vec X Global) Global

abbrev pub node : Line → ExprKind → Expr
node line k = record { line = line; kind = k }

abbrev pub statement : Line → StmtKind → Stmt
statement line k = record { line = line; kind = k }

abbrev pub names_of : NameList → List Bytes
names_of (tree.first_name l n) = n ∷ []
names_of (tree.next_name names c l n) = names_of names ++ n ∷ []

abbrev pub names_of_params : Params → List Bytes
names_of_params tree.no_params = []
names_of_params (tree.names names) = names_of names
names_of_params (tree.names_and_vararg names c l) = names_of names
names_of_params (tree.only_vararg l) = []

-- the line of the first token
abbrev pub prefix_line : PrefixExp → Line
prefix_line (tree.variable l n) = l
prefix_line (tree.paren o e c) = o
prefix_line (tree.item p o e c) = prefix_line p
prefix_line (tree.member p d l n) = prefix_line p
prefix_line (tree.call p a) = prefix_line p
prefix_line (tree.method p c l n a) = prefix_line p

abbrev pub vars_line : VarList → Line
vars_line (tree.one_var p) = prefix_line p
vars_line (tree.more_vars vs c p) = vars_line vs

abbrev pub arms_line : Arms → Line
arms_line (tree.if_arm i t h b) = i
arms_line (tree.elseif_arm those i t h b) = arms_line those

abbrev pub table_line : Table → Line
table_line (tree.separated o fs c) = o
table_line (tree.ending o fs f c) = o

abbrev pub args_line : Args → Line
args_line (tree.no_args o c) = o
args_line (tree.args o es c) = o
args_line (tree.table_arg t) = table_line t
args_line (tree.string_arg l bytes) = l

abbrev pub binary_kind : Operator → Shared → Shared → ExprKind
binary_kind Or a b = kind.Or a b
binary_kind And a b = kind.And a b
binary_kind (Plain op) a b = kind.Binary op a b

-- a variable that was found, or else the global of that name
abbrev pub variable_kind : Bytes → Option Capture → ExprKind
variable_kind name (Some (Slot slot)) = kind.Slot slot
variable_kind name (Some (Outer index)) = kind.Captured index
variable_kind name None = kind.Global name

-- a name where it is read or written
pub record ResolvesName (l : Line) (n : Bytes) (s : Scope) (e : Expr) (t : Scope) : Type 0 where
  pub expr : e ≡ node l (variable_kind n (look n s.enclosing).0)
  pub scope : t ≡ record s { enclosing = (look n s.enclosing).1 }

-- the function with these parameters and statements, of which `frame` is known at its end
pub record IsFunction (line : Line) (names : List Bytes) (rest : Bool) (frame : Frame) (statements : List Stmt) (f : Function) : Type 0 where
  pub file : f.file ≡ 0
  pub params : f.params ≡ length names
  pub vararg : f.vararg ≡ rest
  pub slots : f.slots ≡ frame.slots
  pub captures : f.captures.items ≡ map (λ c. c.variable) frame.captures
  pub body : f.body.value.items ≡ statements
  pub begins : f.line ≡ line
  pub few_locals : frame.slots ≤ 200
  pub few_captures : length frame.captures ≤ 60

-- A function that begins in the scope `s` and at whose end the scope is `t`: its entry among the functions is now itself, and
-- the scope `u` after it is again that of the enclosing function.
abbrev pub EndsFunction : Line → List Bytes → Bool → List Stmt → Scope → Scope → Scope → Type 0
EndsFunction line names rest statements s t u =
    (f : Function) × (frame : Frame) × (enclosing : List Frame) × (t.enclosing ≡ frame ∷ enclosing)
    × IsFunction line names rest frame statements f
    × (u ≡ record { functions = slice_set t.functions (length s.functions) f; enclosing = enclosing })

-- the name of the first parameter of a method
abbrev pub self_name : Bytes
self_name = codes "self"

-- `object.name`, and the target of `function object:name`
abbrev pub Index : Line → Shared → Line → Bytes → Expr → Type 0
Index dot object l n e = (key : Shared) × (key.value ≡ node l (kind.Text n)) × (e ≡ node dot (kind.Index object key))

abbrev pub ResolvesFuncName : FuncName → Scope → Expr → Scope → Type 0
ResolvesFuncName (tree.root_name l n) s e t = ResolvesName l n s e t
ResolvesFuncName (tree.name_member f d l n) s e t = (object : Shared) × ResolvesFuncName f s object.value t × Index d object l n e

unfoldable mutual
  pub Resolves : Exp → Scope → Expr → Scope → Type 0
  Resolves (tree.nil l) s e t = (e ≡ node l kind.Nil) × (t ≡ s)
  Resolves (tree.false_ l) s e t = (e ≡ node l kind.False) × (t ≡ s)
  Resolves (tree.true_ l) s e t = (e ≡ node l kind.True) × (t ≡ s)
  Resolves (tree.number l n) s e t = (e ≡ node l (kind.Number n)) × (t ≡ s)
  Resolves (tree.string l bytes) s e t = (e ≡ node l (kind.Text bytes)) × (t ≡ s)
  Resolves (tree.dots l) s e t = (e ≡ node l kind.Vararg) × (t ≡ s)
  Resolves (tree.function l body) s e t = (n : ℕ) × ResolvesBody [] l body s n t × (e ≡ node l (kind.Function n))
  Resolves (tree.prefix p) s e t = ResolvesPrefix p s e t
  Resolves (tree.table x) s e t = ResolvesTable x s e t
  Resolves (tree.binary a op l b) s e t =
      (x : Shared) × (y : Shared) × (m : Scope) × Resolves a s x.value m × Resolves b m y.value t × (e ≡ node l (binary_kind op x y))
  Resolves (tree.unary op l b) s e t = (x : Shared) × Resolves b s x.value t × (e ≡ node l (kind.Unary op x))

  pub ResolvesPrefix : PrefixExp → Scope → Expr → Scope → Type 0
  ResolvesPrefix (tree.variable l n) s e t = ResolvesName l n s e t
  ResolvesPrefix (tree.paren o b c) s e t = (x : Shared) × Resolves b s x.value t × (e ≡ node o (kind.Paren x))
  ResolvesPrefix (tree.item p o b c) s e t =
      (x : Shared) × (y : Shared) × (m : Scope) × ResolvesPrefix p s x.value m × Resolves b m y.value t × (e ≡ node o (kind.Index x y))
  ResolvesPrefix (tree.member p d l n) s e t = (x : Shared) × ResolvesPrefix p s x.value t × Index d x l n e
  ResolvesPrefix (tree.call p a) s e t =
      (x : Shared) × (values : SharedList Expr) × (m : Scope) × ResolvesPrefix p s x.value m × ResolvesArgs a m values.value.items t
      × (e ≡ node (args_line a) (kind.Call x values))
  ResolvesPrefix (tree.method p c l n a) s e t =
      (x : Shared) × (values : SharedList Expr) × (m : Scope) × ResolvesPrefix p s x.value m × ResolvesArgs a m values.value.items t
      × (e ≡ node (args_line a) (kind.Method x n values))

  pub ResolvesArgs : Args → Scope → List Expr → Scope → Type 0
  ResolvesArgs (tree.no_args o c) s es t = (es ≡ []) × (t ≡ s)
  ResolvesArgs (tree.args o list c) s es t = ResolvesList list s es t
  ResolvesArgs (tree.table_arg x) s es t = (e : Expr) × ResolvesTable x s e t × (es ≡ e ∷ [])
  ResolvesArgs (tree.string_arg l bytes) s es t = (es ≡ node l (kind.Text bytes) ∷ []) × (t ≡ s)

  pub ResolvesList : ExpList → Scope → List Expr → Scope → Type 0
  ResolvesList (tree.one b) s es t = (e : Expr) × Resolves b s e t × (es ≡ e ∷ [])
  ResolvesList (tree.more list c b) s es t =
      (before : List Expr) × (e : Expr) × (m : Scope) × ResolvesList list s before m × Resolves b m e t × (es ≡ before ++ e ∷ [])

  pub ResolvesTable : Table → Scope → Expr → Scope → Type 0
  ResolvesTable (tree.separated o fs c) s e t =
      (items : SharedList TableItem) × ResolvesFields fs s items.value.items t × (e ≡ node o (kind.Table items))
  ResolvesTable (tree.ending o fs f c) s e t =
      (items : SharedList TableItem) × (before : List TableItem) × (i : TableItem) × (m : Scope) × ResolvesFields fs s before m
      × ResolvesField f m i t × (items.value.items ≡ before ++ i ∷ []) × (e ≡ node o (kind.Table items))

  pub ResolvesFields : Fields → Scope → List TableItem → Scope → Type 0
  ResolvesFields tree.no_fields s items t = (items ≡ []) × (t ≡ s)
  ResolvesFields (tree.more_fields fs f x) s items t =
      (before : List TableItem) × (i : TableItem) × (m : Scope) × ResolvesFields fs s before m × ResolvesField f m i t × (items ≡ before ++ i ∷ [])

  pub ResolvesField : Field → Scope → TableItem → Scope → Type 0
  ResolvesField (tree.keyed o k c q b) s i t =
      (key : Expr) × (value : Expr) × (m : Scope) × Resolves k s key m × Resolves b m value t × (i ≡ tableitem.Pair key value)
  ResolvesField (tree.named l n q b) s i t = (value : Expr) × Resolves b s value t × (i ≡ tableitem.Pair (node l (kind.Text n)) value)
  ResolvesField (tree.plain b) s i t = (value : Expr) × Resolves b s value t × (i ≡ tableitem.Item value)

  -- the function whose word `function` stands on line `l` is number `n` of the program; its parameters are the names `before`
  -- (`self` of a method) and those that it lists
  pub ResolvesBody : List Bytes → Line → FuncBody → Scope → ℕ → Scope → Type 0
  ResolvesBody before l (tree.function_body o ps c b x) s n t =
      (kept : Function) × (out : List Stmt) × (m : Scope) × Opens b (enter (before ++ names_of_params ps) kept s) out m
      × EndsFunction l (before ++ names_of_params ps) (takes_vararg ps) out s m t × (n ≡ length s.functions)

  -- the statements of a block; the scope after them is that at its end, with its locals, which `leave` takes out of scope
  pub Opens : Block → Scope → List Stmt → Scope → Type 0
  Opens (tree.statements ss) s out t = ResolvesStats ss s out t
  Opens (tree.with_last ss l x) s out t =
      (before : List Stmt) × (last : Stmt) × (m : Scope) × ResolvesStats ss s before m × ResolvesLast l m last t × (out ≡ before ++ last ∷ [])

  pub ResolvesStats : Stats → Scope → List Stmt → Scope → Type 0
  ResolvesStats tree.no_stats s out t = (out ≡ []) × (t ≡ s)
  ResolvesStats (tree.more_stats ss st x) s out t =
      (before : List Stmt) × (last : Stmt) × (m : Scope) × ResolvesStats ss s before m × ResolvesStat st m last t × (out ≡ before ++ last ∷ [])

  pub ResolvesStat : Stat → Scope → Stmt → Scope → Type 0
  ResolvesStat (tree.assign vs q es) s out t =
      (targets : SharedList Expr) × (values : SharedList Expr) × (m : Scope) × ResolvesVars vs s targets.value.items m
      × ResolvesList es m values.value.items t × (out ≡ statement (vars_line vs) (stmt.Assign targets values))
  ResolvesStat (tree.call_statement p) s out t = (e : Expr) × ResolvesPrefix p s e t × (out ≡ statement (prefix_line p) (stmt.Call e))
  ResolvesStat (tree.do_block d b x) s out t =
      (body : SharedList Stmt) × (m : Scope) × Opens b s body.value.items m × (t ≡ leave s m) × (out ≡ statement d (stmt.Do body))
  ResolvesStat (tree.while_loop w b d body x) s out t =
      (test : Shared) × (run : SharedList Stmt) × (m : Scope) × (k : Scope) × Resolves b s test.value m × Opens body m run.value.items k
      × (t ≡ leave m k) × (out ≡ statement w (stmt.While test run))
  ResolvesStat (tree.repeat_loop r body u b) s out t =
      (test : Shared) × (run : SharedList Stmt) × (m : Scope) × (k : Scope) × Opens body s run.value.items m × Resolves b m test.value k
      × (t ≡ leave s k) × (out ≡ statement r (stmt.Repeat run test))
  ResolvesStat (tree.if_then those x) s out t =
      (list : SharedList Arm) × (otherwise : SharedList Stmt) × ResolvesArms those s list.value.items t × (otherwise.value.items ≡ [])
      × (out ≡ statement (arms_line those) (stmt.If list otherwise))
  ResolvesStat (tree.if_else those l b x) s out t =
      (list : SharedList Arm) × (otherwise : SharedList Stmt) × (m : Scope) × (k : Scope) × ResolvesArms those s list.value.items m
      × Opens b m otherwise.value.items k × (t ≡ leave m k) × (out ≡ statement (arms_line those) (stmt.If list otherwise))
  ResolvesStat (tree.for_range f l n q b c b' d body x) s out t =
      (from : Shared) × (to : Shared) × (run : SharedList Stmt) × (h : Scope) × (m : Scope) × (k : Scope) × Resolves b s from.value h
      × Resolves b' h to.value m × Opens body (declare (n ∷ []) m) run.value.items k × (t ≡ leave m k)
      × (out ≡ statement f (stmt.NumericFor (in_scope m) from to None run))
  ResolvesStat (tree.for_steps f l n q b c b' c' b'' d body x) s out t =
      (from : Shared) × (to : Shared) × (step : Shared) × (run : SharedList Stmt) × (g : Scope) × (h : Scope) × (m : Scope) × (k : Scope)
      × Resolves b s from.value g × Resolves b' g to.value h × Resolves b'' h step.value m
      × Opens body (declare (n ∷ []) m) run.value.items k × (t ≡ leave m k)
      × (out ≡ statement f (stmt.NumericFor (in_scope m) from to (Some step) run))
  ResolvesStat (tree.for_in f ns i es d body x) s out t =
      (slots : SharedList ℕ) × (values : SharedList Expr) × (run : SharedList Stmt) × (m : Scope) × (k : Scope)
      × ResolvesList es s values.value.items m × (slots.value.items ≡ slots_from (in_scope m) (names_of ns))
      × Opens body (declare (names_of ns) m) run.value.items k × (t ≡ leave m k) × (out ≡ statement f (stmt.GenericFor slots values run))
  ResolvesStat (tree.function_statement f name body) s out t =
      (targets : SharedList Expr) × (values : SharedList Expr) × (target : Expr) × (n : ℕ) × (m : Scope) × ResolvesFuncName name s target m
      × ResolvesBody [] f body m n t × (targets.value.items ≡ target ∷ []) × (values.value.items ≡ node f (kind.Function n) ∷ [])
      × (out ≡ statement f (stmt.Assign targets values))
  ResolvesStat (tree.method_statement f name c l method body) s out t =
      (targets : SharedList Expr) × (values : SharedList Expr) × (object : Shared) × (target : Expr) × (n : ℕ) × (m : Scope)
      × ResolvesFuncName name s object.value m × Index c object l method target × ResolvesBody (self_name ∷ []) f body m n t
      × (targets.value.items ≡ target ∷ []) × (values.value.items ≡ node f (kind.Function n) ∷ [])
      × (out ≡ statement f (stmt.Assign targets values))
  ResolvesStat (tree.local_function l f at n body) s out t =
      (k : ℕ) × ResolvesBody [] f body (declare (n ∷ []) s) k t × (out ≡ statement l (stmt.LocalFunction (in_scope s) k))
  ResolvesStat (tree.local l ns) s out t =
      (slots : SharedList ℕ) × (values : SharedList Expr) × (slots.value.items ≡ slots_from (in_scope s) (names_of ns))
      × (values.value.items ≡ []) × (t ≡ declare (names_of ns) s) × (out ≡ statement l (stmt.Local slots values))
  ResolvesStat (tree.local_values l ns q es) s out t =
      (slots : SharedList ℕ) × (values : SharedList Expr) × (m : Scope) × ResolvesList es s values.value.items m
      × (slots.value.items ≡ slots_from (in_scope m) (names_of ns)) × (t ≡ declare (names_of ns) m)
      × (out ≡ statement l (stmt.Local slots values))

  pub ResolvesArms : Arms → Scope → List Arm → Scope → Type 0
  ResolvesArms (tree.if_arm i b h body) s list t =
      (arm : Arm) × (m : Scope) × (k : Scope) × Resolves b s (out-Arm arm).test m × Opens body m (out-Arm arm).body.value.items k
      × (t ≡ leave m k) × (list ≡ arm ∷ [])
  ResolvesArms (tree.elseif_arm those i b h body) s list t =
      (before : List Arm) × (arm : Arm) × (g : Scope) × (m : Scope) × (k : Scope) × ResolvesArms those s before g
      × Resolves b g (out-Arm arm).test m × Opens body m (out-Arm arm).body.value.items k × (t ≡ leave m k) × (list ≡ before ++ arm ∷ [])

  pub ResolvesLast : LastStat → Scope → Stmt → Scope → Type 0
  ResolvesLast (tree.return_none r) s out t =
      (values : SharedList Expr) × (values.value.items ≡ []) × (out ≡ statement r (stmt.Return values)) × (t ≡ s)
  ResolvesLast (tree.return_values r es) s out t =
      (values : SharedList Expr) × ResolvesList es s values.value.items t × (out ≡ statement r (stmt.Return values))
  ResolvesLast (tree.break_ b) s out t = (out ≡ statement b stmt.Break) × (t ≡ s)

  pub ResolvesVars : VarList → Scope → List Expr → Scope → Type 0
  ResolvesVars (tree.one_var p) s es t = (e : Expr) × ResolvesPrefix p s e t × (es ≡ e ∷ [])
  ResolvesVars (tree.more_vars vs c p) s es t =
      (before : List Expr) × (e : Expr) × (m : Scope) × ResolvesVars vs s before m × ResolvesPrefix p m e t × (es ≡ before ++ e ∷ [])
