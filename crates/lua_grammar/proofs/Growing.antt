-- What each part of a tree does to the functions enclosing it.
use Rattle.std.proofs.Common.{ℕ, List, [], ◌∷◌, ◌++◌}
use Rattle.lua_ast.specs.declared.expressions.Expr.{Expr}
use Rattle.lua_ast.specs.declared.expressions.TableItem.{TableItem}
use Rattle.lua_ast.specs.declared.statements.Stmt.{Stmt}
use Rattle.lua_ast.specs.declared.statements.Arm.{Arm, out-Arm}
use Rattle.lua_grammar.specs.Tree.{Line, Bytes, FuncName, Exp, PrefixExp, Args, ExpList, Table, Fields, Field, FuncBody, Block, Stats, Stat, Arms, LastStat, VarList}
use Rattle.lua_grammar.specs.Tree as tree
use Rattle.lua_grammar.specs.Validity.{takes_vararg}
use Rattle.lua_grammar.specs.Scopes.{Scope, declare, enter}
use Rattle.lua_grammar.specs.Resolution.{ResolvesFuncName, Resolves, ResolvesPrefix, ResolvesArgs, ResolvesList, ResolvesTable, ResolvesFields, ResolvesField, ResolvesBody, Opens, ResolvesStats, ResolvesStat, ResolvesArms, ResolvesLast, ResolvesVars, names_of, names_of_params, self_name}
use Rattle.lua_grammar.proofs.Frames.{Keeps, Goes, stays, and_keeps, goes, and_goes, name_keeps, declare_goes, leave_goes, ended_keeps}

pub funcname_keeps : (a : FuncName) (s : Scope) (e : Expr) (t : Scope) → ResolvesFuncName a s e t → Keeps s t
funcname_keeps (tree.root_name l n) s e t r = name_keeps r
funcname_keeps (tree.name_member f d l n) s e t (x, p, i) = funcname_keeps f s x.value t p

mutual
  unfolding Resolves

  pub exp_keeps : (a : Exp) (s : Scope) (e : Expr) (t : Scope) → Resolves a s e t → Keeps s t
  exp_keeps (tree.nil l) s e t (i, u) = stays u
  exp_keeps (tree.false_ l) s e t (i, u) = stays u
  exp_keeps (tree.true_ l) s e t (i, u) = stays u
  exp_keeps (tree.number l n) s e t (i, u) = stays u
  exp_keeps (tree.string l n) s e t (i, u) = stays u
  exp_keeps (tree.dots l) s e t (i, u) = stays u
  exp_keeps (tree.function l body) s e t (n, p, i) = body_keeps [] l body s n t p
  exp_keeps (tree.prefix a) s e t p = prefix_keeps a s e t p
  exp_keeps (tree.table a) s e t p = table_keeps a s e t p
  exp_keeps (tree.binary a op l b) s e t (x, y, m, p, q, i) = and_keeps (exp_keeps a s x.value m p) (exp_keeps b m y.value t q)
  exp_keeps (tree.unary op l b) s e t (x, p, i) = exp_keeps b s x.value t p

  pub prefix_keeps : (a : PrefixExp) (s : Scope) (e : Expr) (t : Scope) → ResolvesPrefix a s e t → Keeps s t
  prefix_keeps (tree.variable l n) s e t r = name_keeps r
  prefix_keeps (tree.paren o b c) s e t (x, p, i) = exp_keeps b s x.value t p
  prefix_keeps (tree.item a o b c) s e t (x, y, m, p, q, i) = and_keeps (prefix_keeps a s x.value m p) (exp_keeps b m y.value t q)
  prefix_keeps (tree.member a d l n) s e t (x, p, i) = prefix_keeps a s x.value t p
  prefix_keeps (tree.call a b) s e t (x, values, m, p, q, i) = and_keeps (prefix_keeps a s x.value m p) (args_keep b m values.value.items t q)
  prefix_keeps (tree.method a c l n b) s e t (x, values, m, p, q, i) = and_keeps (prefix_keeps a s x.value m p) (args_keep b m values.value.items t q)

  pub args_keep : (a : Args) (s : Scope) (es : List Expr) (t : Scope) → ResolvesArgs a s es t → Keeps s t
  args_keep (tree.no_args o c) s es t (i, u) = stays u
  args_keep (tree.args o list c) s es t p = list_keeps list s es t p
  args_keep (tree.table_arg a) s es t (e, p, i) = table_keeps a s e t p
  args_keep (tree.string_arg l n) s es t (i, u) = stays u

  pub list_keeps : (a : ExpList) (s : Scope) (es : List Expr) (t : Scope) → ResolvesList a s es t → Keeps s t
  list_keeps (tree.one b) s es t (e, p, i) = exp_keeps b s e t p
  list_keeps (tree.more list c b) s es t (before, e, m, p, q, i) = and_keeps (list_keeps list s before m p) (exp_keeps b m e t q)

  pub table_keeps : (a : Table) (s : Scope) (e : Expr) (t : Scope) → ResolvesTable a s e t → Keeps s t
  table_keeps (tree.separated o fs c) s e t (items, p, i) = fields_keep fs s items.value.items t p
  table_keeps (tree.ending o fs f c) s e t (items, before, x, m, p, q, j, i) = and_keeps (fields_keep fs s before m p) (field_keeps f m x t q)

  pub fields_keep : (a : Fields) (s : Scope) (xs : List TableItem) (t : Scope) → ResolvesFields a s xs t → Keeps s t
  fields_keep tree.no_fields s xs t (i, u) = stays u
  fields_keep (tree.more_fields fs f c) s xs t (before, x, m, p, q, i) = and_keeps (fields_keep fs s before m p) (field_keeps f m x t q)

  pub field_keeps : (a : Field) (s : Scope) (x : TableItem) (t : Scope) → ResolvesField a s x t → Keeps s t
  field_keeps (tree.keyed o a c q b) s x t (key, value, m, d, r, i) = and_keeps (exp_keeps a s key m d) (exp_keeps b m value t r)
  field_keeps (tree.named l n q b) s x t (value, r, i) = exp_keeps b s value t r
  field_keeps (tree.plain b) s x t (value, r, i) = exp_keeps b s value t r

  pub body_keeps : (before : List Bytes) (l : Line) (a : FuncBody) (s : Scope) (n : ℕ) (t : Scope) → ResolvesBody before l a s n t → Keeps s t
  body_keeps before l (tree.function_body o ps c b x) s n t (kept, out, m, p, ends, i) =
      let names = before ++ names_of_params ps in
      ended_keeps l names (takes_vararg ps) kept out s m t (block_goes b (enter names kept s) out m p) ends

  pub block_goes : (a : Block) (s : Scope) (out : List Stmt) (t : Scope) → Opens a s out t → Goes s t
  block_goes (tree.statements ss) s out t p = stats_go ss s out t p
  block_goes (tree.with_last ss l x) s out t (before, r, m, p, q, i) = and_goes (stats_go ss s before m p) (goes (last_keeps l m r t q))

  pub stats_go : (a : Stats) (s : Scope) (out : List Stmt) (t : Scope) → ResolvesStats a s out t → Goes s t
  stats_go tree.no_stats s out t (i, u) = goes (stays u)
  stats_go (tree.more_stats ss st x) s out t (before, r, m, p, q, i) = and_goes (stats_go ss s before m p) (stat_goes st m r t q)

  pub stat_goes : (a : Stat) (s : Scope) (r : Stmt) (t : Scope) → ResolvesStat a s r t → Goes s t
  stat_goes (tree.assign vs c es) s r t (xs, values, m, p, q, i) = goes (and_keeps (vars_keep vs s xs.value.items m p) (list_keeps es m values.value.items t q))
  stat_goes (tree.call_statement a) s r t (e, p, i) = goes (prefix_keeps a s e t p)
  stat_goes (tree.do_block d b x) s r t (run, m, p, u, i) = and_goes (block_goes b s run.value.items m p) (leave_goes s m u)
  stat_goes (tree.while_loop w a d b x) s r t (test, run, m, k, p, q, u, i) =
      and_goes (goes (exp_keeps a s test.value m p)) (and_goes (block_goes b m run.value.items k q) (leave_goes m k u))
  stat_goes (tree.repeat_loop w b x a) s r t (test, run, m, k, p, q, u, i) =
      and_goes (block_goes b s run.value.items m p) (and_goes (goes (exp_keeps a m test.value k q)) (leave_goes s k u))
  stat_goes (tree.if_then those x) s r t (list, run, p, none, i) = arms_go those s list.value.items t p
  stat_goes (tree.if_else those l b x) s r t (list, run, m, k, p, q, u, i) =
      and_goes (arms_go those s list.value.items m p) (and_goes (block_goes b m run.value.items k q) (leave_goes m k u))
  stat_goes (tree.for_range f l n c a d b o body x) s r t (from, to, run, v, m, k, p, q, w, u, i) =
      and_goes (goes (and_keeps (exp_keeps a s from.value v p) (exp_keeps b v to.value m q)))
      (and_goes (declare_goes (n ∷ []) m) (and_goes (block_goes body (declare (n ∷ []) m) run.value.items k w) (leave_goes m k u)))
  stat_goes (tree.for_steps f l n c a d b y z o body x) s r t (from, to, step, run, g, v, m, k, p, q, j, w, u, i) =
      and_goes (goes (and_keeps (exp_keeps a s from.value g p) (and_keeps (exp_keeps b g to.value v q) (exp_keeps z v step.value m j))))
      (and_goes (declare_goes (n ∷ []) m) (and_goes (block_goes body (declare (n ∷ []) m) run.value.items k w) (leave_goes m k u)))
  stat_goes (tree.for_in f ns c es d body x) s r t (slots, values, run, m, k, p, j, w, u, i) =
      and_goes (goes (list_keeps es s values.value.items m p))
      (and_goes (declare_goes (names_of ns) m) (and_goes (block_goes body (declare (names_of ns) m) run.value.items k w) (leave_goes m k u)))
  stat_goes (tree.function_statement f name body) s r t (xs, values, e, n, m, p, q, j, v, i) =
      goes (and_keeps (funcname_keeps name s e m p) (body_keeps [] f body m n t q))
  stat_goes (tree.method_statement f name c l method body) s r t (xs, values, object, e, n, m, p, o, q, j, v, i) =
      goes (and_keeps (funcname_keeps name s object.value m p) (body_keeps (self_name ∷ []) f body m n t q))
  stat_goes (tree.local_function l f at n body) s r t (k, p, i) =
      and_goes (declare_goes (n ∷ []) s) (goes (body_keeps [] f body (declare (n ∷ []) s) k t p))
  stat_goes (tree.local l ns) s r t (slots, values, j, v, u, i) = and_goes (declare_goes (names_of ns) s) (goes (stays u))
  stat_goes (tree.local_values l ns c es) s r t (slots, values, m, p, j, u, i) =
      and_goes (goes (list_keeps es s values.value.items m p)) (and_goes (declare_goes (names_of ns) m) (goes (stays u)))

  pub arms_go : (a : Arms) (s : Scope) (list : List Arm) (t : Scope) → ResolvesArms a s list t → Goes s t
  arms_go (tree.if_arm i a h b) s list t (arm, m, k, p, q, u, j) =
      and_goes (goes (exp_keeps a s (out-Arm arm).test m p)) (and_goes (block_goes b m (out-Arm arm).body.value.items k q) (leave_goes m k u))
  arms_go (tree.elseif_arm those i a h b) s list t (before, arm, o, m, k, v, p, q, u, j) =
      and_goes (arms_go those s before o v)
      (and_goes (goes (exp_keeps a o (out-Arm arm).test m p)) (and_goes (block_goes b m (out-Arm arm).body.value.items k q) (leave_goes m k u)))

  pub last_keeps : (a : LastStat) (s : Scope) (r : Stmt) (t : Scope) → ResolvesLast a s r t → Keeps s t
  last_keeps (tree.return_none l) s r t (values, v, i, u) = stays u
  last_keeps (tree.return_values l es) s r t (values, p, i) = list_keeps es s values.value.items t p
  last_keeps (tree.break_ l) s r t (i, u) = stays u

  pub vars_keep : (a : VarList) (s : Scope) (es : List Expr) (t : Scope) → ResolvesVars a s es t → Keeps s t
  vars_keep (tree.one_var a) s es t (e, p, i) = prefix_keeps a s e t p
  vars_keep (tree.more_vars vs c a) s es t (before, e, m, p, q, i) = and_keeps (vars_keep vs s before m p) (prefix_keeps a m e t q)
