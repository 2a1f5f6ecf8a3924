-- Two ways to resolve one tree from equal frames end in equal frames.
use Rattle.std.proofs.Common.{◌≡◌, ℕ, List, [], ◌∷◌, ◌++◌, sym, ap, ◌∙◌}
use Rattle.lua_ast.specs.declared.expressions.Expr.{Expr}
use Rattle.lua_ast.specs.declared.expressions.TableItem.{TableItem}
use Rattle.lua_ast.specs.declared.statements.Stmt.{Stmt}
use Rattle.lua_ast.specs.declared.statements.Arm.{Arm, out-Arm}
use Rattle.lua_grammar.specs.Tree.{Line, Bytes, FuncName, Exp, PrefixExp, Args, ExpList, Table, Fields, Field, FuncBody, Block, Stats, Stat, Arms, LastStat, VarList}
use Rattle.lua_grammar.specs.Tree as tree
use Rattle.lua_grammar.specs.Validity.{takes_vararg}
use Rattle.lua_grammar.specs.Scopes.{Scope, look, declare, declare_in, leave, leave_in, count_in, enter}
use Rattle.lua_grammar.specs.Resolution.{ResolvesName, EndsFunction, ResolvesFuncName, Resolves, ResolvesPrefix, ResolvesArgs, ResolvesList, ResolvesTable, ResolvesFields, ResolvesField, ResolvesBody, Opens, ResolvesStats, ResolvesStat, ResolvesArms, ResolvesLast, ResolvesVars, names_of, names_of_params, self_name}

pub record Alike (s s' : Scope) : Type 0 where
  pub enclosing : s.enclosing ≡ s'.enclosing

still : {s s' t t' : Scope} → Alike s s' → t ≡ s → t' ≡ s' → Alike t t'
still a p q = record { enclosing = ap (λ z. z.enclosing) p ∙ (a.enclosing ∙ sym (ap (λ z. z.enclosing) q)) }

name_alike : (l : Line) (n : Bytes) (s s' : Scope) (e e' : Expr) (t t' : Scope) → ResolvesName l n s e t → ResolvesName l n s' e' t' → Alike s s' → Alike t t'
name_alike l n s s' e e' t t' r r' a = record {
  enclosing = ap (λ z. z.enclosing) r.scope ∙ (ap (λ fs. (look n fs).1) a.enclosing ∙ sym (ap (λ z. z.enclosing) r'.scope));
}

declared : {m m' : Scope} (names : List Bytes) → Alike m m' → Alike (declare names m) (declare names m')
declared names a = record { enclosing = ap (declare_in names) a.enclosing }

left : {t t' : Scope} (k k' m m' : Scope) → t ≡ leave k m → t' ≡ leave k' m' → Alike k k' → Alike m m' → Alike t t'
left k k' m m' p q a b = record {
  enclosing = ap (λ z. z.enclosing) p ∙ (ap (leave_in (count_in k.enclosing)) b.enclosing
      ∙ (ap (λ fs. leave_in (count_in fs) m'.enclosing) a.enclosing ∙ sym (ap (λ z. z.enclosing) q)));
}

entered : (names : List Bytes) (kept kept' : _) (s s' : Scope) → Alike s s' → Alike (enter names kept s) (enter names kept' s')
entered names kept kept' s s' a = record { enclosing = ap (λ fs. (enter names kept (record s { enclosing = fs })).enclosing) a.enclosing }

ended : (line : Line) (names : List Bytes) (rest : _) (out out' : List Stmt) (s s' m m' t t' : Scope) → EndsFunction line names rest out s m t →
    EndsFunction line names rest out' s' m' t' → Alike m m' → Alike t t'
ended line names rest out out' s s' m m' t t' (f, frame, enclosing, top, is, e) (f', frame', enclosing', top', is', e') a =
    let tops : frame ∷ enclosing ≡ frame' ∷ enclosing' = sym top ∙ (a.enclosing ∙ top') in
    let arounds : enclosing ≡ enclosing' = cc (tops) in
    record { enclosing = ap (λ z. z.enclosing) e ∙ (arounds ∙ sym (ap (λ z. z.enclosing) e')) }

pub funcname_alike : (a : FuncName) (s s' : Scope) (e e' : Expr) (t t' : Scope) → ResolvesFuncName a s e t → ResolvesFuncName a s' e' t' → Alike s s' → Alike t t'
funcname_alike (tree.root_name l n) s s' e e' t t' r r' z = name_alike l n s s' e e' t t' r r' z
funcname_alike (tree.name_member f d l n) s s' e e' t t' (x, p, i) (x', p', i') z = funcname_alike f s s' x.value x'.value t t' p p' z

mutual
  unfolding Resolves

  pub exp_alike : (a : Exp) (s s' : Scope) (e e' : Expr) (t t' : Scope) → Resolves a s e t → Resolves a s' e' t' → Alike s s' → Alike t t'
  exp_alike (tree.nil l) s s' e e' t t' (i, u) (i', u') z = still z u u'
  exp_alike (tree.false_ l) s s' e e' t t' (i, u) (i', u') z = still z u u'
  exp_alike (tree.true_ l) s s' e e' t t' (i, u) (i', u') z = still z u u'
  exp_alike (tree.number l n) s s' e e' t t' (i, u) (i', u') z = still z u u'
  exp_alike (tree.string l n) s s' e e' t t' (i, u) (i', u') z = still z u u'
  exp_alike (tree.dots l) s s' e e' t t' (i, u) (i', u') z = still z u u'
  exp_alike (tree.function l body) s s' e e' t t' (n, p, i) (n', p', i') z = body_alike [] l body s s' n n' t t' p p' z
  exp_alike (tree.prefix a) s s' e e' t t' p p' z = prefix_alike a s s' e e' t t' p p' z
  exp_alike (tree.table a) s s' e e' t t' p p' z = table_alike a s s' e e' t t' p p' z
  exp_alike (tree.binary a op l b) s s' e e' t t' (x, y, m, p, q, i) (x', y', m', p', q', i') z =
      exp_alike b m m' y.value y'.value t t' q q' (exp_alike a s s' x.value x'.value m m' p p' z)
  exp_alike (tree.unary op l b) s s' e e' t t' (x, p, i) (x', p', i') z = exp_alike b s s' x.value x'.value t t' p p' z

  pub prefix_alike : (a : PrefixExp) (s s' : Scope) (e e' : Expr) (t t' : Scope) → ResolvesPrefix a s e t → ResolvesPrefix a s' e' t' → Alike s s' → Alike t t'
  prefix_alike (tree.variable l n) s s' e e' t t' r r' z = name_alike l n s s' e e' t t' r r' z
  prefix_alike (tree.paren o b c) s s' e e' t t' (x, p, i) (x', p', i') z = exp_alike b s s' x.value x'.value t t' p p' z
  prefix_alike (tree.item a o b c) s s' e e' t t' (x, y, m, p, q, i) (x', y', m', p', q', i') z =
      exp_alike b m m' y.value y'.value t t' q q' (prefix_alike a s s' x.value x'.value m m' p p' z)
  prefix_alike (tree.member a d l n) s s' e e' t t' (x, p, i) (x', p', i') z = prefix_alike a s s' x.value x'.value t t' p p' z
  prefix_alike (tree.call a b) s s' e e' t t' (x, values, m, p, q, i) (x', values', m', p', q', i') z =
      args_alike b m m' values.value.items values'.value.items t t' q q' (prefix_alike a s s' x.value x'.value m m' p p' z)
  prefix_alike (tree.method a c l n b) s s' e e' t t' (x, values, m, p, q, i) (x', values', m', p', q', i') z =
      args_alike b m m' values.value.items values'.value.items t t' q q' (prefix_alike a s s' x.value x'.value m m' p p' z)

  pub args_alike : (a : Args) (s s' : Scope) (es es' : List Expr) (t t' : Scope) → ResolvesArgs a s es t → ResolvesArgs a s' es' t' → Alike s s' → Alike t t'
  args_alike (tree.no_args o c) s s' es es' t t' (i, u) (i', u') z = still z u u'
  args_alike (tree.args o list c) s s' es es' t t' p p' z = list_alike list s s' es es' t t' p p' z
  args_alike (tree.table_arg a) s s' es es' t t' (e, p, i) (e', p', i') z = table_alike a s s' e e' t t' p p' z
  args_alike (tree.string_arg l n) s s' es es' t t' (i, u) (i', u') z = still z u u'

  pub list_alike : (a : ExpList) (s s' : Scope) (es es' : List Expr) (t t' : Scope) → ResolvesList a s es t → ResolvesList a s' es' t' → Alike s s' → Alike t t'
  list_alike (tree.one b) s s' es es' t t' (e, p, i) (e', p', i') z = exp_alike b s s' e e' t t' p p' z
  list_alike (tree.more list c b) s s' es es' t t' (before, e, m, p, q, i) (before', e', m', p', q', i') z =
      exp_alike b m m' e e' t t' q q' (list_alike list s s' before before' m m' p p' z)

  pub table_alike : (a : Table) (s s' : Scope) (e e' : Expr) (t t' : Scope) → ResolvesTable a s e t → ResolvesTable a s' e' t' → Alike s s' → Alike t t'
  table_alike (tree.separated o fs c) s s' e e' t t' (items, p, i) (items', p', i') z =
      fields_alike fs s s' items.value.items items'.value.items t t' p p' z
  table_alike (tree.ending o fs f c) s s' e e' t t' (items, before, x, m, p, q, j, i) (items', before', x', m', p', q', j', i') z =
      field_alike f m m' x x' t t' q q' (fields_alike fs s s' before before' m m' p p' z)

  pub fields_alike : (a : Fields) (s s' : Scope) (xs xs' : List TableItem) (t t' : Scope) → ResolvesFields a s xs t → ResolvesFields a s' xs' t' → Alike s s' →
      Alike t t'
  fields_alike tree.no_fields s s' xs xs' t t' (i, u) (i', u') z = still z u u'
  fields_alike (tree.more_fields fs f c) s s' xs xs' t t' (before, x, m, p, q, i) (before', x', m', p', q', i') z =
      field_alike f m m' x x' t t' q q' (fields_alike fs s s' before before' m m' p p' z)

  pub field_alike : (a : Field) (s s' : Scope) (x x' : TableItem) (t t' : Scope) → ResolvesField a s x t → ResolvesField a s' x' t' → Alike s s' → Alike t t'
  field_alike (tree.keyed o a c q b) s s' x x' t t' (key, value, m, d, r, i) (key', value', m', d', r', i') z =
      exp_alike b m m' value value' t t' r r' (exp_alike a s s' key key' m m' d d' z)
  field_alike (tree.named l n q b) s s' x x' t t' (value, r, i) (value', r', i') z = exp_alike b s s' value value' t t' r r' z
  field_alike (tree.plain b) s s' x x' t t' (value, r, i) (value', r', i') z = exp_alike b s s' value value' t t' r r' z

  pub body_alike : (before : List Bytes) (l : Line) (a : FuncBody) (s s' : Scope) (n n' : ℕ) (t t' : Scope) → ResolvesBody before l a s n t →
      ResolvesBody before l a s' n' t' → Alike s s' → Alike t t'
  body_alike before l (tree.function_body o ps c b x) s s' n n' t t' (kept, out, m, p, ends, i) (kept', out', m', p', ends', i') z =
      let names = before ++ names_of_params ps in
      ended l names (takes_vararg ps) out out' s s' m m' t t' ends ends'
      (block_alike b (enter names kept s) (enter names kept' s') out out' m m' p p' (entered names kept kept' s s' z))

  pub block_alike : (a : Block) (s s' : Scope) (out out' : List Stmt) (t t' : Scope) → Opens a s out t → Opens a s' out' t' → Alike s s' → Alike t t'
  block_alike (tree.statements ss) s s' out out' t t' p p' z = stats_alike ss s s' out out' t t' p p' z
  block_alike (tree.with_last ss l x) s s' out out' t t' (before, r, m, p, q, i) (before', r', m', p', q', i') z =
      last_alike l m m' r r' t t' q q' (stats_alike ss s s' before before' m m' p p' z)

  pub stats_alike : (a : Stats) (s s' : Scope) (out out' : List Stmt) (t t' : Scope) → ResolvesStats a s out t → ResolvesStats a s' out' t' → Alike s s' → Alike t t'
  stats_alike tree.no_stats s s' out out' t t' (i, u) (i', u') z = still z u u'
  stats_alike (tree.more_stats ss st x) s s' out out' t t' (before, r, m, p, q, i) (before', r', m', p', q', i') z =
      stat_alike st m m' r r' t t' q q' (stats_alike ss s s' before before' m m' p p' z)

  pub stat_alike : (a : Stat) (s s' : Scope) (r r' : Stmt) (t t' : Scope) → ResolvesStat a s r t → ResolvesStat a s' r' t' → Alike s s' → Alike t t'
  stat_alike (tree.assign vs c es) s s' r r' t t' (xs, values, m, p, q, i) (xs', values', m', p', q', i') z =
      list_alike es m m' values.value.items values'.value.items t t' q q' (vars_alike vs s s' xs.value.items xs'.value.items m m' p p' z)
  stat_alike (tree.call_statement a) s s' r r' t t' (e, p, i) (e', p', i') z = prefix_alike a s s' e e' t t' p p' z
  stat_alike (tree.do_block d b x) s s' r r' t t' (run, m, p, u, i) (run', m', p', u', i') z =
      left s s' m m' u u' z (block_alike b s s' run.value.items run'.value.items m m' p p' z)
  stat_alike (tree.while_loop w a d b x) s s' r r' t t' (test, run, m, k, p, q, u, i) (test', run', m', k', p', q', u', i') z =
      let y = exp_alike a s s' test.value test'.value m m' p p' z in
      left m m' k k' u u' y (block_alike b m m' run.value.items run'.value.items k k' q q' y)
  stat_alike (tree.repeat_loop w b x a) s s' r r' t t' (test, run, m, k, p, q, u, i) (test', run', m', k', p', q', u', i') z =
      left s s' k k' u u' z
      (exp_alike a m m' test.value test'.value k k' q q' (block_alike b s s' run.value.items run'.value.items m m' p p' z))
  stat_alike (tree.if_then those x) s s' r r' t t' (list, run, p, none, i) (list', run', p', none', i') z =
      arms_alike those s s' list.value.items list'.value.items t t' p p' z
  stat_alike (tree.if_else those l b x) s s' r r' t t' (list, run, m, k, p, q, u, i) (list', run', m', k', p', q', u', i') z =
      let y = arms_alike those s s' list.value.items list'.value.items m m' p p' z in
      left m m' k k' u u' y (block_alike b m m' run.value.items run'.value.items k k' q q' y)
  stat_alike (tree.for_range f l n c a d b o body x) s s' r r' t t' (from, to, run, v, m, k, p, q, w, u, i)
      (from', to', run', v', m', k', p', q', w', u', i') z =
      let y = exp_alike b v v' to.value to'.value m m' q q' (exp_alike a s s' from.value from'.value v v' p p' z) in
      left m m' k k' u u' y
      (block_alike body (declare (n ∷ []) m) (declare (n ∷ []) m') run.value.items run'.value.items k k' w w' (declared (n ∷ []) y))
  stat_alike (tree.for_steps f l n c a d b e g o body x) s s' r r' t t' (from, to, step, run, h, v, m, k, p, q, j, w, u, i)
      (from', to', step', run', h', v', m', k', p', q', j', w', u', i') z =
      let before = exp_alike b h h' to.value to'.value v v' q q' (exp_alike a s s' from.value from'.value h h' p p' z) in
      let y = exp_alike g v v' step.value step'.value m m' j j' before in
      left m m' k k' u u' y
      (block_alike body (declare (n ∷ []) m) (declare (n ∷ []) m') run.value.items run'.value.items k k' w w' (declared (n ∷ []) y))
  stat_alike (tree.for_in f ns c es d body x) s s' r r' t t' (slots, values, run, m, k, p, j, w, u, i) (slots', values', run', m', k', p', j', w', u', i') z =
      let y = list_alike es s s' values.value.items values'.value.items m m' p p' z in
      left m m' k k' u u' y
      (block_alike body (declare (names_of ns) m) (declare (names_of ns) m') run.value.items run'.value.items k k' w w' (declared (names_of ns) y))
  stat_alike (tree.function_statement f name body) s s' r r' t t' (xs, values, e, n, m, p, q, j, v, i) (xs', values', e', n', m', p', q', j', v', i') z =
      body_alike [] f body m m' n n' t t' q q' (funcname_alike name s s' e e' m m' p p' z)
  stat_alike (tree.method_statement f name c l method body) s s' r r' t t' (xs, values, object, e, n, m, p, o, q, j, v, i)
      (xs', values', object', e', n', m', p', o', q', j', v', i') z =
      body_alike (self_name ∷ []) f body m m' n n' t t' q q' (funcname_alike name s s' object.value object'.value m m' p p' z)
  stat_alike (tree.local_function l f at n body) s s' r r' t t' (k, p, i) (k', p', i') z =
      body_alike [] f body (declare (n ∷ []) s) (declare (n ∷ []) s') k k' t t' p p' (declared (n ∷ []) z)
  stat_alike (tree.local l ns) s s' r r' t t' (slots, values, j, v, u, i) (slots', values', j', v', u', i') z = still (declared (names_of ns) z) u u'
  stat_alike (tree.local_values l ns c es) s s' r r' t t' (slots, values, m, p, j, u, i) (slots', values', m', p', j', u', i') z =
      still (declared (names_of ns) (list_alike es s s' values.value.items values'.value.items m m' p p' z)) u u'

  pub arms_alike : (a : Arms) (s s' : Scope) (list list' : List Arm) (t t' : Scope) → ResolvesArms a s list t → ResolvesArms a s' list' t' → Alike s s' → Alike t t'
  arms_alike (tree.if_arm i a h b) s s' list list' t t' (arm, m, k, p, q, u, j) (arm', m', k', p', q', u', j') z =
      let y = exp_alike a s s' (out-Arm arm).test (out-Arm arm').test m m' p p' z in
      left m m' k k' u u' y (block_alike b m m' (out-Arm arm).body.value.items (out-Arm arm').body.value.items k k' q q' y)
  arms_alike (tree.elseif_arm those i a h b) s s' list list' t t' (before, arm, o, m, k, v, p, q, u, j) (before', arm', o', m', k', v', p', q', u', j') z =
      let y = exp_alike a o o' (out-Arm arm).test (out-Arm arm').test m m' p p' (arms_alike those s s' before before' o o' v v' z) in
      left m m' k k' u u' y (block_alike b m m' (out-Arm arm).body.value.items (out-Arm arm').body.value.items k k' q q' y)

  pub last_alike : (a : LastStat) (s s' : Scope) (r r' : Stmt) (t t' : Scope) → ResolvesLast a s r t → ResolvesLast a s' r' t' → Alike s s' → Alike t t'
  last_alike (tree.return_none l) s s' r r' t t' (values, v, i, u) (values', v', i', u') z = still z u u'
  last_alike (tree.return_values l es) s s' r r' t t' (values, p, i) (values', p', i') z =
      list_alike es s s' values.value.items values'.value.items t t' p p' z
  last_alike (tree.break_ l) s s' r r' t t' (i, u) (i', u') z = still z u u'

  pub vars_alike : (a : VarList) (s s' : Scope) (es es' : List Expr) (t t' : Scope) → ResolvesVars a s es t → ResolvesVars a s' es' t' → Alike s s' → Alike t t'
  vars_alike (tree.one_var a) s s' es es' t t' (e, p, i) (e', p', i') z = prefix_alike a s s' e e' t t' p p' z
  vars_alike (tree.more_vars vs c a) s s' es es' t t' (before, e, m, p, q, i) (before', e', m', p', q', i') z =
      prefix_alike a m m' e e' t t' q q' (vars_alike vs s s' before before' m m' p p' z)
