-- Two ways to resolve one tree agree.
use Rattle.std.proofs.Common.{◌≡◌, ℕ, List, [], ◌∷◌, ◌++◌, None, Some, refl, sym, subst, ◌∙◌}
use Rattle.std.specs.List.{AllZip}
use Rattle.lua_ast.specs.declared.expressions.Expr.{Expr}
use Rattle.lua_ast.specs.declared.expressions.TableItem.{TableItem}
use Rattle.lua_ast.specs.declared.statements.Stmt.{Stmt}
use Rattle.lua_ast.specs.declared.statements.Arm.{Arm, out-Arm}
use Rattle.lua_ast.specs.declared.programs.Program.{Program}
use Rattle.lua_ast.specs.SameProgram.{SameExpr, SameItem, SameStmt, SameArm, SameFunction, SameProgram}
use Rattle.lua_lexer.specs.declared.tokens.Token.{Token}
use Rattle.lua_grammar.specs.Tree.{Line, Bytes, FuncName, Exp, PrefixExp, Args, ExpList, Table, Fields, Field, FuncBody, Block, Stats, Stat, Arms, LastStat, VarList}
use Rattle.lua_grammar.specs.Tree as tree
use Rattle.lua_grammar.specs.Validity.{takes_vararg}
use Rattle.lua_grammar.specs.Scopes.{Scope, declare, enter, in_scope}
use Rattle.lua_grammar.specs.Resolution.{Index, ResolvesFuncName, Resolves, ResolvesPrefix, ResolvesArgs, ResolvesList, ResolvesTable, ResolvesFields, ResolvesField, ResolvesBody, Opens, ResolvesStats, ResolvesStat, ResolvesArms, ResolvesLast, ResolvesVars, Shared, args_line, vars_line, prefix_line, arms_line, names_of, names_of_params, self_name}
use Rattle.lua_grammar.specs.Printing.{lexemes}
use Rattle.lua_grammar.specs.Grammar.{IsProgramOf, ResolvesChunk, first_line, outside}
use Rattle.lua_grammar.proofs.SameNodes.{zip_append, zip_one, zip_none, nil_same, false_same, true_same, number_same, text_same, vararg_same, function_same}
use Rattle.lua_grammar.proofs.SameNodes.{unary_same, paren_same, binary_same, index_same, call_same, method_same, table_same, pair_same, item_same, local_same}
use Rattle.lua_grammar.proofs.SameNodes.{local_function_same, assign_same, call_statement_same, return_same, break_same, do_same, while_same, repeat_same}
use Rattle.lua_grammar.proofs.SameNodes.{if_same, numeric_same, generic_same, arm_same}
use Rattle.lua_grammar.proofs.Uniqueness.{one_tree}
use Rattle.lua_grammar.proofs.Agreeing.{Like, Agree, told, after, still, next, last, declared_like, after_declare, then_declare, then_leave, same_place, same_slots, name_agrees, entered_like, ended_agrees}

-- one more at the end of a list
appended : {X : Type 0} (R : X → X → Type 0) (xs ys before before' : List X) (x y : X) → xs ≡ before ++ x ∷ [] → ys ≡ before' ++ y ∷ [] →
    AllZip R before before' → R x y → AllZip R xs ys
appended R xs ys before before' x y p q h k = told (AllZip R) p q (zip_append R before before' (x ∷ []) (y ∷ []) h (zip_one R x y k))

single : {X : Type 0} (R : X → X → Type 0) (xs ys : List X) (x y : X) → xs ≡ x ∷ [] → ys ≡ y ∷ [] → R x y → AllZip R xs ys
single R xs ys x y p q h = told (AllZip R) p q (zip_one R x y h)

-- a field of what is the same
member_same : (d l : Line) (n : Bytes) (x x' : Shared) (e e' : Expr) → SameExpr x.value x'.value → Index d x l n e → Index d x' l n e' → SameExpr e e'
member_same d l n x x' e e' h (key, k, i) (key', k', i') =
    told SameExpr i i' (index_same d x x' h key key' (told SameExpr k k' (text_same l n)))

funcname_agrees : (f : FuncName) (s s' : Scope) (e e' : Expr) (t t' : Scope) → ResolvesFuncName f s e t → ResolvesFuncName f s' e' t' → Like s s' →
    Agree s s' t t' (SameExpr e e')
funcname_agrees (tree.root_name l n) s s' e e' t t' r r' like = name_agrees l n s s' e e' t t' r r' like
funcname_agrees (tree.name_member f d l n) s s' e e' t t' (x, p, i) (x', p', i') like =
    last (funcname_agrees f s s' x.value x'.value t t' p p' like) λ h. member_same d l n x x' e e' h i i'

mutual
  unfolding Resolves

  exp_agrees : (a : Exp) (s s' : Scope) (e e' : Expr) (t t' : Scope) → Resolves a s e t → Resolves a s' e' t' → Like s s' → Agree s s' t t' (SameExpr e e')
  exp_agrees (tree.nil l) s s' e e' t t' (i, u) (i', u') like = still like u u' (told SameExpr i i' (nil_same l))
  exp_agrees (tree.false_ l) s s' e e' t t' (i, u) (i', u') like = still like u u' (told SameExpr i i' (false_same l))
  exp_agrees (tree.true_ l) s s' e e' t t' (i, u) (i', u') like = still like u u' (told SameExpr i i' (true_same l))
  exp_agrees (tree.number l n) s s' e e' t t' (i, u) (i', u') like = still like u u' (told SameExpr i i' (number_same l n))
  exp_agrees (tree.string l n) s s' e e' t t' (i, u) (i', u') like = still like u u' (told SameExpr i i' (text_same l n))
  exp_agrees (tree.dots l) s s' e e' t t' (i, u) (i', u') like = still like u u' (told SameExpr i i' (vararg_same l))
  exp_agrees (tree.function l body) s s' e e' t t' (n, p, i) (n', p', i') like =
      last (body_agrees [] l body s s' n n' t t' p p' like) λ h. told SameExpr i i' (function_same l n n' h)
  exp_agrees (tree.prefix a) s s' e e' t t' p p' like = prefix_agrees a s s' e e' t t' p p' like
  exp_agrees (tree.table a) s s' e e' t t' p p' like = table_agrees a s s' e e' t t' p p' like
  exp_agrees (tree.binary a op l b) s s' e e' t t' (x, y, m, p, q, i) (x', y', m', p', q', i') like =
      next like (exp_agrees a s s' x.value x'.value m m' p p' like) λ near h.
      last (exp_agrees b m m' y.value y'.value t t' q q' near) λ k. told SameExpr i i' (binary_same l x x' h y y' op k)
  exp_agrees (tree.unary op l b) s s' e e' t t' (x, p, i) (x', p', i') like =
      last (exp_agrees b s s' x.value x'.value t t' p p' like) λ h. told SameExpr i i' (unary_same l x x' h op)

  prefix_agrees : (a : PrefixExp) (s s' : Scope) (e e' : Expr) (t t' : Scope) → ResolvesPrefix a s e t → ResolvesPrefix a s' e' t' → Like s s' →
      Agree s s' t t' (SameExpr e e')
  prefix_agrees (tree.variable l n) s s' e e' t t' r r' like = name_agrees l n s s' e e' t t' r r' like
  prefix_agrees (tree.paren o b c) s s' e e' t t' (x, p, i) (x', p', i') like =
      last (exp_agrees b s s' x.value x'.value t t' p p' like) λ h. told SameExpr i i' (paren_same o x x' h)
  prefix_agrees (tree.item a o b c) s s' e e' t t' (x, y, m, p, q, i) (x', y', m', p', q', i') like =
      next like (prefix_agrees a s s' x.value x'.value m m' p p' like) λ near h.
      last (exp_agrees b m m' y.value y'.value t t' q q' near) λ k. told SameExpr i i' (index_same o x x' h y y' k)
  prefix_agrees (tree.member a d l n) s s' e e' t t' (x, p, i) (x', p', i') like =
      last (prefix_agrees a s s' x.value x'.value t t' p p' like) λ h. member_same d l n x x' e e' h i i'
  prefix_agrees (tree.call a b) s s' e e' t t' (x, values, m, p, q, i) (x', values', m', p', q', i') like =
      next like (prefix_agrees a s s' x.value x'.value m m' p p' like) λ near h.
      last (args_agree b m m' values.value.items values'.value.items t t' q q' near) λ k.
      told SameExpr i i' (call_same (args_line b) x x' h values values' k)
  prefix_agrees (tree.method a c l n b) s s' e e' t t' (x, values, m, p, q, i) (x', values', m', p', q', i') like =
      next like (prefix_agrees a s s' x.value x'.value m m' p p' like) λ near h.
      last (args_agree b m m' values.value.items values'.value.items t t' q q' near) λ k.
      told SameExpr i i' (method_same (args_line b) x x' h n values values' k)

  args_agree : (a : Args) (s s' : Scope) (es es' : List Expr) (t t' : Scope) → ResolvesArgs a s es t → ResolvesArgs a s' es' t' → Like s s' →
      Agree s s' t t' (AllZip SameExpr es es')
  args_agree (tree.no_args o c) s s' es es' t t' (i, u) (i', u') like = still like u u' (told (AllZip SameExpr) i i' (zip_none SameExpr))
  args_agree (tree.args o list c) s s' es es' t t' p p' like = list_agrees list s s' es es' t t' p p' like
  args_agree (tree.table_arg a) s s' es es' t t' (e, p, i) (e', p', i') like =
      last (table_agrees a s s' e e' t t' p p' like) λ h. single SameExpr es es' e e' i i' h
  args_agree (tree.string_arg l n) s s' es es' t t' (i, u) (i', u') like = still like u u' (single SameExpr es es' _ _ i i' (text_same l n))

  list_agrees : (a : ExpList) (s s' : Scope) (es es' : List Expr) (t t' : Scope) → ResolvesList a s es t → ResolvesList a s' es' t' → Like s s' →
      Agree s s' t t' (AllZip SameExpr es es')
  list_agrees (tree.one b) s s' es es' t t' (e, p, i) (e', p', i') like =
      last (exp_agrees b s s' e e' t t' p p' like) λ h. single SameExpr es es' e e' i i' h
  list_agrees (tree.more list c b) s s' es es' t t' (before, e, m, p, q, i) (before', e', m', p', q', i') like =
      next like (list_agrees list s s' before before' m m' p p' like) λ near h.
      last (exp_agrees b m m' e e' t t' q q' near) λ k. appended SameExpr es es' before before' e e' i i' h k

  table_agrees : (a : Table) (s s' : Scope) (e e' : Expr) (t t' : Scope) → ResolvesTable a s e t → ResolvesTable a s' e' t' → Like s s' →
      Agree s s' t t' (SameExpr e e')
  table_agrees (tree.separated o fs c) s s' e e' t t' (items, p, i) (items', p', i') like =
      last (fields_agree fs s s' items.value.items items'.value.items t t' p p' like) λ h. told SameExpr i i' (table_same o items items' h)
  table_agrees (tree.ending o fs f c) s s' e e' t t' (items, before, x, m, p, q, j, i) (items', before', x', m', p', q', j', i') like =
      next like (fields_agree fs s s' before before' m m' p p' like) λ near h.
      last (field_agrees f m m' x x' t t' q q' near) λ k.
      told SameExpr i i' (table_same o items items' (appended SameItem items.value.items items'.value.items before before' x x' j j' h k))

  fields_agree : (a : Fields) (s s' : Scope) (xs xs' : List TableItem) (t t' : Scope) → ResolvesFields a s xs t → ResolvesFields a s' xs' t' → Like s s' →
      Agree s s' t t' (AllZip SameItem xs xs')
  fields_agree tree.no_fields s s' xs xs' t t' (i, u) (i', u') like = still like u u' (told (AllZip SameItem) i i' (zip_none SameItem))
  fields_agree (tree.more_fields fs f c) s s' xs xs' t t' (before, x, m, p, q, i) (before', x', m', p', q', i') like =
      next like (fields_agree fs s s' before before' m m' p p' like) λ near h.
      last (field_agrees f m m' x x' t t' q q' near) λ k. appended SameItem xs xs' before before' x x' i i' h k

  field_agrees : (a : Field) (s s' : Scope) (x x' : TableItem) (t t' : Scope) → ResolvesField a s x t → ResolvesField a s' x' t' → Like s s' →
      Agree s s' t t' (SameItem x x')
  field_agrees (tree.keyed o a c q b) s s' x x' t t' (key, value, m, d, r, i) (key', value', m', d', r', i') like =
      next like (exp_agrees a s s' key key' m m' d d' like) λ near h.
      last (exp_agrees b m m' value value' t t' r r' near) λ k. told SameItem i i' (pair_same key key' value value' h k)
  field_agrees (tree.named l n q b) s s' x x' t t' (value, r, i) (value', r', i') like =
      last (exp_agrees b s s' value value' t t' r r' like) λ k. told SameItem i i' (pair_same _ _ value value' (text_same l n) k)
  field_agrees (tree.plain b) s s' x x' t t' (value, r, i) (value', r', i') like =
      last (exp_agrees b s s' value value' t t' r r' like) λ k. told SameItem i i' (item_same value value' k)

  body_agrees : (before : List Bytes) (l : Line) (a : FuncBody) (s s' : Scope) (n n' : ℕ) (t t' : Scope) → ResolvesBody before l a s n t →
      ResolvesBody before l a s' n' t' → Like s s' → Agree s s' t t' (n ≡ n')
  body_agrees before l (tree.function_body o ps c b x) s s' n n' t t' (kept, out, m, p, ends, i) (kept', out', m', p', ends', i') like =
      let names = before ++ names_of_params ps in
      let near = entered_like names kept kept' s s' like in
      let inner = block_agrees b (enter names kept s) (enter names kept' s') out out' m m' p p' near in
      last (ended_agrees l names (takes_vararg ps) kept kept' out out' s s' m m' t t' like inner ends ends') λ h. i ∙ (h ∙ sym i')

  block_agrees : (a : Block) (s s' : Scope) (out out' : List Stmt) (t t' : Scope) → Opens a s out t → Opens a s' out' t' → Like s s' →
      Agree s s' t t' (AllZip SameStmt out out')
  block_agrees (tree.statements ss) s s' out out' t t' p p' like = stats_agree ss s s' out out' t t' p p' like
  block_agrees (tree.with_last ss l x) s s' out out' t t' (before, r, m, p, q, i) (before', r', m', p', q', i') like =
      next like (stats_agree ss s s' before before' m m' p p' like) λ near h.
      last (last_agrees l m m' r r' t t' q q' near) λ k. appended SameStmt out out' before before' r r' i i' h k

  stats_agree : (a : Stats) (s s' : Scope) (out out' : List Stmt) (t t' : Scope) → ResolvesStats a s out t → ResolvesStats a s' out' t' → Like s s' →
      Agree s s' t t' (AllZip SameStmt out out')
  stats_agree tree.no_stats s s' out out' t t' (i, u) (i', u') like = still like u u' (told (AllZip SameStmt) i i' (zip_none SameStmt))
  stats_agree (tree.more_stats ss st x) s s' out out' t t' (before, r, m, p, q, i) (before', r', m', p', q', i') like =
      next like (stats_agree ss s s' before before' m m' p p' like) λ near h.
      last (stat_agrees st m m' r r' t t' q q' near) λ k. appended SameStmt out out' before before' r r' i i' h k

  stat_agrees : (a : Stat) (s s' : Scope) (r r' : Stmt) (t t' : Scope) → ResolvesStat a s r t → ResolvesStat a s' r' t' → Like s s' →
      Agree s s' t t' (SameStmt r r')
  stat_agrees (tree.assign vs c es) s s' r r' t t' (xs, values, m, p, q, i) (xs', values', m', p', q', i') like =
      next like (vars_agree vs s s' xs.value.items xs'.value.items m m' p p' like) λ near h.
      last (list_agrees es m m' values.value.items values'.value.items t t' q q' near) λ k.
      told SameStmt i i' (assign_same (vars_line vs) xs xs' values values' h k)
  stat_agrees (tree.call_statement a) s s' r r' t t' (e, p, i) (e', p', i') like =
      last (prefix_agrees a s s' e e' t t' p p' like) λ h. told SameStmt i i' (call_statement_same (prefix_line a) e e' h)
  stat_agrees (tree.do_block d b x) s s' r r' t t' (run, m, p, u, i) (run', m', p', u', i') like =
      then_leave s s' m m' like (last (block_agrees b s s' run.value.items run'.value.items m m' p p' like) λ h. told SameStmt i i' (do_same d run run' h)) u u'
  stat_agrees (tree.while_loop w a d b x) s s' r r' t t' (test, run, m, k, p, q, u, i) (test', run', m', k', p', q', u', i') like =
      next like (exp_agrees a s s' test.value test'.value m m' p p' like) λ near h.
      then_leave m m' k k' near (last (block_agrees b m m' run.value.items run'.value.items k k' q q' near) λ g.
      told SameStmt i i' (while_same w run run' g test test' h)) u u'
  stat_agrees (tree.repeat_loop w b x a) s s' r r' t t' (test, run, m, k, p, q, u, i) (test', run', m', k', p', q', u', i') like =
      then_leave s s' k k' like (next like (block_agrees b s s' run.value.items run'.value.items m m' p p' like) λ near g.
      last (exp_agrees a m m' test.value test'.value k k' q q' near) λ h. told SameStmt i i' (repeat_same w run run' g test test' h)) u u'
  stat_agrees (tree.if_then those x) s s' r r' t t' (list, run, p, none, i) (list', run', p', none', i') like =
      last (arms_agree those s s' list.value.items list'.value.items t t' p p' like) λ h.
      told SameStmt i i' (if_same (arms_line those) run run' (told (AllZip SameStmt) none none' (zip_none SameStmt)) list list' h)
  stat_agrees (tree.if_else those l b x) s s' r r' t t' (list, run, m, k, p, q, u, i) (list', run', m', k', p', q', u', i') like =
      next like (arms_agree those s s' list.value.items list'.value.items m m' p p' like) λ near h.
      then_leave m m' k k' near (last (block_agrees b m m' run.value.items run'.value.items k k' q q' near) λ g.
      told SameStmt i i' (if_same (arms_line those) run run' g list list' h)) u u'
  stat_agrees (tree.for_range f l n c a d b o body x) s s' r r' t t' (from, to, run, v, m, k, p, q, w, u, i)
      (from', to', run', v', m', k', p', q', w', u', i') like =
      next like (exp_agrees a s s' from.value from'.value v v' p p' like) λ near1 h1.
      next near1 (exp_agrees b v v' to.value to'.value m m' q q' near1) λ near h2.
      then_leave m m' k k' near (after_declare (n ∷ []) m m'
      (last (block_agrees body (declare (n ∷ []) m) (declare (n ∷ []) m') run.value.items run'.value.items k k' w w' (declared_like (n ∷ []) m m' near)) λ g.
      told SameStmt i i' (numeric_same f run run' g (in_scope m) (in_scope m') from to from' to' None None (same_place m m' near) h1 h2 tt))) u u'
  stat_agrees (tree.for_steps f l n c a d b y z o body x) s s' r r' t t' (from, to, step, run, g, v, m, k, p, q, j, w, u, i)
      (from', to', step', run', g', v', m', k', p', q', j', w', u', i') like =
      next like (exp_agrees a s s' from.value from'.value g g' p p' like) λ near1 h1.
      next near1 (exp_agrees b g g' to.value to'.value v v' q q' near1) λ near2 h2.
      next near2 (exp_agrees z v v' step.value step'.value m m' j j' near2) λ near h3.
      then_leave m m' k k' near (after_declare (n ∷ []) m m'
      (last (block_agrees body (declare (n ∷ []) m) (declare (n ∷ []) m') run.value.items run'.value.items k k' w w' (declared_like (n ∷ []) m m' near)) λ h.
      told SameStmt i i' (numeric_same f run run' h (in_scope m) (in_scope m') from to from' to' (Some step) (Some step') (same_place m m' near) h1 h2 h3))) u u'
  stat_agrees (tree.for_in f ns c es d body x) s s' r r' t t' (slots, values, run, m, k, p, j, w, u, i) (slots', values', run', m', k', p', j', w', u', i') like =
      next like (list_agrees es s s' values.value.items values'.value.items m m' p p' like) λ near h.
      then_leave m m' k k' near (after_declare (names_of ns) m m'
      (last (block_agrees body (declare (names_of ns) m) (declare (names_of ns) m') run.value.items run'.value.items k k' w w' (declared_like (names_of ns) m m' near)) λ g.
      told SameStmt i i' (generic_same f run run' g slots slots' values values' (same_slots (names_of ns) m m' slots.value.items slots'.value.items near j j') h))) u u'
  stat_agrees (tree.function_statement f name body) s s' r r' t t' (xs, values, e, n, m, p, q, j, v, i) (xs', values', e', n', m', p', q', j', v', i') like =
      next like (funcname_agrees name s s' e e' m m' p p' like) λ near h.
      last (body_agrees [] f body m m' n n' t t' q q' near) λ k.
      told SameStmt i i' (assign_same f xs xs' values values' (single SameExpr xs.value.items xs'.value.items e e' j j' h)
      (single SameExpr values.value.items values'.value.items _ _ v v' (function_same f n n' k)))
  stat_agrees (tree.method_statement f name c l method body) s s' r r' t t' (xs, values, object, e, n, m, p, o, q, j, v, i)
      (xs', values', object', e', n', m', p', o', q', j', v', i') like =
      next like (funcname_agrees name s s' object.value object'.value m m' p p' like) λ near h.
      last (body_agrees (self_name ∷ []) f body m m' n n' t t' q q' near) λ k.
      told SameStmt i i' (assign_same f xs xs' values values'
      (single SameExpr xs.value.items xs'.value.items e e' j j' (member_same c l method object object' e e' h o o'))
      (single SameExpr values.value.items values'.value.items _ _ v v' (function_same f n n' k)))
  stat_agrees (tree.local_function l f at n body) s s' r r' t t' (k, p, i) (k', p', i') like =
      after_declare (n ∷ []) s s' (last (body_agrees [] f body (declare (n ∷ []) s) (declare (n ∷ []) s') k k' t t' p p' (declared_like (n ∷ []) s s' like)) λ h.
      told SameStmt i i' (local_function_same l (in_scope s) (in_scope s') k k' (same_place s s' like) h))
  stat_agrees (tree.local l ns) s s' r r' t t' (slots, values, j, v, u, i) (slots', values', j', v', u', i') like =
      then_declare (names_of ns) s s' (still like refl refl (told SameStmt i i' (local_same l slots slots' values values'
      (same_slots (names_of ns) s s' slots.value.items slots'.value.items like j j') (told (AllZip SameExpr) v v' (zip_none SameExpr))))) u u'
  stat_agrees (tree.local_values l ns c es) s s' r r' t t' (slots, values, m, p, j, u, i) (slots', values', m', p', j', u', i') like =
      then_declare (names_of ns) m m' (
      let a = list_agrees es s s' values.value.items values'.value.items m m' p p' like in
      last a λ h. told SameStmt i i' (local_same l slots slots' values values'
      (same_slots (names_of ns) m m' slots.value.items slots'.value.items (after like a) j j') h)) u u'

  arms_agree : (a : Arms) (s s' : Scope) (list list' : List Arm) (t t' : Scope) → ResolvesArms a s list t → ResolvesArms a s' list' t' → Like s s' →
      Agree s s' t t' (AllZip SameArm list list')
  arms_agree (tree.if_arm i a h b) s s' list list' t t' (arm, m, k, p, q, u, j) (arm', m', k', p', q', u', j') like =
      next like (exp_agrees a s s' (out-Arm arm).test (out-Arm arm').test m m' p p' like) λ near g.
      then_leave m m' k k' near (last (block_agrees b m m' (out-Arm arm).body.value.items (out-Arm arm').body.value.items k k' q q' near) λ f.
      single SameArm list list' arm arm' j j' (arm_same arm arm' g f)) u u'
  arms_agree (tree.elseif_arm those i a h b) s s' list list' t t' (before, arm, o, m, k, v, p, q, u, j) (before', arm', o', m', k', v', p', q', u', j') like =
      next like (arms_agree those s s' before before' o o' v v' like) λ near1 e.
      next near1 (exp_agrees a o o' (out-Arm arm).test (out-Arm arm').test m m' p p' near1) λ near g.
      then_leave m m' k k' near (last (block_agrees b m m' (out-Arm arm).body.value.items (out-Arm arm').body.value.items k k' q q' near) λ f.
      appended SameArm list list' before before' arm arm' j j' e (arm_same arm arm' g f)) u u'

  last_agrees : (a : LastStat) (s s' : Scope) (r r' : Stmt) (t t' : Scope) → ResolvesLast a s r t → ResolvesLast a s' r' t' → Like s s' →
      Agree s s' t t' (SameStmt r r')
  last_agrees (tree.return_none l) s s' r r' t t' (values, v, i, u) (values', v', i', u') like =
      still like u u' (told SameStmt i i' (return_same l values values' (told (AllZip SameExpr) v v' (zip_none SameExpr))))
  last_agrees (tree.return_values l es) s s' r r' t t' (values, p, i) (values', p', i') like =
      last (list_agrees es s s' values.value.items values'.value.items t t' p p' like) λ h. told SameStmt i i' (return_same l values values' h)
  last_agrees (tree.break_ l) s s' r r' t t' (i, u) (i', u') like = still like u u' (told SameStmt i i' (break_same l))

  vars_agree : (a : VarList) (s s' : Scope) (es es' : List Expr) (t t' : Scope) → ResolvesVars a s es t → ResolvesVars a s' es' t' → Like s s' →
      Agree s s' t t' (AllZip SameExpr es es')
  vars_agree (tree.one_var a) s s' es es' t t' (e, p, i) (e', p', i') like =
      last (prefix_agrees a s s' e e' t t' p p' like) λ h. single SameExpr es es' e e' i i' h
  vars_agree (tree.more_vars vs c a) s s' es es' t t' (before, e, m, p, q, i) (before', e', m', p', q', i') like =
      next like (vars_agree vs s s' before before' m m' p p' like) λ near h.
      last (prefix_agrees a m m' e e' t t' q q' near) λ k. appended SameExpr es es' before before' e e' i i' h k

-- a chunk resolves to programs that are the same
pub one_program : (line : Line) (chunk : Block) (p q : Program) → ResolvesChunk line chunk p → ResolvesChunk line chunk q → SameProgram p q
one_program line chunk p q (kept, out, m, t, opens, ends, functions, files) (kept', out', m', t', opens', ends', functions', files') =
    let alike : Like outside outside = record { enclosing = refl; count = refl } in
    let inner = block_agrees chunk (enter [] kept outside) (enter [] kept' outside) out out' m m' opens opens' (entered_like [] kept kept' outside outside alike) in
    let a = ended_agrees line [] _ kept kept' out out' outside outside m m' t t' alike inner ends ends' in
    record {
      files = files ∙ sym files';
      functions = told (AllZip SameFunction) (functions ∙ a.grows) (functions' ∙ a.grows_too) a.same;
    }

pub one_program_of : (tokens : List Token) (p q : Program) → IsProgramOf tokens p → IsProgramOf tokens q → SameProgram p q
one_program_of tokens p q (c, is) (d, is') =
    let e : d ≡ c = sym (one_tree c d is.valid is'.valid (sym is.printed ∙ is'.printed)) in
    let line = first_line (lexemes tokens) in
    one_program line c p q is.resolved (subst (λ b. ResolvesChunk line b q) e is'.resolved)
