-- What a tree resolves to is whole.
use Rattle.std.proofs.Common.{◌≡◌, ℕ, ◌<◌, List, [], ◌∷◌, ◌++◌, length, All, None, Some, refl, sym, ap, arith, append-nil, ◌∙◌, map, slice_set, subst}
use Rattle.std.proofs.lemmas.List.Elements.{All-nil, All-cons, All-push, All-head, All-weaker}
use Rattle.lua_lexer.specs.declared.tokens.Token.{Token}
use Rattle.lua_ast.specs.declared.expressions.Expr.{Expr}
use Rattle.lua_ast.specs.declared.expressions.TableItem.{TableItem}
use Rattle.lua_ast.specs.declared.statements.Stmt.{Stmt}
use Rattle.lua_ast.specs.declared.statements.Arm.{Arm, out-Arm}
use Rattle.lua_ast.specs.declared.programs.Function.{Function}
use Rattle.lua_ast.specs.declared.programs.Program.{Program}
use Rattle.lua_ast.specs.WholeProgram.{HasInner, IsWholeExpr, IsWholeItem, IsWholeStmt, IsWholeArm, IsWholeFunction, IsWholeProgram}
use Rattle.lua_grammar.specs.Tree.{Line, Bytes, FuncName, Exp, PrefixExp, Args, ExpList, Table, Fields, Field, FuncBody, Block, Stats, Stat, Arms, LastStat, VarList}
use Rattle.lua_grammar.specs.Tree as tree
use Rattle.lua_grammar.specs.Validity.{takes_vararg}
use Rattle.lua_grammar.specs.Scopes.{Captured, Frame, Scope, declare, enter, in_scope, slots_from}
use Rattle.lua_grammar.specs.Resolution.{Index, ResolvesFuncName, Resolves, ResolvesPrefix, ResolvesArgs, ResolvesList, ResolvesTable, ResolvesFields, ResolvesField, ResolvesBody, Opens, ResolvesStats, ResolvesStat, ResolvesArms, ResolvesLast, ResolvesVars, Shared, args_line, arms_line, names_of, names_of_params, self_name}
use Rattle.lua_grammar.specs.Grammar.{IsProgramOf, ResolvesChunk, outside}
use Rattle.lua_grammar.specs.Laws.{BeginsWithChunk}
use Rattle.lua_grammar.proofs.Frames.{Went}
use Rattle.lua_grammar.proofs.Agreeing.{placed}
use Rattle.lua_grammar.proofs.Fitting.{HasIn, Fits, entered_fits}
use Rattle.lua_grammar.proofs.WholeNodes.{binary_whole, call_whole, method_whole, table_whole, do_whole, while_whole, repeat_whole, if_whole, numeric_whole, generic_whole, arm_whole}
use Rattle.lua_grammar.proofs.Wholes.{Stands, IsWholeBody, Whole, seen, also, becomes, still, leaves, declares, name_whole, ended_whole}

-- lists of which all are whole
none_whole : {X : Type 0} (P : X → Type 0) (xs : List X) → xs ≡ [] → All P xs
none_whole P xs e = seen (All P) e (All-nil P)

single_whole : {X : Type 0} (P : X → Type 0) (xs : List X) (x : X) → xs ≡ x ∷ [] → P x → All P xs
single_whole P xs x e h = seen (All P) e (All-cons P x [] h (All-nil P))

appended_whole : {X : Type 0} (P : X → Type 0) (xs before : List X) (x : X) → xs ≡ before ++ x ∷ [] → All P before × P x → All P xs
appended_whole P xs before x e h = seen (All P) e (All-push P before x h.0 h.1)

member_whole : (d l : Line) (n : Bytes) (x : Shared) (e : Expr) (all : List Function) (f : Function) → Index d x l n e → IsWholeExpr all f x.value → IsWholeExpr all f e
member_whole d l n x e all f (key, k, i) h = seen (IsWholeExpr all f) i (h, seen (IsWholeExpr all f) k tt)

funcname_whole : (a : FuncName) (s : Scope) (e : Expr) (t : Scope) → ResolvesFuncName a s e t → Fits s.enclosing → Whole s t (λ all f. IsWholeExpr all f e)
funcname_whole (tree.root_name l n) s e t r fit = name_whole l n s e t r fit
funcname_whole (tree.name_member a d l n) s e t (x, p, i) fit = becomes (funcname_whole a s x.value t p fit) λ all f h. member_whole d l n x e all f i h

one_slot : (n : Bytes) (m : Scope) (f : Function) → All (λ k. k < f.slots) (slots_from (in_scope m) (n ∷ [])) → in_scope m < f.slots
unfolding slots_from
one_slot n m f all = All-head (λ k. k < f.slots) (in_scope m) [] all

nothing_fits : Fits []
unfolding Fits
nothing_fits = tt

mutual
  unfolding Resolves

  exp_whole : (a : Exp) (s : Scope) (e : Expr) (t : Scope) → Resolves a s e t → Fits s.enclosing → Whole s t (λ all f. IsWholeExpr all f e)
  exp_whole (tree.nil l) s e t (i, u) fit = still fit u λ all f. seen (IsWholeExpr all f) i tt
  exp_whole (tree.false_ l) s e t (i, u) fit = still fit u λ all f. seen (IsWholeExpr all f) i tt
  exp_whole (tree.true_ l) s e t (i, u) fit = still fit u λ all f. seen (IsWholeExpr all f) i tt
  exp_whole (tree.number l n) s e t (i, u) fit = still fit u λ all f. seen (IsWholeExpr all f) i tt
  exp_whole (tree.string l n) s e t (i, u) fit = still fit u λ all f. seen (IsWholeExpr all f) i tt
  exp_whole (tree.dots l) s e t (i, u) fit = still fit u λ all f. seen (IsWholeExpr all f) i tt
  exp_whole (tree.function l body) s e t (n, p, i) fit = becomes (body_whole [] l body s n t p fit) λ all f h. seen (IsWholeExpr all f) i h
  exp_whole (tree.prefix a) s e t p fit = prefix_whole a s e t p fit
  exp_whole (tree.table a) s e t p fit = table_is_whole a s e t p fit
  exp_whole (tree.binary a op l b) s e t (x, y, m, p, q, i) fit =
      becomes (also (exp_whole a s x.value m p fit) λ fit. exp_whole b m y.value t q fit) λ all f h.
      seen (IsWholeExpr all f) i (binary_whole all f l op x y h.0 h.1)
  exp_whole (tree.unary op l b) s e t (x, p, i) fit = becomes (exp_whole b s x.value t p fit) λ all f h. seen (IsWholeExpr all f) i h

  prefix_whole : (a : PrefixExp) (s : Scope) (e : Expr) (t : Scope) → ResolvesPrefix a s e t → Fits s.enclosing → Whole s t (λ all f. IsWholeExpr all f e)
  prefix_whole (tree.variable l n) s e t r fit = name_whole l n s e t r fit
  prefix_whole (tree.paren o b c) s e t (x, p, i) fit = becomes (exp_whole b s x.value t p fit) λ all f h. seen (IsWholeExpr all f) i h
  prefix_whole (tree.item a o b c) s e t (x, y, m, p, q, i) fit =
      becomes (also (prefix_whole a s x.value m p fit) λ fit. exp_whole b m y.value t q fit) λ all f h. seen (IsWholeExpr all f) i (h.0, h.1)
  prefix_whole (tree.member a d l n) s e t (x, p, i) fit = becomes (prefix_whole a s x.value t p fit) λ all f h. member_whole d l n x e all f i h
  prefix_whole (tree.call a b) s e t (x, values, m, p, q, i) fit =
      becomes (also (prefix_whole a s x.value m p fit) λ fit. args_whole b m values.value.items t q fit) λ all f h.
      seen (IsWholeExpr all f) i (call_whole all f (args_line b) x values h.0 h.1)
  prefix_whole (tree.method a c l n b) s e t (x, values, m, p, q, i) fit =
      becomes (also (prefix_whole a s x.value m p fit) λ fit. args_whole b m values.value.items t q fit) λ all f h.
      seen (IsWholeExpr all f) i (method_whole all f (args_line b) x n values h.0 h.1)

  args_whole : (a : Args) (s : Scope) (es : List Expr) (t : Scope) → ResolvesArgs a s es t → Fits s.enclosing → Whole s t (λ all f. All (IsWholeExpr all f) es)
  args_whole (tree.no_args o c) s es t (i, u) fit = still fit u λ all f. none_whole (IsWholeExpr all f) es i
  args_whole (tree.args o list c) s es t p fit = list_whole list s es t p fit
  args_whole (tree.table_arg a) s es t (e, p, i) fit = becomes (table_is_whole a s e t p fit) λ all f h. single_whole (IsWholeExpr all f) es e i h
  args_whole (tree.string_arg l n) s es t (i, u) fit = still fit u λ all f. single_whole (IsWholeExpr all f) es _ i tt

  list_whole : (a : ExpList) (s : Scope) (es : List Expr) (t : Scope) → ResolvesList a s es t → Fits s.enclosing → Whole s t (λ all f. All (IsWholeExpr all f) es)
  list_whole (tree.one b) s es t (e, p, i) fit = becomes (exp_whole b s e t p fit) λ all f h. single_whole (IsWholeExpr all f) es e i h
  list_whole (tree.more list c b) s es t (before, e, m, p, q, i) fit =
      becomes (also (list_whole list s before m p fit) λ fit. exp_whole b m e t q fit) λ all f h. appended_whole (IsWholeExpr all f) es before e i h

  table_is_whole : (a : Table) (s : Scope) (e : Expr) (t : Scope) → ResolvesTable a s e t → Fits s.enclosing → Whole s t (λ all f. IsWholeExpr all f e)
  table_is_whole (tree.separated o fs c) s e t (items, p, i) fit =
      becomes (fields_whole fs s items.value.items t p fit) λ all f h. seen (IsWholeExpr all f) i (table_whole all f o items h)
  table_is_whole (tree.ending o fs g c) s e t (items, before, x, m, p, q, j, i) fit =
      becomes (also (fields_whole fs s before m p fit) λ fit. field_whole g m x t q fit) λ all f h.
      seen (IsWholeExpr all f) i (table_whole all f o items (appended_whole (IsWholeItem all f) items.value.items before x j h))

  fields_whole : (a : Fields) (s : Scope) (xs : List TableItem) (t : Scope) → ResolvesFields a s xs t → Fits s.enclosing →
      Whole s t (λ all f. All (IsWholeItem all f) xs)
  fields_whole tree.no_fields s xs t (i, u) fit = still fit u λ all f. none_whole (IsWholeItem all f) xs i
  fields_whole (tree.more_fields fs g c) s xs t (before, x, m, p, q, i) fit =
      becomes (also (fields_whole fs s before m p fit) λ fit. field_whole g m x t q fit) λ all f h. appended_whole (IsWholeItem all f) xs before x i h

  field_whole : (a : Field) (s : Scope) (x : TableItem) (t : Scope) → ResolvesField a s x t → Fits s.enclosing → Whole s t (λ all f. IsWholeItem all f x)
  field_whole (tree.keyed o a c q b) s x t (key, value, m, d, r, i) fit =
      becomes (also (exp_whole a s key m d fit) λ fit. exp_whole b m value t r fit) λ all f h. seen (IsWholeItem all f) i (h.0, h.1)
  field_whole (tree.named l n q b) s x t (value, r, i) fit = becomes (exp_whole b s value t r fit) λ all f h. seen (IsWholeItem all f) i (tt, h)
  field_whole (tree.plain b) s x t (value, r, i) fit = becomes (exp_whole b s value t r fit) λ all f h. seen (IsWholeItem all f) i h

  body_whole : (before : List Bytes) (l : Line) (a : FuncBody) (s : Scope) (n : ℕ) (t : Scope) → ResolvesBody before l a s n t → Fits s.enclosing →
      Whole s t (λ all f. HasInner all f n)
  body_whole before l (tree.function_body o ps c b x) s n t (kept, out, m, p, ends, i) fit =
      let names = before ++ names_of_params ps in
      becomes (ended_whole l names (takes_vararg ps) kept out s m t (block_whole b (enter names kept s) out m p (entered_fits names s.enclosing fit)) ends) λ all f h.
      seen (HasInner all f) i h

  block_whole : (a : Block) (s : Scope) (out : List Stmt) (t : Scope) → Opens a s out t → Fits s.enclosing → Whole s t (λ all f. All (IsWholeStmt all f) out)
  block_whole (tree.statements ss) s out t p fit = stats_whole ss s out t p fit
  block_whole (tree.with_last ss l x) s out t (before, r, m, p, q, i) fit =
      becomes (also (stats_whole ss s before m p fit) λ fit. last_whole l m r t q fit) λ all f h. appended_whole (IsWholeStmt all f) out before r i h

  stats_whole : (a : Stats) (s : Scope) (out : List Stmt) (t : Scope) → ResolvesStats a s out t → Fits s.enclosing → Whole s t (λ all f. All (IsWholeStmt all f) out)
  stats_whole tree.no_stats s out t (i, u) fit = still fit u λ all f. none_whole (IsWholeStmt all f) out i
  stats_whole (tree.more_stats ss st x) s out t (before, r, m, p, q, i) fit =
      becomes (also (stats_whole ss s before m p fit) λ fit. stat_whole st m r t q fit) λ all f h. appended_whole (IsWholeStmt all f) out before r i h

  stat_whole : (a : Stat) (s : Scope) (r : Stmt) (t : Scope) → ResolvesStat a s r t → Fits s.enclosing → Whole s t (λ all f. IsWholeStmt all f r)
  stat_whole (tree.assign vs c es) s r t (xs, values, m, p, q, i) fit =
      becomes (also (vars_whole vs s xs.value.items m p fit) λ fit. list_whole es m values.value.items t q fit) λ all f h.
      seen (IsWholeStmt all f) i (h.0, h.1)
  stat_whole (tree.call_statement a) s r t (e, p, i) fit = becomes (prefix_whole a s e t p fit) λ all f h. seen (IsWholeStmt all f) i h
  stat_whole (tree.do_block d b x) s r t (run, m, p, u, i) fit =
      becomes (also (block_whole b s run.value.items m p fit) λ fit. leaves s m u fit) λ all f h. seen (IsWholeStmt all f) i (do_whole all f d run h.0)
  stat_whole (tree.while_loop w a d b x) s r t (test, run, m, k, p, q, u, i) fit =
      becomes (also (exp_whole a s test.value m p fit) λ fit. also (block_whole b m run.value.items k q fit) λ fit. leaves m k u fit) λ all f h.
      seen (IsWholeStmt all f) i (while_whole all f w test run h.0 h.1.0)
  stat_whole (tree.repeat_loop w b x a) s r t (test, run, m, k, p, q, u, i) fit =
      becomes (also (block_whole b s run.value.items m p fit) λ fit. also (exp_whole a m test.value k q fit) λ fit. leaves s k u fit) λ all f h.
      seen (IsWholeStmt all f) i (repeat_whole all f w test run h.0 h.1.0)
  stat_whole (tree.if_then those x) s r t (list, run, p, none, i) fit =
      becomes (arms_whole those s list.value.items t p fit) λ all f h.
      seen (IsWholeStmt all f) i (if_whole all f (arms_line those) list run h (none_whole (IsWholeStmt all f) run.value.items none))
  stat_whole (tree.if_else those l b x) s r t (list, run, m, k, p, q, u, i) fit =
      becomes (also (arms_whole those s list.value.items m p fit) λ fit. also (block_whole b m run.value.items k q fit) λ fit. leaves m k u fit) λ all f h.
      seen (IsWholeStmt all f) i (if_whole all f (arms_line those) list run h.0 h.1.0)
  stat_whole (tree.for_range g l n c a d b o body x) s r t (from, to, run, v, m, k, p, q, w, u, i) fit =
      becomes (also (exp_whole a s from.value v p fit) λ fit. also (exp_whole b v to.value m q fit) λ fit. also (declares (n ∷ []) m fit) λ fit.
      also (block_whole body (declare (n ∷ []) m) run.value.items k w fit) λ fit. leaves m k u fit) λ all f h.
      seen (IsWholeStmt all f) i (numeric_whole all f g (in_scope m) from to None run (one_slot n m f h.1.1.0) h.0 h.1.0 tt h.1.1.1.0)
  stat_whole (tree.for_steps g l n c a d b y z o body x) s r t (from, to, step, run, v1, v2, m, k, p, q, j, w, u, i) fit =
      becomes (also (exp_whole a s from.value v1 p fit) λ fit. also (exp_whole b v1 to.value v2 q fit) λ fit. also (exp_whole z v2 step.value m j fit) λ fit.
      also (declares (n ∷ []) m fit) λ fit. also (block_whole body (declare (n ∷ []) m) run.value.items k w fit) λ fit. leaves m k u fit) λ all f h.
      seen (IsWholeStmt all f) i (numeric_whole all f g (in_scope m) from to (Some step) run (one_slot n m f h.1.1.1.0) h.0 h.1.0 h.1.1.0 h.1.1.1.1.0)
  stat_whole (tree.for_in g ns c es d body x) s r t (slots, values, run, m, k, p, j, w, u, i) fit =
      becomes (also (list_whole es s values.value.items m p fit) λ fit. also (declares (names_of ns) m fit) λ fit.
      also (block_whole body (declare (names_of ns) m) run.value.items k w fit) λ fit. leaves m k u fit) λ all f h.
      seen (IsWholeStmt all f) i (generic_whole all f g slots values run (seen (All (λ n. n < f.slots)) j h.1.0) h.0 h.1.1.0)
  stat_whole (tree.function_statement g name body) s r t (xs, values, e, n, m, p, q, j, v, i) fit =
      becomes (also (funcname_whole name s e m p fit) λ fit. body_whole [] g body m n t q fit) λ all f h.
      seen (IsWholeStmt all f) i (single_whole (IsWholeExpr all f) xs.value.items e j h.0, single_whole (IsWholeExpr all f) values.value.items _ v h.1)
  stat_whole (tree.method_statement g name c l method body) s r t (xs, values, object, e, n, m, p, o, q, j, v, i) fit =
      becomes (also (funcname_whole name s object.value m p fit) λ fit. body_whole (self_name ∷ []) g body m n t q fit) λ all f h.
      seen (IsWholeStmt all f) i (
        single_whole (IsWholeExpr all f) xs.value.items e j (member_whole c l method object e all f o h.0),
        single_whole (IsWholeExpr all f) values.value.items _ v h.1,
      )
  stat_whole (tree.local_function l g at n body) s r t (k, p, i) fit =
      becomes (also (declares (n ∷ []) s fit) λ fit. body_whole [] g body (declare (n ∷ []) s) k t p fit) λ all f h.
      seen (IsWholeStmt all f) i (one_slot n s f h.0, h.1)
  stat_whole (tree.local l ns) s r t (slots, values, j, v, u, i) fit =
      becomes (also (declares (names_of ns) s fit) λ fit. still fit u λ all f. tt {0}) λ all f h.
      seen (IsWholeStmt all f) i (seen (All (λ n. n < f.slots)) j h.0, none_whole (IsWholeExpr all f) values.value.items v)
  stat_whole (tree.local_values l ns c es) s r t (slots, values, m, p, j, u, i) fit =
      becomes (also (list_whole es s values.value.items m p fit) λ fit. also (declares (names_of ns) m fit) λ fit. still fit u λ all f. tt {0}) λ all f h.
      seen (IsWholeStmt all f) i (seen (All (λ n. n < f.slots)) j h.1.0, h.0)

  arms_whole : (a : Arms) (s : Scope) (list : List Arm) (t : Scope) → ResolvesArms a s list t → Fits s.enclosing → Whole s t (λ all f. All (IsWholeArm all f) list)
  arms_whole (tree.if_arm i a h b) s list t (arm, m, k, p, q, u, j) fit =
      becomes (also (exp_whole a s (out-Arm arm).test m p fit) λ fit. also (block_whole b m (out-Arm arm).body.value.items k q fit) λ fit. leaves m k u fit) λ all f h.
      single_whole (IsWholeArm all f) list arm j (arm_whole all f arm h.0 h.1.0)
  arms_whole (tree.elseif_arm those i a h b) s list t (before, arm, o, m, k, v, p, q, u, j) fit =
      becomes (also (arms_whole those s before o v fit) λ fit. also (exp_whole a o (out-Arm arm).test m p fit) λ fit.
      also (block_whole b m (out-Arm arm).body.value.items k q fit) λ fit. leaves m k u fit) λ all f h.
      appended_whole (IsWholeArm all f) list before arm j (h.0, arm_whole all f arm h.1.0 h.1.1.0)

  last_whole : (a : LastStat) (s : Scope) (r : Stmt) (t : Scope) → ResolvesLast a s r t → Fits s.enclosing → Whole s t (λ all f. IsWholeStmt all f r)
  last_whole (tree.return_none l) s r t (values, v, i, u) fit =
      still fit u λ all f. seen (IsWholeStmt all f) i (none_whole (IsWholeExpr all f) values.value.items v)
  last_whole (tree.return_values l es) s r t (values, p, i) fit =
      becomes (list_whole es s values.value.items t p fit) λ all f h. seen (IsWholeStmt all f) i h
  last_whole (tree.break_ l) s r t (i, u) fit = still fit u λ all f. seen (IsWholeStmt all f) i tt

  vars_whole : (a : VarList) (s : Scope) (es : List Expr) (t : Scope) → ResolvesVars a s es t → Fits s.enclosing → Whole s t (λ all f. All (IsWholeExpr all f) es)
  vars_whole (tree.one_var a) s es t (e, p, i) fit = becomes (prefix_whole a s e t p fit) λ all f h. single_whole (IsWholeExpr all f) es e i h
  vars_whole (tree.more_vars vs c a) s es t (before, e, m, p, q, i) fit =
      becomes (also (vars_whole vs s before m p fit) λ fit. prefix_whole a m e t q fit) λ all f h. appended_whole (IsWholeExpr all f) es before e i h

in_program : (program : Program) (f : Function) → program.files ≡ [] ∷ [] → IsWholeBody program.functions.items f → IsWholeFunction program f
in_program program f files is = record {
  file = let p = is.file in let q = ap length files in omega (arith, p, q);
  params = is.params;
  body = is.body;
}

chunk_whole : (line : Line) (chunk : Block) (program : Program) → ResolvesChunk line chunk program → IsWholeProgram program
chunk_whole line chunk program (kept, out, m, t, opens, ends, functions, files) =
    let a = ended_whole line [] _ kept out outside m t (block_whole chunk (enter [] kept outside) out m opens (entered_fits [] [] nothing_fits)) ends in
    let all = program.functions.items in
    let e : all ≡ a.new = functions ∙ a.grows in
    let stands : Stands 0 a.new all = record { before = []; after = []; is = e ∙ sym (append-nil a.new); counted = refl } in
    seen (All (IsWholeFunction program)) e (All-weaker (IsWholeBody all) (IsWholeFunction program) (λ f h. in_program program f files h) a.new (a.bodies all stands))

-- a program is whole
pub program_whole : (tokens : List Token) (program : Program) → IsProgramOf tokens program → IsWholeProgram program
program_whole tokens program (chunk, is) = chunk_whole _ chunk program is.resolved

-- ---- the chunk

none_further : (f g : Frame) (fs all : List Frame) → all ≡ g ∷ fs → Went (f ∷ []) all → fs ≡ []
unfolding Went
none_further f g [] all e h = refl
none_further f g (x ∷ fs) all e h = let k = subst (Went (f ∷ [])) e h in absurd k.1

nothing_in : (captures : List Captured) → All (λ c. HasIn [] c.variable) captures → captures ≡ []
unfolding HasIn
nothing_in [] all = refl
nothing_in (c ∷ cs) all = absurd (All-head (λ c. HasIn [] c.variable) c cs all)

none_captured : (fs all : List Frame) (frame : Frame) → all ≡ frame ∷ fs → fs ≡ [] → Fits all → frame.captures ≡ []
unfolding Fits HasIn
none_captured fs all frame e none fit =
    let h = subst Fits (e ∙ ap (λ gs. frame ∷ gs) none) fit in
    nothing_in frame.captures h.1

begins : (line : Line) (chunk : Block) (program : Program) → ResolvesChunk line chunk program → BeginsWithChunk program
begins line chunk program (kept, out, m, t, opens, (f, frame, enclosing, top, is, ended), functions, files) =
    let a = block_whole chunk (enter [] kept outside) out m opens (entered_fits [] [] nothing_fits) in
    let none = none_further _ frame enclosing m.enclosing top a.moves.frames in
    record {
      chunk = f;
      others = a.new;
      functions = functions ∙ (ap (λ z. z.functions) ended ∙ (ap (λ fs. slice_set fs 0 f) a.grows ∙ placed [] a.new kept f));
      params = is.params;
      vararg = is.vararg;
      captures = is.captures ∙ ap (map (λ c. c.variable)) (none_captured enclosing m.enclosing frame top none a.fits);
    }

pub begins_with_chunk : (tokens : List Token) (program : Program) → IsProgramOf tokens program → BeginsWithChunk program
begins_with_chunk tokens program (chunk, is) = begins _ chunk program is.resolved
