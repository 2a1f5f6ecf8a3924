-- What each statement comes to.
use Rattle.std.proofs.Common.{◌≡◌, ℕ, false, List, [], ◌∷◌, ◌++◌, length, reverse, drop, Option, Some, None, refl, ap, ◌∙◌, if◌then◌else◌}
use Rattle.std.specs.Prelude.{slice_get, slice_set}
use Rattle.std.specs.declared.rc.Rc.{Rc}
use Rattle.std.specs.declared.alloc.Global.{Global}
use Rattle.lua_ast.specs.declared.expressions.Expr.{Expr}
use Rattle.lua_ast.specs.declared.expressions.ExprKind.{ExprKind, out-ExprKind}
use Rattle.lua_ast.specs.declared.expressions.ExprKind.TheOpen.{ExprKind-F}
use Rattle.lua_ast.specs.declared.expressions.ExprKind.TheOpen as e
use Rattle.lua_ast.specs.declared.expressions.TableItem.{TableItem}
use Rattle.lua_ast.specs.declared.programs.Capture.{Capture}
use Rattle.lua_ast.specs.declared.statements.Stmt.{Stmt}
use Rattle.lua_ast.specs.declared.statements.Arm.{Arm, out-Arm}
use Rattle.lua_ast.specs.declared.statements.StmtKind.{StmtKind}
use Rattle.lua_ast.specs.declared.statements.StmtKind.TheOpen.{StmtKind-F}
use Rattle.lua_values.specs.declared.values.Value.{Value}
use Rattle.lua_values.specs.declared.values.Value.TheVariants.{Nil, Text, Closure}
use Rattle.lua_values.specs.declared.faults.StoreFault.{StoreFault}
use Rattle.lua_values.specs.Heap.{Heap}
use Rattle.lua_values.specs.StoreCalls.{full_cause, closure_units}
use Rattle.lua_operators.specs.Types.{is_truthy}
use Rattle.lua_meaning.specs.declared.slots.Slot.TheVariants.{Plain}
use Rattle.lua_meaning.specs.Works.{Caller, Places, Slots, AnExpr, AStmt, ATurn, ARepeat, Return, Work, End, Write, and_then}
use Rattle.lua_meaning.specs.Evaluator.{State, Ending, Ended, counted, do_work}
use Rattle.lua_meaning.specs.Laws.{EvaluatorEvaluates, WorksInOrder}
use Rattle.lua_meaning.specs.Setting.{Setting}
use Rattle.lua_meaning.specs.Positions.{callers_at}
use Rattle.lua_meaning.specs.Signs.{first, give, give_one, on_values, value, values_of}
use Rattle.lua_meaning.specs.Variables.{table_fault, unless_refused, with_locals, write_slot}
use Rattle.lua_meaning.specs.Closures.{present_cell, share_from, share, close, captures_of, closure_work}
use Rattle.lua_meaning.specs.Indexing.{index_work}
use Rattle.lua_meaning.specs.Calls.{tail_call}
use Rattle.lua_meaning.specs.Blocks.{block}
use Rattle.lua_meaning.specs.Assignments.{Target, InSlot, InCapture, AtKey, Nowhere, target_of, targets_of, assigned, assign_to, assign_all}
use Rattle.lua_meaning.specs.Loops.{again, for_work, iterate}
use Rattle.lua_meaning.specs.Statements.{if_work, step_of, tail_work, return_one, return_work, stmt_work}
use Rattle.lua_meaning.specs.Statements as statement
use Rattle.lua_meaning.specs.Nodes.{work_of, eval}
use Rattle.lua_meaning.specs.DirectEquations.{with_values, eval_list}
use Rattle.lua_meaning.specs.EndingLaws.{values_then, after_same, counted_then}
use Rattle.lua_meaning_laws.specs.Expressions.{Coming, closure_in}
use Rattle.lua_meaning_laws.specs.Statements.{StmtIs, target_in, targets_in, assign_in, assign_each, arms_in, step_in, is_call, is_tail, StatementsAre, EachStatementIs}
use Rattle.lua_meaning_laws.proofs.FollowingEquations.{work_if, one, work_then, list_then, index_then, store_then}
use Rattle.lua_meaning_laws.proofs.LoopEquations.{for_then, iterate_then}

stmt_is : {S : Setting} {kind : StmtKind-F StmtKind Arm Stmt} {comes : Coming} → EvaluatorEvaluates
    → ((line : ℕ) (p : Places) (s : Slots) (w : State) → do_work (eval S) (stmt_work S line kind p s) w ≡ comes line p s w) → StmtIs S kind comes
stmt_is {S} {kind} {comes} evaluates each = record {
  is = λ x p s w h.
      evaluates (work_of S) (AStmt x) p s w
      ∙ ap (λ (k : StmtKind-F StmtKind Arm Stmt). counted 1 w (λ w'. do_work (eval S) (stmt_work S x.line k p s) w')) h
      ∙ counted_then 1 w (λ w'. do_work (eval S) (stmt_work S x.line kind p s) w') (λ w'. comes x.line p s w') (λ w'. each x.line p s w');
}

module _ (S : Setting) (in_order : WorksInOrder) where
  -- ---- closures, with what goes on with them
  unless_then : (callers : List Caller) (cause : Option StoreFault) (h : Heap) (s : Slots) (w : State) (q r : Work) (go : List Value → Slots → State → Ending)
      → ((w' : State) → do_work (eval S) q w' ≡ with_values (do_work (eval S) r w') go)
      → do_work (eval S) (unless_refused S callers table_fault cause s (Write h q)) w ≡ with_values (do_work (eval S) (unless_refused S callers table_fault cause s (Write h r)) w) go
  unless_then callers None h s w q r go each = each (record w { store = record { heap = h; steps = w.store.steps } })
  unless_then callers (Some cause) h s w q r go each = refl

  share_one_then : (callers : List Caller) (o : Option ℕ) (variable : Capture) (p : Places) (s : Slots) (w : State) (f g : ℕ → Slots → Work) (go : List Value → Slots → State → Ending)
      → ((c : ℕ) (s' : Slots) (w' : State) → do_work (eval S) (f c s') w' ≡ with_values (do_work (eval S) (g c s') w') go)
      → do_work (eval S) (share_from S callers o variable p s f) w ≡ with_values (do_work (eval S) (share_from S callers o variable p s g) w) go
  share_one_then callers (Some c) variable p s w f g go each = each c s w
  share_one_then callers None variable p s w f g go each =
      unless_then callers (full_cause w.store.heap 16) _ s w _ _ go (λ w'. each (length w.store.heap.cells) _ w')

  share_then : (callers : List Caller) (captures : List Capture) (p : Places) (done : List ℕ) (s : Slots) (w : State) (f g : List ℕ → Slots → Work) (go : List Value → Slots → State → Ending)
      → ((cells : List ℕ) (s' : Slots) (w' : State) → do_work (eval S) (f cells s') w' ≡ with_values (do_work (eval S) (g cells s') w') go)
      → do_work (eval S) (share S callers captures p done s f) w ≡ with_values (do_work (eval S) (share S callers captures p done s g) w) go
  share_then callers [] p done s w f g go each = each done s w
  share_then callers (variable ∷ captures) p done s w f g go each =
      share_one_then callers (present_cell variable p s) variable p s w (λ c s'. share S callers captures p (done ++ c ∷ []) s' f) (λ c s'. share S callers captures p (done ++ c ∷ []) s' g) go
      (λ c s' w'. share_then callers captures p (done ++ c ∷ []) s' w' f g go each)

  closure_then : (line n : ℕ) (p : Places) (s : Slots) (w : State) (f : List Value → Slots → Work) (go : List Value → Slots → State → Ending)
      → ((vs : List Value) (s' : Slots) (w' : State) → do_work (eval S) (f vs s') w' ≡ go vs s' w')
      → do_work (eval S) (closure_work S line n p s (λ v s'. f (v ∷ []) s')) w ≡ with_values (closure_in S n line p s w) go
  closure_then line n p s w f go each =
      let callers : List Caller = callers_at p line in
      share_then callers (captures_of (slice_get S.program.functions.items n)) p [] s w (λ cells s'. close S callers n cells s' (λ v s''. f (v ∷ []) s'')) (λ cells s'. close S callers n cells s' give_one) go
      (λ cells s' w'. unless_then callers (full_cause w'.store.heap (closure_units cells)) _ s' w' (f (Closure (length w'.store.heap.closures) ∷ []) s') (give_one (Closure (length w'.store.heap.closures)) s') go
      (λ w''. each (Closure (length w'.store.heap.closures) ∷ []) s' w''))

  -- ---- assignments
  target_then : (line : ℕ) (k : ExprKind-F ExprKind TableItem Expr) (p : Places) (s : Slots) (w : State) (f : Target → Slots → Work) (go : Target → Slots → State → Ending)
      → ((t : Target) (s' : Slots) (w' : State) → do_work (eval S) (f t s') w' ≡ go t s' w') → do_work (eval S) (target_of line k p s f) w ≡ target_in S line k p s w go
  target_then line (e.Slot i) p s w f go each = each _ s w
  target_then line (e.Captured i) p s w f go each = each _ s w
  target_then line (e.Global name) p s w f go each = each _ s w
  target_then line (e.Index a b) p s w f go each =
      one S a.value p s w (λ vs s2. value b.value p s2 (λ key s3. f (AtKey line (first vs) key) s3)) _ (λ vs s2 w2.
      one S b.value p s2 w2 (λ keys s3. f (AtKey line (first vs) (first keys)) s3) _ (λ keys s3 w3. each (AtKey line (first vs) (first keys)) s3 w3))
  target_then line e.Nil p s w f go each = each Nowhere s w
  target_then line e.True p s w f go each = each Nowhere s w
  target_then line e.False p s w f go each = each Nowhere s w
  target_then line (e.Number n) p s w f go each = each Nowhere s w
  target_then line (e.Text t) p s w f go each = each Nowhere s w
  target_then line e.Vararg p s w f go each = each Nowhere s w
  target_then line (e.Function n) p s w f go each = each Nowhere s w
  target_then line (e.Call g args) p s w f go each = each Nowhere s w
  target_then line (e.Method a name args) p s w f go each = each Nowhere s w
  target_then line (e.Unary o a) p s w f go each = each Nowhere s w
  target_then line (e.Binary o a b) p s w f go each = each Nowhere s w
  target_then line (e.And a b) p s w f go each = each Nowhere s w
  target_then line (e.Or a b) p s w f go each = each Nowhere s w
  target_then line (e.Paren a) p s w f go each = each Nowhere s w
  target_then line (e.Table items) p s w f go each = each Nowhere s w

  targets_then : (xs : List Expr) (p : Places) (done : List Target) (s : Slots) (w : State) (f : List Target → Slots → Work) (go : List Target → Slots → State → Ending)
      → ((ts : List Target) (s' : Slots) (w' : State) → do_work (eval S) (f ts s') w' ≡ go ts s' w') → do_work (eval S) (targets_of xs p done s f) w ≡ targets_in S xs p done s w go
  targets_then [] p done s w f go each = each done s w
  targets_then (x ∷ xs) p done s w f go each =
      counted_then 1 w _ _ (λ w1. target_then x.line (out-ExprKind x.kind) p s w1 (λ t s'. targets_of xs p (done ++ t ∷ []) s' f) (λ t s2 w2. targets_in S xs p (done ++ t ∷ []) s2 w2 go)
      (λ t s2 w2. targets_then xs p (done ++ t ∷ []) s2 w2 f go each))

  assign_then : (t : Target) (v : Value) (p : Places) (s : Slots) (w : State) → do_work (eval S) (assign_to S t v p s) w ≡ assign_in S t v p s w
  assign_then (InSlot line i) v p s w = refl
  assign_then (InCapture line i) v p s w = refl
  assign_then (AtKey line object key) v p s w = store_then S line object key v p s w
  assign_then Nowhere v p s w = refl

  each_then : (assignments : List (Target × Value)) (p : Places) (s : Slots) (w : State) → do_work (eval S) (assign_all S assignments p s) w ≡ assign_each S assignments p s w
  each_then [] p s w = refl
  each_then (a ∷ assignments) p s w =
      work_then S in_order (assign_to S a.0 a.1 p s) (λ vs s'. assign_all S assignments p s') _ w _ (assign_then a.0 a.1 p s w) (λ vs s2 w2. each_then assignments p s2 w2)

  -- ---- the others
  arms_then : (arms : List Arm) (last : List Stmt) (p : Places) (s : Slots) (w : State) → do_work (eval S) (if_work arms last p s) w ≡ arms_in S arms last p s w
  arms_then [] last p s w = refl
  arms_then (a ∷ arms) last p s w =
      one S (out-Arm a).test p s w (λ vs s2. if is_truthy (first vs) then block (out-Arm a).body.value.items p s2 else if_work arms last p s2) _ (λ vs s2 w2.
      work_if S (is_truthy (first vs)) (block (out-Arm a).body.value.items p s2) (if_work arms last p s2) w2 _ _ refl (arms_then arms last p s2 w2))

  step_then : (step : Option (Rc Expr Global)) (p : Places) (s : Slots) (w : State) (f : Value → Slots → Work) (go : Value → Slots → State → Ending)
      → ((v : Value) (s' : Slots) (w' : State) → do_work (eval S) (f v s') w' ≡ go v s' w') → do_work (eval S) (step_of step p s f) w ≡ step_in S step p s w go
  step_then None p s w f go each = each _ s w
  step_then (Some x) p s w f go each = one S x.value p s w (λ vs s2. f (first vs) s2) (λ vs s2 w2. go (first vs) s2 w2) (λ vs s2 w2. each (first vs) s2 w2)

  abbrev plain_return : List Expr → Places → Slots → Work
  plain_return xs p s = statement.with_values xs p s (λ vs s'. End (Return vs) s')

  one_plain : (x : Expr) (k : ExprKind-F ExprKind TableItem Expr) (p : Places) (s : Slots) → is_call k ≡ false → return_one S x k p s ≡ plain_return (x ∷ []) p s
  one_plain x (e.Call f args) p s h = absurd (cc)
  one_plain x (e.Method a name args) p s h = absurd (cc)
  one_plain x e.Nil p s h = refl
  one_plain x e.True p s h = refl
  one_plain x e.False p s h = refl
  one_plain x (e.Number n) p s h = refl
  one_plain x (e.Text t) p s h = refl
  one_plain x e.Vararg p s h = refl
  one_plain x (e.Function n) p s h = refl
  one_plain x (e.Slot i) p s h = refl
  one_plain x (e.Captured i) p s h = refl
  one_plain x (e.Global name) p s h = refl
  one_plain x (e.Index a b) p s h = refl
  one_plain x (e.Unary o a) p s h = refl
  one_plain x (e.Binary o a b) p s h = refl
  one_plain x (e.And a b) p s h = refl
  one_plain x (e.Or a b) p s h = refl
  one_plain x (e.Paren a) p s h = refl
  one_plain x (e.Table items) p s h = refl

  all_plain : (xs : List Expr) (p : Places) (s : Slots) → is_tail xs ≡ false → return_work S xs p s ≡ plain_return xs p s
  all_plain [] p s h = refl
  all_plain (x ∷ []) p s h = one_plain x (out-ExprKind x.kind) p s h
  all_plain (x ∷ y ∷ xs) p s h = refl

  return_then : (xs : List Expr) (p : Places) (s : Slots) (w : State) → is_tail xs ≡ false
      → do_work (eval S) (return_work S xs p s) w ≡ with_values (eval_list S xs p s w) (λ vs s2 w2. Ended (Return vs) s2 w2)
  return_then xs p s w h =
      ap (λ (q : Work). do_work (eval S) q w) (all_plain xs p s h) ∙ list_then S in_order xs (λ vs s2. End (Return vs) s2) (λ vs s2 w2. Ended (Return vs) s2 w2) p s w (λ vs s2 w2. refl)

  -- ---- all
  pub statements : EvaluatorEvaluates → StatementsAre S
  statements evaluates = record {
    local_ = λ slots xs. stmt_is evaluates (λ line p s w. list_then S in_order xs.value.items (λ vs s2. give [] (with_locals slots.value.items vs s2)) _ p s w (λ vs s2 w2. refl));
    local_function = λ slot n. stmt_is evaluates (λ line p s w.
        closure_then line n p (slice_set s slot (Plain Nil)) w (λ fs s2. write_slot S (callers_at p line) (slice_get s2 slot) slot (first fs) s2 (give [])) _ (λ fs s2 w2. refl));
    assignment = λ targets xs. stmt_is evaluates (λ line p s w.
        targets_then targets.value.items p [] s w (λ ts s2. and_then (values_of xs.value.items p s2) (on_values (λ vs s3. assign_all S (reverse (assigned ts vs)) p s3))) _ (λ ts s2 w2.
        list_then S in_order xs.value.items (λ vs s3. assign_all S (reverse (assigned ts vs)) p s3) _ p s2 w2 (λ vs s3 w3. each_then (reverse (assigned ts vs)) p s3 w3)));
    call = λ x. stmt_is evaluates (λ line p s w. values_then (eval S) (eval S (AnExpr x) p s w) (λ vs s2. give [] s2) _ (λ vs s2 w2. refl));
    block = λ body. stmt_is evaluates (λ line p s w. refl);
    while_ = λ test body. stmt_is evaluates (λ line p s w.
        one S test.value p s w (λ vs s2. if is_truthy (first vs) then again (ATurn test.value body.value.items) p s2 else give [] s2) _ (λ vs s2 w2.
        work_if S (is_truthy (first vs)) (again (ATurn test.value body.value.items) p s2) (give [] s2) w2 _ _ (after_same (eval S (ATurn test.value body.value.items) p s2 w2)) refl));
    repeat_ = λ body test. stmt_is evaluates (λ line p s w. after_same (eval S (ARepeat body.value.items test.value) p s w));
    if_ = λ arms last. stmt_is evaluates (λ line p s w. arms_then arms.value.items last.value.items p s w);
    numeric_for = λ slot from to step body. stmt_is evaluates (λ line p s w.
        one S from.value p s w (λ vs s2. value to.value p s2 (λ b s3. step_of step p s3 (λ c s4. for_work S line slot (first vs) b c body.value.items p s4))) _ (λ vs s2 w2.
        one S to.value p s2 w2 (λ bs s3. step_of step p s3 (λ c s4. for_work S line slot (first vs) (first bs) c body.value.items p s4)) _ (λ bs s3 w3.
        step_then step p s3 w3 (λ c s4. for_work S line slot (first vs) (first bs) c body.value.items p s4) _ (λ c s4 w4.
        for_then S line slot (first vs) (first bs) c body.value.items p s4 w4))));
    generic_for = λ slots xs body. stmt_is evaluates (λ line p s w.
        list_then S in_order xs.value.items (λ vs s2. iterate line slots.value.items (first vs) (first (drop 1 vs)) (first (drop 2 vs)) body.value.items p s2) _ p s w (λ vs s2 w2.
        iterate_then S line slots.value.items (first vs) (first (drop 1 vs)) (first (drop 2 vs)) body.value.items p s2 w2));
    return_ = λ xs h. stmt_is evaluates (λ line p s w. return_then xs.value.items p s w h);
    return_method = λ xs x a name args is kind. stmt_is evaluates (λ line p s w.
        ap (λ (ys : List Expr). do_work (eval S) (return_work S ys p s) w) is
        ∙ ap (λ (k : ExprKind-F ExprKind TableItem Expr). do_work (eval S) (return_one S x k p s) w) kind
        ∙ counted_then 1 w _ _ (λ w1.
        one S a.value p s w1 (λ os s2. and_then (index_work S x.line (first os) (Text name) p s2) (on_values (λ fs s3. tail_work x.line (first fs) (first os ∷ []) args.value.items p s3))) _ (λ os s2 w2.
        work_then S in_order (index_work S x.line (first os) (Text name) p s2) (λ fs s3. tail_work x.line (first fs) (first os ∷ []) args.value.items p s3) _ w2 _ (index_then S x.line (first os) (Text name) p s2 w2)
        (λ fs s3 w3. list_then S in_order args.value.items (λ vs s4. tail_call (callers_at p x.line) (first fs) ((first os ∷ []) ++ vs) s4) _ p s3 w3 (λ vs s4 w4. refl)))));
    break_ = stmt_is evaluates (λ line p s w. refl);
  }

pub each_statement : EvaluatorEvaluates → WorksInOrder → EachStatementIs
each_statement evaluates in_order = record { all = λ S. statements S in_order evaluates }
