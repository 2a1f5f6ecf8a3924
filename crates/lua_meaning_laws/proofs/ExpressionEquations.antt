-- What each expression comes to.
use Rattle.std.proofs.Common.{◌≡◌, ℕ, ◌+◌, List, [], ◌∷◌, ◌++◌, length, refl, sym, ap, ◌∙◌, append_assoc, if◌then◌else◌}
use Rattle.lua_ast.specs.declared.expressions.Expr.{Expr}
use Rattle.lua_ast.specs.declared.expressions.ExprKind.{ExprKind, out-ExprKind}
use Rattle.lua_ast.specs.declared.expressions.ExprKind.TheOpen.{ExprKind-F}
use Rattle.lua_ast.specs.declared.expressions.ExprKind.TheOpen as e
use Rattle.lua_ast.specs.declared.expressions.TableItem.{TableItem}
use Rattle.lua_ast.specs.declared.expressions.TableItem as item
use Rattle.lua_values.specs.declared.values.Value.{Value}
use Rattle.lua_values.specs.declared.values.Value.TheVariants.{Table, Text}
use Rattle.lua_values.specs.Values.{number}
use Rattle.lua_values.specs.StoreCalls.{full_cause, set_cause, with_pair, with_table}
use Rattle.lua_operators.specs.Types.{is_truthy}
use Rattle.lua_meaning.specs.Works.{Caller, Places, Slots, AValue, AnExpr, Values, Return, Break, Failed, Work, and_then}
use Rattle.lua_meaning.specs.Evaluator.{State, Ending, Ended, Parked, Spent, after, counted, do_work}
use Rattle.lua_meaning.specs.Laws.{EvaluatorEvaluates, WorksInOrder}
use Rattle.lua_meaning.specs.Setting.{Setting}
use Rattle.lua_meaning.specs.Positions.{callers_at}
use Rattle.lua_meaning.specs.Signs.{first, give_one, on_values, value, listed, more}
use Rattle.lua_meaning.specs.Indexing.{index_work, set_work}
use Rattle.lua_meaning.specs.Calls.{call}
use Rattle.lua_meaning.specs.Operators.{unary_work, binary_work}
use Rattle.lua_meaning.specs.Tables.{fill, expr_of, items_work}
use Rattle.lua_meaning.specs.Expressions.{first_extra, call_work, method_work, expr_work, value_work}
use Rattle.lua_meaning.specs.Nodes.{work_of, eval}
use Rattle.lua_meaning.specs.DirectEquations.{with_values}
use Rattle.lua_meaning.specs.EndingLaws.{values_then, counted_then}
use Rattle.lua_meaning_laws.specs.Parts.{gives}
use Rattle.lua_meaning_laws.specs.Expressions.{Coming, ExprIs, fill_in, items_in, ExpressionsAre, first_extra_in, ValuesAre, ListsAre, EachExpressionIs}
use Rattle.lua_meaning_laws.proofs.FollowingEquations.{work_if, one, work_then, list_then, written_then, index_then}

expr_is : {S : Setting} {kind : ExprKind-F ExprKind TableItem Expr} {comes : Coming} → EvaluatorEvaluates
    → ((line : ℕ) (p : Places) (s : Slots) (w : State) → do_work (eval S) (expr_work S line kind p s) w ≡ comes line p s w) → ExprIs S kind comes
expr_is {S} {kind} {comes} evaluates each = record {
  is = λ x p s w h.
      evaluates (work_of S) (AnExpr x) p s w
      ∙ ap (λ (k : ExprKind-F ExprKind TableItem Expr). counted 1 w (λ w'. do_work (eval S) (expr_work S x.line k p s) w')) h
      ∙ counted_then 1 w (λ w'. do_work (eval S) (expr_work S x.line kind p s) w') (λ w'. comes x.line p s w') (λ w'. each x.line p s w');
}

module _ (S : Setting) (in_order : WorksInOrder) where
  -- ---- tables
  fill_then : (callers : List Caller) (t n : ℕ) (vs : List Value) (s : Slots) (w : State) → do_work (eval S) (fill S callers t n vs s (give_one (Table t) s)) w ≡ fill_in S callers t n vs s w
  fill_then callers t n [] s w = refl
  fill_then callers t n (v ∷ vs) s w =
      written_then S callers (set_cause w.store.heap t (number n) v) (with_pair w.store.heap t (number n) v) s w (fill S callers t (n + 1) vs s (give_one (Table t) s)) _
      (λ w'. fill_then callers t (n + 1) vs s w')

  items_then : (line t n : ℕ) (items : List TableItem) (p : Places) (s : Slots) (w : State) → do_work (eval S) (items_work S line t n items p s) w ≡ items_in S line t n items p s w
  items_then line t n [] p s w = refl
  items_then line t n (item.Pair' l k m j ∷ items) p s w =
      one S (expr_of l k) p s w (λ keys s2. value (expr_of m j) p s2 (λ v s3. set_work S (callers_at p line) t (first keys) v s3 (items_work S line t n items p s3))) _ (λ keys s2 w2.
      one S (expr_of m j) p s2 w2 (λ vs s3. set_work S (callers_at p line) t (first keys) (first vs) s3 (items_work S line t n items p s3)) _ (λ vs s3 w3.
      written_then S (callers_at p line) (set_cause w3.store.heap t (first keys) (first vs)) (with_pair w3.store.heap t (first keys) (first vs)) s3 w3 (items_work S line t n items p s3) _
      (λ w4. items_then line t n items p s3 w4)))
  items_then line t n (item.Item' l k ∷ []) p s w =
      values_then (eval S) (eval S (AnExpr (expr_of l k)) p s w) (λ vs s2. fill S (callers_at p line) t n vs s2 (give_one (Table t) s2)) _ (λ vs s2 w2. fill_then (callers_at p line) t n vs s2 w2)
  items_then line t n (item.Item' l k ∷ i ∷ items) p s w =
      one S (expr_of l k) p s w (λ vs s2. set_work S (callers_at p line) t (number n) (first vs) s2 (items_work S line t (n + 1) (i ∷ items) p s2)) _ (λ vs s2 w2.
      written_then S (callers_at p line) (set_cause w2.store.heap t (number n) (first vs)) (with_pair w2.store.heap t (number n) (first vs)) s2 w2 (items_work S line t (n + 1) (i ∷ items) p s2) _
      (λ w3. items_then line t (n + 1) (i ∷ items) p s2 w3))

  -- ---- all
  pub expressions : EvaluatorEvaluates → ExpressionsAre S
  expressions evaluates = record {
    nil = expr_is evaluates (λ line p s w. refl);
    is_true = expr_is evaluates (λ line p s w. refl);
    is_false = expr_is evaluates (λ line p s w. refl);
    number = λ n. expr_is evaluates (λ line p s w. refl);
    text = λ t. expr_is evaluates (λ line p s w. refl);
    vararg = expr_is evaluates (λ line p s w. refl);
    function = λ n. expr_is evaluates (λ line p s w. refl);
    slot = λ i. expr_is evaluates (λ line p s w. refl);
    captured = λ i. expr_is evaluates (λ line p s w. refl);
    global = λ name. expr_is evaluates (λ line p s w. index_then S line (Table w.store.heap.globals) (Text name) p s w);
    index = λ a b. expr_is evaluates (λ line p s w.
        one S a.value p s w (λ vs s2. value b.value p s2 (λ key s3. index_work S line (first vs) key p s3)) _ (λ vs s2 w2.
        one S b.value p s2 w2 (λ keys s3. index_work S line (first vs) (first keys) p s3) _ (λ keys s3 w3. index_then S line (first vs) (first keys) p s3 w3)));
    call = λ f args. expr_is evaluates (λ line p s w.
        one S f.value p s w (λ fs s2. call_work line (first fs) args.value.items p s2) _ (λ fs s2 w2.
        list_then S in_order args.value.items (λ vs s3. call (callers_at p line) (first fs) vs s3) _ p s2 w2 (λ vs s3 w3. refl)));
    method = λ a name args. expr_is evaluates (λ line p s w.
        one S a.value p s w (λ os s2. and_then (index_work S line (first os) (Text name) p s2) (on_values (λ fs s3. method_work line (first fs) (first os) args.value.items p s3))) _ (λ os s2 w2.
        work_then S in_order (index_work S line (first os) (Text name) p s2) (λ fs s3. method_work line (first fs) (first os) args.value.items p s3) _ w2 _ (index_then S line (first os) (Text name) p s2 w2) (λ fs s3 w3.
        list_then S in_order args.value.items (λ vs s4. call (callers_at p line) (first fs) (first os ∷ vs) s4) _ p s3 w3 (λ vs s4 w4. refl))));
    unary = λ o a. expr_is evaluates (λ line p s w. one S a.value p s w (λ vs s2. unary_work S (callers_at p line) o (first vs) s2) _ (λ vs s2 w2. refl));
    binary = λ o a b. expr_is evaluates (λ line p s w.
        one S a.value p s w (λ vs s2. value b.value p s2 (λ x s3. binary_work S (callers_at p line) o (first vs) x s3)) _ (λ vs s2 w2.
        one S b.value p s2 w2 (λ xs s3. binary_work S (callers_at p line) o (first vs) (first xs) s3) _ (λ xs s3 w3. refl)));
    conjunction = λ a b. expr_is evaluates (λ line p s w.
        one S a.value p s w (λ vs s2. if is_truthy (first vs) then value b.value p s2 give_one else give_one (first vs) s2) _ (λ vs s2 w2.
        work_if S (is_truthy (first vs)) (value b.value p s2 give_one) (give_one (first vs) s2) w2 _ _ (one S b.value p s2 w2 (λ xs s3. give_one (first xs) s3) _ (λ xs s3 w3. refl)) refl));
    disjunction = λ a b. expr_is evaluates (λ line p s w.
        one S a.value p s w (λ vs s2. if is_truthy (first vs) then give_one (first vs) s2 else value b.value p s2 give_one) _ (λ vs s2 w2.
        work_if S (is_truthy (first vs)) (give_one (first vs) s2) (value b.value p s2 give_one) w2 _ _ refl (one S b.value p s2 w2 (λ xs s3. give_one (first xs) s3) _ (λ xs s3 w3. refl))));
    paren = λ a. expr_is evaluates (λ line p s w. one S a.value p s w (λ vs s2. give_one (first vs) s2) _ (λ vs s2 w2. refl));
    table = λ items. expr_is evaluates (λ line p s w.
        written_then S (callers_at p line) (full_cause w.store.heap 32) (with_table w.store.heap) s w (items_work S line (length w.store.heap.tables) 1 items.value.items p s) _
        (λ w2. items_then line (length w.store.heap.tables) 1 items.value.items p s w2));
  }

  -- ---- one value
  same_work : (line : ℕ) (k : ExprKind-F ExprKind TableItem Expr) (p : Places) (s : Slots) → (k ≡ e.Vararg → ⊥) → value_work S line k p s ≡ expr_work S line k p s
  same_work line e.Vararg p s not = absurd (not refl)
  same_work line e.Nil p s not = refl
  same_work line e.True p s not = refl
  same_work line e.False p s not = refl
  same_work line (e.Number n) p s not = refl
  same_work line (e.Text t) p s not = refl
  same_work line (e.Function n) p s not = refl
  same_work line (e.Slot i) p s not = refl
  same_work line (e.Captured i) p s not = refl
  same_work line (e.Global name) p s not = refl
  same_work line (e.Index a b) p s not = refl
  same_work line (e.Call f args) p s not = refl
  same_work line (e.Method a name args) p s not = refl
  same_work line (e.Unary o a) p s not = refl
  same_work line (e.Binary o a b) p s not = refl
  same_work line (e.And a b) p s not = refl
  same_work line (e.Or a b) p s not = refl
  same_work line (e.Paren a) p s not = refl
  same_work line (e.Table items) p s not = refl

  extra_then : (vs : List Value) (s : Slots) (w : State) → do_work (eval S) (first_extra vs s) w ≡ first_extra_in vs s w
  extra_then [] s w = refl
  extra_then (v ∷ vs) s w = refl

  pub values : EvaluatorEvaluates → ValuesAre S
  values evaluates = record {
    vararg = λ x p s w h.
        evaluates (work_of S) (AValue x) p s w
        ∙ ap (λ (k : ExprKind-F ExprKind TableItem Expr). counted 1 w (λ w'. do_work (eval S) (value_work S x.line k p s) w')) h
        ∙ counted_then 1 w (λ w'. do_work (eval S) (first_extra p.extras s) w') (λ w'. first_extra_in p.extras s w') (λ w'. extra_then p.extras s w');
    other = λ x p s w not.
        evaluates (work_of S) (AValue x) p s w
        ∙ ap (λ (q : Work). counted 1 w (λ w'. do_work (eval S) q w')) (same_work x.line (out-ExprKind x.kind) p s not)
        ∙ sym (evaluates (work_of S) (AnExpr x) p s w);
  }

  -- ---- lists
  -- what is done already comes before the rest
  more_then : (xs : List Expr) (p : Places) (before done vs : List Value) (s : Slots) (w : State)
      → do_work (eval S) (more xs p (before ++ done) vs s) w ≡ with_values (do_work (eval S) (more xs p done vs s) w) (λ us s' w'. gives (before ++ us) s' w')
  more_then [] p before done vs s w = ap (λ (us : List Value). gives us s w) (append_assoc before done vs)
  more_then (x ∷ xs) p before done vs s w = further (eval S (listed x xs) p s w) (λ us s' w'.
      ap (λ (d : List Value). do_work (eval S) (more xs p d us s') w') (append_assoc before done (first vs ∷ [])) ∙ more_then xs p before (done ++ first vs ∷ []) us s' w')
    where
      further : (o : Ending)
          → ((us : List Value) (s' : Slots) (w' : State) → do_work (eval S) (more xs p ((before ++ done) ++ first vs ∷ []) us s') w'
          ≡ with_values (do_work (eval S) (more xs p (done ++ first vs ∷ []) us s') w') (λ us s' w'. gives (before ++ us) s' w'))
          → after o (λ sign s' w'. do_work (eval S) (on_values (more xs p ((before ++ done) ++ first vs ∷ [])) sign s') w')
          ≡ with_values (after o (λ sign s' w'. do_work (eval S) (on_values (more xs p (done ++ first vs ∷ [])) sign s') w')) (λ us s' w'. gives (before ++ us) s' w')
      further (Ended (Values us) s' w') each = each us s' w'
      further (Ended (Return us) s' w') each = refl
      further (Ended Break s' w') each = refl
      further (Ended (Failed v) s' w') each = refl
      further (Parked number args position store) each = refl
      further Spent each = refl

  next_then : (xs : List Expr) (p : Places) (v : Value) (o : Ending)
      → after o (λ sign s' w'. do_work (eval S) (on_values (more xs p (v ∷ [])) sign s') w')
      ≡ with_values (after o (λ sign s' w'. do_work (eval S) (on_values (more xs p []) sign s') w')) (λ us s' w'. gives (v ∷ us) s' w')
  next_then xs p v (Ended (Values us) s' w') = more_then xs p (v ∷ []) [] us s' w'
  next_then xs p v (Ended (Return us) s' w') = refl
  next_then xs p v (Ended Break s' w') = refl
  next_then xs p v (Ended (Failed x) s' w') = refl
  next_then xs p v (Parked number args position store) = refl
  next_then xs p v Spent = refl

  last_then : (p : Places) (o : Ending) → after o (λ sign s' w'. do_work (eval S) (on_values (more [] p []) sign s') w') ≡ o
  last_then p (Ended (Values us) s' w') = refl
  last_then p (Ended (Return us) s' w') = refl
  last_then p (Ended Break s' w') = refl
  last_then p (Ended (Failed x) s' w') = refl
  last_then p (Parked number args position store) = refl
  last_then p Spent = refl

  pub lists : ListsAre S
  lists = record {
    empty = λ p s w. refl;
    last = λ x p s w. last_then p (eval S (AnExpr x) p s w);
    more = λ x y xs p s w. one S x p s w (more (y ∷ xs) p []) _ (λ vs s2 w2. next_then xs p (first vs) (eval S (listed y xs) p s2 w2));
  }

pub each_expression : EvaluatorEvaluates → WorksInOrder → EachExpressionIs
each_expression evaluates in_order = record {
  all = λ S. expressions S in_order evaluates;
  one = λ S. values S in_order evaluates;
  lists = λ S. lists S in_order;
}
