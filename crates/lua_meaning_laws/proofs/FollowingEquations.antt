-- From works to evaluations that go on with what others gave.
use Rattle.std.proofs.Common.{◌≡◌, ℕ, ◌+◌, Bool, true, false, List, [], ◌∷◌, Option, Some, None, refl, ap, ◌∙◌, if◌then◌else◌}
use Rattle.lua_ast.specs.declared.expressions.Expr.{Expr}
use Rattle.lua_values.specs.declared.values.Value.{Value}
use Rattle.lua_values.specs.declared.values.Value.TheVariants.{Nil, Truth, Number, Text, Table, Closure, Native, Thread, Null, Object}
use Rattle.lua_values.specs.declared.faults.StoreFault.{StoreFault}
use Rattle.lua_values.specs.Heap.{Heap}
use Rattle.lua_values.specs.Values.{is_nil}
use Rattle.lua_values.specs.StoreCalls.{set_cause, with_pair}
use Rattle.lua_operators.specs.declared.events.Event.TheVariants.{Index, NewIndex}
use Rattle.lua_operators.specs.declared.faults.OperandFault.TheVariants as operand
use Rattle.lua_operators.specs.Types.{type_of}
use Rattle.lua_meaning.specs.Works.{Caller, Places, Slots, AValue, ACall, AnIndex, AStore, Values, Return, Break, Failed, Work, End, Eval, Write, and_then}
use Rattle.lua_meaning.specs.Evaluator.{State, Ending, Ended, Parked, Spent, Evaluator, after, do_work}
use Rattle.lua_meaning.specs.Laws.{WorksInOrder}
use Rattle.lua_meaning.specs.Setting.{Setting}
use Rattle.lua_meaning.specs.Positions.{callers_at, raise_operand}
use Rattle.lua_meaning.specs.Signs.{first, give, give_one, on_values, values_of}
use Rattle.lua_meaning.specs.Variables.{table_fault, unless_refused}
use Rattle.lua_meaning.specs.Metatables.{handler, is_function}
use Rattle.lua_meaning.specs.Indexing.{raw_value, is_table, index_by, index_without, index_work, set_raw, store_by, store_work}
use Rattle.lua_meaning.specs.Calls.{calling, call_end, call_for_one}
use Rattle.lua_meaning.specs.Nodes.{eval}
use Rattle.lua_meaning.specs.DirectEquations.{with_values, eval_list}
use Rattle.lua_meaning.specs.EndingLaws.{values_then, after_same}
use Rattle.lua_meaning_laws.specs.Parts.{gives, gives_one, call_one, with_heap, written, index_else, index_in, set_raw_in, store_in}

-- a call that was done goes on as its end says
pub call_then : (x : Ending) (s : Slots) (ev : Evaluator) (f : List Value → Slots → Work) (go : List Value → Slots → State → Ending)
    → ((vs : List Value) (s' : Slots) (w : State) → do_work ev (f vs s') w ≡ go vs s' w)
    → after x (λ sign s' w. do_work ev (on_values f (call_end sign) s) w) ≡ with_values (after x (λ sign s' w. Ended (call_end sign) s w)) go
call_then (Ended (Values vs) s' w) s ev f go e = e vs s w
call_then (Ended (Return vs) s' w) s ev f go e = e vs s w
call_then (Ended Break s' w) s ev f go e = e [] s w
call_then (Ended (Failed v) s' w) s ev f go e = refl
call_then (Parked number args position store) s ev f go e = refl
call_then Spent s ev f go e = refl

module _ (S : Setting) where
  -- ---- works
  pub work_if : (b : Bool) (q r : Work) (w : State) (o o' : Ending) → do_work (eval S) q w ≡ o → do_work (eval S) r w ≡ o' → do_work (eval S) (if b then q else r) w ≡ (if b then o else o')
  work_if true q r w o o' e f = e
  work_if false q r w o o' e f = f

  -- one value of an expression
  pub one : (x : Expr) (p : Places) (s : Slots) (w : State) (f : List Value → Slots → Work) (go : List Value → Slots → State → Ending)
      → ((vs : List Value) (s' : Slots) (w' : State) → do_work (eval S) (f vs s') w' ≡ go vs s' w')
      → do_work (eval S) (Eval (AValue x) p s (on_values f)) w ≡ with_values (eval S (AValue x) p s w) go
  one x p s w f go e = values_then (eval S) (eval S (AValue x) p s w) f go e

  pub work_then : WorksInOrder → (q : Work) (f : List Value → Slots → Work) (go : List Value → Slots → State → Ending) (w : State) (o : Ending) → do_work (eval S) q w ≡ o
      → ((vs : List Value) (s' : Slots) (w' : State) → do_work (eval S) (f vs s') w' ≡ go vs s' w') → do_work (eval S) (and_then q (on_values f)) w ≡ with_values o go
  work_then in_order q f go w o is e =
      in_order (eval S) q (on_values f) w ∙ ap (λ (x : Ending). after x (λ sign s' w'. do_work (eval S) (on_values f sign s') w')) is ∙ values_then (eval S) o f go e

  -- a list of expressions before other work
  pub list_then : WorksInOrder → (xs : List Expr) (f : List Value → Slots → Work) (go : List Value → Slots → State → Ending) (p : Places) (s : Slots) (w : State)
      → ((vs : List Value) (s1 : Slots) (w1 : State) → do_work (eval S) (f vs s1) w1 ≡ go vs s1 w1)
      → do_work (eval S) (and_then (values_of xs p s) (on_values f)) w ≡ with_values (eval_list S xs p s w) go
  list_then in_order xs f go p s w e = work_then in_order (values_of xs p s) f go w (eval_list S xs p s w) refl e

  pub written_then : (callers : List Caller) (cause : Option StoreFault) (h : Heap) (s : Slots) (w : State) (q : Work) (go : State → Ending) → ((w' : State) → do_work (eval S) q w' ≡ go w')
      → do_work (eval S) (unless_refused S callers table_fault cause s (Write h q)) w ≡ written S callers cause h s w go
  written_then callers None h s w q go e = e (with_heap w h)
  written_then callers (Some cause) h s w q go e = refl

  -- ---- `v[key]` and `v[key] = x`
  index_by_then : (by : Value) (line : ℕ) (v key : Value) (p : Places) (s : Slots) (w : State) → do_work (eval S) (index_by by line v key p s) w
      ≡ (if is_function by then call_one S (callers_at p line) by (v ∷ key ∷ []) s w gives_one else eval S (AnIndex line by key) p s w)
  index_by_then by line v key p s w =
      work_if (is_function by) (call_for_one (callers_at p line) by (v ∷ key ∷ []) s give_one) (Eval (AnIndex line by key) p s (λ sign s'. End sign s')) w _ _
      (call_then (eval S (ACall by (v ∷ key ∷ [])) (calling (callers_at p line) false) [] w) s (eval S) (λ vs s'. give_one (first vs) s') _ (λ vs s' w'. refl))
      (after_same (eval S (AnIndex line by key) p s w))

  index_without_then : (by : Value) (line : ℕ) (v key : Value) (p : Places) (s : Slots) (w : State) → do_work (eval S) (index_without S by line v key p s) w ≡ index_else S line by v key p s w
  index_without_then by line v key p s w =
      work_if (is_nil by) (if is_table v then give_one Nil s else raise_operand S (callers_at p line) (operand.Index (type_of v)) s) (index_by by line v key p s) w _ _
      (work_if (is_table v) (give_one Nil s) (raise_operand S (callers_at p line) (operand.Index (type_of v)) s) w _ _ refl refl) (index_by_then by line v key p s w)

  pub index_then : (line : ℕ) (v key : Value) (p : Places) (s : Slots) (w : State) → do_work (eval S) (index_work S line v key p s) w ≡ index_in S line v key p s w
  index_then line v key p s w =
      work_if (is_nil (raw_value w.store.heap v key)) (index_without S (handler w.store.heap v Index) line v key p s) (give_one (raw_value w.store.heap v key) s) w _ _
      (index_without_then (handler w.store.heap v Index) line v key p s w) refl

  set_raw_then : (line : ℕ) (v key x : Value) (p : Places) (s : Slots) (w : State) → do_work (eval S) (set_raw S line v key x p s) w ≡ set_raw_in S line v key x p s w
  set_raw_then line (Table t) key x p s w =
      written_then (callers_at p line) (set_cause w.store.heap t key x) (with_pair w.store.heap t key x) s w (give [] s) (λ w'. gives [] s w') (λ w'. refl)
  set_raw_then line Nil key x p s w = refl
  set_raw_then line (Truth b) key x p s w = refl
  set_raw_then line (Number n) key x p s w = refl
  set_raw_then line (Text t) key x p s w = refl
  set_raw_then line (Closure n) key x p s w = refl
  set_raw_then line (Native n) key x p s w = refl
  set_raw_then line (Thread n) key x p s w = refl
  set_raw_then line Null key x p s w = refl
  set_raw_then line (Object o n) key x p s w = refl

  store_by_then : (by : Value) (line : ℕ) (v key x : Value) (p : Places) (s : Slots) (w : State) → do_work (eval S) (store_by by line v key x p s) w
      ≡ (if is_function by then call_one S (callers_at p line) by (v ∷ key ∷ x ∷ []) s w (λ dropped s' w'. gives [] s' w') else eval S (AStore line by key x) p s w)
  store_by_then by line v key x p s w =
      work_if (is_function by) (call_for_one (callers_at p line) by (v ∷ key ∷ x ∷ []) s (λ dropped s'. give [] s')) (Eval (AStore line by key x) p s (λ sign s'. End sign s')) w _ _
      (call_then (eval S (ACall by (v ∷ key ∷ x ∷ [])) (calling (callers_at p line) false) [] w) s (eval S) (λ vs s'. give [] s') _ (λ vs s' w'. refl))
      (after_same (eval S (AStore line by key x) p s w))

  pub store_then : (line : ℕ) (v key x : Value) (p : Places) (s : Slots) (w : State) → do_work (eval S) (store_work S line v key x p s) w ≡ store_in S line v key x p s w
  store_then line v key x p s w =
      let by : Value = handler w.store.heap v NewIndex in
      work_if (is_nil (raw_value w.store.heap v key)) (if is_nil by then set_raw S line v key x p s else store_by by line v key x p s) (set_raw S line v key x p s) w _ _
      (work_if (is_nil by) (set_raw S line v key x p s) (store_by by line v key x p s) w _ _ (set_raw_then line v key x p s w) (store_by_then by line v key x p s w))
      (set_raw_then line v key x p s w)
