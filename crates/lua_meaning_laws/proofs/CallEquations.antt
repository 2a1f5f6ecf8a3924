-- What a call comes to of what is no closure, and what an index or an assignment leads on to.
use Rattle.std.proofs.Common.{◌≡◌, ℕ, ◌+◌, ◌-◌, ◌/◌, ◌<◌, ◌≤◌, nat_lt, nat_eq, Bool, true, false, List, [], ◌∷◌, length, drop, ℤ, pos, negsuc, Option, Some, None, refl, ap, ◌∙◌, arith, slice_get, codes, if◌then◌else◌}
use borrow.Author.Tests.{lt-ltb, le-ltb, ne_eqb}
use Rattle.lua_ast.specs.declared.programs.Function.{Function}
use Rattle.lua_values.specs.declared.values.Value.{Value}
use Rattle.lua_values.specs.declared.values.Value.TheVariants.{Nil, Truth, Number, Text, Table, Closure, Native, Thread, Null, Object}
use Rattle.lua_values.specs.Values.{is_nil}
use Rattle.lua_values.specs.Heap.{Heap, StoreView, ClosureView, step_limit}
use Rattle.lua_values.specs.StoreCalls.{is_full}
use Rattle.lua_values.specs.NativeCalls.{NativeResult, Gives, Faults, Leaves}
use Rattle.lua_operators.specs.declared.events.Event.TheVariants.{Call, ToString}
use Rattle.lua_operators.specs.declared.faults.Fault.TheVariants.{StackOverflow, StorageLimit}
use Rattle.lua_operators.specs.declared.faults.OperandFault.TheVariants as operand
use Rattle.lua_operators.specs.Conversions.{number_of, text_of}
use Rattle.lua_operators.specs.Types.{type_of, is_truthy}
use Rattle.lua_meaning.specs.declared.positions.Position.{Position}
use Rattle.lua_meaning.specs.declared.resumes.Resumed.{Resumed}
use Rattle.lua_meaning.specs.declared.resumes.Resumed.TheVariants as resumed
use Rattle.lua_meaning.specs.Works.{Caller, Places, Slots, ACall, AnIndex, AStore, Sign, Values, Return, Break, Failed, Work, End, Eval, Look, Write, Count, and_then}
use Rattle.lua_meaning.specs.Evaluator.{Resume, State, Ending, Ended, Parked, Spent, after, answered, counted, do_work}
use Rattle.lua_meaning.specs.Laws.{EvaluatorEvaluates}
use Rattle.lua_meaning.specs.Setting.{Setting}
use Rattle.lua_meaning.specs.Positions.{position_of, raise, raise_fault, raise_operand}
use Rattle.lua_meaning.specs.Signs.{first, give, give_one}
use Rattle.lua_meaning.specs.Concatenation.{with_text}
use Rattle.lua_meaning.specs.Metatables.{handler}
use Rattle.lua_meaning.specs.Blocks.{block}
use Rattle.lua_meaning.specs.Calls.{calling, call_end, call_for_one, call_closure, run, around_callee, inside, slots_from, function_end, most_callers}
use Rattle.lua_meaning.specs.ProtectedCalls.{protected_by, handled_fault}
use Rattle.lua_meaning.specs.Natives.{texts_length, raise_value, raise_at, assert_work, make_text_of, tostring_work, answer_of, result_work, library_work, native_work}
use Rattle.lua_meaning.specs.Nodes.{call_by, callee_work, work_of, eval}
use Rattle.lua_meaning.specs.EndingLaws.{after_same, counted_then, counted_there}
use Rattle.lua_meaning_laws.specs.Parts.{gives, gives_one, faults, with_heap}
use Rattle.lua_meaning_laws.specs.Calls.{is_callable, call_by_in, protected_in, raised, error_value, assert_in, text_in, tostring_in, answer_in, result_in, CallsAre, EachCallIs}
use Rattle.lua_meaning_laws.proofs.FollowingEquations.{call_then, work_if, index_then, store_then}

module _ (S : Setting) where
  -- ---- by a handler
  by_then : (by f : Value) (args : List Value) (q : Places) (s : Slots) (w : State) → do_work (eval S) (call_by S by f args q s) w ≡ call_by_in S by f args q s w
  by_then by f args q s w =
      work_if S (is_nil by) (raise_operand S q.around (operand.Call (type_of f)) s) (Eval (ACall by (f ∷ args)) q s (λ sign s'. End sign s')) w _ _ refl
      (after_same (eval S (ACall by (f ∷ args)) q s w))

  callee_then : (f : Value) (args : List Value) (q : Places) (s : Slots) (w : State) → is_callable f ≡ false
      → do_work (eval S) (callee_work S f args q s) w ≡ call_by_in S (handler w.store.heap f Call) f args q s w
  callee_then (Closure c) args q s w h = absurd (cc)
  callee_then (Native n) args q s w h = absurd (cc)
  callee_then Nil args q s w h = by_then (handler w.store.heap Nil Call) Nil args q s w
  callee_then (Truth b) args q s w h = by_then (handler w.store.heap (Truth b) Call) (Truth b) args q s w
  callee_then (Number n) args q s w h = by_then (handler w.store.heap (Number n) Call) (Number n) args q s w
  callee_then (Text t) args q s w h = by_then (handler w.store.heap (Text t) Call) (Text t) args q s w
  callee_then (Table t) args q s w h = by_then (handler w.store.heap (Table t) Call) (Table t) args q s w
  callee_then (Thread n) args q s w h = by_then (handler w.store.heap (Thread n) Call) (Thread n) args q s w
  callee_then Null args q s w h = by_then (handler w.store.heap Null Call) Null args q s w
  callee_then (Object o n) args q s w h = by_then (handler w.store.heap (Object o n) Call) (Object o n) args q s w

  -- ---- too many callers
  overflows : (c : ℕ) (closure : ClosureView) (f : Function) (args : List Value) (q : Places) (s : Slots) (w : State)
      → slice_get w.store.heap.closures c ≡ Some closure → slice_get S.program.functions.items closure.function ≡ Some f → most_callers ≤ length (around_callee q)
      → do_work (eval S) (callee_work S (Closure c) args q s) w ≡ faults S q.around StackOverflow s w
  overflows c closure f args q s w there function many =
      ap (λ (o : Option ClosureView). do_work (eval S) (call_closure S o args q s) w) there
      ∙ ap (λ (o : Option Function). do_work (eval S) (run S closure.function o closure.cells args q s) w) function
      ∙ ap (λ (t : Bool). do_work (eval S) (if t then and_then (block f.body.value.items (inside closure.function f closure.cells args (around_callee q)) (slots_from f.slots 0 f.params args)) (λ sign s'. End (function_end sign) s) else raise_fault S q.around StackOverflow s) w)
      (le-ltb (length (around_callee q)) most_callers many)

  -- ---- `xpcall`
  end_then : (sign : Sign) (s : Slots) (x : Ending) → after x (λ sign s' w'. Ended (Values (handled_fault (call_end sign))) s w')
      ≡ after (after x (λ sign s' w'. Ended (call_end sign) s w')) (λ sign s' w'. gives (handled_fault sign) s' w')
  end_then sign s (Ended sign' s' w') = refl
  end_then sign s (Parked number args position store) = refl
  end_then sign s Spent = refl

  handled_then : (by : Value) (callers : List Caller) (s : Slots) (sign : Sign) (w : State) → do_work (eval S) (protected_by by callers s sign) w ≡ protected_in S by callers s sign w
  handled_then by callers s (Failed v) w = end_then (Failed v) s (eval S (ACall by (v ∷ [])) (calling callers false) [] w)
  handled_then by callers s (Values vs) w = refl
  handled_then by callers s (Return vs) w = refl
  handled_then by callers s Break w = refl

  protected_then : (by : Value) (callers : List Caller) (s : Slots) (x : Ending) → after x (λ sign s' w'. do_work (eval S) (protected_by by callers s (call_end sign)) w')
      ≡ after (after x (λ sign s' w'. Ended (call_end sign) s w')) (λ sign s' w'. protected_in S by callers s sign w')
  protected_then by callers s (Ended sign s' w') = handled_then by callers s (call_end sign) w'
  protected_then by callers s (Parked number args position store) = refl
  protected_then by callers s Spent = refl

  -- ---- functions of the setting
  raised_then : (callers : List Caller) (v : Value) (s : Slots) (w : State) → do_work (eval S) (raise_value S callers v s) w ≡ Ended (Failed (raised S callers v)) s w
  raised_then callers (Text t) s w = refl
  raised_then callers Nil s w = refl
  raised_then callers (Truth b) s w = refl
  raised_then callers (Number n) s w = refl
  raised_then callers (Table t) s w = refl
  raised_then callers (Closure n) s w = refl
  raised_then callers (Native n) s w = refl
  raised_then callers (Thread n) s w = refl
  raised_then callers Null s w = refl
  raised_then callers (Object o n) s w = refl

  -- ---- `error`, `assert` and `tostring`
  error_then : (callers : List Caller) (level : Option ℤ) (given v : Value) (s : Slots) (w : State)
      → do_work (eval S) (raise_at S callers level given v s) w ≡ Ended (Failed (error_value S callers level given v)) s w
  error_then callers (Some (pos n)) given v s w = by (nat_eq n 0)
    where
      by : (b : Bool) → do_work (eval S) (if b then End (Failed v) s else raise_value S (drop (n - 1) callers) v s) w ≡ Ended (Failed (if b then v else raised S (drop (n - 1) callers) v)) s w
      by true = refl
      by false = raised_then (drop (n - 1) callers) v s w
  error_then callers (Some (negsuc n)) given v s w = refl
  error_then callers None given v s w = refl

  assert_then : (v : Value) (more : List Value) (callers : List Caller) (s : Slots) (w : State) → do_work (eval S) (assert_work S (v ∷ more) callers s) w ≡ assert_in S v more callers s w
  assert_then v more callers s w =
      work_if S (is_truthy v) (give (v ∷ more) s) (if is_nil (first more) then raise S callers (codes "assertion failed!") s else raise_value S callers (first more) s) w _ _ refl
      (work_if S (is_nil (first more)) (raise S callers (codes "assertion failed!") s) (raise_value S callers (first more) s) w _ _ refl (raised_then callers (first more) s w))

  made_then : (callers : List Caller) (taken : ℕ) (v : Value) (s : Slots) (w : State)
      → do_work (eval S) (if is_full w.store.heap (length (text_of v) + 16) then Count (taken / 64) (raise_fault S callers StorageLimit s)
      else Count ((taken + length (text_of v)) / 64) (Write (with_text w.store.heap (length (text_of v))) (give_one (Text (text_of v)) s))) w
      ≡ (if is_full w.store.heap (length (text_of v) + 16) then counted (taken / 64) w (λ w2. faults S callers StorageLimit s w2)
      else counted ((taken + length (text_of v)) / 64) w (λ w2. gives_one (Text (text_of v)) s (with_heap w2 (with_text w.store.heap (length (text_of v))))))
  made_then callers taken v s w =
      work_if S (is_full w.store.heap (length (text_of v) + 16)) (Count (taken / 64) (raise_fault S callers StorageLimit s))
      (Count ((taken + length (text_of v)) / 64) (Write (with_text w.store.heap (length (text_of v))) (give_one (Text (text_of v)) s))) w _ _ refl refl

  text_then : (callers : List Caller) (taken : ℕ) (v : Value) (s : Slots) (w : State) → do_work (eval S) (make_text_of S callers taken w.store.heap v s) w ≡ text_in S callers taken v s w
  text_then callers taken (Text t) s w = refl
  text_then callers taken Nil s w = made_then callers taken Nil s w
  text_then callers taken (Truth b) s w = made_then callers taken (Truth b) s w
  text_then callers taken (Number n) s w = made_then callers taken (Number n) s w
  text_then callers taken (Table t) s w = made_then callers taken (Table t) s w
  text_then callers taken (Closure n) s w = made_then callers taken (Closure n) s w
  text_then callers taken (Native n) s w = made_then callers taken (Native n) s w
  text_then callers taken (Thread n) s w = made_then callers taken (Thread n) s w
  text_then callers taken Null s w = made_then callers taken Null s w
  text_then callers taken (Object o n) s w = made_then callers taken (Object o n) s w

  tostring_then : (v : Value) (more : List Value) (callers : List Caller) (s : Slots) (w : State)
      → do_work (eval S) (tostring_work S (v ∷ more) callers s) w ≡ tostring_in S (handler w.store.heap v ToString) v more callers s w
  tostring_then v more callers s w =
      let by : Value = handler w.store.heap v ToString in
      let taken : ℕ = texts_length (v ∷ more) in
      work_if S (is_nil by) (make_text_of S callers taken w.store.heap v s) (Count (taken / 64) (call_for_one callers by (v ∷ []) s give_one)) w _ _ (text_then callers taken v s w)
      (counted_then (taken / 64) w _ _ (λ w2. call_then (eval S (ACall by (v ∷ [])) (calling callers false) [] w2) s (eval S) (λ vs s'. give_one (first vs) s') _ (λ vs s' w'. refl)))

  answer_then : (callers : List Caller) (answer : Resumed) (s : Slots) (w : State) → do_work (eval S) (answer_of S callers s answer) w ≡ answer_in S callers answer s w
  answer_then callers (resumed.Values vs) s w = refl
  answer_then callers (resumed.Raise text) s w = refl

  answered_then : (number : ℕ) (args : List Value) (position : Option Position) (store : StoreView) (resumes : List Resume) (f g : Resumed → State → Ending)
      → ((answer : Resumed) (w : State) → f answer w ≡ g answer w) → answered number args position store resumes f ≡ answered number args position store resumes g
  answered_then number args position store [] f g each = refl
  answered_then number args position store (r ∷ resumes) f g each = along (nat_lt r.store.steps step_limit)
    where
      along : (t : Bool) → (if t then f r.answer (record { store = r.store; resumes = resumes }) else Spent) ≡ (if t then g r.answer (record { store = r.store; resumes = resumes }) else Spent)
      along true = each r.answer _
      along false = refl

  result_then : (number : ℕ) (args : List Value) (callers : List Caller) (r : NativeResult) (s : Slots) (w : State)
      → do_work (eval S) (result_work S number args callers r s) w ≡ result_in S number args callers r s w
  result_then number args callers (Gives vs h n) s w = refl
  result_then number args callers (Faults v h n) s w = counted_then n _ _ _ (λ w2. raised_then callers v s w2)
  result_then number args callers (Leaves n) s w =
      counted_then n w _ _ (λ w2. answered_then number args (position_of S callers) w2.store w2.resumes _ _ (λ answer w3. answer_then callers answer s w3))

  library_then : (n : ℕ) (args : List Value) (callers : List Caller) (s : Slots) (w : State) → 5 ≤ n → n - 5 < S.count
      → do_work (eval S) (native_work S n args callers s) w ≡ result_in S (n - 5) args callers (S.lib (n - 5) args w.store.heap) s w
  library_then n args callers s w five less =
      let t0 : nat_eq n 0 ≡ false = ne_eqb n 0 (omega (arith, five)) in
      let t1 : nat_eq n 1 ≡ false = ne_eqb n 1 (omega (arith, five)) in
      let t2 : nat_eq n 2 ≡ false = ne_eqb n 2 (omega (arith, five)) in
      let t3 : nat_eq n 3 ≡ false = ne_eqb n 3 (omega (arith, five)) in
      let t4 : nat_eq n 4 ≡ false = ne_eqb n 4 (omega (arith, five)) in
      let own : native_work S n args callers s ≡ library_work S (n - 5) args callers s = rw (t0, t1, t2, t3, t4) refl in
      ap (λ (q : Work). do_work (eval S) q w) own
      ∙ ap (λ (t : Bool). do_work (eval S) (if t then Look (λ h. result_work S (n - 5) args callers (S.lib (n - 5) args h) s) else raise_operand S callers (operand.Call (type_of Nil)) s) w)
      (lt-ltb (n - 5) S.count less)
      ∙ result_then (n - 5) args callers (S.lib (n - 5) args w.store.heap) s w

  -- ---- all
  pub calls : EvaluatorEvaluates → CallsAre S
  calls evaluates = record {
    overflow = λ c closure f args q s w there function many.
        evaluates (work_of S) (ACall (Closure c) args) q s w
        ∙ counted_there 1 w (λ w1. do_work (eval S) (callee_work S (Closure c) args q s) w1) (λ w1. faults S q.around StackOverflow s w1)
        (λ w1 same. overflows c closure f args q s w1 (ap (λ (h : Heap). slice_get h.closures c) same ∙ there) function many);
    by_handler = λ f args q s w h. evaluates (work_of S) (ACall f args) q s w ∙ counted_then 1 w _ _ (λ w1. callee_then f args q s w1 h);
    xpcall = λ f by args q s w.
        evaluates (work_of S) (ACall (Native 1) (f ∷ by ∷ args)) q s w
        ∙ counted_then 1 w _ _ (λ w1. counted_then (texts_length (f ∷ by ∷ args) / 64) w1 _ _ (λ w2. protected_then by q.around s (eval S (ACall f []) (calling q.around false) [] w2)));
    error = λ args q s w.
        evaluates (work_of S) (ACall (Native 2) args) q s w
        ∙ counted_then 1 w _ _ (λ w1. counted_then (texts_length args / 64) w1 _ _ (λ w2.
        error_then q.around (if is_nil (first (drop 1 args)) then Some (pos 1) else number_of (first (drop 1 args))) (first (drop 1 args)) (first args) s w2));
    assert = λ v more q s w.
        evaluates (work_of S) (ACall (Native 3) (v ∷ more)) q s w
        ∙ counted_then 1 w _ _ (λ w1. counted_then (texts_length (v ∷ more) / 64) w1 _ _ (λ w2. assert_then v more q.around s w2));
    tostring = λ v more q s w.
        evaluates (work_of S) (ACall (Native 4) (v ∷ more)) q s w ∙ counted_then 1 w _ _ (λ w1. tostring_then v more q.around s w1);
    of_host = λ n args q s w five less.
        evaluates (work_of S) (ACall (Native n) args) q s w ∙ counted_then 1 w _ _ (λ w1. library_then n args q.around s w1 five less);
    index = λ line v key p s w. evaluates (work_of S) (AnIndex line v key) p s w ∙ counted_then 1 w _ _ (λ w1. index_then S line v key p s w1);
    store = λ line v key x p s w. evaluates (work_of S) (AStore line v key x) p s w ∙ counted_then 1 w _ _ (λ w1. store_then S line v key x p s w1);
  }

pub each_call : EvaluatorEvaluates → EachCallIs
each_call evaluates = record { all = λ S. calls S evaluates }
