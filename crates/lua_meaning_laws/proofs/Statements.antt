-- Statements keep to what is known.
use Rattle.std.proofs.Common.{ℕ, ℤ, pos, false, List, [], ◌∷◌, ◌++◌, drop, reverse, Option, None, Some, Result, Ok, Err, IfSome, slice_get, slice_set, All, Global, sym, subst, if◌then◌else◌}
use Rattle.std.specs.Ordering.{int_eq}
use Rattle.std.specs.declared.rc.Rc.{Rc}
use Rattle.std.proofs.lemmas.List.{reverse-append}
use Rattle.std.proofs.lemmas.List.Elements.{All-nil, All-cons, All-head, All-tail, All-append, All-push, All-drop}
use Rattle.lua_ast.specs.declared.expressions.Expr.{Expr}
use Rattle.lua_ast.specs.declared.expressions.ExprKind.{ExprKind, out-ExprKind}
use Rattle.lua_ast.specs.declared.expressions.ExprKind.TheOpen.{ExprKind-F}
use Rattle.lua_ast.specs.declared.expressions.ExprKind.TheOpen as e
use Rattle.lua_ast.specs.declared.expressions.TableItem.{TableItem}
use Rattle.lua_ast.specs.declared.statements.Stmt.{Stmt}
use Rattle.lua_ast.specs.declared.statements.Arm.{Arm, out-Arm}
use Rattle.lua_ast.specs.declared.statements.StmtKind.{StmtKind}
use Rattle.lua_ast.specs.declared.statements.StmtKind.TheOpen.{StmtKind-F}
use Rattle.lua_ast.specs.declared.statements.StmtKind.TheOpen as t
use Rattle.lua_numbers.specs.declared.faults.NumFault.{NumFault}
use Rattle.lua_values.specs.declared.values.Value.{Value}
use Rattle.lua_values.specs.declared.values.Value.TheVariants as v
use Rattle.lua_values.specs.Values.{is_nil}
use Rattle.lua_values.specs.Heap.{Heap}
use Rattle.lua_operators.specs.declared.arithmetic.ArithmeticOperator.TheVariants.{Add}
use Rattle.lua_operators.specs.declared.faults.Fault.{Fault}
use Rattle.lua_operators.specs.declared.faults.Fault.TheVariants.{ForInitial, ForLimit, ForStep, ForStepZero}
use Rattle.lua_operators.specs.ArithmeticOperators.{result_of}
use Rattle.lua_operators.specs.Conversions.{number_of}
use Rattle.lua_operators.specs.Types.{is_truthy}
use Rattle.lua_meaning.specs.declared.slots.Slot.TheVariants.{Plain}
use Rattle.lua_meaning.specs.Works.{Caller, Places, Slots, AnExpr, ATurn, ARepeat, AFor, AnIter, Sign, Values, Return, Break, Failed, Work, End, and_then}
use Rattle.lua_meaning.specs.Setting.{Setting}
use Rattle.lua_meaning.specs.Positions.{callers_at, raise_fault}
use Rattle.lua_meaning.specs.Signs.{first, give, on_values, value, values_of}
use Rattle.lua_meaning.specs.Variables.{with_locals, write_slot}
use Rattle.lua_meaning.specs.Indexing.{index_work}
use Rattle.lua_meaning.specs.Blocks.{block}
use Rattle.lua_meaning.specs.Calls.{calling, tail_call}
use Rattle.lua_meaning.specs.Assignments.{Target, InSlot, InCapture, AtKey, Nowhere, target_of, targets_of, assigned, assign_to, assign_all, assignment_work}
use Rattle.lua_meaning.specs.Loops.{again, after_body, while_work, turn_work, repeat_work, is_within, for_from, for_next, for_turn, bound, for_work, iterate, iter_turn}
use Rattle.lua_meaning.specs.Statements.{local_function, if_work, step_of, tail_work, return_one, return_work, stmt_work}
use Rattle.lua_meaning_laws.specs.Standing.{Stands, Known, StandsAfter}
use Rattle.lua_meaning_laws.proofs.Known.{Given, SlotsKnown, SignKnown, PlacesKnown, ExprIn, StmtIn, HasFunction, WorkKnown, ValueGo, same_heap, later_heap, value_later, values_later, slots_later, places_later}
use Rattle.lua_meaning_laws.proofs.Parts.{ArmIn, ExprParts, StmtParts, expr_parts}
use Rattle.lua_meaning_laws.proofs.Readings.{either, first_known}
use Rattle.lua_meaning_laws.proofs.Going.{on_known, eval_known, ends_known, value_known, then_known, then_values, with_values_known, calling_known, call_at_known, tail_call_known}
use Rattle.lua_meaning_laws.proofs.Indexing.{two_of, index_known, store_known}
use Rattle.lua_meaning_laws.proofs.Closures.{set_slot_known, write_cell_known, write_slot_known, locals_known, closure_known, block_known}

-- the parts of an expression of the program
pub parts_of : (S : Setting) (x : Expr) → ExprIn S x → ExprParts S (out-ExprKind x.kind)
parts_of S x w = expr_parts S w.0 x.kind w.1

abbrev pub TargetKnown : Setting → Heap → Target → Type 0
TargetKnown S h (InSlot line i) = Unit {0}
TargetKnown S h (InCapture line i) = Unit {0}
TargetKnown S h (AtKey line object key) = Known S h object × Known S h key
TargetKnown S h Nowhere = Unit {0}

abbrev AssignmentKnown : Setting → Heap → Target × Value → Type 0
AssignmentKnown S h a = TargetKnown S h a.0 × Known S h a.1

all_reversed : {X : Type 0} (P : X → Type 0) (xs : List X) → All P xs → All P (reverse xs)
all_reversed P [] k = All-nil P
all_reversed P (x ∷ xs) k =
    subst (All P) (sym (reverse-append (x ∷ []) xs)) (All-append P (reverse xs) (x ∷ []) (all_reversed P xs (All-tail P x xs k)) (All-cons P x [] (All-head P x xs k) (All-nil P)))

module _ (S : Setting) (G : Given S) where
  -- ---- assignments
  target_later : (h g : Heap) (target : Target) → StandsAfter S h g → TargetKnown S h target → TargetKnown S g target
  target_later h g (InSlot line i) l k = tt
  target_later h g (InCapture line i) l k = tt
  target_later h g (AtKey line object key) l k = (value_later S G h g object l k.0, value_later S G h g key l k.1)
  target_later h g Nowhere l k = tt

  all_later : {X : Type 0} (P Q : X → Type 0) → ((x : X) → P x → Q x) → (xs : List X) → All P xs → All Q xs
  all_later P Q each [] k = All-nil Q
  all_later P Q each (x ∷ xs) k = All-cons Q x xs (each x (All-head P x xs k)) (all_later P Q each xs (All-tail P x xs k))

  targets_later : (h g : Heap) (ts : List Target) → StandsAfter S h g → All (TargetKnown S h) ts → All (TargetKnown S g) ts
  targets_later h g ts l k = all_later (TargetKnown S h) (TargetKnown S g) (λ target. target_later h g target l) ts k

  target_known : (h : Heap) (line : ℕ) (o : ExprKind-F ExprKind TableItem Expr) (p : Places) (s : Slots) (go : Target → Slots → Work) → ExprParts S o → Stands S h → PlacesKnown S h p → SlotsKnown S h s
      → ((g : Heap) (target : Target) (s' : Slots) → StandsAfter S h g → TargetKnown S g target → SlotsKnown S g s' → WorkKnown S g (go target s')) → WorkKnown S h (target_of line o p s go)
  target_known h line (e.Slot i) p s go w st pk sk each = each h (InSlot line i) s (same_heap S G h st) tt sk
  target_known h line (e.Captured i) p s go w st pk sk each = each h (InCapture line i) s (same_heap S G h st) tt sk
  target_known h line (e.Global name) p s go w st pk sk each = each h (AtKey line (v.Table h.globals) (v.Text name)) s (same_heap S G h st) ((st.fits.globals, tt), (tt, tt)) sk
  target_known h line (e.Index a b) p s go w st pk sk each =
      value_known S G h a.value p s (λ x s'. value b.value p s' (λ key s''. go (AtKey line x key) s'')) w.0 pk sk (λ g x s' l xk sk'.
      value_known S G g b.value p s' (λ key s''. go (AtKey line x key) s'') w.1 (places_later S G h g p l pk) sk' (λ g' key s'' l' kk sk''.
      each g' (AtKey line x key) s'' (later_heap S G h g g' l l') (value_later S G g g' x l' xk, kk) sk''))
  target_known h line e.Nil p s go w st pk sk each = each h Nowhere s (same_heap S G h st) tt sk
  target_known h line e.True p s go w st pk sk each = each h Nowhere s (same_heap S G h st) tt sk
  target_known h line e.False p s go w st pk sk each = each h Nowhere s (same_heap S G h st) tt sk
  target_known h line (e.Number n) p s go w st pk sk each = each h Nowhere s (same_heap S G h st) tt sk
  target_known h line (e.Text text) p s go w st pk sk each = each h Nowhere s (same_heap S G h st) tt sk
  target_known h line e.Vararg p s go w st pk sk each = each h Nowhere s (same_heap S G h st) tt sk
  target_known h line (e.Function n) p s go w st pk sk each = each h Nowhere s (same_heap S G h st) tt sk
  target_known h line (e.Call f args) p s go w st pk sk each = each h Nowhere s (same_heap S G h st) tt sk
  target_known h line (e.Method a name args) p s go w st pk sk each = each h Nowhere s (same_heap S G h st) tt sk
  target_known h line (e.Unary o a) p s go w st pk sk each = each h Nowhere s (same_heap S G h st) tt sk
  target_known h line (e.Binary o a b) p s go w st pk sk each = each h Nowhere s (same_heap S G h st) tt sk
  target_known h line (e.And a b) p s go w st pk sk each = each h Nowhere s (same_heap S G h st) tt sk
  target_known h line (e.Or a b) p s go w st pk sk each = each h Nowhere s (same_heap S G h st) tt sk
  target_known h line (e.Paren a) p s go w st pk sk each = each h Nowhere s (same_heap S G h st) tt sk
  target_known h line (e.Table items) p s go w st pk sk each = each h Nowhere s (same_heap S G h st) tt sk

  targets_known : (h : Heap) (xs : List Expr) (p : Places) (done : List Target) (s : Slots) (go : List Target → Slots → Work) → All (ExprIn S) xs → Stands S h → PlacesKnown S h p
      → All (TargetKnown S h) done → SlotsKnown S h s
      → ((g : Heap) (ts : List Target) (s' : Slots) → StandsAfter S h g → All (TargetKnown S g) ts → SlotsKnown S g s' → WorkKnown S g (go ts s')) → WorkKnown S h (targets_of xs p done s go)
  targets_known h [] p done s go w st pk dk sk each = each h done s (same_heap S G h st) dk sk
  targets_known h (x ∷ xs) p done s go w st pk dk sk each =
      target_known h x.line (out-ExprKind x.kind) p s (λ target s'. targets_of xs p (done ++ target ∷ []) s' go) (parts_of S x (All-head (ExprIn S) x xs w)) st pk sk (λ g target s' l tk sk'.
      targets_known g xs p (done ++ target ∷ []) s' go (All-tail (ExprIn S) x xs w) l.stands (places_later S G h g p l pk) (All-push (TargetKnown S g) done target (targets_later h g done l dk) tk) sk'
      (λ g' ts s'' l'. each g' ts s'' (later_heap S G h g g' l l')))

  assigned_known : (h : Heap) (ts : List Target) (vs : List Value) → All (TargetKnown S h) ts → All (Known S h) vs → All (AssignmentKnown S h) (assigned ts vs)
  assigned_known h [] vs tk vk = All-nil (AssignmentKnown S h)
  assigned_known h (target ∷ ts) vs tk vk =
      All-cons (AssignmentKnown S h) (target, first vs) (assigned ts (drop 1 vs)) (All-head (TargetKnown S h) target ts tk, first_known S G h vs vk)
      (assigned_known h ts (drop 1 vs) (All-tail (TargetKnown S h) target ts tk) (All-drop (Known S h) 1 vs vk))

  assign_known : (h : Heap) (target : Target) (x : Value) (p : Places) (s : Slots) → Stands S h → TargetKnown S h target → Known S h x → PlacesKnown S h p → SlotsKnown S h s
      → WorkKnown S h (assign_to S target x p s)
  assign_known h (InSlot line i) x p s st tk xk pk sk = write_slot_known S G h (callers_at p line) (slice_get s i) i x s (give []) st xk sk (λ g s' l sk'. (All-nil (Known S g), sk'))
  assign_known h (InCapture line i) x p s st tk xk pk sk =
      write_cell_known S G h (callers_at p line) (slice_get p.cells i) x s (give [] s) st xk sk (λ g l. (All-nil (Known S g), slots_later S G h g s l sk))
  assign_known h (AtKey line object key) x p s st tk xk pk sk = store_known S G h line object key x p s st tk.0 tk.1 xk pk sk
  assign_known h Nowhere x p s st tk xk pk sk = (All-nil (Known S h), sk)

  assigns_known : (h : Heap) (xs : List (Target × Value)) (p : Places) (s : Slots) → Stands S h → All (AssignmentKnown S h) xs → PlacesKnown S h p → SlotsKnown S h s → WorkKnown S h (assign_all S xs p s)
  assigns_known h [] p s st ak pk sk = (All-nil (Known S h), sk)
  assigns_known h (a ∷ xs) p s st ak pk sk =
      let one : AssignmentKnown S h a = All-head (AssignmentKnown S h) a xs ak in
      then_values S G h (assign_to S a.0 a.1 p s) (λ vs s'. assign_all S xs p s') st (assign_known h a.0 a.1 p s st one.0 one.1 pk sk) (λ g vs s' l vk sk'.
      assigns_known g xs p s' l.stands
      (all_later (AssignmentKnown S h) (AssignmentKnown S g) (λ b k. (target_later h g b.0 l k.0, value_later S G h g b.1 l k.1)) xs (All-tail (AssignmentKnown S h) a xs ak)) (places_later S G h g p l pk) sk')

  assignment_known : (h : Heap) (targets xs : List Expr) (p : Places) (s : Slots) → All (ExprIn S) targets → All (ExprIn S) xs → Stands S h → PlacesKnown S h p → SlotsKnown S h s
      → WorkKnown S h (assignment_work S targets xs p s)
  assignment_known h targets xs p s tw xw st pk sk =
      targets_known h targets p [] s (λ ts s'. and_then (values_of xs p s') (on_values (λ vs s''. assign_all S (reverse (assigned ts vs)) p s''))) tw st pk (All-nil (TargetKnown S h)) sk (λ g ts s' l tk sk'.
      with_values_known S G g xs p s' (λ vs s''. assign_all S (reverse (assigned ts vs)) p s'') l.stands xw (places_later S G h g p l pk) sk' (λ g' vs s'' l' vk sk''.
      assigns_known g' (reverse (assigned ts vs)) p s'' l'.stands (all_reversed (AssignmentKnown S g') (assigned ts vs) (assigned_known g' ts vs (targets_later g g' ts l' tk) vk))
      (places_later S G h g' p (later_heap S G h g g' l l') pk) sk''))

  -- ---- loops
  body_known : (h : Heap) (go : Slots → Work) (sign : Sign) (s : Slots) → SignKnown S h sign → SlotsKnown S h s → WorkKnown S h (go s) → WorkKnown S h (after_body go sign s)
  body_known h go (Values vs) s k sk w = w
  body_known h go (Return vs) s k sk w = (k, sk)
  body_known h go Break s k sk w = (All-nil (Known S h), sk)
  body_known h go (Failed x) s k sk w = (k, sk)

  -- a block, and what goes on after it as a body
  run_body : (h : Heap) (body : List Stmt) (p : Places) (s : Slots) (go : Slots → Work) → All (StmtIn S) body → Stands S h → PlacesKnown S h p → SlotsKnown S h s
      → ((g : Heap) (s' : Slots) → StandsAfter S h g → SlotsKnown S g s' → WorkKnown S g (go s')) → WorkKnown S h (and_then (block body p s) (after_body go))
  run_body h body p s go w st pk sk each =
      then_known S G h (block body p s) (after_body go) st (block_known S G h body p s w pk sk) (λ g sign s' l k sk'. body_known g go sign s' k sk' (each g s' l sk'))

  while_known : (h : Heap) (test : Expr) (body : List Stmt) (p : Places) (s : Slots) → ExprIn S test → All (StmtIn S) body → PlacesKnown S h p → SlotsKnown S h s → WorkKnown S h (while_work test body p s)
  while_known h test body p s tw bw pk sk =
      value_known S G h test p s (λ x s'. if is_truthy x then again (ATurn test body) p s' else give [] s') tw pk sk (λ g x s' l xk sk'.
      either (WorkKnown S g) (is_truthy x) (again (ATurn test body) p s') (give [] s') (ends_known S G g (ATurn test body) p s' (tw, bw) (places_later S G h g p l pk) sk') (All-nil (Known S g), sk'))

  pub turn_known : (h : Heap) (test : Expr) (body : List Stmt) (p : Places) (s : Slots) → ExprIn S test → All (StmtIn S) body → Stands S h → PlacesKnown S h p → SlotsKnown S h s
      → WorkKnown S h (turn_work test body p s)
  turn_known h test body p s tw bw st pk sk = run_body h body p s (while_work test body p) bw st pk sk (λ g s' l sk'. while_known g test body p s' tw bw (places_later S G h g p l pk) sk')

  pub repeat_known : (h : Heap) (body : List Stmt) (test : Expr) (p : Places) (s : Slots) → ExprIn S test → All (StmtIn S) body → Stands S h → PlacesKnown S h p → SlotsKnown S h s
      → WorkKnown S h (repeat_work body test p s)
  repeat_known h body test p s tw bw st pk sk =
      run_body h body p s (λ s'. value test p s' (λ x s''. if is_truthy x then give [] s'' else again (ARepeat body test) p s'')) bw st pk sk (λ g s' l sk'.
      value_known S G g test p s' (λ x s''. if is_truthy x then give [] s'' else again (ARepeat body test) p s'') tw (places_later S G h g p l pk) sk' (λ g' x s'' l' xk sk''.
      either (WorkKnown S g') (is_truthy x) (give [] s'') (again (ARepeat body test) p s'') (All-nil (Known S g'), sk'')
      (ends_known S G g' (ARepeat body test) p s'' (tw, bw) (places_later S G h g' p (later_heap S G h g g' l l') pk) sk'')))

  from_known : (h : Heap) (line slot : ℕ) (i limit step : ℤ) (body : List Stmt) (p : Places) (s : Slots) → All (StmtIn S) body → PlacesKnown S h p → SlotsKnown S h s
      → WorkKnown S h (for_from line slot i limit step body p s)
  from_known h line slot i limit step body p s bw pk sk =
      either (WorkKnown S h) (is_within i limit step) (again (AFor line slot i limit step body) p s) (give [] s) (ends_known S G h (AFor line slot i limit step body) p s bw pk sk) (All-nil (Known S h), sk)

  next_known : (h : Heap) (line slot : ℕ) (next : Result ℤ NumFault) (limit step : ℤ) (body : List Stmt) (p : Places) (s : Slots) → All (StmtIn S) body → PlacesKnown S h p → SlotsKnown S h s
      → WorkKnown S h (for_next S line slot next limit step body p s)
  next_known h line slot (Ok i) limit step body p s bw pk sk = from_known h line slot i limit step body p s bw pk sk
  next_known h line slot (Err fault) limit step body p s bw pk sk = ((tt, tt), sk)

  pub for_turn_known : (h : Heap) (line slot : ℕ) (i limit step : ℤ) (body : List Stmt) (p : Places) (s : Slots) → All (StmtIn S) body → Stands S h → PlacesKnown S h p → SlotsKnown S h s
      → WorkKnown S h (for_turn S line slot i limit step body p s)
  for_turn_known h line slot i limit step body p s bw st pk sk =
      run_body h body p (slice_set s slot (Plain (v.Number i))) (for_next S line slot (result_of Add i step) limit step body p) bw st pk (set_slot_known S G h s slot (Plain (v.Number i)) sk (tt, tt))
      (λ g s' l sk'. next_known g line slot (result_of Add i step) limit step body p s' bw (places_later S G h g p l pk) sk')

  bound_known : (h : Heap) (callers : List Caller) (fault : Fault) (n : Option ℤ) (s : Slots) (go : ℤ → Work) → SlotsKnown S h s → ((i : ℤ) → WorkKnown S h (go i)) → WorkKnown S h (bound S callers fault n s go)
  bound_known h callers fault (Some n) s go sk each = each n
  bound_known h callers fault None s go sk each = ((tt, tt), sk)

  for_known : (h : Heap) (line slot : ℕ) (from to by : Value) (body : List Stmt) (p : Places) (s : Slots) → All (StmtIn S) body → PlacesKnown S h p → SlotsKnown S h s
      → WorkKnown S h (for_work S line slot from to by body p s)
  for_known h line slot from to by body p s bw pk sk =
      bound_known h (callers_at p line) ForInitial (number_of from) s (λ i. bound S (callers_at p line) ForLimit (number_of to) s (λ limit. bound S (callers_at p line) ForStep (number_of by) s (λ step. if int_eq step (pos 0) then raise_fault S (callers_at p line) ForStepZero s else for_from line slot i limit step body p s))) sk
      (λ i. bound_known h (callers_at p line) ForLimit (number_of to) s (λ limit. bound S (callers_at p line) ForStep (number_of by) s (λ step. if int_eq step (pos 0) then raise_fault S (callers_at p line) ForStepZero s else for_from line slot i limit step body p s)) sk
      (λ limit. bound_known h (callers_at p line) ForStep (number_of by) s (λ step. if int_eq step (pos 0) then raise_fault S (callers_at p line) ForStepZero s else for_from line slot i limit step body p s) sk
      (λ step. either (WorkKnown S h) (int_eq step (pos 0)) (raise_fault S (callers_at p line) ForStepZero s) (for_from line slot i limit step body p s) ((tt, tt), sk) (from_known h line slot i limit step body p s bw pk sk))))

  step_known : (h : Heap) (step : Option (Rc Expr Global)) (p : Places) (s : Slots) (go : Value → Slots → Work) → IfSome step (λ (x : Rc Expr Global). ExprIn S x.value) → Stands S h → PlacesKnown S h p
      → SlotsKnown S h s → ValueGo S h go → WorkKnown S h (step_of step p s go)
  step_known h None p s go w st pk sk each = each h (v.Number (pos 1)) s (same_heap S G h st) (tt, tt) sk
  step_known h (Some x) p s go w st pk sk each = value_known S G h x.value p s go w pk sk each

  iterate_known : (h : Heap) (line : ℕ) (slots : List ℕ) (f state control : Value) (body : List Stmt) (p : Places) (s : Slots) → Known S h f → Known S h state → Known S h control → All (StmtIn S) body
      → PlacesKnown S h p → SlotsKnown S h s → WorkKnown S h (iterate line slots f state control body p s)
  iterate_known h line slots f state control body p s fk ak ck bw pk sk =
      call_at_known S G h (calling (callers_at p line) false) f (state ∷ control ∷ [])
      (λ sign. on_values (λ vs s'. if is_nil (first vs) then give [] s' else again (AnIter line slots f state vs body) p s') sign s) (calling_known S G h (callers_at p line) false) fk (two_of S G h state control ak ck)
      (λ g sign l k.
      let sl : SlotsKnown S g s = slots_later S G h g s l sk in
      on_known S G g (λ vs s'. if is_nil (first vs) then give [] s' else again (AnIter line slots f state vs body) p s') sign s k sl (λ vs vk.
      either (WorkKnown S g) (is_nil (first vs)) (give [] s) (again (AnIter line slots f state vs body) p s) (All-nil (Known S g), sl)
      (ends_known S G g (AnIter line slots f state vs body) p s (value_later S G h g f l fk, value_later S G h g state l ak, vk, bw) (places_later S G h g p l pk) sl)))

  pub iter_known : (h : Heap) (line : ℕ) (slots : List ℕ) (f state : Value) (vs : List Value) (body : List Stmt) (p : Places) (s : Slots) → Known S h f → Known S h state → All (Known S h) vs
      → All (StmtIn S) body → Stands S h → PlacesKnown S h p → SlotsKnown S h s → WorkKnown S h (iter_turn line slots f state vs body p s)
  iter_known h line slots f state vs body p s fk ak vk bw st pk sk =
      run_body h body p (with_locals slots vs s) (iterate line slots f state (first vs) body p) bw st pk (locals_known S G h slots vs s vk sk) (λ g s' l sk'.
      iterate_known g line slots f state (first vs) body p s' (value_later S G h g f l fk) (value_later S G h g state l ak) (first_known S G g vs (values_later S G h g vs l vk)) bw (places_later S G h g p l pk) sk')

  -- ---- `if`, `return` and `local function`
  if_known : (h : Heap) (arms : List Arm) (last : List Stmt) (p : Places) (s : Slots) → All (ArmIn S) arms → All (StmtIn S) last → PlacesKnown S h p → SlotsKnown S h s → WorkKnown S h (if_work arms last p s)
  if_known h [] last p s aw lw pk sk = block_known S G h last p s lw pk sk
  if_known h (a ∷ arms) last p s aw lw pk sk =
      let one : ArmIn S a = All-head (ArmIn S) a arms aw in
      value_known S G h (out-Arm a).test p s (λ x s'. if is_truthy x then block (out-Arm a).body.value.items p s' else if_work arms last p s') one.0 pk sk (λ g x s' l xk sk'.
      either (WorkKnown S g) (is_truthy x) (block (out-Arm a).body.value.items p s') (if_work arms last p s')
      (block_known S G g (out-Arm a).body.value.items p s' one.1 (places_later S G h g p l pk) sk') (if_known g arms last p s' (All-tail (ArmIn S) a arms aw) lw (places_later S G h g p l pk) sk'))

  local_known : (h : Heap) (line slot function : ℕ) (p : Places) (s : Slots) → HasFunction S function → Stands S h → PlacesKnown S h p → SlotsKnown S h s → WorkKnown S h (local_function S line slot function p s)
  local_known h line slot function p s there st pk sk =
      closure_known S G h line function p (slice_set s slot (Plain v.Nil)) (λ f s'. write_slot S (callers_at p line) (slice_get s' slot) slot f s' (give [])) there st pk
      (set_slot_known S G h s slot (Plain v.Nil) sk (tt, tt)) (λ g f s' l fk sk'.
      write_slot_known S G g (callers_at p line) (slice_get s' slot) slot f s' (give []) l.stands fk sk' (λ g' s'' l' sk''. (All-nil (Known S g'), sk'')))

  tail_known : (h : Heap) (line : ℕ) (f : Value) (before : List Value) (args : List Expr) (p : Places) (s : Slots) → Stands S h → Known S h f → All (Known S h) before → All (ExprIn S) args
      → PlacesKnown S h p → SlotsKnown S h s → WorkKnown S h (tail_work line f before args p s)
  tail_known h line f before args p s st fk bk aw pk sk =
      with_values_known S G h args p s (λ vs s'. tail_call (callers_at p line) f (before ++ vs) s') st aw pk sk (λ g vs s' l vk sk'.
      tail_call_known S G g (callers_at p line) f (before ++ vs) s' (value_later S G h g f l fk) (All-append (Known S g) before vs (values_later S G h g before l bk) vk) sk')

  returns_known : (h : Heap) (xs : List Expr) (p : Places) (s : Slots) → Stands S h → All (ExprIn S) xs → PlacesKnown S h p → SlotsKnown S h s
      → WorkKnown S h (and_then (values_of xs p s) (on_values (λ vs s'. End (Return vs) s')))
  returns_known h xs p s st w pk sk = with_values_known S G h xs p s (λ vs s'. End (Return vs) s') st w pk sk (λ g vs s' l vk sk'. (vk, sk'))

  one_returned : (h : Heap) (x : Expr) (o : ExprKind-F ExprKind TableItem Expr) (p : Places) (s : Slots) → Stands S h → All (ExprIn S) (x ∷ []) → ExprParts S o → PlacesKnown S h p → SlotsKnown S h s
      → WorkKnown S h (return_one S x o p s)
  one_returned h x (e.Call f args) p s st w parts pk sk =
      value_known S G h f.value p s (λ y s'. tail_work x.line y [] args.value.items p s') parts.0 pk sk (λ g y s' l yk sk'.
      tail_known g x.line y [] args.value.items p s' l.stands yk (All-nil (Known S g)) parts.1 (places_later S G h g p l pk) sk')
  one_returned h x (e.Method a name args) p s st w parts pk sk =
      value_known S G h a.value p s (λ object s'. and_then (index_work S x.line object (v.Text name) p s') (on_values (λ fs s''. tail_work x.line (first fs) (object ∷ []) args.value.items p s''))) parts.0 pk sk (λ g object s' l ok sk'.
      then_values S G g (index_work S x.line object (v.Text name) p s') (λ fs s''. tail_work x.line (first fs) (object ∷ []) args.value.items p s'') l.stands
      (index_known S G g x.line object (v.Text name) p s' l.stands ok (tt, tt) (places_later S G h g p l pk) sk') (λ g' fs s'' l' fk sk''.
      tail_known g' x.line (first fs) (object ∷ []) args.value.items p s'' l'.stands (first_known S G g' fs fk) (All-cons (Known S g') object [] (value_later S G g g' object l' ok) (All-nil (Known S g'))) parts.1
      (places_later S G h g' p (later_heap S G h g g' l l') pk) sk''))
  one_returned h x e.Nil p s st w parts pk sk = returns_known h (x ∷ []) p s st w pk sk
  one_returned h x e.True p s st w parts pk sk = returns_known h (x ∷ []) p s st w pk sk
  one_returned h x e.False p s st w parts pk sk = returns_known h (x ∷ []) p s st w pk sk
  one_returned h x (e.Number n) p s st w parts pk sk = returns_known h (x ∷ []) p s st w pk sk
  one_returned h x (e.Text text) p s st w parts pk sk = returns_known h (x ∷ []) p s st w pk sk
  one_returned h x e.Vararg p s st w parts pk sk = returns_known h (x ∷ []) p s st w pk sk
  one_returned h x (e.Function n) p s st w parts pk sk = returns_known h (x ∷ []) p s st w pk sk
  one_returned h x (e.Slot n) p s st w parts pk sk = returns_known h (x ∷ []) p s st w pk sk
  one_returned h x (e.Captured n) p s st w parts pk sk = returns_known h (x ∷ []) p s st w pk sk
  one_returned h x (e.Global name) p s st w parts pk sk = returns_known h (x ∷ []) p s st w pk sk
  one_returned h x (e.Index a b) p s st w parts pk sk = returns_known h (x ∷ []) p s st w pk sk
  one_returned h x (e.Unary o a) p s st w parts pk sk = returns_known h (x ∷ []) p s st w pk sk
  one_returned h x (e.Binary o a b) p s st w parts pk sk = returns_known h (x ∷ []) p s st w pk sk
  one_returned h x (e.And a b) p s st w parts pk sk = returns_known h (x ∷ []) p s st w pk sk
  one_returned h x (e.Or a b) p s st w parts pk sk = returns_known h (x ∷ []) p s st w pk sk
  one_returned h x (e.Paren a) p s st w parts pk sk = returns_known h (x ∷ []) p s st w pk sk
  one_returned h x (e.Table items) p s st w parts pk sk = returns_known h (x ∷ []) p s st w pk sk

  return_known : (h : Heap) (xs : List Expr) (p : Places) (s : Slots) → Stands S h → All (ExprIn S) xs → PlacesKnown S h p → SlotsKnown S h s → WorkKnown S h (return_work S xs p s)
  return_known h [] p s st w pk sk = returns_known h [] p s st w pk sk
  return_known h (x ∷ []) p s st w pk sk = one_returned h x (out-ExprKind x.kind) p s st w (parts_of S x (All-head (ExprIn S) x [] w)) pk sk
  return_known h (x ∷ y ∷ ys) p s st w pk sk = returns_known h (x ∷ y ∷ ys) p s st w pk sk

  -- ---- all of them
  pub stmt_known : (h : Heap) (line : ℕ) (o : StmtKind-F StmtKind Arm Stmt) (p : Places) (s : Slots) → StmtParts S o → Stands S h → PlacesKnown S h p → SlotsKnown S h s → WorkKnown S h (stmt_work S line o p s)
  stmt_known h line (t.Local slots xs) p s w st pk sk =
      with_values_known S G h xs.value.items p s (λ vs s'. give [] (with_locals slots.value.items vs s')) st w pk sk (λ g vs s' l vk sk'. (All-nil (Known S g), locals_known S G g slots.value.items vs s' vk sk'))
  stmt_known h line (t.LocalFunction slot function) p s w st pk sk = local_known h line slot function p s w st pk sk
  stmt_known h line (t.Assign targets xs) p s w st pk sk = assignment_known h targets.value.items xs.value.items p s w.0 w.1 st pk sk
  stmt_known h line (t.Call x) p s w st pk sk = eval_known S G h (AnExpr x) p s (λ vs s'. give [] s') w pk sk (λ g vs s' l vk sk'. (All-nil (Known S g), sk'))
  stmt_known h line (t.Do body) p s w st pk sk = block_known S G h body.value.items p s w pk sk
  stmt_known h line (t.While test body) p s w st pk sk = while_known h test.value body.value.items p s w.0 w.1 pk sk
  stmt_known h line (t.Repeat body test) p s w st pk sk = ends_known S G h (ARepeat body.value.items test.value) p s w pk sk
  stmt_known h line (t.If arms last) p s w st pk sk = if_known h arms.value.items last.value.items p s w.0 w.1 pk sk
  stmt_known h line (t.NumericFor slot from to step body) p s w st pk sk =
      value_known S G h from.value p s (λ a s1. value to.value p s1 (λ b s2. step_of step p s2 (λ c s3. for_work S line slot a b c body.value.items p s3))) w.0 pk sk (λ g a s1 l ak sk1.
      value_known S G g to.value p s1 (λ b s2. step_of step p s2 (λ c s3. for_work S line slot a b c body.value.items p s3)) w.1 (places_later S G h g p l pk) sk1 (λ g2 b s2 l2 bk sk2.
      step_known g2 step p s2 (λ c s3. for_work S line slot a b c body.value.items p s3) w.2 l2.stands (places_later S G h g2 p (later_heap S G h g g2 l l2) pk) sk2 (λ g3 c s3 l3 ck sk3.
      for_known g3 line slot a b c body.value.items p s3 w.3 (places_later S G h g3 p (later_heap S G h g2 g3 (later_heap S G h g g2 l l2) l3) pk) sk3)))
  stmt_known h line (t.GenericFor slots xs body) p s w st pk sk =
      with_values_known S G h xs.value.items p s (λ vs s'. iterate line slots.value.items (first vs) (first (drop 1 vs)) (first (drop 2 vs)) body.value.items p s') st w.0 pk sk (λ g vs s' l vk sk'.
      iterate_known g line slots.value.items (first vs) (first (drop 1 vs)) (first (drop 2 vs)) body.value.items p s' (first_known S G g vs vk)
      (first_known S G g (drop 1 vs) (All-drop (Known S g) 1 vs vk)) (first_known S G g (drop 2 vs) (All-drop (Known S g) 2 vs vk)) w.1 (places_later S G h g p l pk) sk')
  stmt_known h line (t.Return xs) p s w st pk sk = return_known h xs.value.items p s st w pk sk
  stmt_known h line t.Break p s w st pk sk = (tt, sk)
