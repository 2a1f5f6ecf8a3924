-- Works without trees: what programs that are the same do with variables, tables, operators and the functions of the host.
use Rattle.std.proofs.Common.{ℕ, ◌+◌, ◌-◌, ◌/◌, ◌++◌, nat_eq, nat_lt, Bool, true, false, List, [], ◌∷◌, length, drop, ℤ, pos, negsuc, Option, Some, None, slice_get, codes, if◌then◌else◌, refl, subst}
use Rattle.lua_operators.specs.Arithmetic.{outcome_of}
use Rattle.lua_ast.specs.declared.expressions.BinOp.{BinOp}
use Rattle.lua_ast.specs.declared.expressions.BinOp.TheVariants as binary
use Rattle.lua_ast.specs.declared.expressions.UnOp.{UnOp}
use Rattle.lua_ast.specs.declared.expressions.UnOp.TheVariants as unary
use Rattle.lua_ast.specs.declared.programs.Capture.{Capture}
use Rattle.lua_values.specs.declared.values.Value.{Value}
use Rattle.lua_values.specs.declared.values.Value.TheVariants.{Nil, Text, Table}
use Rattle.lua_values.specs.declared.faults.StoreFault.{StoreFault}
use Rattle.lua_values.specs.NativeCalls.{NativeResult}
use Rattle.lua_values.specs.NativeCalls as native
use Rattle.lua_operators.specs.declared.outcome.Outcome.{Outcome}
use Rattle.lua_operators.specs.declared.outcome.Outcome.TheVariants as outcome
use Rattle.lua_operators.specs.declared.faults.Fault.{Fault}
use Rattle.lua_operators.specs.declared.faults.Fault.TheVariants as fault
use Rattle.lua_operators.specs.declared.faults.OperandFault.{OperandFault}
use Rattle.lua_operators.specs.declared.faults.OperandFault.TheVariants as operand
use Rattle.lua_meaning.specs.declared.resumes.Resumed.{Resumed}
use Rattle.lua_meaning.specs.declared.resumes.Resumed.TheVariants as resumed
use Rattle.lua_meaning.specs.declared.slots.Slot.{Slot}
use Rattle.lua_meaning.specs.declared.slots.Slot.TheVariants.{Plain, Shared}
use Rattle.site_same_laws.proofs.SameWorks.{SameWork, ends, evals, asks, looks, writes, counts, called, indexed, stored, on_same, if_same}
use Rattle.site_same_laws.proofs.SamePositions.{Twins, left, right, captures_same, position_same, raise_same, fault_same, operand_same}
use Rattle.lua_meaning.specs.Arithmetic.{arithmetic_work, handled, negation_work, outcome_work}
use Rattle.lua_meaning.specs.Calls.{call_end, call_for_one}
use Rattle.lua_meaning.specs.Closures.{captures_of, close, closure_work, present_cell, share, share_from}
use Rattle.lua_meaning.specs.Comparison.{at_most_by_handler, call_for_truth, compared_by_handler, comparison_work, count_texts, equality_work, give_truth, less_by_handler, truth_work}
use Rattle.lua_meaning.specs.Concatenation.{concatenation_work, joined, make_text, text_length, with_text}
use Rattle.lua_meaning.specs.Indexing.{index_by, index_without, index_work, is_table, raw_value, set_raw, set_work, store_by, store_work}
use Rattle.lua_meaning.specs.Metatables.{handler, handler_of_both, handler_of_two, is_function}
use Rattle.lua_meaning.specs.Natives.{answer_of, assert_work, error_work, library_work, make_text_of, native_work, raise_at, raise_value, result_work, texts_length, tostring_work}
use Rattle.lua_meaning.specs.Operators.{binary_work, length_work, unary_work}
use Rattle.lua_meaning.specs.Positions.{callers_at, raise_fault}
use Rattle.lua_meaning.specs.ProtectedCalls.{pcall_work, protected_by, raise_missing, xpcall_work}
use Rattle.lua_meaning.specs.Signs.{first, give, give_one, more}
use Rattle.lua_meaning.specs.Variables.{table_fault, unless_refused, variable_fault, write_cell, write_slot}
use Rattle.lua_meaning.specs.Works.{Break, Caller, Count, Failed, Places, Return, Sign, Slots, Values, Work, Write}
use Rattle.lua_numbers.specs.Arithmetic.{within_range}
use Rattle.lua_operators.specs.Arithmetic.{computed, negated}
use Rattle.lua_operators.specs.ArithmeticOperators.{event_of}
use Rattle.lua_operators.specs.Comparison.{compared, equality}
use Rattle.lua_operators.specs.Concatenation.{concatenated}
use Rattle.lua_operators.specs.Conversions.{number_of, text_of}
use Rattle.lua_operators.specs.NamedFaults.{argument_text}
use Rattle.lua_operators.specs.OperandFaults.{arithmetic_fault, comparison_fault, concatenation_fault}
use Rattle.lua_operators.specs.TypeNames.{type_name}
use Rattle.lua_operators.specs.Types.{is_truthy, type_of}
use Rattle.lua_operators.specs.declared.arithmetic.ArithmeticOperator.{ArithmeticOperator}
use Rattle.lua_operators.specs.declared.arithmetic.ArithmeticOperator.TheVariants.{Add, Div, Mod, Mul, Pow, Sub}
use Rattle.lua_operators.specs.declared.comparison.ComparisonOperator.{ComparisonOperator}
use Rattle.lua_operators.specs.declared.comparison.ComparisonOperator.TheVariants.{Less, LessOrEqual}
use Rattle.lua_operators.specs.declared.events.Event.TheVariants.{Concat, Eq, Index, Le, Lt, NewIndex, ToString, Unm}
use Rattle.lua_values.specs.Heap.{Heap}
use Rattle.lua_values.specs.StoreCalls.{is_full}
use Rattle.lua_values.specs.Values.{is_nil, number}

-- a call for one value
pub call_one : (cs : List Caller) (f : Value) (args : List Value) (s : Slots) (go next : Value → Slots → Work) → ((v : Value) (s' : Slots) → SameWork (go v s') (next v s'))
    → SameWork (call_for_one cs f args s go) (call_for_one cs f args s next)
call_one cs f args s go next each = evals called (λ sign s'. on_same (λ vs s''. go (first vs) s'') (λ vs s''. next (first vs) s'') (λ vs s''. each (first vs) s'') (call_end sign) s)

call_gives : (cs : List Caller) (f : Value) (args : List Value) (s : Slots) → SameWork (call_for_one cs f args s give_one) (call_for_one cs f args s give_one)
call_gives cs f args s = call_one cs f args s give_one give_one (λ v s'. ends refl)

call_truth : (cs : List Caller) (by a b : Value) (wanted : Bool) (s : Slots) → SameWork (call_for_truth cs by a b wanted s) (call_for_truth cs by a b wanted s)
call_truth cs by a b wanted s =
    call_one cs by (a ∷ b ∷ []) s (λ v s'. give_truth wanted (is_truthy v) s') (λ v s'. give_truth wanted (is_truthy v) s') (λ v s'. ends refl)

count_texts_same : (a b : Value) (go next : Work) → SameWork go next → SameWork (count_texts a b go) (count_texts a b next)
count_texts_same (Text a) (Text b) go next h = counts h
count_texts_same a b go next h = h

index_by_same : (by : Value) (line : ℕ) (v key : Value) (p : Places) (s : Slots) → SameWork (index_by by line v key p s) (index_by by line v key p s)
index_by_same by line v key p s = if_same (is_function by) (call_gives (callers_at p line) by (v ∷ key ∷ []) s) (evals indexed (λ sign s'. ends refl))

store_by_same : (by : Value) (line : ℕ) (v key x : Value) (p : Places) (s : Slots) → SameWork (store_by by line v key x p s) (store_by by line v key x p s)
store_by_same by line v key x p s =
    if_same (is_function by)
    (call_one (callers_at p line) by (v ∷ key ∷ x ∷ []) s (λ dropped s'. give [] s') (λ dropped s'. give [] s') (λ dropped s'. ends refl))
    (evals stored (λ sign s'. ends refl))

protected_same : (by : Value) (cs : List Caller) (s : Slots) (sign : Sign) → SameWork (protected_by by cs s sign) (protected_by by cs s sign)
protected_same by cs s (Failed v) = evals called (λ sign s'. ends refl)
protected_same by cs s (Values vs) = ends refl
protected_same by cs s (Return vs) = ends refl
protected_same by cs s Break = ends refl

module _ (A : Twins) where
  -- ---- variables

  pub unless_same : (cs : List Caller) (fault : StoreFault → Fault) (o : Option StoreFault) (s : Slots) (go next : Work) → SameWork go next
      → SameWork (unless_refused (left A) cs fault o s go) (unless_refused (right A) cs fault o s next)
  unless_same cs fault (Some cause) s go next h = fault_same A cs (fault cause) s
  unless_same cs fault None s go next h = h

  pub cell_write_same : (cs : List Caller) (o : Option ℕ) (v : Value) (s : Slots) (go next : Work) → SameWork go next
      → SameWork (write_cell (left A) cs o v s go) (write_cell (right A) cs o v s next)
  cell_write_same cs None v s go next h = h
  cell_write_same cs (Some c) v s go next h = looks (λ heap. unless_same cs variable_fault _ s _ _ (writes h))

  pub slot_write_same : (cs : List Caller) (o : Option Slot) (i : ℕ) (v : Value) (s : Slots) (go next : Slots → Work) → ((s' : Slots) → SameWork (go s') (next s'))
      → SameWork (write_slot (left A) cs o i v s go) (write_slot (right A) cs o i v s next)
  slot_write_same cs None i v s go next each = each s
  slot_write_same cs (Some (Plain old)) i v s go next each = each _
  slot_write_same cs (Some (Shared c)) i v s go next each = cell_write_same cs (Some c) v s (go s) (next s) (each s)

  share_from_same : (cs : List Caller) (o : Option ℕ) (variable : Capture) (p : Places) (s : Slots) (go next : ℕ → Slots → Work)
      → ((c : ℕ) (s' : Slots) → SameWork (go c s') (next c s')) → SameWork (share_from (left A) cs o variable p s go) (share_from (right A) cs o variable p s next)
  share_from_same cs (Some c) variable p s go next each = each c s
  share_from_same cs None variable p s go next each = looks (λ h. unless_same cs table_fault _ s _ _ (writes (each _ _)))

  share_same : (cs : List Caller) (captures : List Capture) (p : Places) (done : List ℕ) (s : Slots) (go next : List ℕ → Slots → Work)
      → ((cells : List ℕ) (s' : Slots) → SameWork (go cells s') (next cells s')) → SameWork (share (left A) cs captures p done s go) (share (right A) cs captures p done s next)
  share_same cs [] p done s go next each = each done s
  share_same cs (variable ∷ captures) p done s go next each =
      share_from_same cs (present_cell variable p s) variable p s (λ c s'. share (left A) cs captures p (done ++ c ∷ []) s' go) (λ c s'. share (right A) cs captures p (done ++ c ∷ []) s' next)
      (λ c s'. share_same cs captures p (done ++ c ∷ []) s' go next each)

  close_same : (cs : List Caller) (function : ℕ) (cells : List ℕ) (s : Slots) (go next : Value → Slots → Work) → ((v : Value) (s' : Slots) → SameWork (go v s') (next v s'))
      → SameWork (close (left A) cs function cells s go) (close (right A) cs function cells s next)
  close_same cs function cells s go next each = looks (λ h. unless_same cs table_fault _ s _ _ (writes (each _ s)))

  pub closure_same : (line function : ℕ) (p : Places) (s : Slots) (go next : Value → Slots → Work) → ((v : Value) (s' : Slots) → SameWork (go v s') (next v s'))
      → SameWork (closure_work (left A) line function p s go) (closure_work (right A) line function p s next)
  closure_same line function p s go next each =
      subst (λ (captures : List Capture). SameWork (closure_work (left A) line function p s go)
      (share (right A) (callers_at p line) captures p [] s (λ cells s'. close (right A) (callers_at p line) function cells s' next))) (captures_same A function)
      (share_same (callers_at p line) (captures_of (slice_get A.p.functions.items function)) p [] s
      (λ cells s'. close (left A) (callers_at p line) function cells s' go) (λ cells s'. close (right A) (callers_at p line) function cells s' next)
      (λ cells s'. close_same (callers_at p line) function cells s' go next each))

  -- ---- indexes

  index_without_same : (by : Value) (line : ℕ) (v key : Value) (p : Places) (s : Slots) → SameWork (index_without (left A) by line v key p s) (index_without (right A) by line v key p s)
  index_without_same by line v key p s =
      if_same (is_nil by) (if_same (is_table v) (ends refl) (operand_same A (callers_at p line) (operand.Index (type_of v)) s)) (index_by_same by line v key p s)

  pub index_same : (line : ℕ) (v key : Value) (p : Places) (s : Slots) → SameWork (index_work (left A) line v key p s) (index_work (right A) line v key p s)
  index_same line v key p s = looks (λ h. if_same (is_nil (raw_value h v key)) (index_without_same (handler h v Index) line v key p s) (ends refl))

  pub set_same : (cs : List Caller) (t : ℕ) (key x : Value) (s : Slots) (go next : Work) → SameWork go next → SameWork (set_work (left A) cs t key x s go) (set_work (right A) cs t key x s next)
  set_same cs t key x s go next h = looks (λ heap. unless_same cs table_fault _ s _ _ (writes h))

  set_raw_same : (line : ℕ) (v key x : Value) (p : Places) (s : Slots) → SameWork (set_raw (left A) line v key x p s) (set_raw (right A) line v key x p s)
  set_raw_same line (Table t) key x p s = set_same (callers_at p line) t key x s (give [] s) (give [] s) (ends refl)
  set_raw_same line v key x p s = operand_same A (callers_at p line) (operand.Index (type_of v)) s

  pub store_same : (line : ℕ) (v key x : Value) (p : Places) (s : Slots) → SameWork (store_work (left A) line v key x p s) (store_work (right A) line v key x p s)
  store_same line v key x p s =
      looks (λ h. if_same (is_nil (raw_value h v key))
      (if_same (is_nil (handler h v NewIndex)) (set_raw_same line v key x p s) (store_by_same (handler h v NewIndex) line v key x p s))
      (set_raw_same line v key x p s))

  -- ---- operators

  handled_same : (cs : List Caller) (by : Value) (operands : List Value) (fault : OperandFault) (s : Slots) → SameWork (handled (left A) cs by operands fault s) (handled (right A) cs by operands fault s)
  handled_same cs by operands fault s = if_same (is_nil by) (operand_same A cs fault s) (call_gives cs by operands s)

  outcome_same : (cs : List Caller) (o : Outcome) (s : Slots) (go next : Work) → SameWork go next → SameWork (outcome_work (left A) cs o s go) (outcome_work (right A) cs o s next)
  outcome_same cs (outcome.Gives v) s go next h = ends refl
  outcome_same cs outcome.NeedsEvent s go next h = h
  outcome_same cs (outcome.Faults n) s go next h = fault_same A cs (fault.Number n) s

  arithmetic_same : (cs : List Caller) (op : ArithmeticOperator) (a b : Value) (s : Slots) → SameWork (arithmetic_work (left A) cs op a b s) (arithmetic_work (right A) cs op a b s)
  arithmetic_same cs op a b s =
      outcome_same cs (computed op a b) s _ _ (looks (λ h. handled_same cs (handler_of_two h a b (event_of op)) (a ∷ b ∷ []) (arithmetic_fault a b) s))

  negation_same : (cs : List Caller) (a : Value) (s : Slots) → SameWork (negation_work (left A) cs a s) (negation_work (right A) cs a s)
  negation_same cs a s = outcome_same cs (negated a) s _ _ (looks (λ h. handled_same cs (handler h a Unm) (a ∷ []) (arithmetic_fault a a) s))

  truth_same : (cs : List Caller) (wanted : Bool) (o : Outcome) (s : Slots) (go next : Work) → SameWork go next → SameWork (truth_work (left A) cs wanted o s go) (truth_work (right A) cs wanted o s next)
  truth_same cs wanted (outcome.Gives v) s go next h = ends refl
  truth_same cs wanted outcome.NeedsEvent s go next h = h
  truth_same cs wanted (outcome.Faults n) s go next h = fault_same A cs (fault.Number n) s

  equality_same : (cs : List Caller) (wanted : Bool) (a b : Value) (s : Slots) → SameWork (equality_work (left A) cs wanted a b s) (equality_work (right A) cs wanted a b s)
  equality_same cs wanted a b s =
      count_texts_same a b _ _ (truth_same cs wanted (equality a b) s _ _
      (looks (λ h. if_same (is_nil (handler_of_both h a b Eq)) (ends refl) (call_truth cs (handler_of_both h a b Eq) a b wanted s))))

  less_same : (cs : List Caller) (h : Heap) (a b : Value) (s : Slots) → SameWork (less_by_handler (left A) cs h a b s) (less_by_handler (right A) cs h a b s)
  less_same cs h a b s = if_same (is_nil (handler_of_both h a b Lt)) (operand_same A cs (comparison_fault a b) s) (call_truth cs (handler_of_both h a b Lt) a b true s)

  at_most_same : (cs : List Caller) (h : Heap) (a b : Value) (s : Slots) → SameWork (at_most_by_handler (left A) cs h a b s) (at_most_by_handler (right A) cs h a b s)
  at_most_same cs h a b s =
      if_same (is_nil (handler_of_both h a b Le))
      (if_same (is_nil (handler_of_both h a b Lt)) (operand_same A cs (comparison_fault a b) s) (call_truth cs (handler_of_both h a b Lt) b a false s))
      (call_truth cs (handler_of_both h a b Le) a b true s)

  by_handler_same : (op : ComparisonOperator) (cs : List Caller) (h : Heap) (a b : Value) (s : Slots) → SameWork (compared_by_handler op (left A) cs h a b s) (compared_by_handler op (right A) cs h a b s)
  by_handler_same Less cs h a b s = less_same cs h a b s
  by_handler_same LessOrEqual cs h a b s = at_most_same cs h a b s

  comparison_same : (cs : List Caller) (op : ComparisonOperator) (a b : Value) (s : Slots) → SameWork (comparison_work (left A) cs op a b s) (comparison_work (right A) cs op a b s)
  comparison_same cs op a b s = count_texts_same a b _ _ (outcome_same cs (compared op a b) s _ _ (looks (λ h. by_handler_same op cs h a b s)))

  make_text_same : (cs : List Caller) (n : ℕ) (s : Slots) (go next : Work) → SameWork go next → SameWork (make_text (left A) cs n s go) (make_text (right A) cs n s next)
  make_text_same cs n s go next h = looks (λ heap. unless_same cs table_fault _ s _ _ (writes h))

  joined_same : (cs : List Caller) (taken : ℕ) (o : Outcome) (s : Slots) (go next : Work) → SameWork go next → SameWork (joined (left A) cs taken o s go) (joined (right A) cs taken o s next)
  joined_same cs taken (outcome.Gives v) s go next h = counts (make_text_same cs (text_length v) s (give_one v s) (give_one v s) (ends refl))
  joined_same cs taken outcome.NeedsEvent s go next h = h
  joined_same cs taken (outcome.Faults n) s go next h = fault_same A cs (fault.Number n) s

  concatenation_same : (cs : List Caller) (a b : Value) (s : Slots) → SameWork (concatenation_work (left A) cs a b s) (concatenation_work (right A) cs a b s)
  concatenation_same cs a b s =
      joined_same cs (text_length a + text_length b) (concatenated a b) s _ _ (looks (λ h. handled_same cs (handler_of_two h a b Concat) (a ∷ b ∷ []) (concatenation_fault a b) s))

  pub binary_same : (cs : List Caller) (op : BinOp) (a b : Value) (s : Slots) → SameWork (binary_work (left A) cs op a b s) (binary_work (right A) cs op a b s)
  binary_same cs binary.Add a b s = arithmetic_same cs Add a b s
  binary_same cs binary.Sub a b s = arithmetic_same cs Sub a b s
  binary_same cs binary.Mul a b s = arithmetic_same cs Mul a b s
  binary_same cs binary.Div a b s = arithmetic_same cs Div a b s
  binary_same cs binary.Mod a b s = arithmetic_same cs Mod a b s
  binary_same cs binary.Pow a b s = arithmetic_same cs Pow a b s
  binary_same cs binary.Concat a b s = concatenation_same cs a b s
  binary_same cs binary.Eq a b s = equality_same cs true a b s
  binary_same cs binary.Ne a b s = equality_same cs false a b s
  binary_same cs binary.Lt a b s = comparison_same cs Less a b s
  binary_same cs binary.Le a b s = comparison_same cs LessOrEqual a b s
  binary_same cs binary.Gt a b s = comparison_same cs Less b a s
  binary_same cs binary.Ge a b s = comparison_same cs LessOrEqual b a s

  length_same : (cs : List Caller) (v : Value) (s : Slots) → SameWork (length_work (left A) cs v s) (length_work (right A) cs v s)
  length_same cs (Text text) s = outcome_same cs (outcome_of (within_range (pos (length text)))) s _ _ (ends refl)
  length_same cs (Table t) s = looks (λ h. ends refl)
  length_same cs v s = operand_same A cs (operand.Length (type_of v)) s

  pub unary_same : (cs : List Caller) (op : UnOp) (a : Value) (s : Slots) → SameWork (unary_work (left A) cs op a s) (unary_work (right A) cs op a s)
  unary_same cs unary.Not a s = ends refl
  unary_same cs unary.Length a s = length_same cs a s
  unary_same cs unary.Minus a s = negation_same cs a s

  -- ---- the functions of the host

  missing_same : (cs : List Caller) (n : ℕ) (name : List ℕ) (s : Slots) → SameWork (raise_missing (left A) cs n name s) (raise_missing (right A) cs n name s)
  missing_same cs n name s = raise_same A cs (argument_text n name (codes "value") (codes "no value")) s

  pcall_same : (args : List Value) (cs : List Caller) (s : Slots) → SameWork (pcall_work (left A) args cs s) (pcall_work (right A) args cs s)
  pcall_same [] cs s = missing_same cs 1 (codes "pcall") s
  pcall_same (f ∷ args) cs s = evals called (λ sign s'. ends refl)

  xpcall_same : (args : List Value) (cs : List Caller) (s : Slots) → SameWork (xpcall_work (left A) args cs s) (xpcall_work (right A) args cs s)
  xpcall_same [] cs s = missing_same cs 1 (codes "xpcall") s
  xpcall_same (f ∷ []) cs s = missing_same cs 2 (codes "xpcall") s
  xpcall_same (f ∷ by ∷ more) cs s = evals called (λ sign s'. protected_same by cs s (call_end sign))

  raise_value_same : (cs : List Caller) (v : Value) (s : Slots) → SameWork (raise_value (left A) cs v s) (raise_value (right A) cs v s)
  raise_value_same cs (Text text) s = raise_same A cs text s
  raise_value_same cs v s = ends refl

  raise_at_same : (cs : List Caller) (o : Option ℤ) (level v : Value) (s : Slots) → SameWork (raise_at (left A) cs o level v s) (raise_at (right A) cs o level v s)
  raise_at_same cs (Some (pos n)) level v s = if_same (nat_eq n 0) (ends refl) (raise_value_same (drop (n - 1) cs) v s)
  raise_at_same cs (Some (negsuc n)) level v s = ends refl
  raise_at_same cs None level v s = raise_same A cs (argument_text 2 (codes "error") (codes "number") (type_name (type_of level))) s

  error_same : (args : List Value) (cs : List Caller) (s : Slots) → SameWork (error_work (left A) args cs s) (error_work (right A) args cs s)
  error_same args cs s = raise_at_same cs (if is_nil (first (drop 1 args)) then Some (pos 1) else number_of (first (drop 1 args))) (first (drop 1 args)) (first args) s

  assert_same : (args : List Value) (cs : List Caller) (s : Slots) → SameWork (assert_work (left A) args cs s) (assert_work (right A) args cs s)
  assert_same [] cs s = missing_same cs 1 (codes "assert") s
  assert_same (v ∷ more) cs s =
      if_same (is_truthy v) (ends refl) (if_same (is_nil (first more)) (raise_same A cs (codes "assertion failed!") s) (raise_value_same cs (first more) s))

  made_same : (cs : List Caller) (taken : ℕ) (h : Heap) (v : Value) (s : Slots)
      → SameWork (if is_full h (length (text_of v) + 16) then Count (taken / 64) (raise_fault (left A) cs fault.StorageLimit s)
      else Count ((taken + length (text_of v)) / 64) (Write (with_text h (length (text_of v))) (give_one (Text (text_of v)) s)))
      (if is_full h (length (text_of v) + 16) then Count (taken / 64) (raise_fault (right A) cs fault.StorageLimit s)
      else Count ((taken + length (text_of v)) / 64) (Write (with_text h (length (text_of v))) (give_one (Text (text_of v)) s)))
  made_same cs taken h v s = if_same (is_full h (length (text_of v) + 16)) (counts (fault_same A cs fault.StorageLimit s)) (counts (writes (ends refl)))

  make_text_of_same : (cs : List Caller) (taken : ℕ) (h : Heap) (v : Value) (s : Slots) → SameWork (make_text_of (left A) cs taken h v s) (make_text_of (right A) cs taken h v s)
  make_text_of_same cs taken h (Text text) s = counts (ends refl)
  make_text_of_same cs taken h v s = made_same cs taken h v s

  tostring_same : (args : List Value) (cs : List Caller) (s : Slots) → SameWork (tostring_work (left A) args cs s) (tostring_work (right A) args cs s)
  tostring_same [] cs s = missing_same cs 1 (codes "tostring") s
  tostring_same (v ∷ more) cs s =
      looks (λ h. if_same (is_nil (handler h v ToString)) (make_text_of_same cs (texts_length (v ∷ more)) h v s) (counts (call_gives cs (handler h v ToString) (v ∷ []) s)))

  answer_same : (cs : List Caller) (s : Slots) (r : Resumed) → SameWork (answer_of (left A) cs s r) (answer_of (right A) cs s r)
  answer_same cs s (resumed.Values vs) = ends refl
  answer_same cs s (resumed.Raise text) = raise_same A cs text s

  result_same : (number : ℕ) (args : List Value) (cs : List Caller) (r : NativeResult) (s : Slots) → SameWork (result_work (left A) number args cs r s) (result_work (right A) number args cs r s)
  result_same number args cs (native.Gives vs h n) s = writes (counts (ends refl))
  result_same number args cs (native.Faults v h n) s = writes (counts (raise_value_same cs v s))
  result_same number args cs (native.Leaves n) s = counts (asks (position_same A cs) (answer_same cs s))

  library_same : (number : ℕ) (args : List Value) (cs : List Caller) (s : Slots) → SameWork (library_work (left A) number args cs s) (library_work (right A) number args cs s)
  library_same number args cs s =
      if_same (nat_lt number A.count) (looks (λ h. result_same number args cs (A.lib number args h) s)) (operand_same A cs (operand.Call (type_of Nil)) s)

  pub native_same : (n : ℕ) (args : List Value) (cs : List Caller) (s : Slots) → SameWork (native_work (left A) n args cs s) (native_work (right A) n args cs s)
  native_same n args cs s =
      if_same (nat_eq n 0) (counts (pcall_same args cs s))
      (if_same (nat_eq n 1) (counts (xpcall_same args cs s))
      (if_same (nat_eq n 2) (counts (error_same args cs s))
      (if_same (nat_eq n 3) (counts (assert_same args cs s))
      (if_same (nat_eq n 4) (tostring_same args cs s) (library_same (n - 5) args cs s)))))
