-- What each operator comes to on values.
use Rattle.std.proofs.Common.{◌≡◌, ◌+◌, ◌/◌, Bool, true, false, ℕ, List, [], ◌∷◌, length, refl, if◌then◌else◌}
use Rattle.lua_values.specs.declared.values.Value.{Value}
use Rattle.lua_values.specs.declared.values.Value.TheVariants.{Nil, Truth, Number, Text, Table, Closure, Native, Thread, Null, Object}
use Rattle.lua_values.specs.Values.{number, is_nil}
use Rattle.lua_values.specs.StoreCalls.{full_cause}
use Rattle.lua_operators.specs.declared.arithmetic.ArithmeticOperator.{ArithmeticOperator}
use Rattle.lua_operators.specs.declared.arithmetic.ArithmeticOperator.TheVariants.{Add, Sub, Mul, Div, Mod, Pow}
use Rattle.lua_operators.specs.declared.comparison.ComparisonOperator.{ComparisonOperator}
use Rattle.lua_operators.specs.declared.comparison.ComparisonOperator.TheVariants.{Less, LessOrEqual}
use Rattle.lua_operators.specs.declared.events.Event.TheVariants.{Unm, Concat, Eq, Lt, Le}
use Rattle.lua_operators.specs.declared.faults.OperandFault.{OperandFault}
use Rattle.lua_operators.specs.declared.outcome.Outcome.{Outcome}
use Rattle.lua_operators.specs.declared.outcome.Outcome.TheVariants.{Gives, NeedsEvent, Faults}
use Rattle.lua_operators.specs.ArithmeticOperators.{event_of}
use Rattle.lua_operators.specs.Arithmetic.{computed, negated}
use Rattle.lua_operators.specs.Comparison.{compared, equality}
use Rattle.lua_operators.specs.Concatenation.{concatenated}
use Rattle.lua_operators.specs.OperandFaults.{arithmetic_fault, comparison_fault, concatenation_fault}
use Rattle.lua_operators.specs.Types.{is_truthy}
use Rattle.lua_meaning.specs.Works.{Caller, Slots, ACall, Work, Look}
use Rattle.lua_meaning.specs.Evaluator.{State, Ending, do_work}
use Rattle.lua_meaning.specs.Setting.{Setting}
use Rattle.lua_meaning.specs.Positions.{raise_operand}
use Rattle.lua_meaning.specs.Signs.{first, give_one}
use Rattle.lua_meaning.specs.Metatables.{handler, handler_of_two, handler_of_both}
use Rattle.lua_meaning.specs.Calls.{calling, call_for_one}
use Rattle.lua_meaning.specs.Arithmetic.{handled, outcome_work, arithmetic_work}
use Rattle.lua_meaning.specs.Concatenation.{text_length, with_text, joined, concatenation_work}
use Rattle.lua_meaning.specs.Comparison.{count_texts, give_truth, call_for_truth, truth_work, equality_work, less_by_handler, at_most_by_handler, compared_by_handler, comparison_work}
use Rattle.lua_meaning.specs.Operators.{length_work}
use Rattle.lua_meaning.specs.Nodes.{eval}
use Rattle.lua_meaning.specs.EndingLaws.{counted_then}
use Rattle.lua_meaning_laws.specs.Operators.{handled_in, outcome_in, arithmetic_in, length_in, joined_in, concatenation_in, texts_counted, asked_in, equal_in, equality_in, less_in, at_most_in, by_handler_in, comparison_in, UnaryAre, BinaryAre, EachOperatorIs}
use Rattle.lua_meaning_laws.proofs.FollowingEquations.{call_then, work_if, written_then}

module _ (S : Setting) (callers : List Caller) where
  handled_then : (by : Value) (operands : List Value) (fault : OperandFault) (s : Slots) (w : State) → do_work (eval S) (handled S callers by operands fault s) w ≡ handled_in S callers by operands fault s w
  handled_then by operands fault s w =
      work_if S (is_nil by) (raise_operand S callers fault s) (call_for_one callers by operands s give_one) w _ _ refl
      (call_then (eval S (ACall by operands) (calling callers false) [] w) s (eval S) (λ vs s'. give_one (first vs) s') _ (λ vs s' w'. refl))

  outcome_then : (o : Outcome) (s : Slots) (w : State) (q : Work) (event : Ending) → do_work (eval S) q w ≡ event → do_work (eval S) (outcome_work S callers o s q) w ≡ outcome_in S callers o s w event
  outcome_then (Gives v) s w q event e = refl
  outcome_then NeedsEvent s w q event e = e
  outcome_then (Faults fault) s w q event e = refl

  arithmetic_then : (o : ArithmeticOperator) (a b : Value) (s : Slots) (w : State) → do_work (eval S) (arithmetic_work S callers o a b s) w ≡ arithmetic_in S callers o a b s w
  arithmetic_then o a b s w =
      outcome_then (computed o a b) s w (Look (λ h. handled S callers (handler_of_two h a b (event_of o)) (a ∷ b ∷ []) (arithmetic_fault a b) s)) _
      (handled_then (handler_of_two w.store.heap a b (event_of o)) (a ∷ b ∷ []) (arithmetic_fault a b) s w)

  length_then : (a : Value) (s : Slots) (w : State) → do_work (eval S) (length_work S callers a s) w ≡ length_in S callers a s w
  length_then (Text text) s w = outcome_then _ s w (give_one (number 0) s) _ refl
  length_then (Table t) s w = refl
  length_then Nil s w = refl
  length_then (Truth b) s w = refl
  length_then (Number n) s w = refl
  length_then (Closure n) s w = refl
  length_then (Native n) s w = refl
  length_then (Thread n) s w = refl
  length_then Null s w = refl
  length_then (Object o n) s w = refl

  joined_then : (taken : ℕ) (o : Outcome) (s : Slots) (w : State) (q : Work) (event : Ending) → do_work (eval S) q w ≡ event → do_work (eval S) (joined S callers taken o s q) w ≡ joined_in S callers taken o s w event
  joined_then taken (Gives v) s w q event e =
      counted_then ((taken + text_length v) / 64) w _ _ (λ w2.
      written_then S callers (full_cause w2.store.heap (text_length v + 16)) (with_text w2.store.heap (text_length v)) s w2 (give_one v s) _ (λ w3. refl))
  joined_then taken NeedsEvent s w q event e = e
  joined_then taken (Faults fault) s w q event e = refl

  concatenation_then : (a b : Value) (s : Slots) (w : State) → do_work (eval S) (concatenation_work S callers a b s) w ≡ concatenation_in S callers a b s w
  concatenation_then a b s w =
      joined_then (text_length a + text_length b) (concatenated a b) s w (Look (λ h. handled S callers (handler_of_two h a b Concat) (a ∷ b ∷ []) (concatenation_fault a b) s)) _
      (handled_then (handler_of_two w.store.heap a b Concat) (a ∷ b ∷ []) (concatenation_fault a b) s w)

  -- ---- comparison
  after_text : (text : List ℕ) (b : Value) (w : State) (q : Work) (go : State → Ending) → ((w' : State) → do_work (eval S) q w' ≡ go w') → do_work (eval S) (count_texts (Text text) b q) w ≡ texts_counted (Text text) b w go
  after_text text (Text t) w q go e = counted_then ((length text + length t) / 64) w _ _ e
  after_text text Nil w q go e = e w
  after_text text (Truth b) w q go e = e w
  after_text text (Number n) w q go e = e w
  after_text text (Table t) w q go e = e w
  after_text text (Closure n) w q go e = e w
  after_text text (Native n) w q go e = e w
  after_text text (Thread n) w q go e = e w
  after_text text Null w q go e = e w
  after_text text (Object o n) w q go e = e w

  texts_then : (a b : Value) (w : State) (q : Work) (go : State → Ending) → ((w' : State) → do_work (eval S) q w' ≡ go w') → do_work (eval S) (count_texts a b q) w ≡ texts_counted a b w go
  texts_then (Text t) b w q go e = after_text t b w q go e
  texts_then Nil b w q go e = e w
  texts_then (Truth t) b w q go e = e w
  texts_then (Number n) b w q go e = e w
  texts_then (Table t) b w q go e = e w
  texts_then (Closure n) b w q go e = e w
  texts_then (Native n) b w q go e = e w
  texts_then (Thread n) b w q go e = e w
  texts_then Null b w q go e = e w
  texts_then (Object o n) b w q go e = e w

  asked_then : (by a b : Value) (wanted : Bool) (s : Slots) (w : State) → do_work (eval S) (call_for_truth callers by a b wanted s) w ≡ asked_in S callers by a b wanted s w
  asked_then by a b wanted s w =
      call_then (eval S (ACall by (a ∷ b ∷ [])) (calling callers false) [] w) s (eval S) (λ vs s'. give_truth wanted (is_truthy (first vs)) s') _ (λ vs s' w'. refl)

  equal_then : (wanted : Bool) (o : Outcome) (a b : Value) (s : Slots) (w : State)
      → do_work (eval S) (truth_work S callers wanted o s (Look (λ h. if is_nil (handler_of_both h a b Eq) then give_truth wanted false s else call_for_truth callers (handler_of_both h a b Eq) a b wanted s))) w
      ≡ equal_in S callers wanted o a b s w
  equal_then wanted (Gives v) a b s w = refl
  equal_then wanted NeedsEvent a b s w =
      let by : Value = handler_of_both w.store.heap a b Eq in
      work_if S (is_nil by) (give_truth wanted false s) (call_for_truth callers by a b wanted s) w _ _ refl (asked_then by a b wanted s w)
  equal_then wanted (Faults fault) a b s w = refl

  equality_then : (wanted : Bool) (a b : Value) (s : Slots) (w : State) → do_work (eval S) (equality_work S callers wanted a b s) w ≡ equality_in S callers wanted a b s w
  equality_then wanted a b s w =
      texts_then a b w
      (truth_work S callers wanted (equality a b) s (Look (λ h. if is_nil (handler_of_both h a b Eq) then give_truth wanted false s else call_for_truth callers (handler_of_both h a b Eq) a b wanted s)))
      (λ w2. equal_in S callers wanted (equality a b) a b s w2) (λ w2. equal_then wanted (equality a b) a b s w2)

  less_then : (a b : Value) (s : Slots) (w : State) → do_work (eval S) (less_by_handler S callers w.store.heap a b s) w ≡ less_in S callers a b s w
  less_then a b s w =
      let by : Value = handler_of_both w.store.heap a b Lt in
      work_if S (is_nil by) (raise_operand S callers (comparison_fault a b) s) (call_for_truth callers by a b true s) w _ _ refl (asked_then by a b true s w)

  at_most_then : (a b : Value) (s : Slots) (w : State) → do_work (eval S) (at_most_by_handler S callers w.store.heap a b s) w ≡ at_most_in S callers a b s w
  at_most_then a b s w =
      let by : Value = handler_of_both w.store.heap a b Le in
      let other : Value = handler_of_both w.store.heap a b Lt in
      work_if S (is_nil by) (if is_nil other then raise_operand S callers (comparison_fault a b) s else call_for_truth callers other b a false s) (call_for_truth callers by a b true s) w _ _
      (work_if S (is_nil other) (raise_operand S callers (comparison_fault a b) s) (call_for_truth callers other b a false s) w _ _ refl (asked_then other b a false s w)) (asked_then by a b true s w)

  handler_then : (o : ComparisonOperator) (a b : Value) (s : Slots) (w : State) → do_work (eval S) (compared_by_handler o S callers w.store.heap a b s) w ≡ by_handler_in o S callers a b s w
  handler_then Less a b s w = less_then a b s w
  handler_then LessOrEqual a b s w = at_most_then a b s w

  comparison_then : (o : ComparisonOperator) (a b : Value) (s : Slots) (w : State) → do_work (eval S) (comparison_work S callers o a b s) w ≡ comparison_in S callers o a b s w
  comparison_then o a b s w =
      texts_then a b w (outcome_work S callers (compared o a b) s (Look (λ h. compared_by_handler o S callers h a b s))) (λ w2. outcome_in S callers (compared o a b) s w2 (by_handler_in o S callers a b s w2)) (λ w2.
      outcome_then (compared o a b) s w2 (Look (λ h. compared_by_handler o S callers h a b s)) _ (handler_then o a b s w2))

  -- ---- all
  pub unary_are : (a : Value) (s : Slots) (w : State) → UnaryAre S callers a s w
  unary_are a s w = record {
    negation = refl;
    length = length_then a s w;
    minus = outcome_then (negated a) s w (Look (λ h. handled S callers (handler h a Unm) (a ∷ []) (arithmetic_fault a a) s)) _ (handled_then (handler w.store.heap a Unm) (a ∷ []) (arithmetic_fault a a) s w);
  }

  pub binary_are : (a b : Value) (s : Slots) (w : State) → BinaryAre S callers a b s w
  binary_are a b s w = record {
    add = arithmetic_then Add a b s w;
    sub = arithmetic_then Sub a b s w;
    mul = arithmetic_then Mul a b s w;
    div = arithmetic_then Div a b s w;
    mod_ = arithmetic_then Mod a b s w;
    pow = arithmetic_then Pow a b s w;
    concat = concatenation_then a b s w;
    eq = equality_then true a b s w;
    ne = equality_then false a b s w;
    lt = comparison_then Less a b s w;
    le = comparison_then LessOrEqual a b s w;
    gt = comparison_then Less b a s w;
    ge = comparison_then LessOrEqual b a s w;
  }

pub each_operator : EachOperatorIs
each_operator = record { unary_ = λ S callers a s w. unary_are S callers a s w; binary_ = λ S callers a b s w. binary_are S callers a b s w }
