-- Comparisons: steps for the bytes of texts, and the handlers that both operands have.
use Rattle.std.specs.Prelude.{◌≡◌, ℕ, ◌+◌, ◌/◌, List, [], ◌∷◌, length, nat_lt, min, not, if◌then◌else◌, Bool, true, false, Result, Ok, refl}
use Rattle.std.proofs.Common.{sym, ◌∙◌, ap, subst}
use Rattle.lua_values.specs.declared.values.Value.{Value}
use Rattle.lua_values.specs.declared.values.Value.TheVariants as value
use Rattle.lua_values.specs.Values.{is_nil}
use Rattle.lua_values.specs.Heap.{Heap, StoreView, step_limit}
use Rattle.lua_operators.specs.declared.comparison.ComparisonOperator.{ComparisonOperator}
use Rattle.lua_numbers.specs.declared.faults.NumFault.{NumFault}
use Rattle.lua_operators.specs.declared.faults.Fault.TheVariants as fault
use Rattle.lua_operators.specs.declared.events.Event.TheVariants.{Eq, Lt, Le}
use Rattle.lua_operators.specs.declared.outcome.Outcome.{Outcome}
use Rattle.lua_operators.specs.declared.outcome.Outcome.TheVariants.{Gives, NeedsEvent, Faults}
use Rattle.lua_operators.specs.OperandFaults.{comparison_fault}
use Rattle.lua_operators.specs.Types.{is_truthy}
use Rattle.lua_meaning.specs.Works.{Caller, Values, Slots, Work, Look}
use Rattle.lua_meaning.specs.Evaluator.{do_work}
use Rattle.lua_meaning.specs.Setting.{Setting}
use Rattle.lua_meaning.specs.Positions.{raise_fault, raise_operand}
use Rattle.lua_meaning.specs.Signs.{give_one}
use Rattle.lua_meaning.specs.Metatables.{handler_of_both}
use Rattle.lua_meaning.specs.Comparison.{count_texts, give_truth, call_for_truth, truth_work, less_by_handler, at_most_by_handler, compared_by_handler}
use Rattle.lua_meaning.specs.Nodes.{eval}
use Rattle.lua_frames.specs.declared.flow.Flow.{Flow}
use Rattle.lua_frames.specs.declared.flow.Flow.TheVariants as flow
use Rattle.lua_frames.specs.declared.threads.Frames.{Frames}
use Rattle.lua_frames.specs.Frames.{slots_of}
use Rattle.lua_frames.specs.Follows.{Works}
use Rattle.lua_frames.specs.Changes.{Ends}
use Rattle.lua_frames.proofs.FollowLemmas.{works_as, works_by, ends_works, spends, count_goes, count_spent}
use Rattle.lua_vm_operators.specs.Comparisons.{CountsTexts, equality_handled, less_handled, at_most_handled}
use Rattle.lua_vm_operators.proofs.OutcomeLemmas.{looked}

-- two texts are counted
pub texts_counted : (a b : Value) (s t : List ℕ) (before store : StoreView) (below : Bool) → a ≡ value.Text s → b ≡ value.Text t
    → store ≡ record { heap = before.heap; steps = min step_limit (before.steps + (length s + length t) / 64) } → below ≡ nat_lt (before.steps + (length s + length t) / 64) step_limit → CountsTexts a b before store below
texts_counted a b s t before store true ea eb is e = λ S q rs.
    ap (λ (v : Value). do_work (eval S) (count_texts v b q) (record { store = before; resumes = rs })) ea
    ∙ ap (λ (v : Value). do_work (eval S) (count_texts (value.Text s) v q) (record { store = before; resumes = rs })) eb
    ∙ count_goes S ((length s + length t) / 64) q before store true is e refl rs
texts_counted a b s t before store false ea eb is e = λ S q rs.
    ap (λ (v : Value). do_work (eval S) (count_texts v b q) (record { store = before; resumes = rs })) ea
    ∙ ap (λ (v : Value). do_work (eval S) (count_texts (value.Text s) v q) (record { store = before; resumes = rs })) eb
    ∙ count_spent S ((length s + length t) / 64) q before false e refl rs

-- what isn't two texts isn't counted
pub none_counted : (a b : Value) (store : StoreView) → ((s t : List ℕ) → a ≡ value.Text s → b ≡ value.Text t → ⊥) → CountsTexts a b store store true
none_counted a b store k = λ S q rs. ap (λ (t : Work). do_work (eval S) t (record { store = store; resumes = rs })) (same_work a b q k)
  where
    same_work : (a b : Value) (q : Work) → ((s t : List ℕ) → a ≡ value.Text s → b ≡ value.Text t → ⊥) → count_texts a b q ≡ q
    same_work value.Nil b q k = refl
    same_work (value.Truth u) b q k = refl
    same_work (value.Number n) b q k = refl
    same_work (value.Text s) value.Nil q k = refl
    same_work (value.Text s) (value.Truth u) q k = refl
    same_work (value.Text s) (value.Number n) q k = refl
    same_work (value.Text s) (value.Text t) q k = absurd (k s t refl refl)
    same_work (value.Text s) (value.Table t) q k = refl
    same_work (value.Text s) (value.Closure n) q k = refl
    same_work (value.Text s) (value.Native n) q k = refl
    same_work (value.Text s) (value.Thread n) q k = refl
    same_work (value.Text s) value.Null q k = refl
    same_work (value.Text s) (value.Object n m) q k = refl
    same_work (value.Table t) b q k = refl
    same_work (value.Closure n) b q k = refl
    same_work (value.Native n) b q k = refl
    same_work (value.Thread n) b q k = refl
    same_work value.Null b q k = refl
    same_work (value.Object n m) b q k = refl

-- a comparison whose bytes are counted goes on, and one with no step left ends
pub counted_goes : {E : Type 0} (S : Setting) (a b : Value) (q : Work) (old new : Frames) (before mid store : StoreView) (below : Bool) (r : Result Flow E)
    → CountsTexts a b before mid below → below ≡ true → Works S q old mid new store r → Works S (count_texts a b q) old before new store r
counted_goes S a b q old new before mid store true r h e w = works_by S (count_texts a b q) q old new before mid store r (h S q) w
counted_goes S a b q old new before mid store false r h e w = absurd (cc)

pub counted_spent : {E : Type 0} (S : Setting) (a b : Value) (q : Work) (old new : Frames) (before store : StoreView) (below : Bool)
    → CountsTexts a b before store below → below ≡ false → Works {E = E} S (count_texts a b q) old before new store (Ok flow.Spent)
counted_spent S a b q old new before store true h e = absurd (cc)
counted_spent S a b q old new before store false h e = spends S (count_texts a b q) old new before store (h S q)

-- an equality that is told by the values alone
pub truth_gives : {E : Type 0} (S : Setting) (callers : List Caller) (wanted : Bool) (told : Value) (o : Outcome) (v : Value) (event : Work) (old new : Frames) (store : StoreView) (r : Result Flow E)
    → o ≡ Gives v → told ≡ value.Truth (if wanted then is_truthy v else not (is_truthy v)) → Ends (Values (told ∷ [])) old new r → Works S (truth_work S callers wanted o (slots_of old) event) old store new store r
truth_gives S callers wanted told o v event old new store r e t w =
    works_as S (truth_work S callers wanted o (slots_of old) event) (give_one told (slots_of old)) old new store store r (ends_works S (Values (told ∷ [])) old new store r w)
    (ap (λ (x : Outcome). truth_work S callers wanted x (slots_of old) event) e ∙ ap (λ (x : Value). give_one x (slots_of old)) (sym t))

pub truth_faults : {E : Type 0} (S : Setting) (callers : List Caller) (wanted : Bool) (o : Outcome) (f : NumFault) (event : Work) (old new : Frames) (store : StoreView) (r : Result Flow E)
    → o ≡ Faults f → Works S (raise_fault S callers (fault.Number f) (slots_of old)) old store new store r → Works S (truth_work S callers wanted o (slots_of old) event) old store new store r
truth_faults S callers wanted o f event old new store r e w =
    works_as S (truth_work S callers wanted o (slots_of old) event) (raise_fault S callers (fault.Number f) (slots_of old)) old new store store r w (ap (λ (x : Outcome). truth_work S callers wanted x (slots_of old) event) e)

-- an equality of two tables asks for the handler that both have
pub truth_event : {E : Type 0} (S : Setting) (callers : List Caller) (wanted : Bool) (o : Outcome) (event : Work) (old new : Frames) (before store : StoreView) (r : Result Flow E)
    → o ≡ NeedsEvent → Works S event old before new store r → Works S (truth_work S callers wanted o (slots_of old) event) old before new store r
truth_event S callers wanted o event old new before store r e w =
    works_as S (truth_work S callers wanted o (slots_of old) event) event old new before store r w (ap (λ (x : Outcome). truth_work S callers wanted x (slots_of old) event) e)

abbrev equality_by : List Caller → Bool → Value → Value → Slots → Heap → Work
equality_by callers wanted a b s h = if is_nil (handler_of_both h a b Eq) then give_truth wanted false s else call_for_truth callers (handler_of_both h a b Eq) a b wanted s

abbrev not_less : Setting → List Caller → Heap → Value → Value → Slots → Work
not_less S callers h a b s = if is_nil (handler_of_both h a b Lt) then raise_operand S callers (comparison_fault a b) s else call_for_truth callers (handler_of_both h a b Lt) b a false s

-- by a handler, or by its absence
by_absence : (go : Value → Work) (q : Work) (found by : Value) → by ≡ found → is_nil by ≡ true → (if is_nil found then q else go found) ≡ q
by_absence go q found by e n = ap (λ (t : Bool). if t then q else go found) (ap is_nil (sym e) ∙ n)

by_presence : (go : Value → Work) (q : Work) (found by : Value) → by ≡ found → is_nil by ≡ false → (if is_nil found then q else go found) ≡ go by
by_presence go q found by e n = ap (λ (t : Bool). if t then q else go found) (ap is_nil (sym e) ∙ n) ∙ ap go (sym e)

-- without one it is false
pub unequal : {E : Type 0} (S : Setting) (callers : List Caller) (wanted : Bool) (by told a b : Value) (old new : Frames) (store : StoreView) (r : Result Flow E)
    → by ≡ handler_of_both store.heap a b Eq → is_nil by ≡ true → told ≡ value.Truth (if wanted then false else not false) → Ends (Values (told ∷ [])) old new r
    → Works S (equality_handled callers wanted a b (slots_of old)) old store new store r
unequal S callers wanted by told a b old new store r e n t w =
    looked S (equality_by callers wanted a b (slots_of old)) (give_one told (slots_of old)) old new store store r
    (by_absence (λ v. call_for_truth callers v a b wanted (slots_of old)) (give_truth wanted false (slots_of old)) (handler_of_both store.heap a b Eq) by e n ∙ ap (λ (x : Value). give_one x (slots_of old)) (sym t))
    (ends_works S (Values (told ∷ [])) old new store r w)

-- and otherwise the handler tells
pub equal_by_handler : {E : Type 0} (S : Setting) (callers : List Caller) (wanted : Bool) (by a b : Value) (old new : Frames) (before store : StoreView) (r : Result Flow E)
    → by ≡ handler_of_both before.heap a b Eq → is_nil by ≡ false → Works S (call_for_truth callers by a b wanted (slots_of old)) old before new store r
    → Works S (equality_handled callers wanted a b (slots_of old)) old before new store r
equal_by_handler S callers wanted by a b old new before store r e n w =
    looked S (equality_by callers wanted a b (slots_of old)) (call_for_truth callers by a b wanted (slots_of old)) old new before store r
    (by_presence (λ v. call_for_truth callers v a b wanted (slots_of old)) (give_truth wanted false (slots_of old)) (handler_of_both before.heap a b Eq) by e n) w

-- an order by the operator
pub order_as : {E : Type 0} (S : Setting) (callers : List Caller) (o o' : ComparisonOperator) (a b : Value) (old new : Frames) (before store : StoreView) (r : Result Flow E)
    → o ≡ o' → Works S (Look (λ h. compared_by_handler o' S callers h a b (slots_of old))) old before new store r → Works S (Look (λ h. compared_by_handler o S callers h a b (slots_of old))) old before new store r
order_as S callers o o' a b old new before store r e w = subst (λ (x : ComparisonOperator). Works S (Look (λ h. compared_by_handler x S callers h a b (slots_of old))) old before new store r) (sym e) w

-- `<` without a handler, and with one
pub unordered : {E : Type 0} (S : Setting) (callers : List Caller) (by a b : Value) (old new : Frames) (before store : StoreView) (r : Result Flow E)
    → by ≡ handler_of_both before.heap a b Lt → is_nil by ≡ true → Works S (raise_operand S callers (comparison_fault a b) (slots_of old)) old before new store r
    → Works S (less_handled S callers a b (slots_of old)) old before new store r
unordered S callers by a b old new before store r e n w =
    looked S (λ h. less_by_handler S callers h a b (slots_of old)) (raise_operand S callers (comparison_fault a b) (slots_of old)) old new before store r
    (by_absence (λ v. call_for_truth callers v a b true (slots_of old)) (raise_operand S callers (comparison_fault a b) (slots_of old)) (handler_of_both before.heap a b Lt) by e n) w

pub less_called : {E : Type 0} (S : Setting) (callers : List Caller) (by a b : Value) (old new : Frames) (before store : StoreView) (r : Result Flow E)
    → by ≡ handler_of_both before.heap a b Lt → is_nil by ≡ false → Works S (call_for_truth callers by a b true (slots_of old)) old before new store r
    → Works S (less_handled S callers a b (slots_of old)) old before new store r
less_called S callers by a b old new before store r e n w =
    looked S (λ h. less_by_handler S callers h a b (slots_of old)) (call_for_truth callers by a b true (slots_of old)) old new before store r
    (by_presence (λ v. call_for_truth callers v a b true (slots_of old)) (raise_operand S callers (comparison_fault a b) (slots_of old)) (handler_of_both before.heap a b Lt) by e n) w

-- `<=` with a handler of its own
pub at_most_called : {E : Type 0} (S : Setting) (callers : List Caller) (by a b : Value) (old new : Frames) (before store : StoreView) (r : Result Flow E)
    → by ≡ handler_of_both before.heap a b Le → is_nil by ≡ false → Works S (call_for_truth callers by a b true (slots_of old)) old before new store r
    → Works S (at_most_handled S callers a b (slots_of old)) old before new store r
at_most_called S callers by a b old new before store r e n w =
    looked S (λ h. at_most_by_handler S callers h a b (slots_of old)) (call_for_truth callers by a b true (slots_of old)) old new before store r
    (by_presence (λ v. call_for_truth callers v a b true (slots_of old)) (not_less S callers before.heap a b (slots_of old)) (handler_of_both before.heap a b Le) by e n) w

-- without one it is `not (b < a)`
pub at_most_swapped : {E : Type 0} (S : Setting) (callers : List Caller) (own by a b : Value) (old new : Frames) (before store : StoreView) (r : Result Flow E)
    → own ≡ handler_of_both before.heap a b Le → is_nil own ≡ true → by ≡ handler_of_both before.heap a b Lt → is_nil by ≡ false
    → Works S (call_for_truth callers by b a false (slots_of old)) old before new store r → Works S (at_most_handled S callers a b (slots_of old)) old before new store r
at_most_swapped S callers own by a b old new before store r o m e n w =
    looked S (λ h. at_most_by_handler S callers h a b (slots_of old)) (call_for_truth callers by b a false (slots_of old)) old new before store r
    (by_absence (λ v. call_for_truth callers v a b true (slots_of old)) (not_less S callers before.heap a b (slots_of old)) (handler_of_both before.heap a b Le) own o m
    ∙ by_presence (λ v. call_for_truth callers v b a false (slots_of old)) (raise_operand S callers (comparison_fault a b) (slots_of old)) (handler_of_both before.heap a b Lt) by e n) w

-- and without either it fails
pub at_most_unordered : {E : Type 0} (S : Setting) (callers : List Caller) (own by a b : Value) (old new : Frames) (before store : StoreView) (r : Result Flow E)
    → own ≡ handler_of_both before.heap a b Le → is_nil own ≡ true → by ≡ handler_of_both before.heap a b Lt → is_nil by ≡ true
    → Works S (raise_operand S callers (comparison_fault a b) (slots_of old)) old before new store r → Works S (at_most_handled S callers a b (slots_of old)) old before new store r
at_most_unordered S callers own by a b old new before store r o m e n w =
    looked S (λ h. at_most_by_handler S callers h a b (slots_of old)) (raise_operand S callers (comparison_fault a b) (slots_of old)) old new before store r
    (by_absence (λ v. call_for_truth callers v a b true (slots_of old)) (not_less S callers before.heap a b (slots_of old)) (handler_of_both before.heap a b Le) own o m
    ∙ by_absence (λ v. call_for_truth callers v b a false (slots_of old)) (raise_operand S callers (comparison_fault a b) (slots_of old)) (handler_of_both before.heap a b Lt) by e n) w
