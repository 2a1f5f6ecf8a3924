-- What an operator comes to by its outcome on plain values, and by the handler that its operands have.
use Rattle.std.specs.Prelude.{◌≡◌, ℕ, List, [], ◌∷◌, if◌then◌else◌, Bool, true, false, Result, refl}
use Rattle.std.proofs.Common.{sym, ap}
use Rattle.lua_numbers.specs.declared.faults.NumFault.{NumFault}
use Rattle.lua_values.specs.declared.values.Value.{Value}
use Rattle.lua_values.specs.Values.{is_nil}
use Rattle.lua_values.specs.Heap.{Heap, StoreView}
use Rattle.lua_operators.specs.declared.faults.Fault.TheVariants as fault
use Rattle.lua_operators.specs.declared.faults.OperandFault.{OperandFault}
use Rattle.lua_operators.specs.declared.outcome.Outcome.{Outcome}
use Rattle.lua_operators.specs.declared.outcome.Outcome.TheVariants.{Gives, NeedsEvent, Faults}
use Rattle.lua_meaning.specs.Works.{Caller, Values, Work, Look}
use Rattle.lua_meaning.specs.Evaluator.{do_work}
use Rattle.lua_meaning.specs.Setting.{Setting}
use Rattle.lua_meaning.specs.Positions.{callers_at, raise_fault, raise_operand}
use Rattle.lua_meaning.specs.Signs.{give_one}
use Rattle.lua_meaning.specs.Calls.{call_for_one}
use Rattle.lua_meaning.specs.Arithmetic.{handled, outcome_work}
use Rattle.lua_meaning.specs.Nodes.{eval}
use Rattle.lua_frames.specs.declared.flow.Flow.{Flow}
use Rattle.lua_frames.specs.declared.threads.Frames.{Frames}
use Rattle.lua_frames.specs.Frames.{here, slots_of}
use Rattle.lua_frames.specs.Follows.{Works}
use Rattle.lua_frames.specs.Changes.{Ends}
use Rattle.lua_frames.proofs.FollowLemmas.{works_as, works_by, works_from, ends_works}

-- it gives a value, faults, or needs an event
pub outcome_gives : {E : Type 0} (S : Setting) (callers : List Caller) (o : Outcome) (v : Value) (event : Work) (old new : Frames) (store : StoreView) (r : Result Flow E)
    → o ≡ Gives v → Ends (Values (v ∷ [])) old new r → Works S (outcome_work S callers o (slots_of old) event) old store new store r
outcome_gives S callers o v event old new store r e w =
    works_as S (outcome_work S callers o (slots_of old) event) (give_one v (slots_of old)) old new store store r (ends_works S (Values (v ∷ [])) old new store r w)
    (ap (λ (t : Outcome). outcome_work S callers t (slots_of old) event) e)

pub outcome_faults : {E : Type 0} (S : Setting) (callers : List Caller) (o : Outcome) (f : NumFault) (event : Work) (old new : Frames) (store : StoreView) (r : Result Flow E)
    → o ≡ Faults f → Works S (raise_fault S callers (fault.Number f) (slots_of old)) old store new store r → Works S (outcome_work S callers o (slots_of old) event) old store new store r
outcome_faults S callers o f event old new store r e w =
    works_as S (outcome_work S callers o (slots_of old) event) (raise_fault S callers (fault.Number f) (slots_of old)) old new store store r w (ap (λ (t : Outcome). outcome_work S callers t (slots_of old) event) e)

pub outcome_event : {E : Type 0} (S : Setting) (callers : List Caller) (o : Outcome) (event : Work) (old new : Frames) (before store : StoreView) (r : Result Flow E)
    → o ≡ NeedsEvent → Works S event old before new store r → Works S (outcome_work S callers o (slots_of old) event) old before new store r
outcome_event S callers o event old new before store r e w =
    works_as S (outcome_work S callers o (slots_of old) event) event old new before store r w (ap (λ (t : Outcome). outcome_work S callers t (slots_of old) event) e)

-- the heap is looked at
pub looked : {E : Type 0} (S : Setting) (go : Heap → Work) (q : Work) (old new : Frames) (before store : StoreView) (r : Result Flow E) → go before.heap ≡ q → Works S q old before new store r → Works S (Look go) old before new store r
looked S go q old new before store r e w =
    works_by S (Look go) q old new before before store r (λ rs. ap (λ (t : Work). do_work (eval S) t (record { store = before; resumes = rs })) e) w

-- the handler in a heap is this one, and it takes these operands, in frames whose lists alone have changed
pub event_handled : {E : Type 0} (S : Setting) (line : ℕ) (found : Heap → Value) (by : Value) (args operands : List Value) (f g : OperandFault) (old listed new : Frames) (before store : StoreView) (r : Result Flow E)
    → by ≡ found before.heap → args ≡ operands → f ≡ g → listed.below ≡ old.below → listed.top ≡ old.top → Works S (handled S (callers_at (here listed) line) by args f (slots_of listed)) listed before new store r
    → Works S (Look (λ h. handled S (callers_at (here old) line) (found h) operands g (slots_of old))) old before new store r
event_handled S line found by args operands f g old listed new before store r e a k b t w =
    looked S (λ h. handled S (callers_at (here old) line) (found h) operands g (slots_of old)) (handled S (callers_at (here old) line) by operands g (slots_of old)) old new before store r
    (ap (λ (v : Value). handled S (callers_at (here old) line) v operands g (slots_of old)) (sym e))
    (works_as S (handled S (callers_at (here old) line) by operands g (slots_of old)) (handled S (callers_at (here listed) line) by args f (slots_of listed)) old new before store r
    (works_from S (handled S (callers_at (here listed) line) by args f (slots_of listed)) old listed new before store r b t w)
    (rw (b, t, a, k) refl))

-- without a handler the operator fails
pub no_handler : {E : Type 0} (S : Setting) (callers : List Caller) (by : Value) (operands : List Value) (f : OperandFault) (old new : Frames) (before store : StoreView) (r : Result Flow E)
    → is_nil by ≡ true → Works S (raise_operand S callers f (slots_of old)) old before new store r → Works S (handled S callers by operands f (slots_of old)) old before new store r
no_handler S callers by operands f old new before store r e w =
    works_as S (handled S callers by operands f (slots_of old)) (raise_operand S callers f (slots_of old)) old new before store r w
    (ap (λ (t : Bool). if t then raise_operand S callers f (slots_of old) else call_for_one callers by operands (slots_of old) give_one) e)

-- and a handler is called
pub has_handler : {E : Type 0} (S : Setting) (callers : List Caller) (by : Value) (operands : List Value) (f : OperandFault) (old new : Frames) (before store : StoreView) (r : Result Flow E)
    → is_nil by ≡ false → Works S (call_for_one callers by operands (slots_of old) give_one) old before new store r → Works S (handled S callers by operands f (slots_of old)) old before new store r
has_handler S callers by operands f old new before store r e w =
    works_as S (handled S callers by operands f (slots_of old)) (call_for_one callers by operands (slots_of old) give_one) old new before store r w
    (ap (λ (t : Bool). if t then raise_operand S callers f (slots_of old) else call_for_one callers by operands (slots_of old) give_one) e)
