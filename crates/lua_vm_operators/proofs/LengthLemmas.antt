-- Lengths of texts and tables.
use Rattle.std.specs.Prelude.{◌≡◌, ℕ, ℤ, pos, List, [], ◌∷◌, length, Result, Ok, Err, refl}
use Rattle.std.proofs.Common.{sym, ◌∙◌, ap}
use Rattle.lua_numbers.specs.declared.faults.NumFault.{NumFault}
use Rattle.lua_numbers.specs.Arithmetic.{within_range}
use Rattle.lua_values.specs.declared.values.Value.{Value}
use Rattle.lua_values.specs.declared.values.Value.TheVariants as value
use Rattle.lua_values.specs.Values.{number}
use Rattle.lua_values.specs.Heap.{StoreView}
use Rattle.lua_values.specs.Border.{border_of}
use Rattle.lua_values.specs.StoreCalls.{pairs_of}
use Rattle.lua_operators.specs.declared.faults.Fault.TheVariants as fault
use Rattle.lua_operators.specs.declared.faults.OperandFault.TheVariants as operand
use Rattle.lua_operators.specs.declared.types.LuaType.{LuaType}
use Rattle.lua_operators.specs.Arithmetic.{outcome_of}
use Rattle.lua_operators.specs.Types.{type_of}
use Rattle.lua_meaning.specs.Works.{Caller, Values, Slots, Look}
use Rattle.lua_meaning.specs.Setting.{Setting}
use Rattle.lua_meaning.specs.Positions.{raise_fault, raise_operand}
use Rattle.lua_meaning.specs.Signs.{give_one}
use Rattle.lua_meaning.specs.Arithmetic.{outcome_work}
use Rattle.lua_meaning.specs.Operators.{length_work}
use Rattle.lua_frames.specs.declared.flow.Flow.{Flow}
use Rattle.lua_frames.specs.declared.threads.Frames.{Frames}
use Rattle.lua_frames.specs.Frames.{slots_of}
use Rattle.lua_frames.specs.Follows.{Works}
use Rattle.lua_frames.specs.Changes.{Ends}
use Rattle.lua_frames.proofs.FollowLemmas.{works_as, ends_works}
use Rattle.lua_vm_operators.proofs.OutcomeLemmas.{looked}

-- the work of a text, by the number of its bytes
of_text : (S : Setting) (callers : List Caller) (a : Value) (text bytes : List ℕ) (told : Result ℤ NumFault) (s : Slots) → a ≡ value.Text text → bytes ≡ text → told ≡ within_range (pos (length bytes))
    → length_work S callers a s ≡ outcome_work S callers (outcome_of told) s (give_one (number 0) s)
of_text S callers a text bytes told s e b t =
    ap (λ (v : Value). length_work S callers v s) e
    ∙ ap (λ (x : Result ℤ NumFault). outcome_work S callers (outcome_of x) s (give_one (number 0) s)) (sym (t ∙ ap (λ (bs : List ℕ). within_range (pos (length bs))) b))

-- a text has so many bytes
pub text_measured : {E : Type 0} (S : Setting) (callers : List Caller) (a : Value) (text bytes : List ℕ) (n : ℤ) (old new : Frames) (store : StoreView) (r : Result Flow E)
    → a ≡ value.Text text → bytes ≡ text → Ok n ≡ within_range (pos (length bytes)) → Ends (Values (value.Number n ∷ [])) old new r → Works S (length_work S callers a (slots_of old)) old store new store r
text_measured S callers a text bytes n old new store r e b t w =
    works_as S (length_work S callers a (slots_of old)) (give_one (value.Number n) (slots_of old)) old new store store r (ends_works S (Values (value.Number n ∷ [])) old new store r w)
    (of_text S callers a text bytes (Ok n) (slots_of old) e b t)

-- or more than a number tells
pub text_too_long : {E : Type 0} (S : Setting) (callers : List Caller) (a : Value) (text bytes : List ℕ) (f : NumFault) (old new : Frames) (store : StoreView) (r : Result Flow E)
    → a ≡ value.Text text → bytes ≡ text → Err f ≡ within_range (pos (length bytes)) → Works S (raise_fault S callers (fault.Number f) (slots_of old)) old store new store r → Works S (length_work S callers a (slots_of old)) old store new store r
text_too_long S callers a text bytes f old new store r e b t w =
    works_as S (length_work S callers a (slots_of old)) (raise_fault S callers (fault.Number f) (slots_of old)) old new store store r w (of_text S callers a text bytes (Err f) (slots_of old) e b t)

-- the border of a table
pub table_measured : {E : Type 0} (S : Setting) (callers : List Caller) (a : Value) (t border : ℕ) (old new : Frames) (store : StoreView) (r : Result Flow E)
    → a ≡ value.Table t → border ≡ border_of (pairs_of store.heap t) → Works S (give_one (number border) (slots_of old)) old store new store r → Works S (length_work S callers a (slots_of old)) old store new store r
table_measured S callers a t border old new store r e b w =
    works_as S (length_work S callers a (slots_of old)) (Look (λ h. give_one (number (border_of (pairs_of h t))) (slots_of old))) old new store store r
    (looked S (λ h. give_one (number (border_of (pairs_of h t))) (slots_of old)) (give_one (number border) (slots_of old)) old new store store r (ap (λ (n : ℕ). give_one (number n) (slots_of old)) (sym b)) w)
    (ap (λ (v : Value). length_work S callers v (slots_of old)) e)

no_length : (S : Setting) (callers : List Caller) (a : Value) (s : Slots) → ((text : List ℕ) → a ≡ value.Text text → ⊥) → ((t : ℕ) → a ≡ value.Table t → ⊥) → length_work S callers a s ≡ raise_operand S callers (operand.Length (type_of a)) s
no_length S callers value.Nil s k j = refl
no_length S callers (value.Truth t) s k j = refl
no_length S callers (value.Number n) s k j = refl
no_length S callers (value.Text t) s k j = absurd (k t refl)
no_length S callers (value.Table t) s k j = absurd (j t refl)
no_length S callers (value.Closure n) s k j = refl
no_length S callers (value.Native n) s k j = refl
no_length S callers (value.Thread n) s k j = refl
no_length S callers value.Null s k j = refl
no_length S callers (value.Object n m) s k j = refl

-- any other value has no length
pub not_measured : {E : Type 0} (S : Setting) (callers : List Caller) (a : Value) (type : LuaType) (old new : Frames) (store : StoreView) (r : Result Flow E)
    → ((text : List ℕ) → a ≡ value.Text text → ⊥) → ((t : ℕ) → a ≡ value.Table t → ⊥) → type ≡ type_of a
    → Works S (raise_operand S callers (operand.Length type) (slots_of old)) old store new store r → Works S (length_work S callers a (slots_of old)) old store new store r
not_measured S callers a type old new store r k j t w =
    works_as S (length_work S callers a (slots_of old)) (raise_operand S callers (operand.Length type) (slots_of old)) old new store store r w
    (no_length S callers a (slots_of old) k j ∙ ap (λ (x : LuaType). raise_operand S callers (operand.Length x) (slots_of old)) (sym t))
