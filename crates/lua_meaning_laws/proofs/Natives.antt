-- The functions of the host keep to what is known.
use Rattle.std.proofs.Common.{◌≡◌, ℕ, ◌+◌, ◌-◌, ◌/◌, nat_lt, nat_eq, ℤ, pos, negsuc, Bool, true, false, List, [], ◌∷◌, length, drop, Option, None, Some, All, refl, if◌then◌else◌}
use borrow.Author.Tests.{ltb-true}
use Rattle.std.specs.Prelude.{codes}
use Rattle.std.proofs.lemmas.List.Elements.{All-nil, All-cons, All-head, All-tail}
use Rattle.lua_values.specs.declared.values.Value.{Value}
use Rattle.lua_values.specs.declared.values.Value.TheVariants.{Nil, Truth, Number, Text, Table, Closure, Native, Thread, Null, Object}
use Rattle.lua_values.specs.Values.{is_nil}
use Rattle.lua_values.specs.Heap.{Heap}
use Rattle.lua_values.specs.NativeCalls.{NativeResult, Gives, Faults, Leaves, LeavesHeap, LeavesLawfully}
use Rattle.lua_values.specs.StoreCalls.{is_full}
use Rattle.lua_operators.specs.declared.events.Event.TheVariants.{ToString}
use Rattle.lua_operators.specs.declared.faults.Fault.TheVariants.{StorageLimit}
use Rattle.lua_operators.specs.declared.faults.OperandFault.TheVariants as operand
use Rattle.lua_operators.specs.Conversions.{number_of, text_of}
use Rattle.lua_operators.specs.Types.{type_of, is_truthy}
use Rattle.lua_meaning.specs.declared.resumes.Resumed.{Resumed}
use Rattle.lua_meaning.specs.declared.resumes.Resumed.TheVariants as resumed
use Rattle.lua_meaning.specs.Works.{Caller, Slots, Sign, Values, Return, Break, Failed, End, Look, Write, Count}
use Rattle.lua_meaning.specs.Setting.{Setting}
use Rattle.lua_meaning.specs.Over.{native_count}
use Rattle.lua_meaning.specs.Positions.{raise, raise_fault, raise_operand}
use Rattle.lua_meaning.specs.Signs.{first, give, give_one}
use Rattle.lua_meaning.specs.Metatables.{handler}
use Rattle.lua_meaning.specs.Concatenation.{with_text}
use Rattle.lua_meaning.specs.Calls.{calling, call_for_one}
use Rattle.lua_meaning.specs.ProtectedCalls.{protected, pcall_work, handled_fault, protected_by, xpcall_work}
use Rattle.lua_meaning.specs.Natives.{texts_length, raise_value, raise_at, error_work, assert_work, make_text_of, tostring_work, answer_of, result_work, library_work, native_work}
use Rattle.lua_meaning_laws.specs.Standing.{Stands, Known, StandsAfter}
use Rattle.lua_meaning_laws.specs.Lives.{AnswerKnown}
use Rattle.lua_meaning_laws.proofs.Known.{Given, SlotsKnown, SignKnown, WorkKnown, value_later, slots_later}
use Rattle.lua_meaning_laws.proofs.Readings.{either, first_known, handler_known}
use Rattle.lua_meaning_laws.proofs.Writes.{units_keep}
use Rattle.lua_meaning_laws.proofs.Going.{gives_one, calling_known, call_at_known, call_one_known}
use Rattle.lua_meaning_laws.proofs.Indexing.{one_of, two_of}

module _ (S : Setting) (G : Given S) where
  value_raised : (h : Heap) (callers : List Caller) (v : Value) (s : Slots) → Known S h v → SlotsKnown S h s → WorkKnown S h (raise_value S callers v s)
  value_raised h callers (Text text) s k sk = ((tt, tt), sk)
  value_raised h callers Nil s k sk = (k, sk)
  value_raised h callers (Truth b) s k sk = (k, sk)
  value_raised h callers (Number n) s k sk = (k, sk)
  value_raised h callers (Table t) s k sk = (k, sk)
  value_raised h callers (Closure n) s k sk = (k, sk)
  value_raised h callers (Native n) s k sk = (k, sk)
  value_raised h callers (Thread n) s k sk = (k, sk)
  value_raised h callers Null s k sk = (k, sk)
  value_raised h callers (Object o n) s k sk = (k, sk)

  -- ---- `pcall` and `xpcall`
  protected_known : (h : Heap) (sign : Sign) → SignKnown S h sign → All (Known S h) (protected sign)
  protected_known h (Values vs) k = All-cons (Known S h) (Truth true) vs (tt, tt) k
  protected_known h (Return vs) k = All-cons (Known S h) (Truth true) vs (tt, tt) k
  protected_known h Break k = one_of S G h (Truth true) (tt, tt)
  protected_known h (Failed v) k = two_of S G h (Truth false) v (tt, tt) k

  handled_known : (h : Heap) (sign : Sign) → SignKnown S h sign → All (Known S h) (handled_fault sign)
  handled_known h (Values vs) k = two_of S G h (Truth false) (first vs) (tt, tt) (first_known S G h vs k)
  handled_known h (Return vs) k = two_of S G h (Truth false) (first vs) (tt, tt) (first_known S G h vs k)
  handled_known h Break k = two_of S G h (Truth false) (first []) (tt, tt) (tt, tt)
  handled_known h (Failed v) k = two_of S G h (Truth false) v (tt, tt) k

  pcall_known : (h : Heap) (args : List Value) (callers : List Caller) (s : Slots) → All (Known S h) args → SlotsKnown S h s → WorkKnown S h (pcall_work S args callers s)
  pcall_known h [] callers s ak sk = ((tt, tt), sk)
  pcall_known h (f ∷ args) callers s ak sk =
      call_at_known S G h (calling callers false) f args (λ sign. give (protected sign) s) (calling_known S G h callers false) (All-head (Known S h) f args ak) (All-tail (Known S h) f args ak)
      (λ g sign l k. (protected_known g sign k, slots_later S G h g s l sk))

  by_known : (h : Heap) (by : Value) (callers : List Caller) (s : Slots) (sign : Sign) → Known S h by → SlotsKnown S h s → SignKnown S h sign → WorkKnown S h (protected_by by callers s sign)
  by_known h by callers s (Failed v) bk sk k =
      call_at_known S G h (calling callers false) by (v ∷ []) (λ sign. give (handled_fault sign) s) (calling_known S G h callers false) bk (one_of S G h v k)
      (λ g sign l m. (handled_known g sign m, slots_later S G h g s l sk))
  by_known h by callers s (Values vs) bk sk k = (protected_known h (Values vs) k, sk)
  by_known h by callers s (Return vs) bk sk k = (protected_known h (Return vs) k, sk)
  by_known h by callers s Break bk sk k = (protected_known h Break k, sk)

  xpcall_known : (h : Heap) (args : List Value) (callers : List Caller) (s : Slots) → All (Known S h) args → SlotsKnown S h s → WorkKnown S h (xpcall_work S args callers s)
  xpcall_known h [] callers s ak sk = ((tt, tt), sk)
  xpcall_known h (f ∷ []) callers s ak sk = ((tt, tt), sk)
  xpcall_known h (f ∷ by ∷ more) callers s ak sk =
      let bk : Known S h by = All-head (Known S h) by more (All-tail (Known S h) f (by ∷ more) ak) in
      call_at_known S G h (calling callers false) f [] (protected_by by callers s) (calling_known S G h callers false) (All-head (Known S h) f (by ∷ more) ak) (All-nil (Known S h))
      (λ g sign l k. by_known g by callers s sign (value_later S G h g by l bk) (slots_later S G h g s l sk) k)

  -- ---- `error`, `assert` and `tostring`
  raise_at_known : (h : Heap) (callers : List Caller) (level : Option ℤ) (given v : Value) (s : Slots) → Known S h v → SlotsKnown S h s → WorkKnown S h (raise_at S callers level given v s)
  raise_at_known h callers (Some (pos n)) given v s k sk =
      either (WorkKnown S h) (nat_eq n 0) (End (Failed v) s) (raise_value S (drop (n - 1) callers) v s) (k, sk) (value_raised h (drop (n - 1) callers) v s k sk)
  raise_at_known h callers (Some (negsuc n)) given v s k sk = (k, sk)
  raise_at_known h callers None given v s k sk = ((tt, tt), sk)

  error_known : (h : Heap) (args : List Value) (callers : List Caller) (s : Slots) → All (Known S h) args → SlotsKnown S h s → WorkKnown S h (error_work S args callers s)
  error_known h args callers s ak sk =
      raise_at_known h callers (if is_nil (first (drop 1 args)) then Some (pos 1) else number_of (first (drop 1 args))) (first (drop 1 args)) (first args) s (first_known S G h args ak) sk

  assert_known : (h : Heap) (args : List Value) (callers : List Caller) (s : Slots) → All (Known S h) args → SlotsKnown S h s → WorkKnown S h (assert_work S args callers s)
  assert_known h [] callers s ak sk = ((tt, tt), sk)
  assert_known h (v ∷ more) callers s ak sk =
      either (WorkKnown S h) (is_truthy v) (give (v ∷ more) s) (if is_nil (first more) then raise S callers (codes "assertion failed!") s else raise_value S callers (first more) s) (ak, sk)
      (either (WorkKnown S h) (is_nil (first more)) (raise S callers (codes "assertion failed!") s) (raise_value S callers (first more) s) ((tt, tt), sk)
      (value_raised h callers (first more) s (first_known S G h more (All-tail (Known S h) v more ak)) sk))

  made_known : (h : Heap) (callers : List Caller) (taken : ℕ) (v : Value) (s : Slots) → Stands S h → SlotsKnown S h s
      → WorkKnown S h (if is_full h (length (text_of v) + 16) then Count (taken / 64) (raise_fault S callers StorageLimit s)
      else Count ((taken + length (text_of v)) / 64) (Write (with_text h (length (text_of v))) (give_one (Text (text_of v)) s)))
  made_known h callers taken v s st sk =
      let g : Heap = with_text h (length (text_of v)) in
      let l : StandsAfter S h g = units_keep S G h (h.units + (length (text_of v) + 16)) st in
      either (WorkKnown S h) (is_full h (length (text_of v) + 16)) (Count (taken / 64) (raise_fault S callers StorageLimit s))
      (Count ((taken + length (text_of v)) / 64) (Write g (give_one (Text (text_of v)) s))) ((tt, tt), sk) (l, gives_one S G g (Text (text_of v)) s (tt, tt) (slots_later S G h g s l sk))

  text_known : (h : Heap) (callers : List Caller) (taken : ℕ) (v : Value) (s : Slots) → Stands S h → SlotsKnown S h s → WorkKnown S h (make_text_of S callers taken h v s)
  text_known h callers taken (Text text) s st sk = gives_one S G h (Text text) s (tt, tt) sk
  text_known h callers taken Nil s st sk = made_known h callers taken Nil s st sk
  text_known h callers taken (Truth b) s st sk = made_known h callers taken (Truth b) s st sk
  text_known h callers taken (Number n) s st sk = made_known h callers taken (Number n) s st sk
  text_known h callers taken (Table t) s st sk = made_known h callers taken (Table t) s st sk
  text_known h callers taken (Closure n) s st sk = made_known h callers taken (Closure n) s st sk
  text_known h callers taken (Native n) s st sk = made_known h callers taken (Native n) s st sk
  text_known h callers taken (Thread n) s st sk = made_known h callers taken (Thread n) s st sk
  text_known h callers taken Null s st sk = made_known h callers taken Null s st sk
  text_known h callers taken (Object o n) s st sk = made_known h callers taken (Object o n) s st sk

  tostring_known : (h : Heap) (args : List Value) (callers : List Caller) (s : Slots) → Stands S h → All (Known S h) args → SlotsKnown S h s → WorkKnown S h (tostring_work S args callers s)
  tostring_known h [] callers s st ak sk = ((tt, tt), sk)
  tostring_known h (v ∷ more) callers s st ak sk =
      let vk : Known S h v = All-head (Known S h) v more ak in
      either (WorkKnown S h) (is_nil (handler h v ToString)) (make_text_of S callers (texts_length (v ∷ more)) h v s)
      (Count (texts_length (v ∷ more) / 64) (call_for_one callers (handler h v ToString) (v ∷ []) s give_one))
      (text_known h callers (texts_length (v ∷ more)) v s st sk)
      (call_one_known S G h callers (handler h v ToString) (v ∷ []) s give_one (handler_known S G h v ToString st) (one_of S G h v vk) sk (λ g x s' l xk sk'. gives_one S G g x s' xk sk'))

  -- ---- the functions of the setting
  left_standing : (h g : Heap) → Stands S h → LeavesHeap (native_count S) h g → StandsAfter S h g
  left_standing h g st l = record { stands = record { fits = l.fits; over = record { closures = rw l.closures st.over.closures; natives = l.natives } }; frozen = l.frozen }

  answer_known : (h : Heap) (callers : List Caller) (answer : Resumed) (s : Slots) → AnswerKnown S h answer → SlotsKnown S h s → WorkKnown S h (answer_of S callers s answer)
  answer_known h callers (resumed.Values vs) s k sk = (k, sk)
  answer_known h callers (resumed.Raise text) s k sk = ((tt, tt), sk)

  result_known : (h : Heap) (number : ℕ) (args : List Value) (callers : List Caller) (r : NativeResult) (s : Slots) → Stands S h → All (Known S h) args → LeavesLawfully (native_count S) h r → SlotsKnown S h s
      → WorkKnown S h (result_work S number args callers r s)
  result_known h number args callers (Gives vs g n) s st ak l sk = let m = left_standing h g st l.0 in (m, (l.1, slots_later S G h g s m sk))
  result_known h number args callers (Faults v g n) s st ak l sk = let m = left_standing h g st l.0 in (m, value_raised g callers v s l.1 (slots_later S G h g s m sk))
  result_known h number args callers (Leaves n) s st ak l sk = (ak, λ g answer m gk. answer_known g callers answer s gk (slots_later S G h g s m sk))

  library_known : (h : Heap) (number : ℕ) (args : List Value) (callers : List Caller) (s : Slots) → Stands S h → All (Known S h) args → SlotsKnown S h s → WorkKnown S h (library_work S number args callers s)
  library_known h number args callers s st ak sk = by (nat_lt number S.count) refl
    where
      by : (b : Bool) → nat_lt number S.count ≡ b → WorkKnown S h (if b then Look (λ g. result_work S number args callers (S.lib number args g) s) else raise_operand S callers (operand.Call (type_of Nil)) s)
      by true e = result_known h number args callers (S.lib number args h) s st ak (G.lawful number args h (ltb-true number S.count e) st.fits st.over.natives ak) sk
      by false e = ((tt, tt), sk)

  pub native_known : (h : Heap) (n : ℕ) (args : List Value) (callers : List Caller) (s : Slots) → Stands S h → All (Known S h) args → SlotsKnown S h s → WorkKnown S h (native_work S n args callers s)
  native_known h n args callers s st ak sk = by (nat_eq n 0) (nat_eq n 1) (nat_eq n 2) (nat_eq n 3) (nat_eq n 4)
    where
      by : (a b c d e : Bool) → WorkKnown S h (if a then Count (texts_length args / 64) (pcall_work S args callers s)
          else if b then Count (texts_length args / 64) (xpcall_work S args callers s)
          else if c then Count (texts_length args / 64) (error_work S args callers s)
          else if d then Count (texts_length args / 64) (assert_work S args callers s)
          else if e then tostring_work S args callers s
          else library_work S (n - 5) args callers s)
      by true b c d e = pcall_known h args callers s ak sk
      by false true c d e = xpcall_known h args callers s ak sk
      by false false true d e = error_known h args callers s ak sk
      by false false false true e = assert_known h args callers s ak sk
      by false false false false true = tostring_known h args callers s st ak sk
      by false false false false false = library_known h (n - 5) args callers s st ak sk
