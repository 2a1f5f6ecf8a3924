-- `t[k]` and `t[k] = x` keep to what is known.
use Rattle.std.proofs.Common.{ℕ, List, [], ◌∷◌, All, if◌then◌else◌}
use Rattle.std.proofs.lemmas.List.Elements.{All-nil, All-cons}
use Rattle.lua_values.specs.declared.values.Value.{Value}
use Rattle.lua_values.specs.declared.values.Value.TheVariants.{Nil, Truth, Number, Text, Table, Closure, Native, Thread, Null, Object}
use Rattle.lua_values.specs.Values.{is_nil}
use Rattle.lua_values.specs.Heap.{Heap}
use Rattle.lua_values.specs.StoreCalls.{set_cause, with_pair}
use Rattle.lua_operators.specs.declared.events.Event.TheVariants.{Index, NewIndex}
use Rattle.lua_operators.specs.declared.faults.OperandFault.TheVariants as operand
use Rattle.lua_operators.specs.Types.{type_of}
use Rattle.lua_meaning.specs.Works.{Caller, Places, Slots, AnIndex, AStore, Work, End, Eval, Write}
use Rattle.lua_meaning.specs.Setting.{Setting}
use Rattle.lua_meaning.specs.Positions.{callers_at, raise_operand}
use Rattle.lua_meaning.specs.Signs.{give, give_one}
use Rattle.lua_meaning.specs.Variables.{table_fault}
use Rattle.lua_meaning.specs.Metatables.{handler, is_function}
use Rattle.lua_meaning.specs.Calls.{call_for_one}
use Rattle.lua_meaning.specs.Indexing.{raw_value, is_table, index_by, index_without, index_work, set_work, set_raw, store_by, store_work}
use Rattle.lua_meaning_laws.specs.Standing.{Stands, Known, StandsAfter}
use Rattle.lua_meaning_laws.proofs.Known.{Given, SlotsKnown, PlacesKnown, WorkKnown, slots_later}
use Rattle.lua_meaning_laws.proofs.Readings.{either, raw_known, handler_known}
use Rattle.lua_meaning_laws.proofs.Writes.{pair_keeps}
use Rattle.lua_meaning_laws.proofs.Going.{gives_one, unless_known, ends_known, call_one_known}

module _ (S : Setting) (G : Given S) where
  -- one, two or three values
  pub one_of : (h : Heap) (a : Value) → Known S h a → All (Known S h) (a ∷ [])
  one_of h a k = All-cons (Known S h) a [] k (All-nil (Known S h))

  pub two_of : (h : Heap) (a b : Value) → Known S h a → Known S h b → All (Known S h) (a ∷ b ∷ [])
  two_of h a b k m = All-cons (Known S h) a (b ∷ []) k (one_of h b m)

  pub three_of : (h : Heap) (a b c : Value) → Known S h a → Known S h b → Known S h c → All (Known S h) (a ∷ b ∷ c ∷ [])
  three_of h a b c k m n = All-cons (Known S h) a (b ∷ c ∷ []) k (two_of h b c m n)

  by_known : (h : Heap) (by : Value) (line : ℕ) (v key : Value) (p : Places) (s : Slots) → Known S h by → Known S h v → Known S h key → PlacesKnown S h p → SlotsKnown S h s
      → WorkKnown S h (index_by by line v key p s)
  by_known h by line v key p s bk vk kk pk sk =
      either (WorkKnown S h) (is_function by) (call_for_one (callers_at p line) by (v ∷ key ∷ []) s give_one) (Eval (AnIndex line by key) p s (λ sign s'. End sign s'))
      (call_one_known S G h (callers_at p line) by (v ∷ key ∷ []) s give_one bk (two_of h v key vk kk) sk (λ g x s' l xk sk'. gives_one S G g x s' xk sk'))
      (ends_known S G h (AnIndex line by key) p s (bk, kk) pk sk)

  without_known : (h : Heap) (by : Value) (line : ℕ) (v key : Value) (p : Places) (s : Slots) → Known S h by → Known S h v → Known S h key → PlacesKnown S h p → SlotsKnown S h s
      → WorkKnown S h (index_without S by line v key p s)
  without_known h by line v key p s bk vk kk pk sk =
      either (WorkKnown S h) (is_nil by) (if is_table v then give_one Nil s else raise_operand S (callers_at p line) (operand.Index (type_of v)) s) (index_by by line v key p s)
      (either (WorkKnown S h) (is_table v) (give_one Nil s) (raise_operand S (callers_at p line) (operand.Index (type_of v)) s) (gives_one S G h Nil s (tt, tt) sk) ((tt, tt), sk))
      (by_known h by line v key p s bk vk kk pk sk)

  pub index_known : (h : Heap) (line : ℕ) (v key : Value) (p : Places) (s : Slots) → Stands S h → Known S h v → Known S h key → PlacesKnown S h p → SlotsKnown S h s
      → WorkKnown S h (index_work S line v key p s)
  index_known h line v key p s st vk kk pk sk =
      either (WorkKnown S h) (is_nil (raw_value h v key)) (index_without S (handler h v Index) line v key p s) (give_one (raw_value h v key) s)
      (without_known h (handler h v Index) line v key p s (handler_known S G h v Index st) vk kk pk sk) (gives_one S G h (raw_value h v key) s (raw_known S G h v key st) sk)

  pub set_known : (h : Heap) (callers : List Caller) (t : ℕ) (key x : Value) (s : Slots) (go : Work) → Stands S h → Known S h key → Known S h x → SlotsKnown S h s
      → ((g : Heap) → StandsAfter S h g → WorkKnown S g go) → WorkKnown S h (set_work S callers t key x s go)
  set_known h callers t key x s go st kk xk sk each =
      unless_known S G h callers table_fault (set_cause h t key x) s (Write (with_pair h t key x) go) sk (λ e.
      let l : StandsAfter S h (with_pair h t key x) = pair_keeps S G h t key x st kk xk e in (l, each (with_pair h t key x) l))

  raw_set_known : (h : Heap) (line : ℕ) (v key x : Value) (p : Places) (s : Slots) → Stands S h → Known S h key → Known S h x → SlotsKnown S h s → WorkKnown S h (set_raw S line v key x p s)
  raw_set_known h line (Table t) key x p s st kk xk sk = set_known h (callers_at p line) t key x s (give [] s) st kk xk sk (λ g l. (All-nil (Known S g), slots_later S G h g s l sk))
  raw_set_known h line Nil key x p s st kk xk sk = ((tt, tt), sk)
  raw_set_known h line (Truth b) key x p s st kk xk sk = ((tt, tt), sk)
  raw_set_known h line (Number n) key x p s st kk xk sk = ((tt, tt), sk)
  raw_set_known h line (Text t) key x p s st kk xk sk = ((tt, tt), sk)
  raw_set_known h line (Closure n) key x p s st kk xk sk = ((tt, tt), sk)
  raw_set_known h line (Native n) key x p s st kk xk sk = ((tt, tt), sk)
  raw_set_known h line (Thread n) key x p s st kk xk sk = ((tt, tt), sk)
  raw_set_known h line Null key x p s st kk xk sk = ((tt, tt), sk)
  raw_set_known h line (Object k n) key x p s st kk xk sk = ((tt, tt), sk)

  store_by_known : (h : Heap) (by : Value) (line : ℕ) (v key x : Value) (p : Places) (s : Slots) → Known S h by → Known S h v → Known S h key → Known S h x → PlacesKnown S h p → SlotsKnown S h s
      → WorkKnown S h (store_by by line v key x p s)
  store_by_known h by line v key x p s bk vk kk xk pk sk =
      either (WorkKnown S h) (is_function by) (call_for_one (callers_at p line) by (v ∷ key ∷ x ∷ []) s (λ dropped s'. give [] s')) (Eval (AStore line by key x) p s (λ sign s'. End sign s'))
      (call_one_known S G h (callers_at p line) by (v ∷ key ∷ x ∷ []) s (λ dropped s'. give [] s') bk (three_of h v key x vk kk xk) sk (λ g y s' l yk sk'. (All-nil (Known S g), sk')))
      (ends_known S G h (AStore line by key x) p s (bk, kk, xk) pk sk)

  pub store_known : (h : Heap) (line : ℕ) (v key x : Value) (p : Places) (s : Slots) → Stands S h → Known S h v → Known S h key → Known S h x → PlacesKnown S h p → SlotsKnown S h s
      → WorkKnown S h (store_work S line v key x p s)
  store_known h line v key x p s st vk kk xk pk sk =
      either (WorkKnown S h) (is_nil (raw_value h v key))
      (if is_nil (handler h v NewIndex) then set_raw S line v key x p s else store_by (handler h v NewIndex) line v key x p s) (set_raw S line v key x p s)
      (either (WorkKnown S h) (is_nil (handler h v NewIndex)) (set_raw S line v key x p s) (store_by (handler h v NewIndex) line v key x p s)
      (raw_set_known h line v key x p s st kk xk sk) (store_by_known h (handler h v NewIndex) line v key x p s (handler_known S G h v NewIndex st) vk kk xk pk sk))
      (raw_set_known h line v key x p s st kk xk sk)
