-- Expressions keep to what is known.
use Rattle.std.proofs.Common.{◌≡◌, ℕ, ◌+◌, ◌<◌, true, false, List, [], ◌∷◌, length, None, slice_get, All, arith, length-append, if◌then◌else◌}
use Rattle.std.proofs.lemmas.List.Elements.{All-cons, All-head, All-tail}
use Rattle.resty_base.specs.ListLaws.{read_some}
use Rattle.lua_ast.specs.declared.expressions.Expr.{Expr}
use Rattle.lua_ast.specs.declared.expressions.ExprKind.{ExprKind}
use Rattle.lua_ast.specs.declared.expressions.ExprKind.TheOpen.{ExprKind-F}
use Rattle.lua_ast.specs.declared.expressions.ExprKind.TheOpen as e
use Rattle.lua_ast.specs.declared.expressions.TableItem.{TableItem}
use Rattle.lua_ast.specs.declared.expressions.TableItem as item
use Rattle.lua_values.specs.declared.values.Value.{Value}
use Rattle.lua_values.specs.declared.values.Value.TheVariants.{Nil, Truth, Number, Text, Table}
use Rattle.lua_values.specs.Values.{number}
use Rattle.lua_values.specs.Heap.{Heap, TableView}
use Rattle.lua_values.specs.StoreCalls.{full_cause, with_table}
use Rattle.lua_operators.specs.Types.{is_truthy}
use Rattle.lua_meaning.specs.Works.{Caller, Places, Slots, AnExpr, Work, Write, and_then}
use Rattle.lua_meaning.specs.Setting.{Setting}
use Rattle.lua_meaning.specs.Positions.{callers_at}
use Rattle.lua_meaning.specs.Signs.{first, give_one, on_values, value}
use Rattle.lua_meaning.specs.Variables.{table_fault, in_slot, in_cell}
use Rattle.lua_meaning.specs.Calls.{call}
use Rattle.lua_meaning.specs.Indexing.{index_work, set_work}
use Rattle.lua_meaning.specs.Operators.{unary_work, binary_work}
use Rattle.lua_meaning.specs.Tables.{fill, expr_of, items_work, constructor_work}
use Rattle.lua_meaning.specs.Expressions.{first_extra, call_work, method_work, expr_work, value_work}
use Rattle.lua_meaning_laws.specs.Standing.{Stands, Known, StandsAfter}
use Rattle.lua_meaning_laws.proofs.Known.{Given, SlotKnown, SlotsKnown, PlacesKnown, ExprIn, WorkKnown, later_heap, value_later, values_later, slots_later, places_later}
use Rattle.lua_meaning_laws.proofs.Parts.{ItemIn, ExprParts}
use Rattle.lua_meaning_laws.proofs.Readings.{either, in_slot_known, in_cell_known, first_known}
use Rattle.lua_meaning_laws.proofs.Writes.{table_keeps}
use Rattle.lua_meaning_laws.proofs.Going.{gives_one, unless_known, eval_known, value_known, then_values, with_values_known, call_known}
use Rattle.lua_meaning_laws.proofs.Indexing.{index_known, set_known}
use Rattle.lua_meaning_laws.proofs.Operators.{binary_known, unary_known}
use Rattle.lua_meaning_laws.proofs.Closures.{closure_known}

module _ (S : Setting) (G : Given S) where
  given_one : (h g : Heap) (v : Value) (s : Slots) → StandsAfter S h g → Known S g v → SlotsKnown S g s → WorkKnown S g (give_one v s)
  given_one h g v s l k sk = gives_one S G g v s k sk

  -- ---- table constructors
  fill_known : (h : Heap) (callers : List Caller) (t n : ℕ) (vs : List Value) (s : Slots) (go : Work) → Stands S h → All (Known S h) vs → SlotsKnown S h s
      → ((g : Heap) → StandsAfter S h g → WorkKnown S g go) → WorkKnown S h go → WorkKnown S h (fill S callers t n vs s go)
  fill_known h callers t n [] s go st vk sk each now = now
  fill_known h callers t n (v ∷ vs) s go st vk sk each now =
      set_known S G h callers t (number n) v s (fill S callers t (n + 1) vs s go) st (tt, tt) (All-head (Known S h) v vs vk) sk (λ g l.
      fill_known g callers t (n + 1) vs s go l.stands (values_later S G h g vs l (All-tail (Known S h) v vs vk)) (slots_later S G h g s l sk) (λ g' l'. each g' (later_heap S G h g g' l l')) (each g l))

  items_known : (h : Heap) (line t n : ℕ) (items : List TableItem) (p : Places) (s : Slots) → Stands S h → t < length h.tables → All (ItemIn S) items → PlacesKnown S h p → SlotsKnown S h s
      → WorkKnown S h (items_work S line t n items p s)
  items_known h line t n [] p s st there w pk sk = gives_one S G h (Table t) s (there, tt) sk
  items_known h line t n (item.Pair' l k m j ∷ items) p s st there w pk sk =
      let one : ItemIn S (item.Pair' l k m j) = All-head (ItemIn S) (item.Pair' l k m j) items w in
      value_known S G h (expr_of l k) p s (λ key s'. value (expr_of m j) p s' (λ v s''. set_work S (callers_at p line) t key v s'' (items_work S line t n items p s''))) one.0 pk sk (λ g key s' l1 kk sk1.
      value_known S G g (expr_of m j) p s' (λ v s''. set_work S (callers_at p line) t key v s'' (items_work S line t n items p s'')) one.1 (places_later S G h g p l1 pk) sk1 (λ g2 v s'' l2 vk sk2.
      set_known S G g2 (callers_at p line) t key v s'' (items_work S line t n items p s'') l2.stands (value_later S G g g2 key l2 kk) vk sk2 (λ g3 l3.
      let all : StandsAfter S h g3 = later_heap S G h g2 g3 (later_heap S G h g g2 l1 l2) l3 in
      items_known g3 line t n items p s'' l3.stands (omega (arith, there, all.frozen.no_shorter.tables)) (All-tail (ItemIn S) (item.Pair' l k m j) items w) (places_later S G h g3 p all pk) (slots_later S G g2 g3 s'' l3 sk2))))
  items_known h line t n (item.Item' l k ∷ []) p s st there w pk sk =
      eval_known S G h (AnExpr (expr_of l k)) p s (λ vs s'. fill S (callers_at p line) t n vs s' (give_one (Table t) s')) (All-head (ItemIn S) (item.Item' l k) [] w) pk sk (λ g vs s' l1 vk sk1.
      let still : t < length g.tables = omega (arith, there, l1.frozen.no_shorter.tables) in
      fill_known g (callers_at p line) t n vs s' (give_one (Table t) s') l1.stands vk sk1
      (λ g2 l2. gives_one S G g2 (Table t) s' (omega (arith, still, l2.frozen.no_shorter.tables), tt) (slots_later S G g g2 s' l2 sk1)) (gives_one S G g (Table t) s' (still, tt) sk1))
  items_known h line t n (item.Item' l k ∷ i ∷ items) p s st there w pk sk =
      value_known S G h (expr_of l k) p s (λ v s'. set_work S (callers_at p line) t (number n) v s' (items_work S line t (n + 1) (i ∷ items) p s')) (All-head (ItemIn S) (item.Item' l k) (i ∷ items) w) pk sk (λ g v s' l1 vk sk1.
      set_known S G g (callers_at p line) t (number n) v s' (items_work S line t (n + 1) (i ∷ items) p s') l1.stands (tt, tt) vk sk1 (λ g2 l2.
      let all : StandsAfter S h g2 = later_heap S G h g g2 l1 l2 in
      items_known g2 line t (n + 1) (i ∷ items) p s' l2.stands (omega (arith, there, all.frozen.no_shorter.tables)) (All-tail (ItemIn S) (item.Item' l k) (i ∷ items) w) (places_later S G h g2 p all pk) (slots_later S G g g2 s' l2 sk1)))

  constructor_known : (h : Heap) (line : ℕ) (items : List TableItem) (p : Places) (s : Slots) → Stands S h → All (ItemIn S) items → PlacesKnown S h p → SlotsKnown S h s
      → WorkKnown S h (constructor_work S line items p s)
  constructor_known h line items p s st w pk sk =
      unless_known S G h (callers_at p line) table_fault (full_cause h 32) s (Write (with_table h) (items_work S line (length h.tables) 1 items p s)) sk (λ q.
      let l : StandsAfter S h (with_table h) = table_keeps S G h st in
      let table : TableView = record { pairs = []; meta = None } in
      let count : length (with_table h).tables ≡ length h.tables + 1 = length-append h.tables (table ∷ []) in
      let last : length h.tables < length (with_table h).tables = omega (arith, count) in
      (l, items_known (with_table h) line (length h.tables) 1 items p s l.stands last w (places_later S G h (with_table h) p l pk) (slots_later S G h (with_table h) s l sk)))

  -- ---- calls
  calls_known : (h : Heap) (line : ℕ) (f : Value) (args : List Expr) (p : Places) (s : Slots) → Stands S h → Known S h f → All (ExprIn S) args → PlacesKnown S h p → SlotsKnown S h s
      → WorkKnown S h (call_work line f args p s)
  calls_known h line f args p s st fk w pk sk =
      with_values_known S G h args p s (λ vs s'. call (callers_at p line) f vs s') st w pk sk (λ g vs s' l vk sk'. call_known S G g (callers_at p line) f vs s' (value_later S G h g f l fk) vk sk')

  methods_known : (h : Heap) (line : ℕ) (f object : Value) (args : List Expr) (p : Places) (s : Slots) → Stands S h → Known S h f → Known S h object → All (ExprIn S) args → PlacesKnown S h p
      → SlotsKnown S h s → WorkKnown S h (method_work line f object args p s)
  methods_known h line f object args p s st fk ok w pk sk =
      with_values_known S G h args p s (λ vs s'. call (callers_at p line) f (object ∷ vs) s') st w pk sk (λ g vs s' l vk sk'.
      call_known S G g (callers_at p line) f (object ∷ vs) s' (value_later S G h g f l fk) (All-cons (Known S g) object vs (value_later S G h g object l ok) vk) sk')

  -- ---- all of them
  pub expr_known : (h : Heap) (line : ℕ) (o : ExprKind-F ExprKind TableItem Expr) (p : Places) (s : Slots) → ExprParts S o → Stands S h → PlacesKnown S h p → SlotsKnown S h s → WorkKnown S h (expr_work S line o p s)
  expr_known h line e.Nil p s w st pk sk = gives_one S G h Nil s (tt, tt) sk
  expr_known h line e.True p s w st pk sk = gives_one S G h (Truth true) s (tt, tt) sk
  expr_known h line e.False p s w st pk sk = gives_one S G h (Truth false) s (tt, tt) sk
  expr_known h line (e.Number n) p s w st pk sk = gives_one S G h (Number n) s (tt, tt) sk
  expr_known h line (e.Text text) p s w st pk sk = gives_one S G h (Text text) s (tt, tt) sk
  expr_known h line e.Vararg p s w st pk sk = (pk.extras, sk)
  expr_known h line (e.Function n) p s w st pk sk = closure_known S G h line n p s give_one w st pk sk (λ g v s' l vk sk'. gives_one S G g v s' vk sk')
  expr_known h line (e.Slot i) p s w st pk sk = gives_one S G h (in_slot (slice_get s i) h) s (in_slot_known S G h (slice_get s i) st (read_some (SlotKnown S h) s i sk)) sk
  expr_known h line (e.Captured i) p s w st pk sk = gives_one S G h (in_cell (slice_get p.cells i) h) s (in_cell_known S G h (slice_get p.cells i) st) sk
  expr_known h line (e.Global name) p s w st pk sk = index_known S G h line (Table h.globals) (Text name) p s st (st.fits.globals, tt) (tt, tt) pk sk
  expr_known h line (e.Index a b) p s w st pk sk =
      value_known S G h a.value p s (λ v s'. value b.value p s' (λ key s''. index_work S line v key p s'')) w.0 pk sk (λ g v s' l vk sk'.
      value_known S G g b.value p s' (λ key s''. index_work S line v key p s'') w.1 (places_later S G h g p l pk) sk' (λ g2 key s'' l2 kk sk''.
      index_known S G g2 line v key p s'' l2.stands (value_later S G g g2 v l2 vk) kk (places_later S G h g2 p (later_heap S G h g g2 l l2) pk) sk''))
  expr_known h line (e.Call f args) p s w st pk sk =
      value_known S G h f.value p s (λ v s'. call_work line v args.value.items p s') w.0 pk sk (λ g v s' l vk sk'. calls_known g line v args.value.items p s' l.stands vk w.1 (places_later S G h g p l pk) sk')
  expr_known h line (e.Method a name args) p s w st pk sk =
      value_known S G h a.value p s (λ object s'. and_then (index_work S line object (Text name) p s') (on_values (λ fs s''. method_work line (first fs) object args.value.items p s''))) w.0 pk sk (λ g object s' l ok sk'.
      then_values S G g (index_work S line object (Text name) p s') (λ fs s''. method_work line (first fs) object args.value.items p s'') l.stands
      (index_known S G g line object (Text name) p s' l.stands ok (tt, tt) (places_later S G h g p l pk) sk') (λ g2 fs s'' l2 fk sk''.
      methods_known g2 line (first fs) object args.value.items p s'' l2.stands (first_known S G g2 fs fk) (value_later S G g g2 object l2 ok) w.1 (places_later S G h g2 p (later_heap S G h g g2 l l2) pk) sk''))
  expr_known h line (e.Unary o a) p s w st pk sk =
      value_known S G h a.value p s (λ v s'. unary_work S (callers_at p line) o v s') w pk sk (λ g v s' l vk sk'. unary_known S G g (callers_at p line) o v s' l.stands vk sk')
  expr_known h line (e.Binary o a b) p s w st pk sk =
      value_known S G h a.value p s (λ v s'. value b.value p s' (λ x s''. binary_work S (callers_at p line) o v x s'')) w.0 pk sk (λ g v s' l vk sk'.
      value_known S G g b.value p s' (λ x s''. binary_work S (callers_at p line) o v x s'') w.1 (places_later S G h g p l pk) sk' (λ g2 x s'' l2 xk sk''.
      binary_known S G g2 (callers_at p line) o v x s'' l2.stands (value_later S G g g2 v l2 vk) xk sk''))
  expr_known h line (e.And a b) p s w st pk sk =
      value_known S G h a.value p s (λ v s'. if is_truthy v then value b.value p s' give_one else give_one v s') w.0 pk sk (λ g v s' l vk sk'.
      either (WorkKnown S g) (is_truthy v) (value b.value p s' give_one) (give_one v s') (value_known S G g b.value p s' give_one w.1 (places_later S G h g p l pk) sk' (given_one g)) (gives_one S G g v s' vk sk'))
  expr_known h line (e.Or a b) p s w st pk sk =
      value_known S G h a.value p s (λ v s'. if is_truthy v then give_one v s' else value b.value p s' give_one) w.0 pk sk (λ g v s' l vk sk'.
      either (WorkKnown S g) (is_truthy v) (give_one v s') (value b.value p s' give_one) (gives_one S G g v s' vk sk') (value_known S G g b.value p s' give_one w.1 (places_later S G h g p l pk) sk' (given_one g)))
  expr_known h line (e.Paren a) p s w st pk sk = value_known S G h a.value p s give_one w pk sk (given_one h)
  expr_known h line (e.Table items) p s w st pk sk = constructor_known h line items.value.items p s st w pk sk

  extra_known : (h : Heap) (vs : List Value) (s : Slots) → All (Known S h) vs → SlotsKnown S h s → WorkKnown S h (first_extra vs s)
  extra_known h [] s k sk = gives_one S G h Nil s (tt, tt) sk
  extra_known h (v ∷ vs) s k sk = gives_one S G h v s (All-head (Known S h) v vs k) sk

  -- and where one value is wanted
  pub one_known : (h : Heap) (line : ℕ) (o : ExprKind-F ExprKind TableItem Expr) (p : Places) (s : Slots) → ExprParts S o → Stands S h → PlacesKnown S h p → SlotsKnown S h s → WorkKnown S h (value_work S line o p s)
  one_known h line e.Vararg p s w st pk sk = extra_known h p.extras s pk.extras sk
  one_known h line e.Nil p s w st pk sk = expr_known h line e.Nil p s w st pk sk
  one_known h line e.True p s w st pk sk = expr_known h line e.True p s w st pk sk
  one_known h line e.False p s w st pk sk = expr_known h line e.False p s w st pk sk
  one_known h line (e.Number n) p s w st pk sk = expr_known h line (e.Number n) p s w st pk sk
  one_known h line (e.Text text) p s w st pk sk = expr_known h line (e.Text text) p s w st pk sk
  one_known h line (e.Function n) p s w st pk sk = expr_known h line (e.Function n) p s w st pk sk
  one_known h line (e.Slot i) p s w st pk sk = expr_known h line (e.Slot i) p s w st pk sk
  one_known h line (e.Captured i) p s w st pk sk = expr_known h line (e.Captured i) p s w st pk sk
  one_known h line (e.Global name) p s w st pk sk = expr_known h line (e.Global name) p s w st pk sk
  one_known h line (e.Index a b) p s w st pk sk = expr_known h line (e.Index a b) p s w st pk sk
  one_known h line (e.Call f args) p s w st pk sk = expr_known h line (e.Call f args) p s w st pk sk
  one_known h line (e.Method a name args) p s w st pk sk = expr_known h line (e.Method a name args) p s w st pk sk
  one_known h line (e.Unary o a) p s w st pk sk = expr_known h line (e.Unary o a) p s w st pk sk
  one_known h line (e.Binary o a b) p s w st pk sk = expr_known h line (e.Binary o a b) p s w st pk sk
  one_known h line (e.And a b) p s w st pk sk = expr_known h line (e.And a b) p s w st pk sk
  one_known h line (e.Or a b) p s w st pk sk = expr_known h line (e.Or a b) p s w st pk sk
  one_known h line (e.Paren a) p s w st pk sk = expr_known h line (e.Paren a) p s w st pk sk
  one_known h line (e.Table items) p s w st pk sk = expr_known h line (e.Table items) p s w st pk sk
