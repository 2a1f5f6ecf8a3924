-- Closures, variables, locals and calls of functions of the program keep to what is known.
use Rattle.std.proofs.Common.{◌≡◌, ℕ, zero, suc, ◌+◌, ◌<◌, nat_lt, List, [], ◌∷◌, ◌++◌, length, drop, Option, None, Some, IfSome, slice_get, slice_set, All, arith, length-append}
use Rattle.std.specs.Prelude.{IsSomeAnd}
use Rattle.std.proofs.lemmas.List.Elements.{All-nil, All-cons, All-head, All-tail, All-push, All-set, All-drop, All-weaker}
use Rattle.resty_base.specs.ListLaws.{read_some}
use Rattle.lua_ast.specs.declared.statements.Stmt.{Stmt}
use Rattle.lua_ast.specs.declared.programs.Capture.{Capture}
use Rattle.lua_ast.specs.declared.programs.Capture.TheVariants as capture
use Rattle.lua_ast.specs.declared.programs.Function.{Function}
use Rattle.lua_ast.specs.WholeProgram.{IsWholeFunction, IsWholeStmt}
use Rattle.lua_values.specs.declared.values.Value.{Value}
use Rattle.lua_values.specs.declared.values.Value.TheVariants.{Nil, Closure}
use Rattle.lua_values.specs.Heap.{Heap, ClosureView}
use Rattle.lua_values.specs.Fits.{FitCells}
use Rattle.lua_values.specs.StoreCalls.{full_cause, frozen_cause, closure_units, with_cell, with_cell_value, with_closure}
use Rattle.lua_operators.specs.declared.faults.Fault.TheVariants.{StackOverflow}
use Rattle.lua_meaning.specs.declared.slots.Slot.{Slot}
use Rattle.lua_meaning.specs.declared.slots.Slot.TheVariants.{Plain, Shared}
use Rattle.lua_meaning.specs.Works.{Caller, Places, Slots, Sign, Values, Return, Break, Failed, Work, End, Write, and_then}
use Rattle.lua_meaning.specs.Setting.{Setting}
use Rattle.lua_meaning.specs.Positions.{callers_at, raise_fault}
use Rattle.lua_meaning.specs.Signs.{first, or_nil}
use Rattle.lua_meaning.specs.Variables.{table_fault, variable_fault, write_cell, write_slot, with_locals}
use Rattle.lua_meaning.specs.Blocks.{block}
use Rattle.lua_meaning.specs.Closures.{cell_of_slot, present_cell, variable_value, with_cell_in, share_from, share, close, captures_of, closure_work}
use Rattle.lua_meaning.specs.Calls.{function_end, argument, slots_from, extras_of, around_callee, inside, most_callers, run, call_closure}
use Rattle.lua_meaning_laws.specs.Standing.{Stands, Known, StandsAfter}
use Rattle.lua_meaning_laws.proofs.Known.{Given, SlotKnown, SlotsKnown, SignKnown, PlacesKnown, StmtIn, HasFunction, WorkKnown, ValueGo, same_heap, later_heap, slots_later, cells_later, places_later}
use Rattle.lua_meaning_laws.proofs.Readings.{either, in_slot_known, in_cell_known, first_known}
use Rattle.lua_meaning_laws.proofs.Writes.{cell_keeps, cell_value_keeps, closure_keeps}
use Rattle.lua_meaning_laws.proofs.Going.{unless_known, on_known, then_known}

captured : (o : Option Function) (n : ℕ) → IsSomeAnd o (λ (f : Function). Unit {0}) → n ≡ length (captures_of o) → IsSomeAnd o (λ (f : Function). n ≡ length f.captures.items)
captured (Some f) n there e = e
captured None n there e = absurd there

module _ (S : Setting) (G : Given S) where
  -- ---- variables
  pub set_slot_known : (h : Heap) (s : Slots) (i : ℕ) (x : Slot) → SlotsKnown S h s → SlotKnown S h x → SlotsKnown S h (slice_set s i x)
  set_slot_known h s i x sk xk = All-set (SlotKnown S h) s i x xk sk

  pub write_cell_known : (h : Heap) (callers : List Caller) (c : Option ℕ) (v : Value) (s : Slots) (go : Work) → Stands S h → Known S h v → SlotsKnown S h s
      → ((g : Heap) → StandsAfter S h g → WorkKnown S g go) → WorkKnown S h (write_cell S callers c v s go)
  write_cell_known h callers None v s go st vk sk each = each h (same_heap S G h st)
  write_cell_known h callers (Some c) v s go st vk sk each =
      unless_known S G h callers variable_fault (frozen_cause h.base.cells c) s (Write (with_cell_value h c v) go) sk (λ e.
      let l : StandsAfter S h (with_cell_value h c v) = cell_value_keeps S G h c v st vk e in (l, each (with_cell_value h c v) l))

  pub write_slot_known : (h : Heap) (callers : List Caller) (x : Option Slot) (i : ℕ) (v : Value) (s : Slots) (go : Slots → Work) → Stands S h → Known S h v → SlotsKnown S h s
      → ((g : Heap) (s' : Slots) → StandsAfter S h g → SlotsKnown S g s' → WorkKnown S g (go s')) → WorkKnown S h (write_slot S callers x i v s go)
  write_slot_known h callers None i v s go st vk sk each = each h s (same_heap S G h st) sk
  write_slot_known h callers (Some (Plain old)) i v s go st vk sk each = each h (slice_set s i (Plain v)) (same_heap S G h st) (set_slot_known h s i (Plain v) sk vk)
  write_slot_known h callers (Some (Shared c)) i v s go st vk sk each = write_cell_known h callers (Some c) v s (go s) st vk sk (λ g l. each g s l (slots_later S G h g s l sk))

  pub locals_known : (h : Heap) (slots : List ℕ) (vs : List Value) (s : Slots) → All (Known S h) vs → SlotsKnown S h s → SlotsKnown S h (with_locals slots vs s)
  locals_known h [] vs s vk sk = sk
  locals_known h (i ∷ slots) vs s vk sk =
      locals_known h slots (drop 1 vs) (slice_set s i (Plain (first vs))) (All-drop (Known S h) 1 vs vk) (set_slot_known h s i (Plain (first vs)) sk (first_known S G h vs vk))

  -- ---- closures
  slot_cell : (h : Heap) (x : Option Slot) → IfSome x (SlotKnown S h) → IfSome (cell_of_slot x) (λ c. c < length h.cells)
  slot_cell h None k = tt
  slot_cell h (Some (Plain v)) k = tt
  slot_cell h (Some (Shared c)) k = k

  cell_there : (h : Heap) (variable : Capture) (p : Places) (s : Slots) → PlacesKnown S h p → SlotsKnown S h s → IfSome (present_cell variable p s) (λ c. c < length h.cells)
  cell_there h (capture.Slot i) p s pk sk = slot_cell h (slice_get s i) (read_some (SlotKnown S h) s i sk)
  cell_there h (capture.Outer i) p s pk sk = read_some (λ c. c < length h.cells) p.cells i pk.cells

  variable_known : (h : Heap) (variable : Capture) (p : Places) (s : Slots) → Stands S h → SlotsKnown S h s → Known S h (variable_value variable p s h)
  variable_known h (capture.Slot i) p s st sk = in_slot_known S G h (slice_get s i) st (read_some (SlotKnown S h) s i sk)
  variable_known h (capture.Outer i) p s st sk = in_cell_known S G h (slice_get p.cells i) st

  shared_known : (h : Heap) (variable : Capture) (c : ℕ) (s : Slots) → c < length h.cells → SlotsKnown S h s → SlotsKnown S h (with_cell_in variable c s)
  shared_known h (capture.Slot i) c s there sk = set_slot_known h s i (Shared c) sk there
  shared_known h (capture.Outer i) c s there sk = sk

  share_one : (h : Heap) (callers : List Caller) (o : Option ℕ) (variable : Capture) (p : Places) (s : Slots) (go : ℕ → Slots → Work) → Stands S h → SlotsKnown S h s → IfSome o (λ c. c < length h.cells)
      → ((g : Heap) (c : ℕ) (s' : Slots) → StandsAfter S h g → c < length g.cells → SlotsKnown S g s' → WorkKnown S g (go c s')) → WorkKnown S h (share_from S callers o variable p s go)
  share_one h callers (Some c) variable p s go st sk there each = each h c s (same_heap S G h st) there sk
  share_one h callers None variable p s go st sk there each =
      let v : Value = variable_value variable p s h in
      let g : Heap = with_cell h v in
      let c : ℕ = length h.cells in
      unless_known S G h callers table_fault (full_cause h 16) s (Write g (go c (with_cell_in variable c s))) sk (λ e.
      let l : StandsAfter S h g = cell_keeps S G h v st (variable_known h variable p s st sk) in
      let count : length g.cells ≡ length h.cells + 1 = length-append h.cells (v ∷ []) in
      let last : c < length g.cells = omega (arith, count) in
      (l, each g c (with_cell_in variable c s) l last (shared_known g variable c s last (slots_later S G h g s l sk))))

  share_all : (h : Heap) (callers : List Caller) (captures : List Capture) (p : Places) (done : List ℕ) (s : Slots) (go : List ℕ → Slots → Work) → Stands S h → PlacesKnown S h p → FitCells h done
      → SlotsKnown S h s
      → ((g : Heap) (cells : List ℕ) (s' : Slots) → StandsAfter S h g → FitCells g cells → length cells ≡ length done + length captures → SlotsKnown S g s' → WorkKnown S g (go cells s'))
      → WorkKnown S h (share S callers captures p done s go)
  share_all h callers [] p done s go st pk dk sk each = each h done s (same_heap S G h st) dk (omega arith) sk
  share_all h callers (variable ∷ captures) p done s go st pk dk sk each =
      share_one h callers (present_cell variable p s) variable p s (λ c s'. share S callers captures p (done ++ c ∷ []) s' go) st sk (cell_there h variable p s pk sk) (λ g c s' l there sk'.
      let more : length (done ++ c ∷ []) ≡ length done + 1 = length-append done (c ∷ []) in
      share_all g callers captures p (done ++ c ∷ []) s' go l.stands (places_later S G h g p l pk) (All-push (λ i. i < length g.cells) done c (cells_later S G h g done l dk) there) sk'
      (λ g' cells s'' l' fit count. each g' cells s'' (later_heap S G h g g' l l') fit (omega (arith, count, more))))

  pub closure_known : (h : Heap) (line n : ℕ) (p : Places) (s : Slots) (go : Value → Slots → Work) → HasFunction S n → Stands S h → PlacesKnown S h p → SlotsKnown S h s → ValueGo S h go
      → WorkKnown S h (closure_work S line n p s go)
  closure_known h line n p s go there st pk sk each =
      let callers : List Caller = callers_at p line in
      share_all h callers (captures_of (slice_get S.program.functions.items n)) p [] s (λ cells s'. close S callers n cells s' go) st pk (All-nil _) sk (λ g cells s' l fit count sk'.
      unless_known S G g callers table_fault (full_cause g (closure_units cells)) s' (Write (with_closure g n cells) (go (Closure (length g.closures)) s')) sk' (λ e.
      let m : StandsAfter S g (with_closure g n cells) = closure_keeps S G g n cells l.stands fit (captured (slice_get S.program.functions.items n) (length cells) there (omega (arith, count))) in
      let one : length (with_closure g n cells).closures ≡ length g.closures + 1 = length-append g.closures ((record { function = n; cells = cells }) ∷ []) in
      let last : length g.closures < length (with_closure g n cells).closures = omega (arith, one) in
      (m, each (with_closure g n cells) (Closure (length g.closures)) s' (later_heap S G h g (with_closure g n cells) l m) (last, tt) (slots_later S G g (with_closure g n cells) s' m sk'))))

  -- ---- calls of functions of the program
  pub block_known : (h : Heap) (stmts : List Stmt) (p : Places) (s : Slots) → All (StmtIn S) stmts → PlacesKnown S h p → SlotsKnown S h s → WorkKnown S h (block stmts p s)
  block_known h [] p s e pk sk = (All-nil (Known S h), sk)
  block_known h (st ∷ stmts) p s e pk sk =
      (All-head (StmtIn S) st stmts e, pk, sk, λ g sign s' l k sk'. on_known S G g (λ vs s''. block stmts p s'') sign s' k sk' (λ vs vk. block_known g stmts p s' (All-tail (StmtIn S) st stmts e) (places_later S G h g p l pk) sk'))

  or_nil_known : (h : Heap) (o : Option Value) → IfSome o (Known S h) → Known S h (or_nil o)
  or_nil_known h None k = (tt, tt)
  or_nil_known h (Some v) k = k

  slots_known : (h : Heap) (n i params : ℕ) (args : List Value) → All (Known S h) args → SlotsKnown S h (slots_from n i params args)
  slots_known h zero i params args ak = All-nil (SlotKnown S h)
  slots_known h (suc n) i params args ak =
      All-cons (SlotKnown S h) (Plain (argument i params args)) (slots_from n (i + 1) params args)
      (either (Known S h) (nat_lt i params) (or_nil (slice_get args i)) Nil (or_nil_known h (slice_get args i) (read_some (Known S h) args i ak)) (tt, tt)) (slots_known h n (i + 1) params args ak)

  extras_known : (h : Heap) (f : Function) (args : List Value) → All (Known S h) args → All (Known S h) (extras_of f args)
  extras_known h f args ak = either (All (Known S h)) f.vararg (drop f.params args) [] (All-drop (Known S h) f.params args ak) (All-nil (Known S h))

  function_end_known : (h : Heap) (sign : Sign) → SignKnown S h sign → SignKnown S h (function_end sign)
  function_end_known h (Values vs) k = All-nil (Known S h)
  function_end_known h (Return vs) k = k
  function_end_known h Break k = All-nil (Known S h)
  function_end_known h (Failed v) k = k

  run_known : (h : Heap) (number : ℕ) (o : Option Function) (cells : List ℕ) (args : List Value) (q : Places) (s : Slots) → Stands S h → IfSome o (IsWholeFunction S.program) → FitCells h cells
      → All (Known S h) args → SlotsKnown S h s → WorkKnown S h (run S number o cells args q s)
  run_known h number None cells args q s st w fit ak sk = ((tt, tt), sk)
  run_known h number (Some f) cells args q s st w fit ak sk =
      let p : Places = inside number f cells args (around_callee q) in
      let body : Work = block f.body.value.items p (slots_from f.slots 0 f.params args) in
      let stmts : All (StmtIn S) f.body.value.items = All-weaker (IsWholeStmt S.program.functions.items f) (StmtIn S) (λ t k. (f, k)) f.body.value.items w.body in
      either (WorkKnown S h) (nat_lt (length (around_callee q)) most_callers) (and_then body (λ sign s'. End (function_end sign) s)) (raise_fault S q.around StackOverflow s)
      (then_known S G h body (λ sign s'. End (function_end sign) s) st
      (block_known h f.body.value.items p (slots_from f.slots 0 f.params args) stmts (record { cells = fit; extras = extras_known h f args ak }) (slots_known h f.slots 0 f.params args ak))
      (λ g sign s' l k sk'. (function_end_known g sign k, slots_later S G h g s l sk)))
      ((tt, tt), sk)

  pub called_known : (h : Heap) (o : Option ClosureView) (args : List Value) (q : Places) (s : Slots) → Stands S h → IfSome o (λ closure. FitCells h closure.cells) → All (Known S h) args → SlotsKnown S h s
      → WorkKnown S h (call_closure S o args q s)
  called_known h None args q s st fit ak sk = ((tt, tt), sk)
  called_known h (Some closure) args q s st fit ak sk =
      run_known h closure.function (slice_get S.program.functions.items closure.function) closure.cells args q s st (read_some (IsWholeFunction S.program) S.program.functions.items closure.function G.whole) fit ak sk
