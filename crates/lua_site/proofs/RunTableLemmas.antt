-- What a run's own tables are once they are made.
use Rattle.std.proofs.Common.{◌≡◌, ◌≢◌, ℕ, suc, ◌+◌, ◌<◌, Bool, true, false, List, [], ◌∷◌, ◌++◌, length, take, Option, None, Some, Result, Ok, Err, slice_get, slice_set, unwrap_or, refl, sym, ◌∙◌, ap, arith, append_assoc, if◌then◌else◌}
use Rattle.std.specs.Prelude.{◌&&◌, nat_lt, codes}
use Rattle.std.proofs.lemmas.Bool.{lt-ltb}
use Rattle.std.proofs.Math.Seq.{take-append_seam}
use Rattle.std.proofs.lemmas.List.{length-append, append-nil}
use Rattle.lua_values.specs.declared.values.Value.{Value}
use Rattle.lua_values.specs.declared.values.Value.TheVariants.{Text, Table}
use Rattle.lua_values.specs.declared.faults.StoreFault.{StoreFault}
use Rattle.lua_values.specs.declared.faults.StoreFault.TheVariants.{Full, Frozen, BadKey}
use Rattle.lua_values.specs.Values.{is_nil}
use Rattle.lua_values.specs.Pairs.{with_value}
use Rattle.lua_values.specs.Heap.{Heap, TableView}
use Rattle.lua_values.specs.StoreCalls.{table_of, full_cause, frozen_cause, set_cause, takes_entry, is_full, with_table, with_pair, with_metatable, frozen}
use Rattle.lua_operators.specs.declared.events.Event.TheVariants.{Index}
use Rattle.lua_operators.specs.Events.{key_of}
use Rattle.lua_site.specs.Making.{and_then, unless, table_made, entry_set, metatable_set}
use Rattle.lua_site.specs.RunTables.{three_made, names_set, globals_set, with_globals, run_tables_made}
use Rattle.lua_site.specs.Laws.{InitIsFrozen, RunsHaveTheirTables}

-- a part is made
pub then_made : {A B : Type 0} (m : Result A (List ℕ)) (go : A → Result B (List ℕ)) (b : B) → and_then m go ≡ Ok b → (a : A) × ((m ≡ Ok a) × (go a ≡ Ok b))
then_made (Ok a) go b e = (a, (refl, e))
then_made (Err text) go b e = absurd (cc)

-- the store refused nothing
pub unless_made : (cause : Option StoreFault) (heap new : Heap) → unless cause heap ≡ Ok new → (cause ≡ None) × (new ≡ heap)
unless_made None heap new e = let same : new ≡ heap = cc in (refl, same)
unless_made (Some cause) heap new e = absurd (cc)

-- a place among what stands after a list
get_own : {X : Type 0} (xs ys : List X) (k : ℕ) → slice_get (xs ++ ys) (length xs + k) ≡ slice_get ys k
get_own [] ys k = let e : 0 + k ≡ k = omega arith in rw e refl
get_own (x ∷ xs) ys k = let e : length (x ∷ xs) + k ≡ suc (length xs + k) = omega arith in rw e (get_own xs ys k)

set_own : {X : Type 0} (xs ys : List X) (k : ℕ) (v : X) → slice_set (xs ++ ys) (length xs + k) v ≡ xs ++ slice_set ys k v
set_own [] ys k v = let e : 0 + k ≡ k = omega arith in rw e refl
set_own (x ∷ xs) ys k v = let e : length (x ∷ xs) + k ≡ suc (length xs + k) = omega arith in rw e (ap (λ zs. x ∷ zs) (set_own xs ys k v))

-- a heap with more tables after those of another, and else the same
record Beside (old new : Heap) (own : List TableView) : Type 0 where
  tables : new.tables ≡ old.tables ++ own
  cells : new.cells ≡ old.cells
  closures : new.closures ≡ old.closures
  base : new.base ≡ old.base
  globals : new.globals ≡ old.globals

abbrev empty : TableView
empty = record { pairs = []; meta = None }

nothing_own : (h : Heap) → Beside h h []
nothing_own h = record { tables = sym (append-nil h.tables); cells = refl; closures = refl; base = refl; globals = refl }

table_own : (old h new : Heap) (own : List TableView) → Beside old h own → table_made h ≡ Ok new → Beside old new (own ++ empty ∷ [])
table_own old h new own b e =
    let made : (full_cause h 32 ≡ None) × (new ≡ with_table h) = unless_made (full_cause h 32) (with_table h) new e in
    rw made.1 record {
      tables = ap (λ ts. ts ++ empty ∷ []) b.tables ∙ append_assoc old.tables own (empty ∷ []);
      cells = b.cells;
      closures = b.closures;
      base = b.base;
      globals = b.globals;
    }

-- the table at a place among a heap's own
abbrev own_at : List TableView → ℕ → TableView
own_at own k = unwrap_or (slice_get own k) empty

read_own : (old h : Heap) (own : List TableView) (k : ℕ) → Beside old h own → table_of h (length old.tables + k) ≡ own_at own k
read_own old h own k b = ap (λ ts. unwrap_or (slice_get ts (length old.tables + k)) empty) b.tables ∙ ap (λ o. unwrap_or o empty) (get_own old.tables own k)

entry_own : (old h new : Heap) (own : List TableView) (k : ℕ) (key value : Value) → Beside old h own → entry_set h (length old.tables + k) key value ≡ Ok new
    → Beside old new (slice_set own k (record (own_at own k) { pairs = with_value (own_at own k).pairs key value }))
entry_own old h new own k key value b e =
    let t : ℕ = length old.tables + k in
    let made : (set_cause h t key value ≡ None) × (new ≡ with_pair h t key value) = unless_made (set_cause h t key value) (with_pair h t key value) new e in
    let table : TableView → TableView = λ (v : TableView). record v { pairs = with_value v.pairs key value } in
    rw made.1 record {
      tables = ap (λ ts. slice_set ts t (table (table_of h t))) b.tables ∙ set_own old.tables own k (table (table_of h t)) ∙ ap (λ v. old.tables ++ slice_set own k (table v)) (read_own old h own k b);
      cells = b.cells;
      closures = b.closures;
      base = b.base;
      globals = b.globals;
    }

meta_own : (old h new : Heap) (own : List TableView) (k meta : ℕ) → Beside old h own → metatable_set h (length old.tables + k) meta ≡ Ok new
    → Beside old new (slice_set own k (record (own_at own k) { meta = Some meta }))
meta_own old h new own k meta b e =
    let t : ℕ = length old.tables + k in
    let made : (frozen_cause h.base.tables t ≡ None) × (new ≡ with_metatable h t (Some meta)) = unless_made (frozen_cause h.base.tables t) (with_metatable h t (Some meta)) new e in
    let table : TableView → TableView = λ (v : TableView). record v { meta = Some meta } in
    rw made.1 record {
      tables = ap (λ ts. slice_set ts t (table (table_of h t))) b.tables ∙ set_own old.tables own k (table (table_of h t)) ∙ ap (λ v. old.tables ++ slice_set own k (table v)) (read_own old h own k b);
      cells = b.cells;
      closures = b.closures;
      base = b.base;
      globals = b.globals;
    }

-- the three tables of a run, where it is `n` that stand before them
abbrev own_tables : ℕ → ℕ → List TableView
own_tables n outer =
    empty ∷ (record { pairs = (Text (codes "_G"), Table (n + 1)) ∷ []; meta = Some (n + 2) }) ∷ (record { pairs = (Text (key_of Index), Table outer) ∷ []; meta = None }) ∷ []

-- a heap with a run's own tables
record IsRun (old new : Heap) : Type 0 where
  tables : new.tables ≡ old.tables ++ own_tables (length old.tables) old.globals
  cells : new.cells ≡ old.cells
  closures : new.closures ≡ old.closures
  base : new.base ≡ old.base
  globals : new.globals ≡ length old.tables + 1

three_own : (old new : Heap) → three_made old ≡ Ok new → Beside old new (empty ∷ empty ∷ empty ∷ [])
three_own old new e =
    let a = then_made (table_made old) (λ h. and_then (table_made h) table_made) new e in
    let b = then_made (table_made a.0) table_made new a.1.1 in
    table_own old b.0 new (empty ∷ empty ∷ []) (table_own old a.0 b.0 (empty ∷ []) (table_own old old a.0 [] (nothing_own old) a.1.0) b.1.0) b.1.1

pub three_more : (old new : Heap) → three_made old ≡ Ok new → length new.tables ≡ length old.tables + 3
three_more old new e = ap length (three_own old new e).tables ∙ length-append old.tables (empty ∷ empty ∷ empty ∷ [])

run_own : (old new : Heap) → run_tables_made old ≡ Ok new → IsRun old new
run_own old new e =
    let n : ℕ = length old.tables in
    let g : ℕ = n + 1 in
    let m : ℕ = n + 2 in
    let three = then_made (three_made old) (λ h. with_globals h g m old.globals) new e in
    let named = then_made (names_set three.0 g m old.globals) (λ h. globals_set h g m) new three.1.1 in
    let first = then_made (entry_set three.0 g (Text (codes "_G")) (Table g)) (λ h. entry_set h m (Text (key_of Index)) (Table old.globals)) named.0 named.1.0 in
    let last = then_made (metatable_set named.0 g m) (λ h. Ok (record h { globals = g })) new named.1.1 in
    let b3 = three_own old three.0 three.1.0 in
    let b4 = entry_own old three.0 first.0 (empty ∷ empty ∷ empty ∷ []) 1 (Text (codes "_G")) (Table g) b3 first.1.0 in
    let b5 = entry_own old first.0 named.0 _ 2 (Text (key_of Index)) (Table old.globals) b4 first.1.1 in
    let b6 = meta_own old named.0 last.0 _ 1 m b5 last.1.0 in
    let is : new ≡ record last.0 { globals = g } = sym (cc) in
    rw is record { tables = b6.tables; cells = b6.cells; closures = b6.closures; base = b6.base; globals = refl }

refuses_set : (new : Heap) (t : ℕ) (key value : Value) → t < new.base.tables → set_cause new t key value ≢ None
refuses_set new t key value frozen = by (is_nil key) (nat_lt t new.base.tables) (takes_entry new t key value && is_full new 32) (lt-ltb t new.base.tables frozen)
  where
    by : (b c d : Bool) → c ≡ true → (if b then Some BadKey else if c then Some Frozen else if d then Some Full else None) ≢ None
    by true c d e f = cc
    by false true d e f = cc
    by false false d e f = cc

refuses_write : (n frozen : ℕ) → n < frozen → frozen_cause frozen n ≡ Some Frozen
refuses_write n frozen less = rw (lt-ltb n frozen less) refl

pub frozen_in : InitIsFrozen
frozen_in heap new e =
    let run = run_own (frozen heap) new e in record {
      tables = ap (λ ts. take (length heap.tables) ts) run.tables ∙ take-append_seam heap.tables (own_tables (length heap.tables) heap.globals);
      cells = run.cells;
      closures = run.closures;
      entries = λ t key value less. let b : t < new.base.tables = rw run.base less in refuses_set new t key value b;
      metatables = λ t less. let b : t < new.base.tables = rw run.base less in refuses_write t new.base.tables b;
      variables = λ c less. let b : c < new.base.cells = rw run.base less in refuses_write c new.base.cells b;
    }

at_own : (old new : Heap) (k : ℕ) → IsRun old new → table_of new (length old.tables + k) ≡ own_at (own_tables (length old.tables) old.globals) k
at_own old new k run =
    ap (λ ts. unwrap_or (slice_get ts (length old.tables + k)) empty) run.tables ∙ ap (λ o. unwrap_or o empty) (get_own old.tables (own_tables (length old.tables) old.globals) k)

pub has_tables : RunsHaveTheirTables
has_tables heap new e =
    let old : Heap = frozen heap in
    let run = run_own old new e in
    let n : ℕ = length heap.tables in
    let zeroth : n ≡ n + 0 = omega arith in
    let after : n + 1 ≡ suc n = omega arith in
    let third : new.globals + 1 ≡ n + 2 = omega (arith, run.globals) in record {
      three = ap length run.tables ∙ length-append heap.tables (own_tables n heap.globals);
      unfrozen = ap (λ b. b.tables) run.base;
      modules = rw (run.globals, after) refl;
      empty = rw zeroth (ap (λ v. v.pairs) (at_own old new 0 run));
      itself = rw run.globals (ap (λ v. v.pairs) (at_own old new 1 run));
      metatable = rw (third, run.globals) (ap (λ v. v.meta) (at_own old new 1 run));
      leads_on = rw third (ap (λ v. v.pairs) (at_own old new 2 run));
    }
