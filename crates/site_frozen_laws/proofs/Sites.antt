-- Sites that have started, by the evaluator.
use Rattle.std.proofs.Common.{◌≡◌, ◌≢◌, ℕ, ◌+◌, ◌<◌, ◌≤◌, Bool, true, false, ◌&&◌, nat_lt, List, ◌∷◌, length, take, Option, None, Some, Result, Ok, Err, refl, sym, ap, ◌∙◌, subst, arith, if◌then◌else◌}
use Rattle.std.specs.Prelude.{codes}
use Rattle.std.proofs.lemmas.Bool.{lt-ltb}
use Rattle.std.proofs.lemmas.List.{take-take, take_all}
use Rattle.lua_ast.specs.WholeProgram.{IsWholeProgram}
use Rattle.lua_values.specs.declared.values.Value.{Value}
use Rattle.lua_values.specs.declared.values.Value.TheVariants.{Text, Table}
use Rattle.lua_values.specs.declared.faults.StoreFault.{StoreFault}
use Rattle.lua_values.specs.declared.faults.StoreFault.TheVariants.{Full, Frozen, BadKey}
use Rattle.lua_values.specs.Values.{is_nil}
use Rattle.lua_values.specs.Heap.{Heap, StoreView}
use Rattle.lua_values.specs.NativeCalls.{IsLawful, KeepsFrozen}
use Rattle.lua_values.specs.StoreCalls.{new_store, full_cause, set_cause, frozen_cause, takes_entry, is_full, with_table, with_pair, with_metatable, frozen}
use Rattle.lua_operators.specs.declared.events.Event.TheVariants.{Index}
use Rattle.lua_operators.specs.Events.{key_of}
use Rattle.lua_modules.specs.Sets.{Lists}
use Rattle.lua_meaning.specs.Life.{Outcome, Done, Failure, Asks, OutOfSteps, Unbegun, life}
use Rattle.lua_meaning.specs.Setting.{Setting}
use Rattle.lua_meaning.specs.Over.{native_count}
use Rattle.lua_meaning_laws.specs.Standing.{LeavesStanding, CallsKeepStanding}
use Rattle.lua_meaning_laws.specs.Lives.{LivesKeepStanding}
use Rattle.lua_site.specs.Making.{and_then, unless, table_made, entry_set, metatable_set}
use Rattle.lua_site.specs.Calls.{Life}
use Rattle.lua_site.specs.Loading.{Loaded, loaded, init_run}
use Rattle.lua_site.specs.RunTables.{three_made, names_set, globals_set, with_globals, run_tables_made}
use Rattle.lua_site.specs.Starting.{Start, begun, begun_with, started}
use Rattle.lua_site.specs.Standing.{KeepsStanding, StartsStand}
use Rattle.lua_site.specs.Laws.{InitIsFrozen, IsFrozenIn}
use Rattle.site_frozen_laws.specs.Sites.{StartedSitesStand, init_left, StartsFreezeInit, StaysFrozen, LeavesFrozen, RunsLeaveInit}

-- ---- started stores stand
keeps_standing : CallsKeepStanding → (S : Setting) → IsWholeProgram S.program → IsLawful (native_count S) S.count S.lib → KeepsStanding S (life S)
keeps_standing calls S whole lawful f args r vs store st fk ak done =
    let l : LeavesStanding S r.store.heap (Done vs store) =
    subst (LeavesStanding S r.store.heap) done (calls S f args r whole lawful (record { fits = st.fits; over = st.over }) fk ak) in
    (record { fits = l.0.stands.fits; over = l.0.stands.over }, l.0.frozen.no_shorter)

pub sites_stand : CallsKeepStanding → StartsStand → StartedSitesStand
sites_stand calls starts S natives lists init start can e = starts S (life S) natives lists init start (keeps_standing calls S can.whole can.lawful) can.few can.chunks can.block e

-- ---- a start is what init left, frozen, with a run's own tables
-- a part is made, and the store refused nothing
record Part {A B : Type 0} (m : Result A (List ℕ)) (go : A → Result B (List ℕ)) (b : B) : Type 0 where
  part : A
  made : m ≡ Ok part
  others : go part ≡ Ok b

then_made : {A B : Type 0} (m : Result A (List ℕ)) (go : A → Result B (List ℕ)) (b : B) → and_then m go ≡ Ok b → Part m go b
then_made (Ok a) go b e = record { part = a; made = refl; others = e }
then_made (Err text) go b e = absurd (cc)

unless_made : (cause : Option StoreFault) (heap new : Heap) → unless cause heap ≡ Ok new → new ≡ heap
unless_made None heap new e = cc
unless_made (Some cause) heap new e = absurd (cc)

record IsMade (life : Life) (natives : ℕ) (lists : Lists) (init : Option ℕ) (start : Start) : Type 0 where
  heap : Heap
  left : init_left life natives lists init ≡ Ok heap
  made : run_tables_made (frozen heap) ≡ Ok start.store.heap

start_made : (life : Life) (natives : ℕ) (lists : Lists) (init : Option ℕ) (start : Start) → started life natives lists init ≡ Ok start → IsMade life natives lists init start
start_made life natives lists init start e =
    let site = then_made (loaded life natives lists new_store.heap) (λ site. and_then (init_run life site.blocks init site.heap) (begun_with site.blocks)) start e in
    let left = then_made (init_run life site.part.blocks init site.part.heap) (begun_with site.part.blocks) start site.others in
    let with_store = then_made (begun left.part) (λ store. Ok (record { store = store; blocks = site.part.blocks })) start left.others in
    let made = then_made (run_tables_made (frozen left.part)) (λ h. Ok (record { heap = h; steps = 0 })) with_store.part with_store.made in
    let store : record { heap = made.part; steps = 0 } ≡ with_store.part = cc in
    let is : record { store = with_store.part; blocks = site.part.blocks } ≡ start = cc in
    let heap : made.part ≡ start.store.heap = ap (λ (v : StoreView). v.heap) store ∙ ap (λ (s : Start). s.store.heap) is in record {
      heap = left.part;
      left = ap (λ (m : Result Loaded (List ℕ)). and_then m (λ site. init_run life site.blocks init site.heap)) site.made ∙ left.made;
      made = subst (λ (h : Heap). run_tables_made (frozen left.part) ≡ Ok h) heap made.made;
    }

pub starts_freeze : InitIsFrozen → StartsFreezeInit
starts_freeze frozen_law life natives lists init start e =
    let m : IsMade life natives lists init start = start_made life natives lists init start e in
    record { heap = m.heap; left = m.left; frozen = frozen_law m.heap start.store.heap m.made }

-- ---- a run's own tables freeze no more and no less
table_base : (h new : Heap) → table_made h ≡ Ok new → new.base ≡ h.base
table_base h new e =
    ap (λ (h' : Heap). h'.base) (unless_made (full_cause h 32) (with_table h) new e)

entry_base : (h new : Heap) (t : ℕ) (key value : Value) → entry_set h t key value ≡ Ok new → new.base ≡ h.base
entry_base h new t key value e =
    ap (λ (h' : Heap). h'.base) (unless_made (set_cause h t key value) (with_pair h t key value) new e)

meta_base : (h new : Heap) (t meta : ℕ) → metatable_set h t meta ≡ Ok new → new.base ≡ h.base
meta_base h new t meta e =
    ap (λ (h' : Heap). h'.base) (unless_made (frozen_cause h.base.tables t) (with_metatable h t (Some meta)) new e)

globals_base : (h new : Heap) (g : ℕ) → unless None (record h { globals = g }) ≡ Ok new → new.base ≡ h.base
globals_base h new g e = ap (λ (h' : Heap). h'.base) (unless_made None (record h { globals = g }) new e)

three_base : (old new : Heap) → three_made old ≡ Ok new → new.base ≡ old.base
three_base old new e =
    let a = then_made (table_made old) (λ h. and_then (table_made h) table_made) new e in
    let b = then_made (table_made a.part) table_made new a.others in
    table_base b.part new b.others ∙ table_base a.part b.part b.made ∙ table_base old a.part a.made

run_base : (old new : Heap) → run_tables_made old ≡ Ok new → new.base ≡ old.base
run_base old new e =
    let g : ℕ = length old.tables + 1 in
    let m : ℕ = length old.tables + 2 in
    let three = then_made (three_made old) (λ h. with_globals h g m old.globals) new e in
    let named = then_made (names_set three.part g m old.globals) (λ h. globals_set h g m) new three.others in
    let first = then_made (entry_set three.part g (Text (codes "_G")) (Table g)) (λ h. entry_set h m (Text (key_of Index)) (Table old.globals)) named.part named.made in
    let last = then_made (metatable_set named.part g m) (λ h. Ok (record h { globals = g })) new named.others in
    globals_base last.part new g last.others ∙ meta_base named.part last.part g m last.made ∙ entry_base first.part named.part m (Text (key_of Index)) (Table old.globals) first.others
    ∙ entry_base three.part first.part g (Text (codes "_G")) (Table g) first.made ∙ three_base old three.part three.made

-- ---- what is frozen stays
-- all of the older heap is frozen in the newer one, as it was
record Holds (new old : Heap) : Type 0 where
  frozen_tables : length old.tables ≤ new.base.tables
  frozen_cells : length old.cells ≤ new.base.cells
  frozen_closures : length old.closures ≤ new.base.closures
  tables : take (length old.tables) new.tables ≡ old.tables
  cells : take (length old.cells) new.cells ≡ old.cells
  closures : take (length old.closures) new.closures ≡ old.closures

same_part : {X : Type 0} (n m : ℕ) (newer new old : List X) → n ≤ m → take m newer ≡ take m new → take n new ≡ old → take n newer ≡ old
same_part n m newer new old less same is = sym (take-take n m newer less) ∙ ap (λ (xs : List _). take n xs) same ∙ take-take n m new less ∙ is

still_holds : (newer new old : Heap) → Holds new old → KeepsFrozen new newer → Holds newer old
still_holds newer new old h k = record {
  frozen_tables = rw k.base h.frozen_tables;
  frozen_cells = rw k.base h.frozen_cells;
  frozen_closures = rw k.base h.frozen_closures;
  tables = same_part (length old.tables) new.base.tables newer.tables new.tables old.tables h.frozen_tables k.tables h.tables;
  cells = same_part (length old.cells) new.base.cells newer.cells new.cells old.cells h.frozen_cells k.cells h.cells;
  closures = same_part (length old.closures) new.base.closures newer.closures new.closures old.closures h.frozen_closures k.closures h.closures;
}

refuses_set : (new : Heap) (t : ℕ) (key value : Value) → t < new.base.tables → set_cause new t key value ≢ None
refuses_set new t key value less = by (is_nil key) (nat_lt t new.base.tables) (takes_entry new t key value && is_full new 32) (lt-ltb t new.base.tables less)
  where
    by : (b c d : Bool) → c ≡ true → (if b then Some BadKey else if c then Some Frozen else if d then Some Full else None) ≢ None
    by true c d e f = cc
    by false true d e f = cc
    by false false d e f = cc

refuses_write : (n frozen : ℕ) → n < frozen → frozen_cause frozen n ≡ Some Frozen
refuses_write n frozen less = rw (lt-ltb n frozen less) refl

stays_frozen : (new old : Heap) → Holds new old → StaysFrozen new old
stays_frozen new old h = record {
  tables = h.tables;
  cells = h.cells;
  closures = h.closures;
  entries = λ t key value less. let b : t < new.base.tables = omega (arith, less, h.frozen_tables) in refuses_set new t key value b;
  metatables = λ t less. let b : t < new.base.tables = omega (arith, less, h.frozen_tables) in refuses_write t new.base.tables b;
  variables = λ c less. let b : c < new.base.cells = omega (arith, less, h.frozen_cells) in refuses_write c new.base.cells b;
}

taken_whole : {X : Type 0} (new old : List X) → new ≡ old → take (length old) new ≡ old
taken_whole new old same = rw same (take_all (length old) old (omega arith))

start_holds : InitIsFrozen → (heap new : Heap) → run_tables_made (frozen heap) ≡ Ok new → Holds new heap
start_holds frozen_law heap new made =
    let is : IsFrozenIn new heap = frozen_law heap new made in
    let base : new.base ≡ record { tables = length heap.tables; cells = length heap.cells; closures = length heap.closures } = run_base (frozen heap) new made in record {
      frozen_tables = rw base (omega arith);
      frozen_cells = rw base (omega arith);
      frozen_closures = rw base (omega arith);
      tables = is.tables;
      cells = taken_whole new.cells heap.cells is.cells;
      closures = taken_whole new.closures heap.closures is.closures;
    }

left_frozen : (S : Setting) (first old : Heap) (o : Outcome) → Holds first old → LeavesStanding S first o → LeavesFrozen old o
left_frozen S first old (Done vs store) h l = stays_frozen store.heap old (still_holds store.heap first old h l.0.frozen)
left_frozen S first old (Failure v store) h l = stays_frozen store.heap old (still_holds store.heap first old h l.0.frozen)
left_frozen S first old (Asks number args position store) h l = stays_frozen store.heap old (still_holds store.heap first old h l.0.frozen)
left_frozen S first old OutOfSteps h l = tt
left_frozen S first old Unbegun h l = tt

pub runs_leave : InitIsFrozen → LivesKeepStanding → RunsLeaveInit
runs_leave frozen_law lives S natives lists init start heap f args first resumes e left after can outside =
    let m : IsMade (life S) natives lists init start = start_made (life S) natives lists init start e in
    let both : Ok heap ≡ Ok m.heap = sym left ∙ m.left in
    let same : heap ≡ m.heap = cc in
    let holds : Holds start.store.heap heap = rw same (start_holds frozen_law m.heap start.store.heap m.made) in
    left_frozen S first.store.heap heap (life S f args (first ∷ resumes)) (still_holds first.store.heap start.store.heap heap holds after.frozen) (lives S f args first resumes can outside)
