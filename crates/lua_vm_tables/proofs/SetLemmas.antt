-- Values that are set at keys, and the faults where a store refuses.
use Rattle.std.specs.Prelude.{◌≡◌, ℕ, List, [], ◌∷◌, ◌+◌, drop, Option, Some, None, Result, refl}
use Rattle.std.proofs.Common.{sym, ◌∙◌, ap, subst}
use Rattle.lua_values.specs.declared.values.Value.{Value}
use Rattle.lua_values.specs.declared.values.Value.TheVariants as value
use Rattle.lua_values.specs.declared.faults.StoreFault.{StoreFault}
use Rattle.lua_values.specs.declared.faults.StoreFault.TheVariants.{Memory}
use Rattle.lua_values.specs.Heap.{StoreView}
use Rattle.lua_values.specs.Values.{number}
use Rattle.lua_values.specs.StoreCalls.{IsCause, set_cause, with_pair}
use Rattle.lua_operators.specs.declared.faults.Fault.{Fault}
use Rattle.lua_operators.specs.declared.faults.OperandFault.TheVariants as operand
use Rattle.lua_operators.specs.Types.{type_of}
use Rattle.lua_meaning.specs.Works.{Caller, Places, Slots, Work, Write}
use Rattle.lua_meaning.specs.Evaluator.{do_work}
use Rattle.lua_meaning.specs.Setting.{Setting}
use Rattle.lua_meaning.specs.Positions.{callers_at, raise_fault, raise_operand}
use Rattle.lua_meaning.specs.Indexing.{set_raw, set_work}
use Rattle.lua_meaning.specs.Tables.{fill}
use Rattle.lua_meaning.specs.Variables.{unless_refused, table_fault}
use Rattle.lua_meaning.specs.Nodes.{eval}
use Rattle.lua_frames.specs.declared.flow.Flow.{Flow}
use Rattle.lua_frames.specs.declared.threads.Frames.{Frames}
use Rattle.lua_frames.specs.Follows.{Works, ComesTo}
use Rattle.lua_frames.proofs.FollowLemmas.{works_by}
use Rattle.lua_vm_tables.specs.Sets.{Sets, Fills}

named : (cause : Option StoreFault) (fault : StoreFault) → IsCause cause fault → (fault ≡ Memory → ⊥) → cause ≡ Some fault
named None fault e h = absurd (h e)
named (Some f) fault e h = ap (λ (x : StoreFault). Some x) (sym e)

-- a pair that is set
pub pair_set : (t : ℕ) (key x : Value) (before store : StoreView) → set_cause before.heap t key x ≡ None → store ≡ record { heap = with_pair before.heap t key x; steps = before.steps }
    → Sets t key x before None store
pair_set t key x before store allowed is S callers s go rs =
    ap (λ (cause : Option StoreFault). do_work (eval S) (unless_refused S callers table_fault cause s (Write (with_pair before.heap t key x) go)) (record { store = before; resumes = rs })) allowed
    ∙ ap (λ (st : StoreView). do_work (eval S) go (record { store = st; resumes = rs })) (sym is)

-- and one that the store refuses to set
pub pair_refused : (t : ℕ) (key x : Value) (fault : StoreFault) (before store : StoreView) → IsCause (set_cause before.heap t key x) fault → (fault ≡ Memory → ⊥) → store ≡ before
    → Sets t key x before (Some (table_fault fault)) store
pair_refused t key x fault before store cause known is S callers s go rs =
    ap (λ (c : Option StoreFault). do_work (eval S) (unless_refused S callers table_fault c s (Write (with_pair before.heap t key x) go)) (record { store = before; resumes = rs })) (named (set_cause before.heap t key x) fault cause known)
    ∙ ap (λ (st : StoreView). do_work (eval S) (raise_fault S callers (table_fault fault) s) (record { store = st; resumes = rs })) (sym is)

-- work goes on once a pair is set
pub set_goes : {E : Type 0} (S : Setting) (callers : List Caller) (t : ℕ) (key spot x : Value) (s : Slots) (go : Work) (old fs : Frames) (before mid store : StoreView) (r : Result Flow E)
    → key ≡ spot → Sets t key x before None mid → Works S go old mid fs store r → Works S (set_work S callers t spot x s go) old before fs store r
set_goes S callers t key spot x s go old fs before mid store r same h w =
    works_by S (set_work S callers t spot x s go) go old fs before mid store r
    (subst (λ (k : Value). ComesTo S (set_work S callers t k x s go) before go mid) same (h S callers s go)) w

-- or a fault is raised
pub set_fails : {E : Type 0} (S : Setting) (callers : List Caller) (t : ℕ) (key spot x : Value) (fault : Fault) (s : Slots) (go : Work) (old fs : Frames) (before mid store : StoreView) (r : Result Flow E)
    → key ≡ spot → Sets t key x before (Some fault) mid → Works S (raise_fault S callers fault s) old mid fs store r → Works S (set_work S callers t spot x s go) old before fs store r
set_fails S callers t key spot x fault s go old fs before mid store r same h w =
    works_by S (set_work S callers t spot x s go) (raise_fault S callers fault s) old fs before mid store r
    (subst (λ (k : Value). ComesTo S (set_work S callers t k x s go) before (raise_fault S callers fault s) mid) same (h S callers s go)) w

-- values at numbers: those from an index on are left
abbrev pub Filled : ℕ → ℕ → List Value → StoreView → ℕ → List Value → StoreView → Type 0
Filled t n vs before m us store = (S : Setting) (callers : List Caller) (s : Slots) (go : Work) → ComesTo S (fill S callers t n vs s go) before (fill S callers t m us s go) store

pub filled_on : (t n m : ℕ) (vs us : List Value) (i : ℕ) (key x y : Value) (before between store : StoreView)
    → Filled t n vs before m (drop i us) between → drop i us ≡ x ∷ drop (i + 1) us → key ≡ number m → y ≡ x → Sets t key y between None store
    → Filled t n vs before (m + 1) (drop (i + 1) us) store
filled_on t n m vs us i key x y before between store h e same copy set S callers s go rs =
    h S callers s go rs
    ∙ ap (λ (ws : List Value). do_work (eval S) (fill S callers t m ws s go) (record { store = between; resumes = rs })) e
    ∙ subst (λ (v : Value). ComesTo S (set_work S callers t (number m) v s (fill S callers t (m + 1) (drop (i + 1) us) s go)) between (fill S callers t (m + 1) (drop (i + 1) us) s go) store) copy
    (subst (λ (k' : Value). ComesTo S (set_work S callers t k' y s (fill S callers t (m + 1) (drop (i + 1) us) s go)) between (fill S callers t (m + 1) (drop (i + 1) us) s go) store) same
    (set S callers s (fill S callers t (m + 1) (drop (i + 1) us) s go))) rs

pub filled_fails : (t n m : ℕ) (vs us : List Value) (i : ℕ) (key x y : Value) (fault : Fault) (before between store : StoreView)
    → Filled t n vs before m (drop i us) between → drop i us ≡ x ∷ drop (i + 1) us → key ≡ number m → y ≡ x → Sets t key y between (Some fault) store
    → Fills t n vs before (Some fault) store
filled_fails t n m vs us i key x y fault before between store h e same copy set S callers s go rs =
    h S callers s go rs
    ∙ ap (λ (ws : List Value). do_work (eval S) (fill S callers t m ws s go) (record { store = between; resumes = rs })) e
    ∙ subst (λ (v : Value). ComesTo S (set_work S callers t (number m) v s (fill S callers t (m + 1) (drop (i + 1) us) s go)) between (raise_fault S callers fault s) store) copy
    (subst (λ (k' : Value). ComesTo S (set_work S callers t k' y s (fill S callers t (m + 1) (drop (i + 1) us) s go)) between (raise_fault S callers fault s) store) same
    (set S callers s (fill S callers t (m + 1) (drop (i + 1) us) s go))) rs

pub filled_all : (t n m : ℕ) (vs us : List Value) (before store : StoreView) → Filled t n vs before m us store → us ≡ [] → Fills t n vs before None store
filled_all t n m vs us before store h none S callers s go rs =
    h S callers s go rs ∙ ap (λ (ws : List Value). do_work (eval S) (fill S callers t m ws s go) (record { store = store; resumes = rs })) none

-- work goes on once values are set at numbers
pub fill_goes : {E : Type 0} (S : Setting) (callers : List Caller) (t n : ℕ) (vs us : List Value) (s : Slots) (go : Work) (old fs : Frames) (before mid store : StoreView) (r : Result Flow E)
    → vs ≡ us → Fills t n vs before None mid → Works S go old mid fs store r → Works S (fill S callers t n us s go) old before fs store r
fill_goes S callers t n vs us s go old fs before mid store r same h w =
    works_by S (fill S callers t n us s go) go old fs before mid store r (subst (λ (xs : List Value). ComesTo S (fill S callers t n xs s go) before go mid) same (h S callers s go)) w

-- or a fault is raised
pub fill_fails : {E : Type 0} (S : Setting) (callers : List Caller) (t n : ℕ) (vs us : List Value) (fault : Fault) (s : Slots) (go : Work) (old fs : Frames) (before mid store : StoreView) (r : Result Flow E)
    → vs ≡ us → Fills t n vs before (Some fault) mid → Works S (raise_fault S callers fault s) old mid fs store r → Works S (fill S callers t n us s go) old before fs store r
fill_fails S callers t n vs us fault s go old fs before mid store r same h w =
    works_by S (fill S callers t n us s go) (raise_fault S callers fault s) old fs before mid store r
    (subst (λ (xs : List Value). ComesTo S (fill S callers t n xs s go) before (raise_fault S callers fault s) mid) same (h S callers s go)) w

-- what is no table refuses a value at a key
pub raw_refused : (S : Setting) (line : ℕ) (v key x : Value) (p : Places) (s : Slots) → ((t : ℕ) → v ≡ value.Table t → ⊥) → set_raw S line v key x p s ≡ raise_operand S (callers_at p line) (operand.Index (type_of v)) s
raw_refused S line value.Nil key x p s h = refl
raw_refused S line (value.Truth t) key x p s h = refl
raw_refused S line (value.Number n) key x p s h = refl
raw_refused S line (value.Text text) key x p s h = refl
raw_refused S line (value.Table t) key x p s h = absurd (h t refl)
raw_refused S line (value.Closure n) key x p s h = refl
raw_refused S line (value.Native n) key x p s h = refl
raw_refused S line (value.Thread n) key x p s h = refl
raw_refused S line value.Null key x p s h = refl
raw_refused S line (value.Object n m) key x p s h = refl
