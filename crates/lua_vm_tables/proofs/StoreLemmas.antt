-- One link of an assignment at a key.
use Rattle.std.specs.Prelude.{◌≡◌, ℕ, ◌+◌, List, [], ◌∷◌, nat_lt, min, Bool, true, false, if◌then◌else◌}
use Rattle.std.proofs.Common.{sym, ◌∙◌, ap}
use Rattle.lua_values.specs.declared.values.Value.{Value}
use Rattle.lua_values.specs.Heap.{StoreView, step_limit}
use Rattle.lua_values.specs.Values.{is_nil}
use Rattle.lua_operators.specs.declared.events.Event.TheVariants.{NewIndex}
use Rattle.lua_meaning.specs.Works.{Places, Slots, AStore, Work, End, Eval}
use Rattle.lua_meaning.specs.Evaluator.{Resume, Spent, do_work}
use Rattle.lua_meaning.specs.Setting.{Setting}
use Rattle.lua_meaning.specs.Positions.{callers_at}
use Rattle.lua_meaning.specs.Metatables.{handler, is_function}
use Rattle.lua_meaning.specs.Calls.{call_for_one}
use Rattle.lua_meaning.specs.Indexing.{raw_value, set_raw, store_by, store_work}
use Rattle.lua_meaning.specs.Nodes.{work_of, eval}
use Rattle.lua_meaning.proofs.EvaluatorLemmas.{eval-law}
use Rattle.lua_meaning.specs.EndingLaws.{after_same as after_ended}
use Rattle.lua_frames.proofs.FollowLemmas.{count_goes, count_spent}
use Rattle.lua_frames.specs.Follows.{ComesTo}
use Rattle.lua_vm_tables.specs.Chains.{dropping}

-- an assignment at a key that is absent or not, where `by` handles it
abbrev assigned : Setting → Value → ℕ → Value → Value → Value → Places → Slots → Bool → Work
assigned S by line v key x p s absent = if absent then (if is_nil by then set_raw S line v key x p s else store_by by line v key x p s) else set_raw S line v key x p s

-- a key that is there is set
pub present : (S : Setting) (line : ℕ) (v key x : Value) (p : Places) (s : Slots) (store : StoreView) (absent : Bool) → absent ≡ is_nil (raw_value store.heap v key) → absent ≡ false
    → ComesTo S (store_work S line v key x p s) store (set_raw S line v key x p s) store
present S line v key x p s store absent e there rs =
    ap (λ (b : Bool). do_work (eval S) (assigned S (handler store.heap v NewIndex) line v key x p s b) (record { store = store; resumes = rs })) (sym e ∙ there)

-- for one that isn't, its handler is asked
pub absent_key : (S : Setting) (line : ℕ) (v key x by : Value) (p : Places) (s : Slots) (store : StoreView) (absent : Bool)
    → absent ≡ is_nil (raw_value store.heap v key) → absent ≡ true → by ≡ handler store.heap v NewIndex
    → ComesTo S (store_work S line v key x p s) store (if is_nil by then set_raw S line v key x p s else store_by by line v key x p s) store
absent_key S line v key x by p s store absent e none h rs =
    ap (λ (b : Bool). do_work (eval S) (assigned S (handler store.heap v NewIndex) line v key x p s b) (record { store = store; resumes = rs })) (sym e ∙ none)
    ∙ ap (λ (b : Value). do_work (eval S) (if is_nil b then set_raw S line v key x p s else store_by b line v key x p s) (record { store = store; resumes = rs })) (sym h)

pub unhandled : (S : Setting) (line : ℕ) (v key x by : Value) (p : Places) (s : Slots) (store : StoreView) (absent : Bool)
    → absent ≡ is_nil (raw_value store.heap v key) → absent ≡ true → by ≡ handler store.heap v NewIndex → is_nil by ≡ true
    → ComesTo S (store_work S line v key x p s) store (set_raw S line v key x p s) store
unhandled S line v key x by p s store absent e none h plain rs =
    absent_key S line v key x by p s store absent e none h rs
    ∙ ap (λ (b : Bool). do_work (eval S) (if b then set_raw S line v key x p s else store_by by line v key x p s) (record { store = store; resumes = rs })) plain

-- a handler that is a function is called
pub calls : (S : Setting) (line : ℕ) (v key x by : Value) (p : Places) (s : Slots) (store : StoreView) (absent : Bool)
    → absent ≡ is_nil (raw_value store.heap v key) → absent ≡ true → by ≡ handler store.heap v NewIndex → is_nil by ≡ false → is_function by ≡ true
    → ComesTo S (store_work S line v key x p s) store (call_for_one (callers_at p line) by (v ∷ key ∷ x ∷ []) s dropping) store
calls S line v key x by p s store absent e none h there f rs =
    absent_key S line v key x by p s store absent e none h rs
    ∙ ap (λ (b : Bool). do_work (eval S) (if b then set_raw S line v key x p s else store_by by line v key x p s) (record { store = store; resumes = rs })) there
    ∙ ap (λ (b : Bool). do_work (eval S) (if b then call_for_one (callers_at p line) by (v ∷ key ∷ x ∷ []) s dropping else Eval (AStore line by key x) p s (λ sign s'. End sign s')) (record { store = store; resumes = rs })) f

-- any other is assigned to in turn
pub linked : (S : Setting) (line : ℕ) (v key x by : Value) (p : Places) (s : Slots) (store : StoreView) (absent : Bool)
    → absent ≡ is_nil (raw_value store.heap v key) → absent ≡ true → by ≡ handler store.heap v NewIndex → is_nil by ≡ false → is_function by ≡ false → (rs : List Resume)
    → do_work (eval S) (store_work S line v key x p s) (record { store = store; resumes = rs }) ≡ eval S (AStore line by key x) p s (record { store = store; resumes = rs })
linked S line v key x by p s store absent e none h there f rs =
    absent_key S line v key x by p s store absent e none h rs
    ∙ ap (λ (b : Bool). do_work (eval S) (if b then set_raw S line v key x p s else store_by by line v key x p s) (record { store = store; resumes = rs })) there
    ∙ ap (λ (b : Bool). do_work (eval S) (if b then call_for_one (callers_at p line) by (v ∷ key ∷ x ∷ []) s dropping else Eval (AStore line by key x) p s (λ sign s'. End sign s')) (record { store = store; resumes = rs })) f
    ∙ after_ended (eval S (AStore line by key x) p s (record { store = store; resumes = rs }))

-- which counts a step
pub goes_on : (S : Setting) (line : ℕ) (v key x by : Value) (p : Places) (s : Slots) (store mid : StoreView) (absent below : Bool)
    → absent ≡ is_nil (raw_value store.heap v key) → absent ≡ true → by ≡ handler store.heap v NewIndex → is_nil by ≡ false → is_function by ≡ false
    → mid ≡ record { heap = store.heap; steps = min step_limit (store.steps + 1) } → below ≡ nat_lt (store.steps + 1) step_limit → below ≡ true
    → ComesTo S (store_work S line v key x p s) store (store_work S line by key x p s) mid
goes_on S line v key x by p s store mid absent below e none h there f is counts holds rs =
    linked S line v key x by p s store absent e none h there f rs
    ∙ eval-law (work_of S) (AStore line by key x) p s (record { store = store; resumes = rs })
    ∙ count_goes S 1 (store_work S line by key x p s) store mid below is counts holds rs

pub spends_steps : (S : Setting) (line : ℕ) (v key x by : Value) (p : Places) (s : Slots) (store : StoreView) (absent below : Bool)
    → absent ≡ is_nil (raw_value store.heap v key) → absent ≡ true → by ≡ handler store.heap v NewIndex → is_nil by ≡ false → is_function by ≡ false
    → below ≡ nat_lt (store.steps + 1) step_limit → below ≡ false → (rs : List Resume)
    → do_work (eval S) (store_work S line v key x p s) (record { store = store; resumes = rs }) ≡ Spent
spends_steps S line v key x by p s store absent below e none h there f counts fails rs =
    linked S line v key x by p s store absent e none h there f rs
    ∙ eval-law (work_of S) (AStore line by key x) p s (record { store = store; resumes = rs })
    ∙ count_spent S 1 (store_work S line by key x p s) store below counts fails rs
