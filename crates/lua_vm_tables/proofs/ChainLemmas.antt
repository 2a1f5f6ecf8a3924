-- One link of an index.
use Rattle.std.specs.Prelude.{◌≡◌, ℕ, ◌+◌, List, [], ◌∷◌, nat_lt, min, Bool, true, false, if◌then◌else◌, refl}
use Rattle.std.proofs.Common.{sym, ◌∙◌, ap}
use Rattle.lua_values.specs.declared.values.Value.{Value}
use Rattle.lua_values.specs.declared.values.Value.TheVariants.{Nil}
use Rattle.lua_values.specs.Heap.{Heap, StoreView, step_limit}
use Rattle.lua_values.specs.Values.{is_nil}
use Rattle.lua_operators.specs.declared.events.Event.TheVariants.{Index}
use Rattle.lua_operators.specs.declared.faults.OperandFault.TheVariants as operand
use Rattle.lua_operators.specs.Types.{type_of}
use Rattle.lua_meaning.specs.Works.{Places, Slots, AnIndex, Work, End, Eval}
use Rattle.lua_meaning.specs.Evaluator.{Resume, Spent, do_work}
use Rattle.lua_meaning.specs.Setting.{Setting}
use Rattle.lua_meaning.specs.Positions.{callers_at, raise_operand}
use Rattle.lua_meaning.specs.Signs.{give_one}
use Rattle.lua_meaning.specs.Metatables.{handler, is_function}
use Rattle.lua_meaning.specs.Calls.{call_for_one}
use Rattle.lua_meaning.specs.Indexing.{raw_value, is_table, index_without, index_work}
use Rattle.lua_meaning.specs.Nodes.{work_of, eval}
use Rattle.lua_meaning.proofs.EvaluatorLemmas.{eval-law}
use Rattle.lua_meaning.specs.EndingLaws.{after_same as after_ended}
use Rattle.lua_frames.proofs.FollowLemmas.{count_goes, count_spent}
use Rattle.lua_frames.specs.Follows.{ComesTo}

-- an index of what has x at the key by itself
abbrev indexed : Setting → Heap → Value → ℕ → Value → Places → Slots → Value → Work
indexed S h v line key p s x = if is_nil x then index_without S (handler h v Index) line v key p s else give_one x s

-- the key is there
pub found : (S : Setting) (line : ℕ) (v key x : Value) (p : Places) (s : Slots) (store : StoreView) → x ≡ raw_value store.heap v key → is_nil x ≡ false
    → ComesTo S (index_work S line v key p s) store (give_one x s) store
found S line v key x p s store e there rs =
    ap (λ (r : Value). do_work (eval S) (indexed S store.heap v line key p s r) (record { store = store; resumes = rs })) (sym e)
    ∙ ap (λ (b : Bool). do_work (eval S) (if b then index_without S (handler store.heap v Index) line v key p s else give_one x s) (record { store = store; resumes = rs })) there

-- the key isn't there: its handler is asked
pub lacking : (S : Setting) (line : ℕ) (v key x by : Value) (p : Places) (s : Slots) (store : StoreView) → x ≡ raw_value store.heap v key → is_nil x ≡ true → by ≡ handler store.heap v Index
    → ComesTo S (index_work S line v key p s) store (index_without S by line v key p s) store
lacking S line v key x by p s store e none h rs =
    ap (λ (r : Value). do_work (eval S) (indexed S store.heap v line key p s r) (record { store = store; resumes = rs })) (sym e)
    ∙ ap (λ (b : Bool). do_work (eval S) (if b then index_without S (handler store.heap v Index) line v key p s else give_one x s) (record { store = store; resumes = rs })) none
    ∙ ap (λ (b : Value). do_work (eval S) (index_without S b line v key p s) (record { store = store; resumes = rs })) (sym h)

-- without a handler a table gives nil, and any other value can't be indexed
pub gives_nil : (S : Setting) (line : ℕ) (v key x by : Value) (p : Places) (s : Slots) (store : StoreView)
    → x ≡ raw_value store.heap v key → is_nil x ≡ true → by ≡ handler store.heap v Index → is_nil by ≡ true → is_table v ≡ true
    → ComesTo S (index_work S line v key p s) store (give_one Nil s) store
gives_nil S line v key x by p s store e none h plain t rs =
    lacking S line v key x by p s store e none h rs ∙ ap (λ (q : Work). do_work (eval S) q (record { store = store; resumes = rs })) same
  where
    same : index_without S by line v key p s ≡ give_one Nil s
    same = rw (plain, t) refl

pub unindexable : (S : Setting) (line : ℕ) (v key x by : Value) (p : Places) (s : Slots) (store : StoreView)
    → x ≡ raw_value store.heap v key → is_nil x ≡ true → by ≡ handler store.heap v Index → is_nil by ≡ true → is_table v ≡ false
    → ComesTo S (index_work S line v key p s) store (raise_operand S (callers_at p line) (operand.Index (type_of v)) s) store
unindexable S line v key x by p s store e none h plain t rs =
    lacking S line v key x by p s store e none h rs ∙ ap (λ (q : Work). do_work (eval S) q (record { store = store; resumes = rs })) same
  where
    same : index_without S by line v key p s ≡ raise_operand S (callers_at p line) (operand.Index (type_of v)) s
    same = rw (plain, t) refl

-- a handler that is a function is called
pub calls : (S : Setting) (line : ℕ) (v key x by : Value) (p : Places) (s : Slots) (store : StoreView)
    → x ≡ raw_value store.heap v key → is_nil x ≡ true → by ≡ handler store.heap v Index → is_nil by ≡ false → is_function by ≡ true
    → ComesTo S (index_work S line v key p s) store (call_for_one (callers_at p line) by (v ∷ key ∷ []) s give_one) store
calls S line v key x by p s store e none h there f rs =
    lacking S line v key x by p s store e none h rs ∙ ap (λ (q : Work). do_work (eval S) q (record { store = store; resumes = rs })) same
  where
    same : index_without S by line v key p s ≡ call_for_one (callers_at p line) by (v ∷ key ∷ []) s give_one
    same = rw (there, f) refl

-- any other is indexed in turn
pub linked : (S : Setting) (line : ℕ) (v key x by : Value) (p : Places) (s : Slots) (store : StoreView)
    → x ≡ raw_value store.heap v key → is_nil x ≡ true → by ≡ handler store.heap v Index → is_nil by ≡ false → is_function by ≡ false → (rs : List Resume)
    → do_work (eval S) (index_work S line v key p s) (record { store = store; resumes = rs }) ≡ eval S (AnIndex line by key) p s (record { store = store; resumes = rs })
linked S line v key x by p s store e none h there f rs =
    lacking S line v key x by p s store e none h rs ∙ ap (λ (q : Work). do_work (eval S) q (record { store = store; resumes = rs })) same
    ∙ after_ended (eval S (AnIndex line by key) p s (record { store = store; resumes = rs }))
  where
    same : index_without S by line v key p s ≡ Eval (AnIndex line by key) p s (λ sign s'. End sign s')
    same = rw (there, f) refl

-- which counts a step
pub goes_on : (S : Setting) (line : ℕ) (v key x by : Value) (p : Places) (s : Slots) (store mid : StoreView) (below : Bool)
    → x ≡ raw_value store.heap v key → is_nil x ≡ true → by ≡ handler store.heap v Index → is_nil by ≡ false → is_function by ≡ false
    → mid ≡ record { heap = store.heap; steps = min step_limit (store.steps + 1) } → below ≡ nat_lt (store.steps + 1) step_limit → below ≡ true
    → ComesTo S (index_work S line v key p s) store (index_work S line by key p s) mid
goes_on S line v key x by p s store mid below e none h there f is counts holds rs =
    linked S line v key x by p s store e none h there f rs
    ∙ eval-law (work_of S) (AnIndex line by key) p s (record { store = store; resumes = rs })
    ∙ count_goes S 1 (index_work S line by key p s) store mid below is counts holds rs

pub spends_steps : (S : Setting) (line : ℕ) (v key x by : Value) (p : Places) (s : Slots) (store : StoreView) (below : Bool)
    → x ≡ raw_value store.heap v key → is_nil x ≡ true → by ≡ handler store.heap v Index → is_nil by ≡ false → is_function by ≡ false
    → below ≡ nat_lt (store.steps + 1) step_limit → below ≡ false → (rs : List Resume)
    → do_work (eval S) (index_work S line v key p s) (record { store = store; resumes = rs }) ≡ Spent
spends_steps S line v key x by p s store below e none h there f counts fails rs =
    linked S line v key x by p s store e none h there f rs
    ∙ eval-law (work_of S) (AnIndex line by key) p s (record { store = store; resumes = rs })
    ∙ count_spent S 1 (index_work S line by key p s) store below counts fails rs
