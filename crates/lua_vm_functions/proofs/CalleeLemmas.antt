-- What a call comes to: a step, then what is found.
use Rattle.std.specs.Prelude.{◌≡◌, ℕ, ◌+◌, ◌-◌, ◌<◌, List, [], ◌∷◌, nat_lt, min, Bool, true, false, if◌then◌else◌, refl}
use Rattle.std.proofs.Common.{sym, ◌∙◌, ap, arith}
use borrow.Author.Tests.{ltb-true}
use Rattle.lua_values.specs.declared.values.Value.{Value}
use Rattle.lua_values.specs.declared.values.Value.TheVariants as value
use Rattle.lua_values.specs.Heap.{StoreView, step_limit}
use Rattle.lua_values.specs.Values.{is_nil}
use Rattle.lua_operators.specs.declared.events.Event.TheVariants.{Call}
use Rattle.lua_operators.specs.declared.faults.OperandFault.TheVariants as operand
use Rattle.lua_operators.specs.Types.{type_of}
use Rattle.lua_meaning.specs.Works.{Places, Slots, ACall, Work, End, Eval, Look}
use Rattle.lua_meaning.specs.Evaluator.{Resume, Spent, do_work}
use Rattle.lua_meaning.specs.Setting.{Setting}
use Rattle.lua_meaning.specs.Metatables.{handler}
use Rattle.lua_meaning.specs.Positions.{raise_operand}
use Rattle.lua_meaning.specs.Nodes.{work_of, eval, call_by, callee_work}
use Rattle.lua_meaning.proofs.EvaluatorLemmas.{eval-law}
use Rattle.lua_meaning.specs.EndingLaws.{after_same as after_ended}
use Rattle.lua_frames.proofs.FollowLemmas.{count_goes, count_spent}

-- a call's step is counted, and its work begins
pub call_goes : (S : Setting) (f : Value) (args : List Value) (q : Places) (before mid : StoreView) (below : Bool)
    → mid ≡ record { heap = before.heap; steps = min step_limit (before.steps + 1) } → below ≡ nat_lt (before.steps + 1) step_limit → below ≡ true → (rs : List Resume)
    → eval S (ACall f args) q [] (record { store = before; resumes = rs }) ≡ do_work (eval S) (callee_work S f args q []) (record { store = mid; resumes = rs })
call_goes S f args q before mid below is e holds rs =
    eval-law (work_of S) (ACall f args) q [] (record { store = before; resumes = rs }) ∙ count_goes S 1 (callee_work S f args q []) before mid below is e holds rs

pub call_spent : (S : Setting) (f : Value) (args : List Value) (q : Places) (before : StoreView) (below : Bool)
    → below ≡ nat_lt (before.steps + 1) step_limit → below ≡ false → (rs : List Resume) → eval S (ACall f args) q [] (record { store = before; resumes = rs }) ≡ Spent
call_spent S f args q before below e fails rs =
    eval-law (work_of S) (ACall f args) q [] (record { store = before; resumes = rs }) ∙ count_spent S 1 (callee_work S f args q []) before below e fails rs

-- what is neither a closure nor a native is called by its handler
pub by_handler : (S : Setting) (f : Value) (args : List Value) (q : Places) (s : Slots) → ((c : ℕ) → f ≡ value.Closure c → ⊥) → ((n : ℕ) → f ≡ value.Native n → ⊥)
    → callee_work S f args q s ≡ Look (λ h. call_by S (handler h f Call) f args q s)
by_handler S value.Nil args q s c n = refl
by_handler S (value.Truth t) args q s c n = refl
by_handler S (value.Number k) args q s c n = refl
by_handler S (value.Text t) args q s c n = refl
by_handler S (value.Table t) args q s c n = refl
by_handler S (value.Closure k) args q s c n = absurd (c k refl)
by_handler S (value.Native k) args q s c n = absurd (n k refl)
by_handler S (value.Thread k) args q s c n = refl
by_handler S value.Null args q s c n = refl
by_handler S (value.Object k m) args q s c n = refl

-- without one it fails, and with one the handler is called before the arguments
pub uncallable : (S : Setting) (by f : Value) (args : List Value) (q : Places) (s : Slots) → is_nil by ≡ true → call_by S by f args q s ≡ raise_operand S q.around (operand.Call (type_of f)) s
uncallable S by f args q s e = rw e refl

pub linked : (S : Setting) (by f : Value) (args : List Value) (q : Places) (store : StoreView) (rs : List Resume) → is_nil by ≡ false
    → do_work (eval S) (call_by S by f args q []) (record { store = store; resumes = rs }) ≡ eval S (ACall by (f ∷ args)) q [] (record { store = store; resumes = rs })
linked S by f args q store rs e =
    ap (λ (t : Bool). do_work (eval S) (if t then raise_operand S q.around (operand.Call (type_of f)) [] else Eval (ACall by (f ∷ args)) q [] (λ sign s'. End sign s')) (record { store = store; resumes = rs })) e
    ∙ after_ended (eval S (ACall by (f ∷ args)) q [] (record { store = store; resumes = rs }))

-- a call of a value that has no handler, and one that its handler takes over
pub comes_to_none : (S : Setting) (f by : Value) (args : List Value) (q : Places) (before mid : StoreView) (below : Bool)
    → mid ≡ record { heap = before.heap; steps = min step_limit (before.steps + 1) } → below ≡ nat_lt (before.steps + 1) step_limit → below ≡ true
    → ((c : ℕ) → f ≡ value.Closure c → ⊥) → ((n : ℕ) → f ≡ value.Native n → ⊥) → by ≡ handler mid.heap f Call → is_nil by ≡ true → (rs : List Resume)
    → eval S (ACall f args) q [] (record { store = before; resumes = rs }) ≡ do_work (eval S) (raise_operand S q.around (operand.Call (type_of f)) []) (record { store = mid; resumes = rs })
comes_to_none S f by args q before mid below is e holds c n h nil rs =
    call_goes S f args q before mid below is e holds rs
    ∙ ap (λ (t : Work). do_work (eval S) t (record { store = mid; resumes = rs })) (by_handler S f args q [] c n)
    ∙ ap (λ (t : Work). do_work (eval S) t (record { store = mid; resumes = rs })) (ap (λ (b : Value). call_by S b f args q []) (sym h) ∙ uncallable S by f args q [] nil)

pub comes_by_handler : (S : Setting) (f by : Value) (args : List Value) (q : Places) (before mid : StoreView) (below : Bool)
    → mid ≡ record { heap = before.heap; steps = min step_limit (before.steps + 1) } → below ≡ nat_lt (before.steps + 1) step_limit → below ≡ true
    → ((c : ℕ) → f ≡ value.Closure c → ⊥) → ((n : ℕ) → f ≡ value.Native n → ⊥) → by ≡ handler mid.heap f Call → is_nil by ≡ false → (rs : List Resume)
    → eval S (ACall f args) q [] (record { store = before; resumes = rs }) ≡ eval S (ACall by (f ∷ args)) q [] (record { store = mid; resumes = rs })
comes_by_handler S f by args q before mid below is e holds c n h there rs =
    call_goes S f args q before mid below is e holds rs
    ∙ ap (λ (t : Work). do_work (eval S) t (record { store = mid; resumes = rs })) (by_handler S f args q [] c n)
    ∙ ap (λ (t : Work). do_work (eval S) t (record { store = mid; resumes = rs })) (ap (λ (b : Value). call_by S b f args q []) (sym h))
    ∙ linked S by f args q mid rs there

-- fewer steps are left
pub fewer_left : (before mid : StoreView) (below : Bool) → mid ≡ record { heap = before.heap; steps = min step_limit (before.steps + 1) } → below ≡ nat_lt (before.steps + 1) step_limit → below ≡ true → step_limit - mid.steps < step_limit - before.steps
fewer_left before mid below is e holds = omega (arith, ltb-true _ _ (sym e ∙ holds), ap (λ (st : StoreView). st.steps) is)
