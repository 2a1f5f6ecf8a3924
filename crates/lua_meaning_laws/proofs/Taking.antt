-- An evaluation that ended took the first of its resumes, and would have ended so whatever came after them.
use Rattle.std.proofs.Common.{◌≡◌, ℕ, zero, suc, ◌+◌, nat_lt, Bool, true, false, List, [], ◌∷◌, ◌++◌, refl, sym, ap, ◌∙◌, append_assoc, if◌then◌else◌}
use Rattle.lua_values.specs.Heap.{StoreView, step_limit}
use Rattle.lua_meaning.specs.Works.{Places, Slots, Node, Sign, Work, End, Eval, Outside, Look, Write, Count}
use Rattle.lua_meaning.specs.Evaluator.{Resume, State, Ending, Ended, Parked, Spent, after, Evaluator, WorkOf, do_work, eval_within}

abbrev pub at : StoreView → List Resume → State
at store resumes = record { store = store; resumes = resumes }

-- what an evaluation comes to, by the resumes
abbrev pub Run : Type 0
Run = List Resume → Ending

pub record TookFirst (run : Run) (resumes : List Resume) (sign : Sign) (s : Slots) (w : State) : Type 0 where
  pub taken : List Resume
  pub before : resumes ≡ taken ++ w.resumes
  pub same : (others : List Resume) → run (taken ++ others) ≡ Ended sign s (at w.store others)

abbrev pub Took : Run → List Resume → Ending → Type 0
Took run resumes (Ended sign s w) = TookFirst run resumes sign s w
Took run resumes (Parked number args position store) = Unit {0}
Took run resumes Spent = Unit {0}

abbrev pub EvaluatorTakes : Evaluator → Type 0
EvaluatorTakes evaluator =
    (n : Node) (p : Places) (s : Slots) (store : StoreView) (resumes : List Resume) → Took (λ rs. evaluator n p s (at store rs)) resumes (evaluator n p s (at store resumes))

-- so does what goes on after the first resumes
took_after : (run next : Run) (resumes taken others : List Resume) (o : Ending) → resumes ≡ taken ++ others → ((rs : List Resume) → run (taken ++ rs) ≡ next rs) → Took next others o
    → Took run resumes o
took_after run next resumes taken others (Ended sign s w) e same t = record {
  taken = taken ++ t.taken;
  before = e ∙ ap (λ (rs : List Resume). taken ++ rs) t.before ∙ sym (append_assoc taken t.taken w.resumes);
  same = λ rs. ap run (append_assoc taken t.taken rs) ∙ same (t.taken ++ rs) ∙ t.same rs;
}
took_after run next resumes taken others (Parked number args position store) e same t = tt
took_after run next resumes taken others Spent e same t = tt

took_if : (b : Bool) (run : Run) (resumes : List Resume) → Took run resumes (run resumes) → Took (λ rs. if b then run rs else Spent) resumes (if b then run resumes else Spent)
took_if true run resumes t = t
took_if false run resumes t = tt

took_next : (first : Run) (go : Sign → Slots → State → Ending) (resumes : List Resume) (o : Ending) → Took first resumes o
    → ((sign : Sign) (s : Slots) (store : StoreView) (rs : List Resume) → Took (λ rs. go sign s (at store rs)) rs (go sign s (at store rs)))
    → Took (λ rs. after (first rs) go) resumes (after o go)
took_next first go resumes (Ended sign s w) t each =
    took_after (λ rs. after (first rs) go) (λ rs. go sign s (at w.store rs)) resumes t.taken w.resumes (go sign s w) t.before (λ rs. ap (λ (o : Ending). after o go) (t.same rs)) (each sign s w.store w.resumes)
took_next first go resumes (Parked number args position store) t each = tt
took_next first go resumes Spent t each = tt

work_takes : (evaluator : Evaluator) → EvaluatorTakes evaluator → (q : Work) (store : StoreView) (resumes : List Resume)
    → Took (λ rs. do_work evaluator q (at store rs)) resumes (do_work evaluator q (at store resumes))
work_takes evaluator each (End sign s) store resumes = record { taken = []; before = refl; same = λ rs. refl }
work_takes evaluator each (Eval n p s go) store resumes =
    took_next (λ rs. evaluator n p s (at store rs)) (λ sign s' w. do_work evaluator (go sign s') w) resumes (evaluator n p s (at store resumes)) (each n p s store resumes)
    (λ sign s' store' rs. work_takes evaluator each (go sign s') store' rs)
work_takes evaluator each (Outside number args position go) store [] = tt
work_takes evaluator each (Outside number args position go) store (r ∷ resumes) =
    let next : Run = λ rs. do_work evaluator (Outside number args position go) (at store (r ∷ rs)) in
    took_after (λ rs. do_work evaluator (Outside number args position go) (at store rs)) next (r ∷ resumes) (r ∷ []) resumes (next resumes) refl (λ rs. refl)
    (took_if (nat_lt r.store.steps step_limit) (λ rs. do_work evaluator (go r.answer) (at r.store rs)) resumes (work_takes evaluator each (go r.answer) r.store resumes))
work_takes evaluator each (Look go) store resumes = work_takes evaluator each (go store.heap) store resumes
work_takes evaluator each (Write h go) store resumes = work_takes evaluator each go (record { heap = h; steps = store.steps }) resumes
work_takes evaluator each (Count n go) store resumes =
    let later : StoreView = record { heap = store.heap; steps = store.steps + n } in
    took_if (nat_lt (store.steps + n) step_limit) (λ rs. do_work evaluator go (at later rs)) resumes (work_takes evaluator each go later resumes)

pub within_takes : (work_of : WorkOf) (k : ℕ) → EvaluatorTakes (eval_within work_of k)
unfolding eval_within
within_takes work_of zero n p s store resumes = tt
within_takes work_of (suc k) n p s store resumes = work_takes (eval_within work_of k) (within_takes work_of k) (Count 1 (work_of n p s)) store resumes
