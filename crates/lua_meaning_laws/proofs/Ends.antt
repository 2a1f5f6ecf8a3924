-- What evaluations come to keeps standing, by an outside that keeps to what is there.
use Rattle.std.proofs.Common.{◌≡◌, ℕ, zero, suc, ◌+◌, nat_lt, Bool, true, false, List, [], ◌∷◌, ◌++◌, Option, All, refl, sym, ap, ◌∙◌, append_assoc, if◌then◌else◌}
use Rattle.lua_values.specs.declared.values.Value.{Value}
use Rattle.lua_values.specs.Heap.{Heap, StoreView, step_limit}
use Rattle.lua_meaning.specs.declared.positions.Position.{Position}
use Rattle.lua_meaning.specs.Works.{Places, Slots, Node, Sign, Work, End, Eval, Outside, Look, Write, Count}
use Rattle.lua_meaning.specs.Evaluator.{Resume, State, Ending, Ended, Parked, Spent, after, Evaluator, do_work, eval_within}
use Rattle.lua_meaning.specs.Setting.{Setting}
use Rattle.lua_meaning.specs.Nodes.{work_of}
use Rattle.lua_meaning_laws.specs.Standing.{Stands, Known, StandsAfter}
use Rattle.lua_meaning_laws.specs.Lives.{ComesAfter}
use Rattle.lua_meaning_laws.proofs.Known.{Given, SlotsKnown, SignKnown, PlacesKnown, NodeKnown, WorkKnown, same_heap, later_heap}
use Rattle.lua_meaning_laws.proofs.Nodes.{node_known}
use Rattle.lua_meaning_laws.proofs.Taking.{at, Run, TookFirst, Took, EvaluatorTakes, within_takes}

-- an ending in a heap that keeps standing, with what is known there
abbrev pub EndingKnown : Setting → Heap → Ending → Type 0
EndingKnown S h (Ended sign s w) = StandsAfter S h w.store.heap × SignKnown S w.store.heap sign × SlotsKnown S w.store.heap s
EndingKnown S h (Parked number args position store) = StandsAfter S h store.heap × All (Known S store.heap) args
EndingKnown S h Spent = Unit {0}

-- each resume comes after the heap that the evaluation left as it asked
abbrev pub Kept : Setting → Run → List Resume → Type 0
Kept S run resumes =
    (past more : List Resume) (r : Resume) (number : ℕ) (args : List Value) (position : Option Position) (store : StoreView)
    → resumes ≡ past ++ r ∷ more → run past ≡ Parked number args position store → ComesAfter S store.heap r

abbrev pub EvaluatorKnown : Setting → Evaluator → Type 0
EvaluatorKnown S evaluator =
    (n : Node) (p : Places) (s : Slots) (store : StoreView) (resumes : List Resume) → Stands S store.heap → NodeKnown S store.heap n → PlacesKnown S store.heap p → SlotsKnown S store.heap s
    → Kept S (λ rs. evaluator n p s (at store rs)) resumes → EndingKnown S store.heap (evaluator n p s (at store resumes))

-- and so it is with the heap of a resume after which the evaluation doesn't ask again
abbrev pub EvaluatorResumed : Setting → Evaluator → Type 0
EvaluatorResumed S evaluator =
    (n : Node) (p : Places) (s : Slots) (store : StoreView) (past : List Resume) (r : Resume) (more : List Resume) (number : ℕ) (args : List Value) (position : Option Position) (left : StoreView)
    → Stands S store.heap → NodeKnown S store.heap n → PlacesKnown S store.heap p → SlotsKnown S store.heap s → evaluator n p s (at store past) ≡ Parked number args position left
    → Kept S (λ rs. evaluator n p s (at store rs)) (past ++ r ∷ more) → EndingKnown S r.store.heap (evaluator n p s (at store (past ++ r ∷ more)))

-- ---- parts of an evaluation
pub kept_first : (S : Setting) (first : Run) (go : Sign → Slots → State → Ending) (resumes : List Resume) → Kept S (λ rs. after (first rs) go) resumes → Kept S first resumes
kept_first S first go resumes kept past more r number args position store e f = kept past more r number args position store e (ap (λ (o : Ending). after o go) f)

pub kept_after : (S : Setting) (first : Run) (go : Sign → Slots → State → Ending) (resumes : List Resume) (sign : Sign) (s : Slots) (w : State) → TookFirst first resumes sign s w
    → Kept S (λ rs. after (first rs) go) resumes → Kept S (λ rs. go sign s (at w.store rs)) w.resumes
kept_after S first go resumes sign s w t kept past more r number args position store e f =
    kept (t.taken ++ past) more r number args position store
    (t.before ∙ ap (λ (rs : List Resume). t.taken ++ rs) e ∙ sym (append_assoc t.taken past (r ∷ more))) (ap (λ (o : Ending). after o go) (t.same past) ∙ f)

-- what goes on unless steps are spent
pub kept_going : (S : Setting) (run next : Run) (before resumes : List Resume) (b : Bool) → ((rs : List Resume) → run (before ++ rs) ≡ (if b then next rs else Spent)) → b ≡ true
    → Kept S run (before ++ resumes) → Kept S next resumes
kept_going S run next before resumes b same going kept past more r number args position store e f =
    kept (before ++ past) more r number args position store (ap (λ (rs : List Resume). before ++ rs) e ∙ sym (append_assoc before past (r ∷ more)))
    (same past ∙ ap (λ (t : Bool). if t then next past else Spent) going ∙ f)

pub kept_past : (S : Setting) (run : Run) (past later : List Resume) → Kept S run (past ++ later) → Kept S run past
kept_past S run past later kept before more r number args position store e f =
    kept before (more ++ later) r number args position store (ap (λ (rs : List Resume). rs ++ later) e ∙ append_assoc before (r ∷ more) later) f

module _ (S : Setting) (G : Given S) where
  pub ending_later : (h g : Heap) (o : Ending) → StandsAfter S h g → EndingKnown S g o → EndingKnown S h o
  ending_later h g (Ended sign s w) l k = (later_heap S G h g w.store.heap l k.0, k.1, k.2)
  ending_later h g (Parked number args position store) l k = (later_heap S G h g store.heap l k.0, k.1)
  ending_later h g Spent l k = tt

  pub going_known : (h : Heap) (b : Bool) (o : Ending) → (b ≡ true → EndingKnown S h o) → EndingKnown S h (if b then o else Spent)
  going_known h true o each = each refl
  going_known h false o each = tt

  after_known : (h : Heap) (first : Run) (go : Sign → Slots → State → Ending) (resumes : List Resume) (o : Ending) → Took first resumes o → EndingKnown S h o
      → Kept S (λ rs. after (first rs) go) resumes
      → ((sign : Sign) (s : Slots) (w : State) → StandsAfter S h w.store.heap → SignKnown S w.store.heap sign → SlotsKnown S w.store.heap s → Kept S (λ rs. go sign s (at w.store rs)) w.resumes
      → EndingKnown S w.store.heap (go sign s w))
      → EndingKnown S h (after o go)
  after_known h first go resumes (Ended sign s w) t k kept each =
      ending_later h w.store.heap (go sign s w) k.0 (each sign s w k.0 k.1 k.2 (kept_after S first go resumes sign s w t kept))
  after_known h first go resumes (Parked number args position store) t k kept each = k
  after_known h first go resumes Spent t k kept each = tt

  pub work_known : (evaluator : Evaluator) → EvaluatorTakes evaluator → EvaluatorKnown S evaluator → (q : Work) (store : StoreView) (resumes : List Resume) → Stands S store.heap → WorkKnown S store.heap q
      → Kept S (λ rs. do_work evaluator q (at store rs)) resumes → EndingKnown S store.heap (do_work evaluator q (at store resumes))
  work_known evaluator takes each (End sign s) store resumes st k kept = (same_heap S G store.heap st, k.0, k.1)
  work_known evaluator takes each (Eval n p s go) store resumes st k kept =
      let first : Run = λ rs. evaluator n p s (at store rs) in
      let next : Sign → Slots → State → Ending = λ sign s' w. do_work evaluator (go sign s') w in
      after_known store.heap first next resumes (first resumes) (takes n p s store resumes) (each n p s store resumes st k.0 k.1 k.2 (kept_first S first next resumes kept)) kept
      (λ sign s' w l sg sk kept'. work_known evaluator takes each (go sign s') w.store w.resumes l.stands (k.3 w.store.heap sign s' l sg sk) kept')
  work_known evaluator takes each (Outside number args position go) store [] st k kept = (same_heap S G store.heap st, k.0)
  work_known evaluator takes each (Outside number args position go) store (r ∷ resumes) st k kept =
      let run : Run = λ rs. do_work evaluator (Outside number args position go) (at store rs) in
      let next : Run = λ rs. do_work evaluator (go r.answer) (at r.store rs) in
      let comes : ComesAfter S store.heap r = kept [] resumes r number args position store refl refl in
      going_known store.heap (nat_lt r.store.steps step_limit) (next resumes) (λ going.
      ending_later store.heap r.store.heap (next resumes) comes.heap
      (work_known evaluator takes each (go r.answer) r.store resumes comes.heap.stands (k.1 r.store.heap r.answer comes.heap comes.answer)
      (kept_going S run next (r ∷ []) resumes (nat_lt r.store.steps step_limit) (λ rs. refl) going kept)))
  work_known evaluator takes each (Look go) store resumes st k kept = work_known evaluator takes each (go store.heap) store resumes st k kept
  work_known evaluator takes each (Write g go) store resumes st k kept =
      let written : StoreView = record { heap = g; steps = store.steps } in
      ending_later store.heap g (do_work evaluator go (at written resumes)) k.0 (work_known evaluator takes each go written resumes k.0.stands k.1 kept)
  work_known evaluator takes each (Count n go) store resumes st k kept =
      let later : StoreView = record { heap = store.heap; steps = store.steps + n } in
      let next : Run = λ rs. do_work evaluator go (at later rs) in
      going_known store.heap (nat_lt (store.steps + n) step_limit) (next resumes) (λ going.
      work_known evaluator takes each go later resumes st k
      (kept_going S (λ rs. do_work evaluator (Count n go) (at store rs)) next [] resumes (nat_lt (store.steps + n) step_limit) (λ rs. refl) going kept))

  pub within_known : (k : ℕ) → EvaluatorKnown S (eval_within (work_of S) k)
  unfolding eval_within
  within_known zero n p s store resumes st nk pk sk kept = tt
  within_known (suc k) n p s store resumes st nk pk sk kept =
      work_known (eval_within (work_of S) k) (within_takes (work_of S) k) (within_known k) (Count 1 (work_of S n p s)) store resumes st (node_known S G store.heap n p s st nk pk sk) kept
