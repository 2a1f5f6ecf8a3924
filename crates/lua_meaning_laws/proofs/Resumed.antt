-- What a resume comes to stands after the heap of that resume.
use Rattle.std.proofs.Common.{◌≡◌, ℕ, zero, suc, ◌+◌, nat_lt, Bool, true, false, List, [], ◌∷◌, ◌++◌, Option, refl, sym, ap, ◌∙◌, append_assoc, subst, if◌then◌else◌}
use Rattle.lua_values.specs.declared.values.Value.{Value}
use Rattle.lua_values.specs.Heap.{Heap, StoreView, step_limit}
use Rattle.lua_meaning.specs.declared.positions.Position.{Position}
use Rattle.lua_meaning.specs.Works.{Slots, Sign, Work, End, Eval, Outside, Look, Write, Count}
use Rattle.lua_meaning.specs.Evaluator.{Resume, State, Ending, Ended, Parked, Spent, after, Evaluator, do_work, eval_within}
use Rattle.lua_meaning.specs.Setting.{Setting}
use Rattle.lua_meaning.specs.Nodes.{work_of}
use Rattle.lua_meaning_laws.specs.Standing.{Stands, StandsAfter}
use Rattle.lua_meaning_laws.specs.Lives.{ComesAfter}
use Rattle.lua_meaning_laws.proofs.Known.{Given, SlotsKnown, SignKnown, WorkKnown}
use Rattle.lua_meaning_laws.proofs.Nodes.{node_known}
use Rattle.lua_meaning_laws.proofs.Taking.{at, Run, TookFirst, Took, EvaluatorTakes, within_takes}
use Rattle.lua_meaning_laws.proofs.Ends.{EndingKnown, Kept, EvaluatorKnown, EvaluatorResumed, kept_first, kept_after, kept_going, kept_past, ending_later, going_known, work_known, within_known}

-- what was taken of some resumes is taken of those with more after them
took_more : (first : Run) (past more : List Resume) (sign : Sign) (s : Slots) (w : State) → TookFirst first past sign s w → TookFirst first (past ++ more) sign s (at w.store (w.resumes ++ more))
took_more first past more sign s w t = record {
  taken = t.taken;
  before = ap (λ (rs : List Resume). rs ++ more) t.before ∙ append_assoc t.taken w.resumes more;
  same = t.same;
}

same_with_more : (first : Run) (past more : List Resume) (sign : Sign) (s : Slots) (w : State) → TookFirst first past sign s w → first (past ++ more) ≡ Ended sign s (at w.store (w.resumes ++ more))
unfolding took_more
same_with_more first past more sign s w t = ap first (took_more first past more sign s w t).before ∙ t.same (w.resumes ++ more)

-- what asks hasn't spent its steps
asks_going : (b : Bool) (o : Ending) (number : ℕ) (args : List Value) (position : Option Position) (left : StoreView) → (if b then o else Spent) ≡ Parked number args position left
    → (b ≡ true) × (o ≡ Parked number args position left)
asks_going true o number args position left e = (refl, e)
asks_going false o number args position left e = absurd (cc)

module _ (S : Setting) (G : Given S) where
  -- the work asked within its first part: that ends after the resume, and then the work goes on
  asked_within : (g : Heap) (first : Run) (go : Sign → Slots → State → Ending) (resumes : List Resume) (h : Heap) (o : Ending) → Took first resumes o → EndingKnown S h o → EndingKnown S g o
      → Kept S (λ rs. after (first rs) go) resumes
      → ((sign : Sign) (s : Slots) (w : State) → StandsAfter S h w.store.heap → SignKnown S w.store.heap sign → SlotsKnown S w.store.heap s → Kept S (λ rs. go sign s (at w.store rs)) w.resumes
      → EndingKnown S w.store.heap (go sign s w))
      → EndingKnown S g (after o go)
  asked_within g first go resumes h (Ended sign s w) t k l kept each =
      ending_later S G g w.store.heap (go sign s w) l.0 (each sign s w k.0 k.1 k.2 (kept_after S first go resumes sign s w t kept))
  asked_within g first go resumes h (Parked number args position store) t k l kept each = l
  asked_within g first go resumes h Spent t k l kept each = tt

  -- the first part asked, or it ended and the rest did
  after_resumed : (h : Heap) (first : Run) (go : Sign → Slots → State → Ending) (past : List Resume) (r : Resume) (more : List Resume) (number : ℕ) (args : List Value) (position : Option Position) (left : StoreView)
      → (o : Ending) → first past ≡ o → Took first past o → Took first (past ++ r ∷ more) (first (past ++ r ∷ more)) → EndingKnown S h o → EndingKnown S h (first (past ++ r ∷ more))
      → ((number : ℕ) (args : List Value) (position : Option Position) (left : StoreView) → first past ≡ Parked number args position left → EndingKnown S r.store.heap (first (past ++ r ∷ more)))
      → Kept S (λ rs. after (first rs) go) (past ++ r ∷ more) → after o go ≡ Parked number args position left
      → ((sign : Sign) (s : Slots) (w : State) → StandsAfter S h w.store.heap → SignKnown S w.store.heap sign → SlotsKnown S w.store.heap s → Kept S (λ rs. go sign s (at w.store rs)) w.resumes
      → EndingKnown S w.store.heap (go sign s w))
      → ((sign : Sign) (s : Slots) (w : State) → StandsAfter S h w.store.heap → SignKnown S w.store.heap sign → SlotsKnown S w.store.heap s → go sign s w ≡ Parked number args position left
      → Kept S (λ rs. go sign s (at w.store rs)) (w.resumes ++ r ∷ more) → EndingKnown S r.store.heap (go sign s (at w.store (w.resumes ++ r ∷ more))))
      → EndingKnown S r.store.heap (after (first (past ++ r ∷ more)) go)
  after_resumed h first go past r more number args position left (Ended sign s w) is t later k l asked kept e each next =
      let resumes : List Resume = past ++ r ∷ more in
      let rest : Kept S (λ rs. go sign s (at w.store rs)) (w.resumes ++ r ∷ more) = kept_after S first go resumes sign s (at w.store (w.resumes ++ r ∷ more)) (took_more first past (r ∷ more) sign s w t) kept in
      subst (λ (o : Ending). EndingKnown S r.store.heap (after o go)) (sym (same_with_more first past (r ∷ more) sign s w t)) (next sign s w k.0 k.1 k.2 e rest)
  after_resumed h first go past r more number args position left (Parked number' args' position' left') is t later k l asked kept e each next =
      asked_within r.store.heap first go (past ++ r ∷ more) h (first (past ++ r ∷ more)) later l (asked number' args' position' left' is) kept each
  after_resumed h first go past r more number args position left Spent is t later k l asked kept e each next = absurd (cc)

  work_resumed : (evaluator : Evaluator) → EvaluatorTakes evaluator → EvaluatorKnown S evaluator → EvaluatorResumed S evaluator
      → (q : Work) (store : StoreView) (past : List Resume) (r : Resume) (more : List Resume) (number : ℕ) (args : List Value) (position : Option Position) (left : StoreView)
      → Stands S store.heap → WorkKnown S store.heap q → do_work evaluator q (at store past) ≡ Parked number args position left
      → Kept S (λ rs. do_work evaluator q (at store rs)) (past ++ r ∷ more) → EndingKnown S r.store.heap (do_work evaluator q (at store (past ++ r ∷ more)))
  work_resumed evaluator takes each again (End sign s) store past r more number args position left st k e kept = absurd (cc)
  work_resumed evaluator takes each again (Eval n p s go) store past r more number args position left st k e kept =
      let first : Run = λ rs. evaluator n p s (at store rs) in
      let next : Sign → Slots → State → Ending = λ sign s' w. do_work evaluator (go sign s') w in
      let resumes : List Resume = past ++ r ∷ more in
      let all : Kept S first resumes = kept_first S first next resumes kept in
      after_resumed store.heap first next past r more number args position left (first past) refl (takes n p s store past) (takes n p s store resumes)
      (each n p s store past st k.0 k.1 k.2 (kept_past S first past (r ∷ more) all)) (each n p s store resumes st k.0 k.1 k.2 all)
      (λ number' args' position' left' f. again n p s store past r more number' args' position' left' st k.0 k.1 k.2 f all) kept e
      (λ sign s' w l sg sk kept'. work_known S G evaluator takes each (go sign s') w.store w.resumes l.stands (k.3 w.store.heap sign s' l sg sk) kept')
      (λ sign s' w l sg sk f kept'. work_resumed evaluator takes each again (go sign s') w.store w.resumes r more number args position left l.stands (k.3 w.store.heap sign s' l sg sk) f kept')
  work_resumed evaluator takes each again (Outside asked asked_args at_position go) store [] r more number args position left st k e kept =
      let run : Run = λ rs. do_work evaluator (Outside asked asked_args at_position go) (at store rs) in
      let next : Run = λ rs. do_work evaluator (go r.answer) (at r.store rs) in
      let comes : ComesAfter S store.heap r = kept [] more r asked asked_args at_position store refl refl in
      going_known S G r.store.heap (nat_lt r.store.steps step_limit) (next more) (λ going.
      work_known S G evaluator takes each (go r.answer) r.store more comes.heap.stands (k.1 r.store.heap r.answer comes.heap comes.answer)
      (kept_going S run next (r ∷ []) more (nat_lt r.store.steps step_limit) (λ rs. refl) going kept))
  work_resumed evaluator takes each again (Outside asked asked_args at_position go) store (before ∷ past) r more number args position left st k e kept =
      let run : Run = λ rs. do_work evaluator (Outside asked asked_args at_position go) (at store rs) in
      let next : Run = λ rs. do_work evaluator (go before.answer) (at before.store rs) in
      let comes : ComesAfter S store.heap before = kept [] (past ++ r ∷ more) before asked asked_args at_position store refl refl in
      let goes = asks_going (nat_lt before.store.steps step_limit) (next past) number args position left e in
      going_known S G r.store.heap (nat_lt before.store.steps step_limit) (next (past ++ r ∷ more)) (λ going.
      work_resumed evaluator takes each again (go before.answer) before.store past r more number args position left comes.heap.stands (k.1 before.store.heap before.answer comes.heap comes.answer) goes.1
      (kept_going S run next (before ∷ []) (past ++ r ∷ more) (nat_lt before.store.steps step_limit) (λ rs. refl) going kept))
  work_resumed evaluator takes each again (Look go) store past r more number args position left st k e kept =
      work_resumed evaluator takes each again (go store.heap) store past r more number args position left st k e kept
  work_resumed evaluator takes each again (Write g go) store past r more number args position left st k e kept =
      work_resumed evaluator takes each again go (record { heap = g; steps = store.steps }) past r more number args position left k.0.stands k.1 e kept
  work_resumed evaluator takes each again (Count n go) store past r more number args position left st k e kept =
      let later : StoreView = record { heap = store.heap; steps = store.steps + n } in
      let next : Run = λ rs. do_work evaluator go (at later rs) in
      let goes = asks_going (nat_lt (store.steps + n) step_limit) (next past) number args position left e in
      going_known S G r.store.heap (nat_lt (store.steps + n) step_limit) (next (past ++ r ∷ more)) (λ going.
      work_resumed evaluator takes each again go later past r more number args position left st k goes.1
      (kept_going S (λ rs. do_work evaluator (Count n go) (at store rs)) next [] (past ++ r ∷ more) (nat_lt (store.steps + n) step_limit) (λ rs. refl) going kept))

  pub within_resumed : (k : ℕ) → EvaluatorResumed S (eval_within (work_of S) k)
  unfolding eval_within
  within_resumed zero n p s store past r more number args position left st nk pk sk e kept = absurd (cc)
  within_resumed (suc k) n p s store past r more number args position left st nk pk sk e kept =
      work_resumed (eval_within (work_of S) k) (within_takes (work_of S) k) (within_known S G k) (within_resumed k) (Count 1 (work_of S n p s)) store past r more number args position left st
      (node_known S G store.heap n p s st nk pk sk) e kept
