-- What a run of a loop's body comes to.
use Rattle.std.proofs.Common.{◌≡◌, ℕ, false, List, [], ◌∷◌, ℤ, pos, Option, Some, None, Result, Ok, Err, refl, ◌∙◌, if◌then◌else◌}
use Rattle.std.specs.Prelude.{slice_set}
use Rattle.std.specs.Ordering.{int_eq}
use Rattle.lua_ast.specs.declared.statements.Stmt.{Stmt}
use Rattle.lua_numbers.specs.declared.faults.NumFault.{NumFault}
use Rattle.lua_values.specs.declared.values.Value.{Value}
use Rattle.lua_values.specs.declared.values.Value.TheVariants as value_of
use Rattle.lua_values.specs.Values.{is_nil}
use Rattle.lua_operators.specs.declared.arithmetic.ArithmeticOperator.TheVariants.{Add}
use Rattle.lua_operators.specs.declared.faults.Fault.{Fault}
use Rattle.lua_operators.specs.declared.faults.Fault.TheVariants.{ForInitial, ForLimit, ForStep, ForStepZero}
use Rattle.lua_operators.specs.ArithmeticOperators.{result_of}
use Rattle.lua_operators.specs.Conversions.{number_of}
use Rattle.lua_operators.specs.Types.{is_truthy}
use Rattle.lua_meaning.specs.declared.slots.Slot.TheVariants.{Plain}
use Rattle.lua_meaning.specs.Works.{Caller, Places, Slots, ARepeat, AFor, AnIter, ACall, Work, and_then}
use Rattle.lua_meaning.specs.Evaluator.{State, Ending, do_work}
use Rattle.lua_meaning.specs.Laws.{EvaluatorEvaluates, WorksInOrder}
use Rattle.lua_meaning.specs.Setting.{Setting}
use Rattle.lua_meaning.specs.Positions.{callers_at, raise_fault}
use Rattle.lua_meaning.specs.Signs.{first, give, value}
use Rattle.lua_meaning.specs.Variables.{with_locals}
use Rattle.lua_meaning.specs.Blocks.{block}
use Rattle.lua_meaning.specs.Calls.{calling}
use Rattle.lua_meaning.specs.Loops.{again, after_body, is_within, for_from, for_next, bound, for_work, iterate}
use Rattle.lua_meaning.specs.Nodes.{work_of, eval}
use Rattle.lua_meaning.specs.DirectEquations.{with_body, eval_block}
use Rattle.lua_meaning.specs.EndingLaws.{body_then, after_same, counted_then}
use Rattle.lua_meaning_laws.specs.Loops.{for_from_in, for_next_in, bound_in, for_in, iterate_in, LoopsAre, EachLoopIs}
use Rattle.lua_meaning_laws.proofs.FollowingEquations.{call_then, work_if, one}

module _ (S : Setting) where
  for_from_then : (line slot : ℕ) (i limit step : ℤ) (body : List Stmt) (p : Places) (s : Slots) (w : State)
      → do_work (eval S) (for_from line slot i limit step body p s) w ≡ for_from_in S line slot i limit step body p s w
  for_from_then line slot i limit step body p s w =
      work_if S (is_within i limit step) (again (AFor line slot i limit step body) p s) (give [] s) w _ _ (after_same (eval S (AFor line slot i limit step body) p s w)) refl

  for_next_then : (line slot : ℕ) (next : Result ℤ NumFault) (limit step : ℤ) (body : List Stmt) (p : Places) (s : Slots) (w : State)
      → do_work (eval S) (for_next S line slot next limit step body p s) w ≡ for_next_in S line slot next limit step body p s w
  for_next_then line slot (Ok i) limit step body p s w = for_from_then line slot i limit step body p s w
  for_next_then line slot (Err fault) limit step body p s w = refl

  bound_then : (callers : List Caller) (fault : Fault) (o : Option ℤ) (s : Slots) (w : State) (f : ℤ → Work) (go : ℤ → Ending) → ((n : ℤ) → do_work (eval S) (f n) w ≡ go n)
      → do_work (eval S) (bound S callers fault o s f) w ≡ bound_in S callers fault o s w go
  bound_then callers fault (Some n) s w f go each = each n
  bound_then callers fault None s w f go each = refl

  pub for_then : (line slot : ℕ) (from to by : Value) (body : List Stmt) (p : Places) (s : Slots) (w : State)
      → do_work (eval S) (for_work S line slot from to by body p s) w ≡ for_in S line slot from to by body p s w
  for_then line slot from to by body p s w =
      let callers : List Caller = callers_at p line in
      let run : ℤ → ℤ → ℤ → Work = λ i limit step. if int_eq step (pos 0) then raise_fault S callers ForStepZero s else for_from line slot i limit step body p s in
      bound_then callers ForInitial (number_of from) s w (λ i. bound S callers ForLimit (number_of to) s (λ limit. bound S callers ForStep (number_of by) s (run i limit))) _ (λ i.
      bound_then callers ForLimit (number_of to) s w (λ limit. bound S callers ForStep (number_of by) s (run i limit)) _ (λ limit.
      bound_then callers ForStep (number_of by) s w (run i limit) _ (λ step.
      work_if S (int_eq step (pos 0)) (raise_fault S callers ForStepZero s) (for_from line slot i limit step body p s) w _ _ refl (for_from_then line slot i limit step body p s w))))

  pub iterate_then : (line : ℕ) (slots : List ℕ) (f state control : Value) (body : List Stmt) (p : Places) (s : Slots) (w : State)
      → do_work (eval S) (iterate line slots f state control body p s) w ≡ iterate_in S line slots f state control body p s w
  iterate_then line slots f state control body p s w =
      call_then (eval S (ACall f (state ∷ control ∷ [])) (calling (callers_at p line) false) [] w) s (eval S)
      (λ vs s2. if is_nil (first vs) then give [] s2 else again (AnIter line slots f state vs body) p s2) _ (λ vs s2 w2.
      work_if S (is_nil (first vs)) (give [] s2) (again (AnIter line slots f state vs body) p s2) w2 _ _ refl (after_same (eval S (AnIter line slots f state vs body) p s2 w2)))

  -- a run of a body, and what is after it
  run_then : WorksInOrder → (body : List Stmt) (p : Places) (s : Slots) (w : State) (f : Slots → Work) (go : Slots → State → Ending)
      → ((s2 : Slots) (w2 : State) → do_work (eval S) (f s2) w2 ≡ go s2 w2) → do_work (eval S) (and_then (block body p s) (after_body f)) w ≡ with_body (eval_block S body p s w) go
  run_then in_order body p s w f go each = in_order (eval S) (block body p s) (after_body f) w ∙ body_then (eval S) (eval_block S body p s w) f go each

  pub loops : EvaluatorEvaluates → WorksInOrder → LoopsAre S
  loops evaluates in_order = record {
    repeat_ = λ body test p s w.
        evaluates (work_of S) (ARepeat body test) p s w
        ∙ counted_then 1 w _ _ (λ w1. run_then in_order body p s w1 (λ s2. value test p s2 (λ v s3. if is_truthy v then give [] s3 else again (ARepeat body test) p s3)) _ (λ s2 w2.
        one S test p s2 w2 (λ vs s3. if is_truthy (first vs) then give [] s3 else again (ARepeat body test) p s3) _ (λ vs s3 w3.
        work_if S (is_truthy (first vs)) (give [] s3) (again (ARepeat body test) p s3) w3 _ _ refl (after_same (eval S (ARepeat body test) p s3 w3)))));
    numeric_for = λ line slot i limit step body p s w.
        evaluates (work_of S) (AFor line slot i limit step body) p s w
        ∙ counted_then 1 w _ _ (λ w1. run_then in_order body p (slice_set s slot (Plain (value_of.Number i))) w1 (for_next S line slot (result_of Add i step) limit step body p) _ (λ s2 w2.
        for_next_then line slot (result_of Add i step) limit step body p s2 w2));
    generic_for = λ line slots f state vs body p s w.
        evaluates (work_of S) (AnIter line slots f state vs body) p s w
        ∙ counted_then 1 w _ _ (λ w1. run_then in_order body p (with_locals slots vs s) w1 (iterate line slots f state (first vs) body p) _ (λ s2 w2.
        iterate_then line slots f state (first vs) body p s2 w2));
  }

pub each_loop : EvaluatorEvaluates → WorksInOrder → EachLoopIs
each_loop evaluates in_order = record { all = λ S. loops S evaluates in_order }
