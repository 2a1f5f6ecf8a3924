-- The life of the block's closure, step by step, and what it says for a request.
use Rattle.std.proofs.Common.{◌≡◌, ℕ, ◌+◌, Bool, true, false, nat_lt, List, [], ◌∷◌, Option, None, Global, if◌then◌else◌, refl, sym, ap, ◌∙◌, arith}
use Rattle.lua_ast.specs.declared.expressions.ExprKind.TheViews.{outs-Text, outs-Call, outs-Global, outs-Index}
use Rattle.lua_ast.specs.declared.statements.StmtKind.TheViews as statement
use Rattle.lua_values.specs.declared.values.Value.{Value}
use Rattle.lua_values.specs.declared.values.Value.TheVariants.{Nil, Text, Closure}
use Rattle.lua_values.specs.Heap.{StoreView, step_limit}
use Rattle.lua_values.specs.NativeCalls.{Meaning}
use Rattle.lua_meaning.specs.declared.positions.Position.{Position}
use Rattle.lua_meaning.specs.declared.resumes.Resumed.{Resumed}
use Rattle.lua_meaning.specs.declared.resumes.Resumed.TheVariants as resumed
use Rattle.lua_meaning.specs.Works.{Caller, Node, Places, Slots, Sign, Work, Values, Failed, ACall, Eval, Outside, Look}
use Rattle.lua_meaning.specs.Natives.{native_work, result_work}
use Rattle.lua_meaning.specs.Positions.{raise_operand}
use Rattle.lua_operators.specs.declared.faults.OperandFault.TheVariants as operand
use Rattle.lua_operators.specs.Types.{type_of}
use Rattle.ngx_calls.specs.Natives.{ngx_count}
use Rattle.lua_meaning.specs.Evaluator.{Resume, State, Ending, Ended, Parked, Spent, after, do_work}
use Rattle.lua_meaning.specs.Calls.{calling}
use Rattle.lua_meaning.specs.Life.{OutOfSteps, outcome_of}
use Rattle.lua_meaning.specs.Nodes.{eval}
use Rattle.lua_meaning.specs.Setting.{Setting}
use Rattle.lua_meaning.proofs.Running.{Does, Comes, node, stmt, exp, val, seq, look, count, end, park, resume, parks}
use Rattle.ngx_calls.specs.Printing.{met_in}
use Rattle.run_threads.specs.Handlers.{goes_on}
use Rattle.resty_base.specs.BoolLaws.{by_test}
use Rattle.site_examples.specs.Site.{hi, hi_store, says, with_steps, done_with}
use Rattle.site_examples.specs.Program.{hi_setting}
use Rattle.site_examples.specs.Lives.{IsItsLife, SaysOneLine}

-- where the steps are spent at the next resume, and so in what begins with that
spends : {S : Setting} {number : ℕ} {args : List Value} {position : Option Position} {go : Resumed → Work} {store : StoreView} {r : Resume} {rs : List Resume}
    → nat_lt r.store.steps step_limit ≡ false → Does S (Outside number args position go) (record { store = store; resumes = r ∷ rs }) Spent
spends {S} {number} {args} {position} {go} {store} {r} {rs} over =
    record { is = ap (λ (t : Bool). if t then do_work (eval S) (go r.answer) (record { store = r.store; resumes = rs }) else Spent) over }

spent : {S : Setting} {n : Node} {p : Places} {s : Slots} {go : Sign → Slots → Work} {w : State} → Comes S n p s w Spent → Does S (Eval n p s go) w Spent
spent {S} {n} {p} {s} {go} h = record { is = ap (λ (x : Ending). after x (λ sign' s'' w''. do_work (eval S) (go sign' s'') w'')) h.is }

module _ (heap : Global) (others : ℕ) (meaning : Meaning) where
  abbrev S : Setting
  S = hi_setting heap others meaning

  abbrev IsEnd : List Resume → Ending → Type 0
  IsEnd resumes o = Comes S (ACall (Closure 0) []) (calling [] false) [] (record { store = hi_store; resumes = resumes }) o

  -- the call stands in line 2 of the block
  abbrev block : List Caller
  block = (record { function = 0; line = 2 }) ∷ []

  enough : nat_lt 1 (ngx_count + others) ≡ true
  enough = grind arith

  -- the call of `ngx.say` is one of a function that is there
  called : {w : State} {o : Ending} → Does S (Look (λ h. result_work S 1 (Text hi ∷ []) block (S.lib 1 (Text hi ∷ []) h) [])) w o → Does S (native_work S 6 (Text hi ∷ []) block []) w o
  called {w} h = record {
    is =
        ap (λ (t : Bool). do_work (eval S) (if t then Look (λ h. result_work S 1 (Text hi ∷ []) block (S.lib 1 (Text hi ∷ []) h) []) else raise_operand S block (operand.Call (type_of Nil)) []) w) enough
        ∙ h.is;
  }

  asks : (store : StoreView) → with_steps 8 hi_store ≡ store → IsEnd [] (Parked 1 (Text hi ∷ []) None store)
  asks store e =
      node refl (look
      (parks (stmt (statement.outs-Call _) refl (parks (exp (outs-Call _ _) refl
      (seq (val (outs-Index _ _) refl (seq (val (outs-Global _) refl (look (look end))) (seq (val (outs-Text _) refl end) (look end))))
      (seq (exp (outs-Text _) refl end)
      (parks (node refl (called (look (count refl (park e)))))))))))))

  ends : (vs : List Value) (store : StoreView) (rs : List Resume) → nat_lt store.steps step_limit ≡ true
      → IsEnd ((record { store = store; answer = resumed.Values vs }) ∷ rs) (Ended (Values []) [] (record { store = store; resumes = rs }))
  ends vs store rs few =
      node refl (look
      (seq (stmt (statement.outs-Call _) refl (seq (exp (outs-Call _ _) refl
      (seq (val (outs-Index _ _) refl (seq (val (outs-Global _) refl (look (look end))) (seq (val (outs-Text _) refl end) (look end))))
      (seq (exp (outs-Text _) refl end)
      (seq (node refl (called (look (count refl (resume few end))))) end)))) end)) end))

  fails : (message : List ℕ) (store : StoreView) (rs : List Resume) → nat_lt store.steps step_limit ≡ true
      → IsEnd ((record { store = store; answer = resumed.Raise message }) ∷ rs) (Ended (Failed (Text message)) [] (record { store = store; resumes = rs }))
  fails message store rs few =
      node refl (look
      (seq (stmt (statement.outs-Call _) refl (seq (exp (outs-Call _ _) refl
      (seq (val (outs-Index _ _) refl (seq (val (outs-Global _) refl (look (look end))) (seq (val (outs-Text _) refl end) (look end))))
      (seq (exp (outs-Text _) refl end)
      (seq (node refl (called (look (count refl (resume few end))))) end)))) end)) end))

  runs-out : (r : Resume) (rs : List Resume) → nat_lt r.store.steps step_limit ≡ false → IsEnd (r ∷ rs) Spent
  runs-out r rs over =
      node refl (look
      (spent (stmt (statement.outs-Call _) refl (spent (exp (outs-Call _ _) refl
      (seq (val (outs-Index _ _) refl (seq (val (outs-Global _) refl (look (look end))) (seq (val (outs-Text _) refl end) (look end))))
      (seq (exp (outs-Text _) refl end)
      (spent (node refl (called (look (count refl (spends over)))))))))))))

  lives : (answer : Resumed) (more : List Resume) → outcome_of (eval S (ACall (Closure 0) []) (calling [] false) [] (record { store = hi_store; resumes = more })) ≡ says hi ((record { store = hi_store; answer = answer }) ∷ more)
  lives answer [] = ap (λ (o : Ending). outcome_of o) (asks (with_steps 8 hi_store) refl).is
  lives answer (r ∷ rs) = by_test (nat_lt r.store.steps step_limit)
      (λ few. by r.answer r.store few ∙ ap (λ c. if c then done_with r.answer r.store else OutOfSteps) (sym few))
      (λ over. ap (λ (o : Ending). outcome_of o) (runs-out r rs over).is ∙ ap (λ c. if c then done_with r.answer r.store else OutOfSteps) (sym over))
    where
      by : (given : Resumed) (store : StoreView) → nat_lt store.steps step_limit ≡ true
          → outcome_of (eval S (ACall (Closure 0) []) (calling [] false) [] (record { store = hi_store; resumes = (record { store = store; answer = given }) ∷ rs })) ≡ done_with given store
      by (resumed.Values vs) store few = ap (λ (o : Ending). outcome_of o) (ends vs store rs few).is
      by (resumed.Raise message) store few = ap (λ (o : Ending). outcome_of o) (fails message store rs few).is

pub its-life : IsItsLife
its-life heap others meaning answer more = lives heap others meaning answer more

pub says-one-line : SaysOneLine
unfolding goes_on met_in
says-one-line head target = refl
