-- The worked row of a thread that parks, step by step.
use Rattle.std.specs.Prelude.{◌≡◌, List, [], ◌∷◌, true, false, Some, pos, refl}
use Rattle.std.proofs.Common.{ap}
use Rattle.lua_ast.specs.declared.expressions.ExprKind.TheViews.{outs-Number, outs-Slot, outs-Binary, outs-Call, outs-Global, outs-Function}
use Rattle.lua_ast.specs.declared.statements.StmtKind.TheViews.{outs-Return, outs-Local}
use Rattle.lua_values.specs.declared.values.Value.TheVariants.{Truth, Number, Closure}
use Rattle.lua_values.specs.Heap.{StoreView}
use Rattle.lua_meaning.specs.Works.{Values, ACall}
use Rattle.lua_meaning.specs.Evaluator.{Ending, Ended, Parked}
use Rattle.lua_meaning.specs.Calls.{calling}
use Rattle.lua_meaning.specs.Life.{outcome_of}
use Rattle.lua_meaning.specs.ParkedRows as rows
use Rattle.lua_meaning.specs.ParkedRows.{ParkedRow}
use Rattle.lua_meaning.proofs.Running.{Comes, node, stmt, exp, val, seq, look, write, count, end, ret, park, resume, parks}

parks-there : (store : StoreView) → rows.parked ≡ store → Comes rows.setting (ACall (Closure 0) []) (calling [] false) [] (record { store = rows.before; resumes = [] })
    (Parked 0 (Number (pos 1) ∷ []) (Some (record { file = 0; line = 1 })) store)
parks-there store e = (node refl (look
    (parks (stmt (outs-Local _ _) refl (parks (exp (outs-Call _ _) refl (seq (val (outs-Global _) refl (look (look end))) (seq (exp (outs-Function _) refl (look (write end)))
    (parks (node refl (count refl
    (parks (node refl (look
    (parks (stmt (outs-Return _) refl (ret _ _ _ (outs-Binary _ _ _) (parks (exp (outs-Binary _ _ _) refl (parks (val (outs-Call _ _) refl (seq (val (outs-Global _) refl (look (look end))) (seq (exp (outs-Number _) refl end)
    (parks (node refl (look (count refl (park e))))))))))))))))))))))))))))

goes-on : Comes rows.setting (ACall (Closure 0) []) (calling [] false) [] (record { store = rows.before; resumes = rows.resume rows.parked (Number (pos 41) ∷ []) ∷ [] })
    (Ended (Values (Truth true ∷ Number (pos 42) ∷ [])) [] (record { store = record { heap = rows.parked.heap; steps = 17 }; resumes = [] }))
goes-on = (node refl (look
    (seq (stmt (outs-Local _ _) refl (seq (exp (outs-Call _ _) refl (seq (val (outs-Global _) refl (look (look end))) (seq (exp (outs-Function _) refl (look (write end)))
    (seq (node refl (count refl
    (seq (node refl (look
    (seq (stmt (outs-Return _) refl (ret _ _ _ (outs-Binary _ _ _) (seq (exp (outs-Binary _ _ _) refl (seq (val (outs-Call _ _) refl (seq (val (outs-Global _) refl (look (look end))) (seq (exp (outs-Number _) refl end)
    (seq (node refl (look (count refl (resume refl end)))) end)))) (seq (val (outs-Number _) refl end) end))) end))) end))) end))) end)))) end))
    (seq (stmt (outs-Return _) refl (seq (val (outs-Slot _) refl (look end)) (seq (exp (outs-Slot _) refl (look end)) end))) end))))

pub parked-row : ParkedRow
parked-row = record {
  parks = ap (λ (o : Ending). outcome_of o) (parks-there rows.parked refl).is;
  goes_on = ap (λ (o : Ending). outcome_of o) goes-on.is;
}
