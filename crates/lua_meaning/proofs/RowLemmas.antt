-- Worked rows, step by step.
use Rattle.std.specs.Prelude.{[], ◌∷◌, pos, codes, refl}
use Rattle.lua_ast.specs.declared.expressions.ExprKind.TheViews.{outs-Nil, outs-Number, outs-Slot, outs-Captured, outs-Binary, outs-Call, outs-Vararg, outs-Paren, outs-Index, outs-Table}
use Rattle.lua_ast.specs.declared.statements.StmtKind.TheViews.{outs-Return, outs-Local, outs-LocalFunction, outs-Assign, outs-While, outs-If, outs-NumericFor}
use Rattle.lua_values.specs.declared.values.Value.TheVariants.{Nil, Number, Text}
use Rattle.std.specs.Fmt.{digits}
use Rattle.lua_meaning.specs.Trees as tree
use Rattle.lua_meaning.specs.Rows as rows
use Rattle.lua_meaning.specs.Rows.{IsRow, Gives, Fails}
use Rattle.lua_meaning.proofs.Running.{node, stmt, exp, val, seq, look, write, count, end, ret, target, first_arm, row_by}

pub sum-row : IsRow rows.sum (Gives (Number (pos 3) ∷ []) 5 0)
sum-row n lib = row_by n lib rows.sum _ (node refl (look (seq (stmt (outs-Return _) refl (ret _ _ _ (outs-Binary _ _ _) (seq (exp (outs-Binary _ _ _) refl (seq (val (outs-Number _) refl end) (seq (val (outs-Number _) refl end) end))) end))) end)))

pub locals-row : IsRow rows.locals (Gives (Number (pos 1) ∷ Nil ∷ []) 6 0)
locals-row n lib = row_by n lib rows.locals _ (node refl (look (seq (stmt (outs-Local _ _) refl (seq (exp (outs-Number _) refl end) end)) (seq (stmt (outs-Return _) refl (seq (val (outs-Slot _) refl (look end)) (seq (exp (outs-Slot _) refl (look end)) end))) end))))

pub loop-row : IsRow rows.loop (Gives (Number (pos 3) ∷ []) 36 0)
loop-row n lib = row_by n lib rows.loop _ (node refl (look
    (seq (stmt (outs-Local _ _) refl (seq (exp (outs-Number _) refl end) end))
    (seq (stmt (outs-While _ _) refl (seq (val (outs-Binary _ _ _) refl (seq (val (outs-Slot _) refl (look end)) (seq (val (outs-Number _) refl end) end)))
    (seq (node refl
    (seq (stmt (outs-Assign _ _) refl (count refl (target _ _ _ _ (outs-Slot _) (seq (exp (outs-Binary _ _ _) refl (seq (val (outs-Slot _) refl (look end)) (seq (val (outs-Number _) refl end) end))) end)))) (seq (val (outs-Binary _ _ _) refl (seq (val (outs-Slot _) refl (look end)) (seq (val (outs-Number _) refl end) end)))
    (seq (node refl
    (seq (stmt (outs-Assign _ _) refl (count refl (target _ _ _ _ (outs-Slot _) (seq (exp (outs-Binary _ _ _) refl (seq (val (outs-Slot _) refl (look end)) (seq (val (outs-Number _) refl end) end))) end)))) (seq (val (outs-Binary _ _ _) refl (seq (val (outs-Slot _) refl (look end)) (seq (val (outs-Number _) refl end) end)))
    (seq (node refl
    (seq (stmt (outs-Assign _ _) refl (count refl (target _ _ _ _ (outs-Slot _) (seq (exp (outs-Binary _ _ _) refl (seq (val (outs-Slot _) refl (look end)) (seq (val (outs-Number _) refl end) end))) end)))) (seq (val (outs-Binary _ _ _) refl (seq (val (outs-Slot _) refl (look end)) (seq (val (outs-Number _) refl end) end))) end))) end)))) end)))) end)))
    (seq (stmt (outs-Return _) refl (ret _ _ _ (outs-Slot _) (seq (exp (outs-Slot _) refl (look end)) end))) end)))))

pub branches-row : IsRow rows.branches (Gives (Number (pos 3) ∷ []) 6 0)
branches-row n lib = row_by n lib rows.branches _ (node refl (look
    (seq (stmt (outs-If _ _) refl
    (first_arm _ _ (tree.arm (tree.number (pos 2)) (tree.returns (tree.one (tree.number (pos 3)))) ∷ []) [] _ _ (seq (val outs-Nil refl end)
    (first_arm _ _ [] [] _ _ (seq (val (outs-Number _) refl end)
    (seq (stmt (outs-Return _) refl (ret _ _ _ (outs-Number _) (seq (exp (outs-Number _) refl end) end))) end)))))) end)))

pub tail_calls-row : IsRow rows.tail_calls (Gives (Number (pos 0) ∷ []) 46 56)
tail_calls-row n lib = row_by n lib rows.tail_calls _ (node refl (look
    (seq (stmt (outs-LocalFunction _ _) refl (look (write (look (write (look (write end)))))))
    (seq (stmt (outs-Return _) refl (ret _ _ _ (outs-Call _ _) (count refl (seq (val (outs-Slot _) refl (look end)) (seq (exp (outs-Number _) refl end)
    (seq (node refl (look
    (seq (stmt (outs-If _ _) refl
    (first_arm _ _ [] [] _ _ (seq (val (outs-Binary _ _ _) refl (seq (val (outs-Slot _) refl (look end)) (seq (val (outs-Number _) refl end) end))) end)))
    (seq (stmt (outs-Return _) refl (ret _ _ _ (outs-Call _ _) (count refl (seq (val (outs-Captured _) refl (look end)) (seq (exp (outs-Binary _ _ _) refl (seq (val (outs-Slot _) refl (look end)) (seq (val (outs-Number _) refl end) end)))
    (seq (node refl (look
    (seq (stmt (outs-If _ _) refl
    (first_arm _ _ [] [] _ _ (seq (val (outs-Binary _ _ _) refl (seq (val (outs-Slot _) refl (look end)) (seq (val (outs-Number _) refl end) end))) end)))
    (seq (stmt (outs-Return _) refl (ret _ _ _ (outs-Call _ _) (count refl (seq (val (outs-Captured _) refl (look end)) (seq (exp (outs-Binary _ _ _) refl (seq (val (outs-Slot _) refl (look end)) (seq (val (outs-Number _) refl end) end)))
    (seq (node refl (look
    (seq (stmt (outs-If _ _) refl
    (first_arm _ _ [] [] _ _ (seq (val (outs-Binary _ _ _) refl (seq (val (outs-Slot _) refl (look end)) (seq (val (outs-Number _) refl end) end))) end)))
    (seq (stmt (outs-Return _) refl (ret _ _ _ (outs-Call _ _) (count refl (seq (val (outs-Captured _) refl (look end)) (seq (exp (outs-Binary _ _ _) refl (seq (val (outs-Slot _) refl (look end)) (seq (val (outs-Number _) refl end) end)))
    (seq (node refl (look
    (seq (stmt (outs-If _ _) refl
    (first_arm _ _ [] [] _ _ (seq (val (outs-Binary _ _ _) refl (seq (val (outs-Slot _) refl (look end)) (seq (val (outs-Number _) refl end) end)))
    (seq (stmt (outs-Return _) refl (ret _ _ _ (outs-Number _) (seq (exp (outs-Number _) refl end) end))) end)))) end))) end)))))) end)))) end)))))) end)))) end)))))) end)))) end)))))) end))))

pub remainder-row : IsRow rows.remainder (Fails (Text (codes "t.conf:1: attempt to divide by zero")) 5 0)
unfolding digits
remainder-row n lib = row_by n lib rows.remainder _ (node refl (look (seq (stmt (outs-Return _) refl (ret _ _ _ (outs-Binary _ _ _) (seq (exp (outs-Binary _ _ _) refl (seq (val (outs-Number _) refl end) (seq (val (outs-Number _) refl end) end))) end))) end)))

pub counting-row : IsRow rows.counting (Gives (Number (pos 6) ∷ []) 26 0)
counting-row n lib = row_by n lib rows.counting _ (node refl (look
    (seq (stmt (outs-Local _ _) refl (seq (exp (outs-Number _) refl end) end))
    (seq (stmt (outs-NumericFor _ _ _ _ _) refl (seq (val (outs-Number _) refl end) (seq (val (outs-Number _) refl end)
    (seq (node refl
    (seq (stmt (outs-Assign _ _) refl (count refl (target _ _ _ _ (outs-Slot _) (seq (exp (outs-Binary _ _ _) refl (seq (val (outs-Slot _) refl (look end)) (seq (val (outs-Slot _) refl (look end)) end))) end))))
    (seq (node refl
    (seq (stmt (outs-Assign _ _) refl (count refl (target _ _ _ _ (outs-Slot _) (seq (exp (outs-Binary _ _ _) refl (seq (val (outs-Slot _) refl (look end)) (seq (val (outs-Slot _) refl (look end)) end))) end))))
    (seq (node refl
    (seq (stmt (outs-Assign _ _) refl (count refl (target _ _ _ _ (outs-Slot _) (seq (exp (outs-Binary _ _ _) refl (seq (val (outs-Slot _) refl (look end)) (seq (val (outs-Slot _) refl (look end)) end))) end)))) end)) end))) end))) end))))
    (seq (stmt (outs-Return _) refl (ret _ _ _ (outs-Slot _) (seq (exp (outs-Slot _) refl (look end)) end))) end)))))

pub varargs-row : IsRow rows.varargs (Gives (Number (pos 1) ∷ Number (pos 1) ∷ Number (pos 2) ∷ []) 15 32)
varargs-row n lib = row_by n lib rows.varargs _ (node refl (look
    (seq (stmt (outs-LocalFunction _ _) refl (look (write end)))
    (seq (stmt (outs-Return _) refl (ret _ _ _ (outs-Call _ _) (count refl (seq (val (outs-Slot _) refl (look end)) (seq (val (outs-Number _) refl end) (seq (exp (outs-Number _) refl end)
    (seq (node refl (look
    (seq (stmt (outs-Return _) refl (seq (val (outs-Paren _) refl (seq (val outs-Vararg refl (count refl end)) end)) (seq (exp outs-Vararg refl (count refl end)) end))) end))) end))))))) end))))

pub assignments-row : IsRow rows.assignments (Gives (Number (pos 2) ∷ Number (pos 3) ∷ Nil ∷ []) 19 64)
assignments-row n lib = row_by n lib rows.assignments _ (node refl (look
    (seq (stmt (outs-Local _ _) refl (seq (val (outs-Number _) refl end) (seq (exp (outs-Table _) refl (look (write end))) end)))
    (seq (stmt (outs-Assign _ _) refl (count refl (target _ _ _ _ (outs-Slot _) (count refl (target _ _ _ _ (outs-Index _ _) (seq (val (outs-Slot _) refl (look end)) (seq (val (outs-Slot _) refl (look end)) (seq (val (outs-Number _) refl end) (seq (exp (outs-Number _) refl end) (look (look (write end))))))))))))
    (seq (stmt (outs-Return _) refl (seq (val (outs-Slot _) refl (look end)) (seq (val (outs-Index _ _) refl (seq (val (outs-Slot _) refl (look end)) (seq (val (outs-Number _) refl end) (look end)))) (seq (exp (outs-Index _ _) refl (seq (val (outs-Slot _) refl (look end)) (seq (val (outs-Number _) refl end) (look end)))) end)))) end)))))

pub captures-row : IsRow rows.captures (Gives (Number (pos 2) ∷ Number (pos 2) ∷ []) 16 56)
captures-row n lib = row_by n lib rows.captures _ (node refl (look
    (seq (stmt (outs-Local _ _) refl (seq (exp (outs-Number _) refl end) end))
    (seq (stmt (outs-LocalFunction _ _) refl (look (write (look (write end)))))
    (seq (stmt (outs-Return _) refl (seq (val (outs-Call _ _) refl (seq (val (outs-Slot _) refl (look end))
    (seq (node refl (look
    (seq (stmt (outs-Assign _ _) refl (count refl (target _ _ _ _ (outs-Captured _) (seq (exp (outs-Binary _ _ _) refl (seq (val (outs-Captured _) refl (look end)) (seq (val (outs-Number _) refl end) end))) (look (write end))))))
    (seq (stmt (outs-Return _) refl (ret _ _ _ (outs-Captured _) (seq (exp (outs-Captured _) refl (look end)) end))) end)))) end))) (seq (exp (outs-Slot _) refl (look end)) end))) end)))))
