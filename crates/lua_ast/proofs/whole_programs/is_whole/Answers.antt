use Rattle.std.proofs.Common.{◌≡◌, get_or, refl, subst, arith}
use Rattle.std.proofs.lemmas.List.Elements.{All-more}
use Rattle.lua_ast.specs.WholeProgram.{IsWholeFunction}
use Rattle.lua_ast.proofs.WholeLemmas.{finished}
use Rattle.lua_ast.proofs.whole_programs.is_whole.Goals as goal

pub loop-function-preserved : goal.loop-function-preserved
loop-function-preserved c =
    let whole = IsWholeFunction c.args.program.now in
    let here : c.function-item.result ≡ get_or c.args.program.now.functions.items c.loop-function.function-index c.function-item.result = cc in
    All-more whole c.args.program.now.functions.items c.loop-function.function-index c.function-item.result (omega arith) c.loop-function.invariant
    (subst whole here (c.if-not-is_whole_function.ensures.0 refl))

pub returns : goal.returns
returns c =
    (λ _. finished (IsWholeFunction c.args.program.now) c.args.program.now.functions.items c.loop-function.function-index (omega arith) c.loop-function.invariant, λ _. refl)
