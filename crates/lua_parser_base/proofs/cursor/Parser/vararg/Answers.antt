use Rattle.lua_parser_base.proofs.Productions.{dots_read}
use Rattle.lua_parser_base.proofs.Varargs.{vararg_refused}
use Rattle.lua_parser_base.specs.Standing as standing
use Rattle.lua_parser_base.proofs.Breaking.{missing_first}
use Rattle.lua_parser_base.proofs.Handing.{handed_on}
use Rattle.lua_parser_base.proofs.OpenFunctions.{few_there}
use Rattle.lua_parser_base.proofs.cursor.Parser.vararg.Goals as goal

pub returns-then-at-clause-reads : goal.returns-then-at-clause-reads
returns-then-at-clause-reads c = dots_read _ _ _ _ _ c.in_ok-line.ensures.takes c.if-at.true c.leaf.ensures

pub returns-clause-refuses : goal.returns-clause-refuses
returns-clause-refuses c = λ next. vararg_refused c.args.at _ _ _ c.in_ok-line.ensures.takes c.if-at.false

pub returns-clause-order : goal.returns-clause-order
returns-clause-order c = λ m start stands. standing.vararg_outside stands c.in_ok-line.ensures.takes c.if-at.false (few_there _ _)

pub returns-in_err-line-clause-order : goal.returns-in_err-line-clause-order
returns-in_err-line-clause-order c =
    λ m. handed_on _ c.from_residual.result _ c.from_residual.ensures.1
    (λ start stands. missing_first _ _ _ _ c.in_err-line.ensures.misses start (standing.before_it stands))
