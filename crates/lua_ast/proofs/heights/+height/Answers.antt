use Rattle.std.proofs.Common.{rules}
use Rattle.lua_ast.specs.declared.expressions.ExprKind as kind
use Rattle.lua_ast.proofs.HeightLemmas.{row_is, items_is}
use Rattle.lua_ast.proofs.heights.+height.Goals as goal

pub height-returns-in-Call : goal.height-returns-in-Call
height-returns-in-Call t c = search (rules, kind.the_lemmas, row_is)

pub height-returns-in-Method : goal.height-returns-in-Method
height-returns-in-Method t c = search (rules, kind.the_lemmas, row_is)

pub height-returns-in-Table : goal.height-returns-in-Table
height-returns-in-Table t c = search (rules, kind.the_lemmas, items_is)
