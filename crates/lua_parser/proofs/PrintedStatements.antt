-- A reader that reads the values of a statement or a block moves over its tokens.
use Rattle.std.proofs.Common.{List}
use Rattle.lua_ast.specs.declared.expressions.Expr.{Expr}
use Rattle.lua_ast.specs.declared.statements.Stmt.{Stmt}
use Rattle.lua_grammar.specs.Tree.{Exp, ExpList, Block}
use Rattle.lua_grammar.specs.Waiting.{Reader, exp}
use Rattle.lua_grammar.specs.Reading.{block, list}
use Rattle.lua_grammar.proofs.Stopping.{at_least_one}
use Rattle.lua_parser_base.specs.declared.nesting.Nesting.{Nesting}
use Rattle.lua_parser_base.specs.States.{State}
use Rattle.lua_parser_base.specs.Readers.{Moves}
use Rattle.lua_parser_base.specs.ReadsStatements.{ReadsBlock, ReadsValue, ReadsValues}
use Rattle.lua_parser_base.proofs.Printed.{exp_ended, list_ended}
use Rattle.lua_parser_base.proofs.PrintedBlocks.{block_ended as tree_ended}

-- over a block, a value and values
pub block_ended : (at : Nesting) (s t : State) (out : List Stmt) (r : ReadsBlock at s out t) (k : Block → Reader) → Moves (block k) s (k r.tree) t
block_ended at s t out r k = tree_ended r.tree at.vararg at.in_loop k s t r.printed r.valid r.ends

pub value_ended : (at : Nesting) (s t : State) (e : Expr) (r : ReadsValue at s e t) (k : Exp → Reader) → Moves (exp 1 k) s (k r.tree) t
value_ended at s t e r k = exp_ended r.tree at.vararg 1 k s t r.printed r.valid (at_least_one r.tree) r.ends r.last

pub values_ended : (at : Nesting) (s t : State) (es : List Expr) (r : ReadsValues at s es t) (k : ExpList → Reader) → Moves (list k) s (k r.tree) t
values_ended at s t es r k = list_ended r.tree at.vararg k s t r.printed r.valid r.ends r.last
