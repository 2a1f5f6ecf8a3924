-- An expression is at least as high as a leaf, and opens at least one level.
use Rattle.std.proofs.Common.{◌≤◌, arith, lit≤}
use Rattle.lua_grammar.specs.Tree.{Exp, PrefixExp, Table}
use Rattle.lua_grammar.specs.Tree as tree
use Rattle.lua_grammar.specs.Levels.{levels, height, prefix_height, table_height}

pub prefix_tall : (p : PrefixExp) → 1 ≤ prefix_height p
unfolding height
prefix_tall (tree.variable l n) = lit≤ tt
prefix_tall (tree.paren o e c) = omega arith
prefix_tall (tree.item p o e c) = omega arith
prefix_tall (tree.member p d l n) = omega arith
prefix_tall (tree.call p a) = omega arith
prefix_tall (tree.method p c l n a) = omega arith

table_tall : (t : Table) → 1 ≤ table_height t
unfolding height
table_tall (tree.separated o fs c) = omega arith
table_tall (tree.ending o fs f c) = omega arith

pub exp_tall : (e : Exp) → 1 ≤ height e
unfolding height
exp_tall (tree.nil l) = lit≤ tt
exp_tall (tree.false_ l) = lit≤ tt
exp_tall (tree.true_ l) = lit≤ tt
exp_tall (tree.number l n) = lit≤ tt
exp_tall (tree.string l bytes) = lit≤ tt
exp_tall (tree.dots l) = lit≤ tt
exp_tall (tree.function l body) = lit≤ tt
exp_tall (tree.prefix p) = prefix_tall p
exp_tall (tree.table t) = table_tall t
exp_tall (tree.binary a op l b) = omega arith
exp_tall (tree.unary op l e) = omega arith

pub exp_deep : (e : Exp) → 1 ≤ levels e
unfolding levels
exp_deep (tree.function l body) = omega arith
exp_deep (tree.prefix p) = omega arith
exp_deep (tree.table t) = omega arith
exp_deep (tree.binary a op l b) = omega arith
exp_deep (tree.unary op l e) = omega arith
exp_deep leaf = lit≤ tt
