-- Where an expression of a statement, or several, are refused.
use Rattle.std.proofs.Common.{◌≤◌, refl, arith}
use Rattle.lua_grammar.specs.Tree.{Exp, ExpList}
use Rattle.lua_grammar.specs.Tree as tree
use Rattle.lua_grammar.specs.Levels.{levels, list_levels}
use Rattle.lua_grammar.specs.Waiting.{exp}
use Rattle.lua_grammar.specs.Reading.{list}
use Rattle.lua_grammar.proofs.DeadParts.{dead_list}
use Rattle.lua_parser_base.specs.declared.faults.ParseFault.{ParseFault}
use Rattle.lua_parser_base.specs.declared.nesting.Nesting.{Nesting}
use Rattle.lua_parser_base.specs.States.{State}
use Rattle.lua_parser_base.specs.Next.{IsTooDeep}
use Rattle.lua_parser_base.specs.Nesting.{IsFresh, IsWithin}
use Rattle.lua_parser_base.specs.Fits.{FitsExp, FitsList, FitsValue, FitsValues}
use Rattle.lua_parser_base.specs.Refusals.{RefusesFrom, RefusesList, Unless}
use Rattle.lua_parser_base.specs.StatementRefusals.{RefusesValue, RefusesValues}
use Rattle.lua_parser_base.proofs.Heights.{exp_deep}
use Rattle.lua_parser_base.proofs.FittingBlocks.{value_fits, values_fit}
use Rattle.lua_parser_base.proofs.Moving.{supposes_on}
use Rattle.lua_parser_base.proofs.Refusing.{ends_failed, too_deep}

pub value_too_deep : (at free : Nesting) (s : State) (fault : ParseFault) → IsFresh at free → IsTooDeep free s fault → RefusesValue at s s fault
value_too_deep at free s fault fresh none = λ k suppose.
    too_deep fault _ free (exp 1 k) s none suppose (ends_failed (exp 1 k) (λ l. refl)) (λ full those e.
    those e (λ f. let d = f.deep in let n = exp_deep e in let x = fresh.depth in omega (arith, d, n, x, full))) tt

pub value_refused : (at free inner : Nesting) (s t : State) (fault : ParseFault) → IsFresh at free → IsWithin free inner → RefusesFrom 1 inner s t fault → RefusesValue at s t fault
value_refused at free inner s t fault fresh part refuses = λ k suppose.
    refuses k (supposes_on fault {P = Unless (FitsValue at s.scope.enclosing) k} {Q = Unless (FitsExp inner s.scope.enclosing) k}
    (λ those e not. those e (λ f. not (value_fits at free inner s.scope.enclosing e fresh part f))) suppose)

list_deep : (es : ExpList) → 1 ≤ list_levels es
unfolding levels
list_deep (tree.one e) = exp_deep e
list_deep (tree.more es c e) = let h = list_deep es in omega (arith, h)

pub values_too_deep : (at free : Nesting) (s : State) (fault : ParseFault) → IsFresh at free → IsTooDeep free s fault → RefusesValues at s s fault
values_too_deep at free s fault fresh none = λ k suppose.
    too_deep fault _ free (list k) s none suppose (ends_failed (list k) (λ l. refl)) (λ full those. dead_list k (λ es.
    those es (λ f. let d = f.deep in let n = list_deep es in let x = fresh.depth in omega (arith, d, n, x, full)))) tt

pub values_refused : (at free inner : Nesting) (s t : State) (fault : ParseFault) → IsFresh at free → IsWithin free inner → RefusesList inner s t fault → RefusesValues at s t fault
values_refused at free inner s t fault fresh part refuses = λ k suppose.
    refuses k (supposes_on fault {P = Unless (FitsValues at s.scope.enclosing) k} {Q = Unless (FitsList inner s.scope.enclosing) k}
    (λ those es not. those es (λ f. not (values_fit at free inner s.scope.enclosing es fresh part f))) suppose)
