use Rattle.std.proofs.Common.{refl, rules, IfErr}
use Rattle.lua_grammar.specs.Limits.{Few}
use Rattle.lua_grammar.specs.Scopes.{look}
use Rattle.lua_parser_base.proofs.Next.{on_err}
use Rattle.lua_parser_base.proofs.Productions.{name_read}
use Rattle.lua_parser_base.proofs.Prefixes.{no_prefix, variable_crowded}
use Rattle.lua_parser_base.specs.Next.{IsName, Misses, OnAt, OnUpvalues}
use Rattle.lua_parser_base.specs.States.{state, scope_of}
use Rattle.lua_parser_base.proofs.Breaking.{variable_breaks}
use Rattle.lua_parser_base.proofs.Breaking.{missing_first}
use Rattle.lua_parser_base.proofs.Handing.{handed_on}
use Rattle.lua_parser_base.specs.Standing as standing
use Rattle.lua_parser_base.proofs.OpenFunctions.{few_there}
use Rattle.lua_parser_base.proofs.cursor.Parser.name.Goals as goal

pub returns-clause-reads : goal.returns-clause-reads
returns-clause-reads c =
    let e = c.in_ok-variable.ensures in
    name_read _ _ _ _ _ _ _ _ c.in_ok-named.ensures.takes e.index e.line e.resolves refl refl

pub returns-in_err-named-clause-refuses : goal.returns-in_err-named-clause-refuses
returns-in_err-named-clause-refuses c = λ not.
    let h : IfErr c.from_residual.result (OnAt (Misses IsName (state c.args.tokens.now c.args.self.now) (state c.args.tokens.now c.take_name.new.self))) = search rules in
    on_err c.from_residual.result h (λ fault missing. no_prefix c.args.at _ _ fault not missing)

pub returns-in_err-variable-clause-refuses : goal.returns-in_err-variable-clause-refuses
returns-in_err-variable-clause-refuses c = λ not.
    let h : IfErr c.from_residual-in_err-variable.result (OnUpvalues c.in_ok-named.named.line (Few (look c.in_ok-named.named.name (scope_of c.take_name.new.self).enclosing).1 → ⊥)) = search rules in
    on_err c.from_residual-in_err-variable.result h (λ fault crowded.
    variable_crowded c.args.at _ _ c.take_name.new.self c.variable.new.self _ _ fault c.in_ok-named.ensures.takes c.variable.ensures.index crowded)

pub returns-in_err-variable-clause-order : goal.returns-in_err-variable-clause-order
returns-in_err-variable-clause-order c =
    let h : IfErr c.from_residual-in_err-variable.result (OnUpvalues c.in_ok-named.named.line (Few (look c.in_ok-named.named.name (scope_of c.take_name.new.self).enclosing).1 → ⊥)) = search rules in
    on_err c.from_residual-in_err-variable.result h (λ fault many. variable_breaks c.args.at _ _ c.args.tokens.now _ (state c.args.tokens.now c.variable.new.self) c.take_name.new.self fault (few_there _ _) many c.in_ok-named.ensures.takes)

pub returns-in_err-named-clause-order : goal.returns-in_err-named-clause-order
returns-in_err-named-clause-order c =
    handed_on _ c.from_residual.result _ c.from_residual.ensures.1
    (λ start stands. missing_first _ _ _ _ c.in_err-named.ensures.misses start (standing.before_it stands))
