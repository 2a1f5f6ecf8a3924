use Rattle.std.proofs.Common.{refl, rules, IfErr}
use Rattle.lua_lexer.specs.declared.signs.Sign.TheVariants.{Dot}
use Rattle.lua_grammar.specs.Limits.{Few}
use Rattle.lua_grammar.specs.Scopes.{look}
use Rattle.lua_parser_base.specs.States.{state, scope_of}
use Rattle.lua_parser_base.specs.Next.{IsName, Misses, MissesMember, OnAt, OnUpvalues}
use Rattle.lua_parser_base.proofs.FunctionStatements.{function_unnamed, function_name_crowded, function_member_missed, crowded_state}
use Rattle.lua_parser_base.proofs.Next.{on_err}
use Rattle.lua_parser_base.proofs.Scoping.{turned, name_state}
use Rattle.lua_parser_base.proofs.Assignments.{name_root, name_member}
use Rattle.lua_parser_base.proofs.Breaking.{function_variable_breaks, member_breaks}
use Rattle.lua_parser_base.proofs.Breaking.{missing_first}
use Rattle.lua_parser_base.proofs.Handing.{handed_on}
use Rattle.lua_parser_base.specs.Standing as standing
use Rattle.lua_parser_base.proofs.OpenFunctions.{few_there}
use Rattle.lua_parser_base.proofs.cursor.Parser.function_name.Goals as goal

pub loop-alloc-init : goal.loop-alloc-init
loop-alloc-init c = record {
  forward = search rules;
  reads =
      let same = turned c.args.tokens.now c.take_name.new.self c.variable.new.self _ c.in_ok-variable.ensures.index c.in_ok-variable.ensures.line refl in
      name_root _ _ _ _ _ _ c.in_ok-named.ensures.takes same.left (name_state c.args.tokens.now c.take_name.new.self c.variable.new.self _ _ _ c.in_ok-variable.ensures.resolves) refl;
}

pub loop-alloc-preserved : goal.loop-alloc-preserved
loop-alloc-preserved c = record {
  forward = search rules;
  reads = name_member _ _ _ _ _ c.loop-alloc.invariant.reads c.in_ok-name.ensures.reads;
}

pub returns-in_err-named-clause-refuses : goal.returns-in_err-named-clause-refuses
returns-in_err-named-clause-refuses c = λ at.
    let h : IfErr c.from_residual.result (OnAt (Misses IsName (state c.args.tokens.now c.args.self.now) (state c.args.tokens.now c.take_name.new.self))) = search rules in
    on_err c.from_residual.result h (λ fault missed. function_unnamed at fault _ _ missed)

pub returns-in_err-variable-clause-refuses : goal.returns-in_err-variable-clause-refuses
returns-in_err-variable-clause-refuses c = λ at.
    let h : IfErr c.from_residual-in_err-variable.result (OnUpvalues c.in_ok-named.named.line (Few (look c.in_ok-named.named.name (scope_of c.take_name.new.self).enclosing).1 → ⊥)) = search rules in
    let same = turned c.args.tokens.now c.take_name.new.self c.variable.new.self _ c.variable.ensures.index c.variable.ensures.line refl in
    on_err c.from_residual-in_err-variable.result h (λ fault not.
    function_name_crowded at fault _ (state c.args.tokens.now c.take_name.new.self) _ _ c.in_ok-named.named.name c.in_ok-named.ensures.takes same.left (crowded_state _ c.args.tokens.now c.take_name.new.self c.in_ok-named.named.name fault not))

pub returns-in_err-name-clause-refuses : goal.returns-in_err-name-clause-refuses
returns-in_err-name-clause-refuses c = λ at.
    let h : IfErr c.from_residual-in_err-name.result (MissesMember Dot c.loop-alloc.name.height (state c.args.tokens.now c.loop-alloc.self) (state c.args.tokens.now c.name_member.new.self)) = search rules in
    on_err c.from_residual-in_err-name.result h (λ fault missed.
    function_member_missed at fault _ _ _ c.loop-alloc.name c.loop-alloc.invariant.reads (c.at_sign.ensures.0 c.loop-alloc-test.true) missed)

pub returns-in_err-variable-clause-order : goal.returns-in_err-variable-clause-order
returns-in_err-variable-clause-order c =
    let h : IfErr c.from_residual-in_err-variable.result (OnUpvalues c.in_ok-named.named.line (Few (look c.in_ok-named.named.name (scope_of c.take_name.new.self).enclosing).1 → ⊥)) = search rules in
    on_err c.from_residual-in_err-variable.result h (λ fault many. function_variable_breaks _ _ c.args.tokens.now _ (state c.args.tokens.now c.variable.new.self) c.take_name.new.self fault (few_there _ _) many c.in_ok-named.ensures.takes)

pub returns-in_err-name-clause-order : goal.returns-in_err-name-clause-order
returns-in_err-name-clause-order c =
    let h : IfErr c.from_residual-in_err-name.result (MissesMember Dot c.loop-alloc.name.height (state c.args.tokens.now c.loop-alloc.self) (state c.args.tokens.now c.name_member.new.self)) = search rules in
    on_err c.from_residual-in_err-name.result h (λ fault missed. member_breaks c.loop-alloc.name _ _ _ fault (few_there _ _) c.loop-alloc.invariant.reads missed)

pub returns-in_err-named-clause-order : goal.returns-in_err-named-clause-order
returns-in_err-named-clause-order c =
    handed_on _ c.from_residual.result _ c.from_residual.ensures.1
    (λ start stands. missing_first _ _ _ _ c.in_err-named.ensures.misses start (standing.before_it stands))
