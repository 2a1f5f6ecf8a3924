use Rattle.std.proofs.Common.{rules, arith, ◌≡◌, ◌≤◌, ◌+◌, length, IfErr, vec_len, sym, subst}
use Rattle.lua_parser_base.specs.States.{state}
use Rattle.lua_parser_base.specs.Next.{MissesName}
use Rattle.lua_parser_base.specs.ReadsNames.{ReadsParameters}
use Rattle.lua_parser_base.proofs.NameLists.{first_parameter_refused, next_parameter_refused}
use Rattle.lua_parser_base.proofs.Next.{on_err, untested}
use Rattle.lua_parser_base.proofs.Names.{no_parameters, only_vararg, only_names, names_then_vararg, names_one, names_more}
use Rattle.lua_parser_base.proofs.Breaking.{name_breaks}
use Rattle.lua_parser_base.specs.Standing as standing
use Rattle.lua_parser_base.proofs.OpenFunctions.{few_there}
use Rattle.lua_parser_base.proofs.cursor.Parser.push_parameters.Goals as goal

pub returns-then-at_sign-clause-reads : goal.returns-then-at_sign-clause-reads
returns-then-at_sign-clause-reads c = λ p names vararg. no_parameters _ _ p names vararg (c.at_sign.ensures.0 c.if-at_sign.true)

pub returns-in-Some-clause-reads : goal.returns-in-Some-clause-reads
returns-in-Some-clause-reads c = λ p names vararg. only_vararg _ _ _ p _ c.in-Some.ensures.skips names vararg

pub loop-self-init : goal.loop-self-init
loop-self-init c = record {
  forward = rw c.in_default.ensures.forward at c.in_ok-push_name.ensures.forward;
  few = omega (arith, c.in_ok-push_name.ensures.few);
  reads = names_one _ _ _ _ (rw c.in_default.ensures.skips at c.in_ok-push_name.ensures.reads);
}

pub returns-in-Some-skip_sign-2-clause-reads : goal.returns-in-Some-skip_sign-2-clause-reads
returns-in-Some-skip_sign-2-clause-reads c = λ p names vararg.
    names_then_vararg _ _ _ _ _ p _ _ (rw names c.loop-self.invariant.reads) c.in-Some-skip_sign.ensures.skips c.in-Some-skip_sign-2.ensures.skips vararg

pub loop-self-preserved : goal.loop-self-preserved
loop-self-preserved c =
    let next = rw c.in_default-skip_sign-2.ensures.forward at c.in_ok-push_name-2.ensures.forward in
    record {
      forward = search rules;
      few = omega (arith, c.in_ok-push_name-2.ensures.few);
      reads = names_more _ _ _ _ _ _ _ _ c.loop-self.invariant.reads c.in-Some-skip_sign.ensures.skips (rw c.in_default-skip_sign-2.ensures.skips at c.in_ok-push_name-2.ensures.reads);
    }

pub returns-clause-reads : goal.returns-clause-reads
returns-clause-reads c = λ p names vararg.
    subst (ReadsParameters c.args.names.now.items (state c.args.tokens.now c.args.self.now) p) (sym c.in_default-skip_sign.ensures.skips)
    (only_names _ _ _ p (rw names c.loop-self.invariant.reads) vararg c.in_default-skip_sign.ensures.missing)

pub returns-in_err-push_name-clause-refuses : goal.returns-in_err-push_name-clause-refuses
returns-in_err-push_name-clause-refuses c =
    let h : IfErr c.from_residual.result (MissesName (0 + vec_len c.args.names.now) (state c.args.tokens.now c.skip_sign.new.self) (state c.args.tokens.now c.push_name.new.self)) = search rules in
    let many : 0 + vec_len c.args.names.now ≡ length c.args.names.now.items = search (rules, arith) in
    on_err c.from_residual.result (rw c.in_default.ensures.skips at h) (λ fault missed.
    first_parameter_refused c.args.names.now.items (0 + vec_len c.args.names.now) fault _ _ (untested _ _ c.if-at_sign.false c.at_sign.ensures) c.in_default.ensures.missing many missed)

pub returns-in_err-push_name-2-clause-refuses : goal.returns-in_err-push_name-2-clause-refuses
returns-in_err-push_name-2-clause-refuses c =
    let h : IfErr c.from_residual-in_err-push_name-2.result (MissesName (0 + vec_len c.loop-self.names) (state c.args.tokens.now c.skip_sign-in-Some-skip_sign.new.self) (state c.args.tokens.now c.push_name-in-Some-skip_sign.new.self)) = search rules in
    let many : 0 + vec_len c.loop-self.names ≡ length c.loop-self.names.items = search (rules, arith) in
    on_err c.from_residual-in_err-push_name-2.result (rw c.in_default-skip_sign-2.ensures.skips at h) (λ fault missed.
    next_parameter_refused c.args.names.now.items (0 + vec_len c.loop-self.names) fault _ _ _ _ c.loop-self.names.items _ c.loop-self.invariant.reads c.in-Some-skip_sign.ensures.skips c.in_default-skip_sign-2.ensures.missing many missed)

pub returns-in_err-push_name-clause-order : goal.returns-in_err-push_name-clause-order
returns-in_err-push_name-clause-order c =
    let low : 0 + vec_len c.args.names.now ≤ 200 = search (rules, arith) in
    let h : IfErr c.from_residual.result (MissesName (0 + vec_len c.args.names.now) (state c.args.tokens.now c.skip_sign.new.self) (state c.args.tokens.now c.push_name.new.self)) = search rules in
    let many : 0 + vec_len c.args.names.now ≡ length c.args.names.now.items = search (rules, arith) in
    on_err c.from_residual.result (rw c.in_default.ensures.skips at h) (λ fault missed start stands.
    name_breaks _ _ _ fault (few_there _ _) low missed start (subst (λ n. standing.Stands start (standing.name n) (state c.args.tokens.now c.args.self.now)) (sym many) (standing.first_parameter stands)))

pub returns-in_err-push_name-2-clause-order : goal.returns-in_err-push_name-2-clause-order
returns-in_err-push_name-2-clause-order c =
    let low : 0 + vec_len c.loop-self.names ≤ 200 = search (rules, arith) in
    let h : IfErr c.from_residual-in_err-push_name-2.result (MissesName (0 + vec_len c.loop-self.names) (state c.args.tokens.now c.skip_sign-in-Some-skip_sign.new.self) (state c.args.tokens.now c.push_name-in-Some-skip_sign.new.self)) = search rules in
    let many : 0 + vec_len c.loop-self.names ≡ length c.loop-self.names.items = search (rules, arith) in
    on_err c.from_residual-in_err-push_name-2.result (rw c.in_default-skip_sign-2.ensures.skips at h) (λ fault missed start stands.
    name_breaks _ _ _ fault (few_there _ _) low missed start (subst (λ n. standing.Stands start (standing.name n) (state c.args.tokens.now c.skip_sign-in-loop-self.new.self)) (sym many) (standing.next_parameter stands c.loop-self.invariant.reads c.in-Some-skip_sign.ensures.skips)))
