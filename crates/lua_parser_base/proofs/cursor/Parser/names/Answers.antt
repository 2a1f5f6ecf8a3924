use Rattle.std.proofs.Common.{rules, arith, subst, ◌≡◌, ◌≤◌, ◌+◌, length, IfErr, vec_len, sym}
use Rattle.lua_parser_base.specs.States.{state}
use Rattle.lua_parser_base.specs.Next.{MissesName}
use Rattle.lua_parser_base.proofs.Names.{names_one, names_more}
use Rattle.lua_parser_base.proofs.NameLists.{first_name_refused, next_name_refused}
use Rattle.lua_parser_base.proofs.Next.{on_err}
use Rattle.lua_parser_base.proofs.Breaking.{name_breaks}
use Rattle.lua_parser_base.specs.Standing as standing
use Rattle.lua_parser_base.proofs.Breaking.{missing_first}
use Rattle.lua_parser_base.proofs.Handing.{handed_on}
use Rattle.lua_parser_base.proofs.OpenFunctions.{few_there}
use Rattle.lua_parser_base.proofs.cursor.Parser.names.Goals as goal

pub loop-self-init : goal.loop-self-init
loop-self-init c = record {
  forward = c.in_ok-push_name.ensures.forward;
  few = c.in_ok-push_name.ensures.few;
  reads = names_one _ _ _ _ (rw c.new-names.ensures.items at c.in_ok-push_name.ensures.reads);
}

pub loop-self-preserved : goal.loop-self-preserved
loop-self-preserved c = record {
  forward = search rules;
  few = c.in_ok-push_name-2.ensures.few;
  reads = names_more _ _ _ _ _ _ _ _ c.loop-self.invariant.reads c.in_ok-take_sign.ensures.takes c.in_ok-push_name-2.ensures.reads;
}

pub returns-in_err-push_name-clause-refuses : goal.returns-in_err-push_name-clause-refuses
returns-in_err-push_name-clause-refuses c =
    let h : IfErr c.from_residual.result (MissesName (c.args.taken + vec_len c.new-names.result) (state c.args.tokens.now c.args.self.now) (state c.args.tokens.now c.push_name.new.self)) = search rules in
    let none : c.args.taken + vec_len c.new-names.result ≡ c.args.taken = search (rules, arith) in
    on_err c.from_residual.result h (λ fault missed. first_name_refused c.args.taken fault _ _ (subst (λ n. MissesName n (state c.args.tokens.now c.args.self.now) (state c.args.tokens.now c.push_name.new.self) fault) none missed))

pub returns-in_err-push_name-2-clause-refuses : goal.returns-in_err-push_name-2-clause-refuses
returns-in_err-push_name-2-clause-refuses c =
    let h : IfErr c.from_residual-in_err-push_name-2.result (MissesName (c.args.taken + vec_len c.loop-self.names) (state c.args.tokens.now c.take_sign.new.self) (state c.args.tokens.now c.push_name-in-loop-self.new.self)) = search rules in
    let many : c.args.taken + vec_len c.loop-self.names ≡ c.args.taken + length c.loop-self.names.items = search (rules, arith) in
    on_err c.from_residual-in_err-push_name-2.result h (λ fault missed.
    next_name_refused c.args.taken (c.args.taken + vec_len c.loop-self.names) fault _ _ _ _ c.loop-self.names.items _ c.loop-self.invariant.reads c.in_ok-take_sign.ensures.takes many missed)

pub returns-in_err-push_name-clause-order : goal.returns-in_err-push_name-clause-order
returns-in_err-push_name-clause-order c =
    let low : c.args.taken + vec_len c.new-names.result ≤ 200 = search (rules, arith) in
    let h : IfErr c.from_residual.result (MissesName (c.args.taken + vec_len c.new-names.result) (state c.args.tokens.now c.args.self.now) (state c.args.tokens.now c.push_name.new.self)) = search rules in
    let none : c.args.taken + vec_len c.new-names.result ≡ c.args.taken = search (rules, arith) in
    on_err c.from_residual.result h (λ fault missed start stands. name_breaks _ _ _ fault (few_there _ _) low missed start (subst (λ n. standing.Stands start (standing.name n) (state c.args.tokens.now c.args.self.now)) (sym none) (standing.first_declared stands)))

pub returns-in_err-push_name-2-clause-order : goal.returns-in_err-push_name-2-clause-order
returns-in_err-push_name-2-clause-order c =
    let low : c.args.taken + vec_len c.loop-self.names ≤ 200 = search (rules, arith) in
    let h : IfErr c.from_residual-in_err-push_name-2.result (MissesName (c.args.taken + vec_len c.loop-self.names) (state c.args.tokens.now c.take_sign.new.self) (state c.args.tokens.now c.push_name-in-loop-self.new.self)) = search rules in
    let many : c.args.taken + vec_len c.loop-self.names ≡ c.args.taken + length c.loop-self.names.items = search (rules, arith) in
    on_err c.from_residual-in_err-push_name-2.result h (λ fault missed start stands.
    name_breaks _ _ _ fault (few_there _ _) low missed start (subst (λ n. standing.Stands start (standing.name n) (state c.args.tokens.now c.take_sign.new.self)) (sym many) (standing.next_declared stands c.loop-self.invariant.reads c.in_ok-take_sign.ensures.takes)))

pub returns-in_err-take_sign-clause-order : goal.returns-in_err-take_sign-clause-order
returns-in_err-take_sign-clause-order c =
    let few : c.args.taken + length c.loop-self.names.items ≤ 200 = search (rules, arith) in
    handed_on _ c.from_residual-in_err-take_sign.result _ c.from_residual-in_err-take_sign.ensures.1
    (λ start stands. missing_first _ _ _ _ c.in_err-take_sign.ensures.misses start (standing.after_names stands c.loop-self.invariant.reads few))
