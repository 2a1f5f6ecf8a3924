use Rattle.std.proofs.Common.{◌≡◌, ◌+◌, refl, subst, arith, rules, IfErr}
use Rattle.lua_lexer.specs.declared.signs.Sign.TheVariants.{Dot}
use Rattle.lua_parser_base.specs.Nodes.{IsMember}
use Rattle.lua_parser_base.specs.Next.{MissesMemberBelow}
use Rattle.lua_parser_base.specs.States.{state}
use Rattle.lua_parser_base.proofs.Breaking.{prefix_member_breaks}
use Rattle.lua_parser_base.proofs.Calls.{member_read}
use Rattle.lua_parser_base.proofs.Next.{on_err}
use Rattle.lua_parser_base.proofs.OpenFunctions.{few_there}
use Rattle.lua_parser_base.proofs.Prefixes.{member_missed}
use Rattle.lua_parser_base.proofs.cursor.Parser.member.Goals as goal

pub returns-clause-reads : goal.returns-clause-reads
returns-clause-reads c = λ s read.
    let below = c.in_ok-dot.ensures.low in
    let most = c.args.at.low in
    let high : c.saturating_add.result ≡ c.args.object.height + 1 = omega (arith, c.saturating_add.ensures, below, most) in
    let takes = c.in_ok-dot.ensures.takes in
    member_read _ _ _ _ _ _ _ _ _ _ read takes.taken takes.named below high refl
    (subst (λ e. IsMember e c.in_ok-dot.dot c.in_ok-dot.named.line c.in_ok-dot.named.name c.in_ok-member.field-0) c.in_ok-object.ensures c.in_ok-member.ensures)

pub returns-in_err-dot-clause-refuses : goal.returns-in_err-dot-clause-refuses
returns-in_err-dot-clause-refuses c = λ next.
    let h : IfErr c.from_residual-in_err-dot.result (MissesMemberBelow c.args.at.room Dot c.args.object.height (state c.args.tokens.now c.args.self.now) (state c.args.tokens.now c.take_member.new.self)) = search rules in
    on_err c.from_residual-in_err-dot.result h (λ fault missed. member_missed c.args.at fault _ _ c.args.object next missed)

pub returns-in_err-dot-clause-order : goal.returns-in_err-dot-clause-order
returns-in_err-dot-clause-order c =
    let h : IfErr c.from_residual-in_err-dot.result (MissesMemberBelow c.args.at.room Dot c.args.object.height (state c.args.tokens.now c.args.self.now) (state c.args.tokens.now c.take_member.new.self)) = search rules in
    on_err c.from_residual-in_err-dot.result h (λ fault missed. prefix_member_breaks c.args.at c.args.object _ _ fault (few_there _ _) missed)
