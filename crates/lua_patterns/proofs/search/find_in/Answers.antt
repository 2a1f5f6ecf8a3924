use Rattle.std.proofs.Common.{sym, ap, rules, ℕ}
use Rattle.std.specs.Prelude.{◌==◌}
use Rattle.std.proofs.lemmas.Result.{err_from_is_err_and}
use Rattle.lua_patterns.proofs.Running.{begins_after, begins}
use Rattle.lua_patterns.proofs.search.find_in.Goals as goal

pub returns-then-from-subject : goal.returns-then-from-subject
returns-then-from-subject c = begins_after c.args.subject.now c.args.pattern.now c.args.tests c.args.from c.if-from-subject.true

pub returns-in_err-found : goal.returns-in_err-found
returns-in_err-found c =
    let p = err_from_is_err_and c.from_residual.result c.from_residual.ensures.1 in
    rw (p.1, p.2) (λ other. sym (c.in_err-found.ensures _
    (begins _ c.args.from _ c.new-2.result.items c.new.result.items c.if-from-subject.false (ap (λ (x : ℕ). x == 94) c.byte_at-anchored.ensures.value) (search rules) c.new-2.ensures.items c.new.ensures.items) other))

pub returns : goal.returns
returns c = sym (c.in_ok-found.ensures _
    (begins _ c.args.from _ c.new-2.result.items c.new.result.items c.if-from-subject.false (ap (λ (x : ℕ). x == 94) c.byte_at-anchored.ensures.value) (search rules) c.new-2.ensures.items c.new.ensures.items))
