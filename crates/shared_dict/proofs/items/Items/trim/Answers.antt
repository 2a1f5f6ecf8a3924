use Rattle.std.proofs.Common.{◌≡◌, ◌+◌, ◌-◌, suc, sym, ap, ◌∙◌, arith}
use Rattle.shared_dict.specs.Zones.{trimmed}
use Rattle.shared_dict.proofs.Evictions.{trim-stays, trim-goes, trim-none}
use Rattle.shared_dict.proofs.items.Items.trim.Goals as goal

pub returns-then-is_trim : goal.returns-then-is_trim
returns-then-is_trim c = sym (trim-stays (30 - c.loop-count._count) c.args.size c.loop-count.self (sym c.is_trim.ensures ∙ c.if-is_trim.true)) ∙ c.loop-count.invariant

pub loop-count-preserved : goal.loop-count-preserved
loop-count-preserved c =
    let n = c.loop-count._count in
    let e : 30 - n ≡ suc (30 - (n + 1)) = omega (arith, c.loop-count-test.true) in
    ap (trimmed (30 - (n + 1)) c.args.size) c.pop_last.ensures ∙ sym (trim-goes (30 - (n + 1)) (30 - n) c.args.size c.loop-count.self (sym c.is_trim.ensures ∙ c.if-is_trim.false) e) ∙ c.loop-count.invariant

pub returns : goal.returns
returns c =
    let e : 0 ≡ 30 - c.loop-count._count = omega (arith, c.loop-count-test.false) in
    sym (trim-none c.args.size c.loop-count.self) ∙ ap (λ k. trimmed k c.args.size c.loop-count.self) e ∙ c.loop-count.invariant
