use Rattle.std.proofs.Common.{sym, ap, ◌∙◌, not, nat_lt, ◌&&◌}
use Rattle.shared_rules.specs.Items.{is_before}
use Rattle.shared_dict.specs.Kept.{expiry_of}
use Rattle.shared_dict.proofs.Progress.{counted-more}
use Rattle.shared_dict.proofs.scans.count_doomed.Goals as goal

pub loop-kept-preserved-then-is_doomed : goal.loop-kept-preserved-then-is_doomed
loop-kept-preserved-then-is_doomed c =
    counted-more c.args.flush c.args.now.0 c.args.most c.args.entries c.loop-kept.entries c.next_back.new.self (c.in-Some.field-0-0.now, c.in-Some.kept.now) c.loop-kept.count c.loop-kept.invariant c.in-Some.ensures.steps
    (ap (λ n. not (is_before c.args.now.0 (expiry_of c.args.flush c.in-Some.kept.now)) && nat_lt n c.args.most) (sym c.from.ensures) ∙ sym c.is_doomed.ensures ∙ c.if-is_doomed.true)
