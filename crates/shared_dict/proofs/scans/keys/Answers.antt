use Rattle.std.proofs.Common.{◌≡◌, ◌<◌, ◌∷◌, [], ◌++◌, length, sym, ap, ◌∙◌, arith}
use Rattle.shared_rules.specs.Items.{is_before}
use Rattle.shared_dict.proofs.Progress.{listed-more}
use Rattle.shared_dict.proofs.scans.keys.Goals as goal

pub loop-key-preserved-in_ok-push : goal.loop-key-preserved-in_ok-push
loop-key-preserved-in_ok-push c =
    let e : c.push.new.self.items ≡ c.loop-key.keys.items ++ c.in-Some.key.now ∷ [] = grind arith in
    let l : length c.loop-key.keys.items < c.args.most = omega (arith, c.if-len-most.false, c.len.ensures, c.loop-key.keys.ok.0) in
    rw e (listed-more c.args.flush c.args.now.0 c.args.most c.args.entries c.loop-key.entries c.next.new.self (c.in-Some.key.now, c.in-Some.kept.now) c.loop-key.keys.items c.loop-key.invariant c.in-Some.ensures.steps
    (ap (is_before c.args.now.0) (sym c.expiry_of.ensures) ∙ sym c.is_before.ensures ∙ c.if-is_before.true) l)
