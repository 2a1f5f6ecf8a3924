use Rattle.std.proofs.Common.{length, ap, ◌∙◌, arith}
use Rattle.shared_dict.specs.Zones.{without_all}
use Rattle.shared_dict.proofs.Sweeps.{sweeps, doomed-few, swept-on, swept-end}
use Rattle.shared_dict.proofs.items.Items.sweep.Goals as goal

pub loop-key-preserved : goal.loop-key-preserved
loop-key-preserved c =
    swept-on c.loop-key.key-index c.deref-key-items.result.now c.key-item.result c.loop-key.self c.take_out.new.self (without_all c.deref-key-items.result.now c.args.self.now) c.loop-key-test.true c.key-item.is c.take_out.ensures c.loop-key.invariant

pub overflow_cast-result : goal.overflow_cast-result
overflow_cast-result c =
    let e = ap length c.in_ok-keys.ensures in
    let d = doomed-few c.args.now.0 c.args.most c.args.self.now in
    omega (arith, c.len.ensures, c.in_ok-keys.keys.ok.0, c.ranges.most.fits)

pub returns-clause-count : goal.returns-clause-count
returns-clause-count c =
    let e = ap length c.in_ok-keys.ensures in
    let s = (sweeps c.args.now.0 c.args.most c.args.self.now c.requires).count in
    omega (arith, c.len.ensures, c.in_ok-keys.keys.ok.0)

pub returns-clause-items : goal.returns-clause-items
returns-clause-items c =
    swept-end c.loop-key.key-index c.deref-key-items.result.now c.loop-key.self (without_all c.deref-key-items.result.now c.args.self.now) c.loop-key-test.false c.loop-key.invariant
    ∙ ap (λ ks. without_all ks c.args.self.now) (c.deref-key-items.ensures.value ∙ c.in_ok-keys.ensures)
    ∙ (sweeps c.args.now.0 c.args.most c.args.self.now c.requires).items
