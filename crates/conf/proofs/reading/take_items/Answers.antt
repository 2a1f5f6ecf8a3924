-- One more item is taken, or is the first that doesn't fit.
use Rattle.std.proofs.Common.{◌≡◌, ◌∷◌}
use Rattle.std.specs.Vec.Iter.{into_iter_items}
use Rattle.conf.proofs.Walks.{fit_more, one_by_one, fault_in, left_here}
use Rattle.conf.proofs.reading.take_items.Goals as goal

pub returns-in-Err-clause-err : goal.returns-in-Err-clause-err
returns-in-Err-clause-err c =
    let was = c.loop-item.invariant in
    let steps : into_iter_items c.loop-item.item-iterator ≡ c.in-Some.item ∷ into_iter_items c.next.new.self = c.in-Some.ensures.steps.0 in
    fault_in _ _ _ _ _ c.in-Err.fault (left_here _ _ _ _ _ was.all steps) was.fit c.in-Err.ensures.err

pub loop-item-preserved : goal.loop-item-preserved
loop-item-preserved c =
    let was = c.loop-item.invariant in
    let steps : into_iter_items c.loop-item.item-iterator ≡ c.in-Some.item ∷ into_iter_items c.next.new.self = c.in-Some.ensures.steps.0 in
    record {
      all = one_by_one _ _ _ _ _ was.all steps;
      fit = fit_more _ _ _ _ _ was.fit c.in_default.ensures.ok;
    }
