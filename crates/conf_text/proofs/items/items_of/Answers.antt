-- One more item is read.
use Rattle.std.proofs.Common.{◌≡◌, [], ◌∷◌, ◌++◌, sym, ◌∙◌, arith, rules}
use Rattle.conf_text.proofs.Standing.{items_step, left_after}
use Rattle.conf_text.proofs.items.items_of.Goals as goal

pub loop-items-preserved : goal.loop-items-preserved
loop-items-preserved c =
    let was = c.loop-items.invariant in
    let read = c.in_ok-read.ensures in
    let dropped = c.bytes_after-rest.ensures in
    let pushed : c.push.new.self.items ≡ c.loop-items.items.items ++ c.in_ok-read.read.item ∷ [] = search rules in
    let left = left_after c.loop-items.rest.now c.bytes_after-rest.result.now c.in_ok-read.read.size dropped in
    record {
      stand = items_step _ _ _ _ c.in_ok-read.read.item _ _ _ _ _ was.stand read.item (sym c.is_last-last.ensures ∙ c.if-last.false) pushed dropped;
      lines = omega (arith, left, read.lines, read.size, was.lines);
    }
