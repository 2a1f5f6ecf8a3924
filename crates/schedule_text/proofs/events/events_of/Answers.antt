use Rattle.std.proofs.Common.{◌≡◌, ◌<◌, ap, arith, get_or, length, reverse, subst, sym, take, ◌∙◌}
use Rattle.std.proofs.lemmas.Grind.{common_steps}
use Rattle.schedule_text.proofs.Gathering.{Gathered, gathered-more, one-more}
use Rattle.schedule_text.proofs.events.events_of.Goals as goal

pub loop-entry-preserved : goal.loop-entry-preserved
loop-entry-preserved c =
    let xs = reverse c.args.history.now.entries in
    let i = c.loop-entry.entry-index in
    let e = c.entry-item.result in
    let lines = c.add_event.new.lines.items in
    let present = c.present_after-present.result in
    let stopped = c.stopped_after-stopped.result in
    let within : i < length xs = omega (arith, c.loop-entry-test.true, ap length c.as_slice-entry-items.ensures) in
    let here : e ≡ get_or xs i e = c.entry-item.is ∙ ap (λ ys. get_or ys i e) c.as_slice-entry-items.ensures in
    subst (λ history. Gathered history lines present stopped) (sym (one-more xs i e within here))
    (gathered-more (reverse (take i xs)) e c.loop-entry.lines.items lines c.loop-entry.present present c.loop-entry.stopped stopped c.loop-entry.invariant
    c.in_ok-add_event.ensures c.present_after-present.ensures c.stopped_after-stopped.ensures)

pub loop-entry-init : goal.loop-entry-init
loop-entry-init c = grind (arith, common_steps)

pub returns : goal.returns
returns c = grind (arith, common_steps)
