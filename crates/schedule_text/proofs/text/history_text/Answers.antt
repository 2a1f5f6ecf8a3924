use Rattle.std.proofs.Common.{◌≤◌, ◌∙◌, sym, length, reverse, ap, arith}
use Rattle.std.proofs.lemmas.Grind.{common_steps}
use Rattle.std.specs.List.{flat_map}
use Rattle.std.proofs.lemmas.List.{take_all}
use Rattle.schedule_text.specs.EntryTexts.{entry_line}
use Rattle.schedule_text.proofs.HistoryLines.{history_lines}
use Rattle.schedule_text.proofs.text.history_text.Goals as goal

pub returns : goal.returns
returns c =
    let lines = reverse c.args.history.now.entries in
    let end : length lines ≤ c.loop-entry.entry-index = omega (arith, ap length c.as_slice-entries.ensures) in
    c.in_ok-from_vec.ensures.ok ∙ c.loop-entry.invariant ∙ ap (flat_map entry_line) (take_all c.loop-entry.entry-index lines end) ∙ sym (history_lines c.args.history.now.entries)

pub loop-entry-init : goal.loop-entry-init
loop-entry-init c = grind (arith, common_steps)

pub loop-entry-preserved : goal.loop-entry-preserved
loop-entry-preserved c = grind (arith, common_steps)
