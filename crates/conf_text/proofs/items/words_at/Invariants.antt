use Rattle.std.proofs.Common.{◌≡◌, ◌≤◌, ◌+◌, length, drop, ◌-◌}
use Rattle.conf_text.specs.Items.{WordsStand}
use Rattle.conf_text.proofs.items.words_at.Given as goal

abbrev pub invariant-loop-word : goal.invariant-loop-word
invariant-loop-word l = record {
  stand : WordsStand l.text l.line l.words.items l.rest l.last_line;
  rest : l.rest ≡ drop (length l.text - length l.rest) l.text;
  within : length l.rest ≤ length l.text;
  lines : l.last_line + length l.rest ≤ l.line + length l.text;
}

abbrev pub decreases-loop-word : goal.decreases-loop-word
decreases-loop-word l = length l.rest
