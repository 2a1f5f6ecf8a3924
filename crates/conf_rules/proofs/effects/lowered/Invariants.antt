use Rattle.std.proofs.Common.{◌≡◌, map, take}
use Rattle.http_base.specs.Names.{lower}
use Rattle.conf_rules.proofs.effects.lowered.Given as goal

abbrev pub invariant-loop-word : goal.invariant-loop-word
invariant-loop-word l = l.names.items ≡ map lower (take l.word-index l.words)
