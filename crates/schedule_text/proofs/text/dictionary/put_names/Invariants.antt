use Rattle.std.proofs.Common.{◌≡◌, ◌++◌, take}
use Rattle.std.specs.Prelude.{codes}
use Rattle.std.specs.List.{flat_map}
use Rattle.schedule_text.specs.EntryTexts.{name_text}
use Rattle.schedule_text.proofs.text.dictionary.put_names.Given as goal

abbrev pub invariant-loop-name : goal.invariant-loop-name
invariant-loop-name l = l.out.items ≡ l.fn.out.items ++ codes "keys" ++ flat_map name_text (take l.name-index l.names)
