use Rattle.std.proofs.Common.{◌≡◌, ◌++◌, take}
use Rattle.std.specs.Prelude.{codes}
use Rattle.std.specs.List.{flat_map}
use Rattle.schedule_text.specs.Words.{quoted_byte}
use Rattle.schedule_text.proofs.text.words.put_quoted.Given as goal

abbrev pub invariant-loop-byte : goal.invariant-loop-byte
invariant-loop-byte l = l.out.items ≡ l.fn.out.items ++ codes "\"" ++ flat_map quoted_byte (take l.byte-index l.bytes)
