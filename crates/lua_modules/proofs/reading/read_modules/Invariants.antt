use Rattle.std.proofs.Common.{◌≡◌, ◌≤◌, ◌-◌, length, IfSome}
use Rattle.lua_modules.specs.Sets.{IsSound}
use Rattle.lua_modules.specs.TextsOfFiles.{ReadsWell}
use Rattle.lua_modules.specs.Finding.{most_modules}
use Rattle.lua_modules.specs.Reading.{Reads, progress, start}
use Rattle.lua_modules.proofs.reading.read_modules.Given as goal

abbrev pub invariant-loop-read : goal.invariant-loop-read
invariant-loop-read g l = record {
  reads : IfSome (g.F.Files.account l.initial.files).told (λ held. Reads held l.pattern (start l.initial.set) (progress l.set l.names.items l.read));
  few : length l.names.items ≤ most_modules;
  within : l.read ≤ length l.names.items;
  well : ReadsWell (g.F.Files.account l.initial.files) (g.F.Files.account l.files);
  blocks : l.set.blocks.items ≡ l.initial.set.blocks.items;
  sound : IsSound l.initial.set → IsSound l.set;
}

abbrev pub decreases-loop-read : goal.decreases-loop-read
decreases-loop-read g l = most_modules - l.read
