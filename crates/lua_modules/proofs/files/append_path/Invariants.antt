use Rattle.std.proofs.Common.{◌≡◌, ◌++◌, take}
use Rattle.lua_modules.specs.Files.{path_of}
use Rattle.lua_modules.proofs.files.append_path.Given as goal

abbrev pub invariant-loop-byte : goal.invariant-loop-byte
invariant-loop-byte l = l.file.items ≡ l.initial.file.items ++ path_of (take l.byte-index l.name)
