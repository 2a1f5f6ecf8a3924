use Rattle.std.proofs.Common.{◌≡◌, take}
use Rattle.lua_modules.specs.Files.{file_of}
use Rattle.lua_modules.proofs.files.file_of.Given as goal

abbrev pub invariant-loop-byte : goal.invariant-loop-byte
invariant-loop-byte l = l.file.items ≡ file_of (take l.byte-index l.pattern) l.name
