-- Where statements of the innermost function are run at once.
use Rattle.std.specs.Prelude.{◌≡◌, ℕ, ◌+◌, ◌<◌, length}
use Rattle.std.proofs.Common.{sym}
use Rattle.lua_meaning.specs.Setting.{Setting}
use Rattle.lua_meaning.specs.Calls.{most_callers}
use Rattle.lua_vm_fast.specs.declared.calls.Site.{Site}
use Rattle.lua_vm_fast.specs.Calls.{Allows}
use Rattle.lua_frames.specs.declared.threads.Frames.{Frames}
use Rattle.lua_frames.specs.Frames.{around, here}

pub allows_here : (S : Setting) (fs : Frames) (site : Site) → S.program ≡ site.program.now → site.cells.now ≡ fs.top.cells.items → (0 < site.levels → length (around fs) + site.levels < most_callers) → Allows site site.levels S (here fs)
allows_here S fs site program cells room = record { program = program; cells = sym cells; room = room }
