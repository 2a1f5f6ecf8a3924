-- How a call ends for the frame below its own, where no handler is to be called.
use Rattle.std.specs.Prelude.{◌≡◌, List, []}
use Rattle.lua_meaning.specs.Works.{Caller, Sign, Failed, End}
use Rattle.lua_meaning.specs.Setting.{Setting}
use Rattle.lua_frames.specs.declared.ending.Closing.{Closing}
use Rattle.lua_frames.specs.declared.ending.Closing.TheVariants as by
use Rattle.lua_frames.specs.declared.frames.Kind.{Kind}
use Rattle.lua_frames.specs.declared.frames.Kind.TheVariants.{Handled}
use Rattle.lua_frames.specs.Signals.{sign_of}
use Rattle.lua_frames.specs.Frames.{closing}

-- a frame of a kind, whose items end so, gives a signal, or calls its handler with a fault
abbrev pub Closes : Kind → Sign → Closing → Type 0
Closes kind sign (by.Gives signal) = (S : Setting) (around : List Caller) → closing S kind around sign ≡ End (sign_of signal) []
Closes kind sign (by.Handles handler fault) = (kind ≡ Handled handler) × (sign ≡ Failed fault)
