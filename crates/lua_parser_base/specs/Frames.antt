-- Functions whose text is being read, as the grammar sees them.
use Rattle.std.specs.Prelude.{List, map, reverse, Vec}
use Rattle.std.specs.Global.{Global}
use Rattle.lua_grammar.specs.Scopes.{Captured, Frame}
use Rattle.lua_parser_base.specs.declared.frames.Frame.{Frame as KeptFrame}
use Rattle.lua_parser_base.specs.declared.frames.Captured.{Captured as KeptCapture}

abbrev pub captured_of : KeptCapture → Captured
captured_of c = record { name = c.name; variable = c.variable }

abbrev pub frame_of : KeptFrame → Frame
frame_of f = record { locals = f.locals.items; captures = map captured_of f.captures.items; slots = f.slots }

-- the innermost first
abbrev pub frames_of : Vec KeptFrame Global → List Frame
frames_of enclosing = map frame_of (reverse enclosing.items)
