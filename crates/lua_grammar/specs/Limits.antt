-- The limits of functions whose text is being read: 200 locals and 60 captures, as many as luaconf.h of Lua 5.1.5 has.
use Rattle.std.specs.Prelude.{◌≤◌, List, [], ◌∷◌, length}
use Rattle.lua_grammar.specs.Scopes.{Frame}

-- the locals in scope at most, and the captures so far
pub record IsFew (f : Frame) : Type 0 where
  pub locals : f.slots ≤ 200
  pub captures : length f.captures ≤ 60

-- each function that is open is within the limits
unfoldable pub Few : List Frame → Type 0
Few [] = Unit {0}
Few (f ∷ fs) = IsFew f × Few fs
