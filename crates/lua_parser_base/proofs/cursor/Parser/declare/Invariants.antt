use Rattle.std.proofs.Common.{◌≡◌, length, take}
use Rattle.lua_grammar.specs.Scopes.{slots_from, with_locals}
use Rattle.lua_parser_base.specs.Frames.{frame_of}
use Rattle.lua_parser_base.proofs.cursor.Parser.declare.Given as goal

abbrev pub invariant-loop-name : goal.invariant-loop-name
invariant-loop-name l = record {
  slots : l.slots.items ≡ slots_from (length l.fn.self.frame.locals.items) (take l.name-index l.name-items);
  frame : frame_of l.self.frame ≡ with_locals (take l.name-index l.name-items) (frame_of l.fn.self.frame);
  index : l.self.index ≡ l.fn.self.index;
  line : l.self.line ≡ l.fn.self.line;
  functions : l.self.functions ≡ l.fn.self.functions;
  enclosing : l.self.enclosing ≡ l.fn.self.enclosing;
}
