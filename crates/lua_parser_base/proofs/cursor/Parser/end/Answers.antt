use Rattle.std.proofs.Common.{refl, sym}
use Rattle.lua_parser_base.specs.Frames.{frame_of, frames_of}
use Rattle.lua_parser_base.proofs.Bodies.{ended}
use Rattle.lua_parser_base.proofs.cursor.Parser.end.Goals as goal

pub returns-clause-ends : goal.returns-clause-ends
returns-clause-ends c = record {
  number = refl;
  ends = λ names before params number.
      let popped = rw c.in-Some.is at c.pop.ensures.items in
      let split = rw c.keep.ensures.enclosing at popped in (
        c.in_ok-function.function,
        frame_of c.args.self.now.frame,
        frames_of c.args.self.now.enclosing,
        refl,
        c.in_ok-function.ensures names (sym params),
        ended _ _ _ _ _ _ _ _ c.keep.ensures.functions number split,
      );
}
