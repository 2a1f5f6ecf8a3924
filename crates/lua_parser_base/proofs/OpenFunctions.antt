-- The functions that are open are within their limits.
use Rattle.std.proofs.Common.{List, [], ◌∷◌, map, reverse, arith}
use Rattle.std.proofs.lemmas.List.{length-map}
use Rattle.lua_lexer.specs.declared.tokens.Token.{Token}
use Rattle.lua_grammar.specs.Limits.{Few, IsFew}
use Rattle.lua_parser_base.specs.declared.cursor.Parser.{Parser}
use Rattle.lua_parser_base.specs.declared.frames.Frame.{Frame}
use Rattle.lua_parser_base.specs.Frames.{captured_of, frame_of}
use Rattle.lua_parser_base.specs.States.{state}

frame_few : (f : Frame) → IsFew (frame_of f)
frame_few f =
    let same = length-map f.captures.items captured_of in
    let captures = f.few_captures in
    record { locals = f.few_slots; captures = omega (arith, same, captures) }

frames_few : (fs : List Frame) → Few (map frame_of fs)
unfolding Few
frames_few [] = tt
frames_few (f ∷ fs) = (frame_few f, frames_few fs)

pub few_there : (tokens : List Token) (p : Parser) → Few (state tokens p).scope.enclosing
unfolding state Few
few_there tokens p = (frame_few p.frame, frames_few (reverse p.enclosing.items))
