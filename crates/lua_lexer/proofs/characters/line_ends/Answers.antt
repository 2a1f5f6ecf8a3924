use Rattle.std.proofs.Common.{rules}
use Rattle.lua_lexer.proofs.Steps.{line_ends_kept}
use Rattle.lua_lexer.proofs.characters.line_ends.Goals as goal

pub loop-rest-preserved : goal.loop-rest-preserved
loop-rest-preserved c =
    line_ends_kept _ _ _ _ _ _ _ _ (search rules) c.loop-rest.invariant c.from-count.ensures c.is_line_byte.ensures c.bytes_after-rest.ensures c.span_len.ensures.some c.span_len.ensures.lines
