use Rattle.std.proofs.Common.{Ok, ap, is_ok, refl, rules}
use Rattle.std.proofs.ResultArms.{chosen}
use Rattle.lua_lexer.proofs.Steps.{unified_kept, unified_whole}
use Rattle.lua_lexer.proofs.characters.unified.Goals as goal

pub loop-rest-preserved : goal.loop-rest-preserved
loop-rest-preserved c =
    unified_kept _ _ _ _ _ _ _ _ (search rules) c.loop-rest.invariant (chosen _ _ _ _ c.push.ensures.items (ap is_ok c.in_ok-push.was)) c.unified_byte.ensures c.bytes_after-rest.ensures c.line_step.ensures refl

pub returns : goal.returns
returns c = ap Ok (unified_whole _ _ _ c.loop-rest.invariant (search rules))
