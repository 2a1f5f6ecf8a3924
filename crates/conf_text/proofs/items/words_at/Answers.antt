-- One more word is read.
use Rattle.std.proofs.Common.{◌≡◌, [], ◌∷◌, ◌++◌, arith, rules}
use Rattle.conf_text.proofs.Standing.{words_step, dropped_more, left_after}
use Rattle.conf_text.proofs.items.words_at.Goals as goal

pub loop-word-preserved : goal.loop-word-preserved
loop-word-preserved c =
    let was = c.loop-word.invariant in
    let token = c.token_at-token.ensures in
    let dropped = c.bytes_after-rest.ensures in
    let pushed : c.push.new.self.items ≡ c.loop-word.words.items ++ c.in-Some.word.now ∷ [] = search rules in
    let left = left_after c.loop-word.rest.now c.bytes_after-rest.result.now c.token_at-token.result.size dropped in
    record {
      stand = words_step _ _ _ _ c.in-Some.word.now _ _ _ _ was.stand token.value c.in-Some.ensures.value pushed dropped;
      rest = dropped_more _ _ _ _ was.rest was.within token.size dropped;
      within = omega (arith, left, token.size, was.within);
      lines = omega (arith, left, token.lines, token.size, was.lines);
    }
