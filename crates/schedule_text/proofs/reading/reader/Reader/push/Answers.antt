use Rattle.std.proofs.Common.{◌≡◌, ◌++◌, ◌∷◌, [], ap, ◌∙◌}
use Rattle.schedule_text.proofs.MoreLines.{arrived-more, latest-more}
use Rattle.schedule_text.proofs.reading.reader.Reader.push.Goals as goal

pub invariant_of-self-2 : goal.invariant_of-self-2
invariant_of-self-2 c =
    let reader = c.args.self.now in
    let lines = reader.lines.items in
    let l = c.args.line in
    let follows = c.requires.follows in
    let pushed : c.push_reserved.new.self.items ≡ lines ++ l ∷ [] = c.push_reserved.ensures.items ∙ ap (λ xs. xs ++ l ∷ []) c.in_ok-reserve.ensures.items in
    record {
      arrivals = c.arrived_after-arrived.ensures ∙ arrived-more lines c.push_reserved.new.self.items l reader.arrived follows reader.arrivals pushed;
      moments = c.latest_after-latest.ensures ∙ latest-more lines c.push_reserved.new.self.items l reader.latest follows reader.moments pushed;
    }
