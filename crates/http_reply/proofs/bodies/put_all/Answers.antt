use Rattle.std.proofs.Common.{◌++◌, ◌∙◌, ap, sym, arith}
use Rattle.std.specs.List.{flat_map}
use Rattle.std.proofs.lemmas.List.{take_all}
use Rattle.std.proofs.lemmas.List.Concat.{concat_is}
use Rattle.http_reply.proofs.bodies.put_all.Goals as goal

pub returns : goal.returns
returns c =
    let pieces = c.args.pieces.now in
    let all = ap (flat_map (λ piece. piece)) (take_all c.loop-piece.piece-index pieces (omega (arith, c.loop-piece-test.false))) in
    c.loop-piece.invariant ∙ ap (λ l. c.args.out.now.items ++ l) (all ∙ sym (concat_is pieces))
