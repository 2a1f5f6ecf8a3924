use Rattle.std.proofs.Common.{◌<◌, length, ◌∙◌, inl, subst, arith}
use Rattle.lua_values.proofs.PairLemmas.{insert-with}
use Rattle.lua_values.proofs.NumberedLemmas.{pushed-insert}
use Rattle.lua_values.proofs.TableLemmas.{indexed-append}
use Rattle.lua_values.specs.TableFlags.{IsHoleOf}
use Rattle.lua_values.proofs.outlines.append_flagged.Goals as goal

pub returns-clause-flagged : goal.returns-clause-flagged
returns-clause-flagged c =
    let a = c.requires.flagged.live_there in
    let b = c.requires.flagged.holes_there in
    let live_there : length c.args.pairs.now < length c.reach.new.live = let r = c.in_ok-reach.ensures.reached_live (omega arith) in omega arith in
    let holes_there : length c.args.pairs.now < length c.reach.new.holes = let r = c.in_ok-reach.ensures.reached_holes (omega arith) in omega arith in
    rw (c.set-2.ensures, c.set_at.ensures, c.set.ensures, c.is_hole.ensures, c.in_ok-push.ensures.done, pushed-insert c.args.pairs.now c.args.key c.args.value c.requires.absent, c.len-index.ensures.len)
    (indexed-append c.args.pairs.now c.args.key c.args.value c.args.live.now c.reach.new.live c.args.holes.now c.reach.new.holes c.hole_of-hole.result c.requires.flagged c.requires.absent c.requires.live c.reach.ensures.live c.reach.ensures.holes live_there holes_there (subst (λ n. IsHoleOf c.args.key n c.hole_of-hole.result) c.len-index.ensures.len c.hole_of-hole.ensures))

pub returns-clause-done : goal.returns-clause-done
returns-clause-done c =
    c.in_ok-push.ensures.done ∙ pushed-insert c.args.pairs.now c.args.key c.args.value c.requires.absent ∙ insert-with c.args.pairs.now c.args.key c.args.value (inl c.requires.live)
