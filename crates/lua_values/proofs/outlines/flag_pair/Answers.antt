use Rattle.std.proofs.Common.{◌<◌, length, arith}
use Rattle.lua_values.proofs.OutlineLemmas.{flagged-more}
use Rattle.lua_values.proofs.outlines.flag_pair.Goals as goal

pub returns : goal.returns
returns c =
    let a = c.requires.flagged.live_there in
    let b = c.requires.flagged.holes_there in
    let live_there : c.args.index < length c.reach.new.live = c.in_ok-reach.ensures.reached_live (omega arith) in
    let holes_there : c.args.index < length c.reach.new.holes = c.in_ok-reach.ensures.reached_holes (omega arith) in
    rw (c.set.ensures, c.set-2.ensures, c.is_nil.ensures, c.is_hole.ensures)
    (flagged-more c.args.pairs.now c.args.live.now c.reach.new.live c.args.holes.now c.reach.new.holes c.args.index c.value.result.now c.requires.flagged c.reach.ensures.live c.reach.ensures.holes live_there holes_there c.value.ensures)
