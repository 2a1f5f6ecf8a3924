-- The new one goes first.
use Rattle.std.proofs.Common.{◌<◌, ◌^◌, length, arith}
use Rattle.sock_pool.proofs.Numbers.{put-is}
use Rattle.sock_pool.proofs.recent.put_first.Goals as goal

pub returns-in-Ok-clause-done : goal.returns-in-Ok-clause-done
returns-in-Ok-clause-done g c =
    let l : length c.args.values.now.entries < 2 ^ 63 = omega (arith, c.len-count.ensures.fits, c.len-count.ensures.len) in
    rw c.in-Ok.ensures.entries (put-is c.args.values.now c.args.number c.args.value c.requires l)
