use Rattle.std.proofs.Common.{ap, ◌∙◌, arith}
use Rattle.lru.specs.LruCache.{lru_cache}
use Rattle.shared_dict.proofs.Entries.{put-is}
use Rattle.shared_dict.proofs.recent.put_in.Goals as goal

pub returns-in-Ok-clause-done : goal.returns-in-Ok-clause-done
returns-in-Ok-clause-done c =
    c.in-Ok.ensures.entries ∙ ap (λ es. lru_cache es c.args.map.now.cap) (put-is c.args.key c.args.kept c.args.map.now c.requires (omega (arith, c.len-below_capacity.ensures.len, c.len-below_capacity.ensures.fits)))
