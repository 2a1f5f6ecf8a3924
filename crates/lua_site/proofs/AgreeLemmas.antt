-- Two starts of one site come to the same.
use Rattle.std.proofs.Common.{◌≡◌, Ok, Err}
use Rattle.lua_site.specs.declared.faults.LuaSiteFault.TheVariants.{Init, Memory}
use Rattle.lua_site.specs.Started.{start_of}
use Rattle.lua_site.specs.Laws.{StartsAgree}

pub starts_agree : StartsAgree
starts_agree meant (Err Memory) b p q = tt
starts_agree meant (Ok a) (Ok b) p q = let same : start_of a ≡ start_of b = cc in same
starts_agree meant (Err (Init s)) (Err (Init t)) p q = let same : s ≡ t = cc in same
starts_agree meant (Ok a) (Err Memory) p q = tt
starts_agree meant (Err (Init s)) (Err Memory) p q = tt
starts_agree meant (Ok a) (Err (Init t)) p q = absurd (cc)
starts_agree meant (Err (Init s)) (Ok b) p q = absurd (cc)
