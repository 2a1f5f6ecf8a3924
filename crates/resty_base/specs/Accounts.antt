-- What contracts see of a sink.
use Rattle.std.specs.Prelude.{ℕ, List, Option}

-- the account of a sink
pub record Account : Type 0 where
  -- the bytes that it took, where it reports them
  pub told : Option (List ℕ)
  -- how many faults of writing there were
  pub faults : ℕ
