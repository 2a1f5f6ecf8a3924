-- What contracts see of how ids and jobs stand.
use Rattle.std.specs.Prelude.{ℕ, List}
use Rattle.resty_base.specs.declared.names.Id.{Id}
use Rattle.live_world.specs.declared.standings.Standing.{Standing}

-- the ids with how they stand, the jobs, and for how many of each there is room without memory
pub record Kept : Type 0 where
  pub ids : List (Id × Standing)
  pub jobs : List ℕ
  pub id_room : ℕ
  pub job_room : ℕ
