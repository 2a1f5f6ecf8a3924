-- How ids and jobs stand.
use Rattle.std.specs.Prelude.{ℕ, Bool, true, false, List, [], ◌∷◌, Option, Some, None, unwrap_or, ◌==◌, if◌then◌else◌}
use Rattle.resty_base.specs.declared.names.Id.{Id}
use Rattle.resty_world.specs.Ids.{same_id}
use Rattle.live_world.specs.declared.standings.Standing.{Standing}

-- how stands what isn't there
abbrev pub nothing : Standing
nothing = record { is_open = false; has_ended = false; is_aside = false }

-- what is kept of an id
abbrev pub kept_at : List (Id × Standing) → Id → Option Standing
kept_at [] x = None
kept_at (e ∷ es) x = if same_id x e.0 then Some e.1 else kept_at es x

-- how an id stands
abbrev pub standing_at : List (Id × Standing) → Id → Standing
standing_at ids x = unwrap_or (kept_at ids x) nothing

-- a job is among these
abbrev pub has_job : List ℕ → ℕ → Bool
has_job [] n = false
has_job (m ∷ ms) n = if n == m then true else has_job ms n
