-- Counts of faults, which never fall.
use Rattle.std.specs.Prelude.{◌≡◌, ℕ, Bool, true, false, ◌+◌, ◌-◌, ◌^◌, ◌≤◌, min}

-- the count rose, or stands at the last value of a u64
pub record Rose (before now : ℕ) : Type 0 where
  pub kept : before ≤ now
  pub risen : min (before + 1) (2 ^ 64 - 1) ≤ now

-- the count rose where something failed, and else it stands as it stood
abbrev pub RoseWhere : Bool → ℕ → ℕ → Type 0
RoseWhere true before now = Rose before now
RoseWhere false before now = now ≡ before
