-- A body whose content is dropped, under no limit.
use Rattle.std.specs.Prelude.{ℕ, ◌-◌, ◌^◌, suc, List, [], ◌∷◌, if◌then◌else◌}
use Rattle.http_bodies.specs.declared.states.BodyState.{BodyState}
use Rattle.http_bodies.specs.States.{after_byte, is_settled}

-- no size that a chunk line can tell is above this room
abbrev pub no_limit : ℕ
no_limit = 2 ^ 64 - 1

-- how far the body is after more bytes
abbrev pub skipped : BodyState → List ℕ → BodyState
skipped state [] = state
skipped state (b ∷ bs) = skipped (after_byte no_limit state b) bs

-- how many of the bytes belong to the body
abbrev pub skip_count : BodyState → List ℕ → ℕ
skip_count state [] = 0
skip_count state (b ∷ bs) = if is_settled state then 0 else suc (skip_count (after_byte no_limit state b) bs)
