-- What waits to be sent, as contracts see it.
use Rattle.std.specs.Prelude.{ℕ, Bool, List}

-- the bytes that wait, how many were taken after the last multiple of 16,384, and whether the client is gone
pub record Sending : Type 0 where
  pub bytes : List ℕ
  pub phase : ℕ
  pub gone : Bool
