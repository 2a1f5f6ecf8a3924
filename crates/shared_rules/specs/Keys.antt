-- Keys: of the items of a dictionary, and of the sockets of the pool.
use Rattle.std.specs.Prelude.{ℕ, nat_eq, Bool, List}
use lib.Pointwise.{pointwise}

-- the same bytes
abbrev pub same_key : List ℕ → List ℕ → Bool
same_key = pointwise nat_eq
