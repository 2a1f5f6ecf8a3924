-- What a sink takes of some bytes.
use Rattle.std.specs.Prelude.{◌≡◌, ◌⊎◌, ℕ, ◌≤◌, ◌<◌, Bool, true, false, List, ◌++◌, length, take, Option, Some, None}
use Rattle.std.specs.Borrow.{Bor}
use Rattle.std.specs.List.{flat_map}
use Rattle.resty_base.specs.Accounts.{Account}
use Rattle.resty_base.specs.Counting.{Rose, RoseWhere}
use Rattle.resty_base.specs.declared.sinks.Put.{Put}
use Rattle.resty_base.specs.declared.sinks.Put.TheVariants.{Took, Failed}

-- what the sink took and reports, with these bytes after it
abbrev pub with_more : List ℕ → Option (List ℕ) → Option (List ℕ)
with_more bytes None = None
with_more bytes (Some taken) = Some (taken ++ bytes)

-- what pieces of bytes are together
abbrev pub joined : List (Bor (List ℕ)) → List ℕ
joined pieces = flat_map (λ piece. piece.now) pieces

-- all of them, with no fault
pub record TakesAll (bytes : List ℕ) (old new : Account) : Type 0 where
  pub told : new.told ≡ with_more bytes old.told
  pub faults : new.faults ≡ old.faults

-- a proper first part of them, with a fault
pub record TakesPart (bytes : List ℕ) (old new : Account) : Type 0 where
  pub count : ℕ
  pub proper : count < length bytes
  pub told : new.told ≡ with_more (take count bytes) old.told
  pub faults : Rose old.faults new.faults

-- nothing, with no fault
pub record TakesNothing (old new : Account) : Type 0 where
  pub told : new.told ≡ old.told
  pub faults : new.faults ≡ old.faults

-- all of them, or a proper first part where a fault came
abbrev pub Takes : List ℕ → Account → Account → Type 0
Takes bytes old new = TakesAll bytes old new ⊎ TakesPart bytes old new

-- the answer of a put is a fault of writing
abbrev pub is_failed : Put → Bool
is_failed Failed = true
is_failed (Took count) = false

-- the bytes that a put took of those that were offered
abbrev pub taken_by : Put → List ℕ → List ℕ
taken_by (Took count) offered = take count offered
taken_by Failed offered = take 0 offered

-- a put that doesn't fail takes from one byte to all
abbrev pub IsPiece : ℕ → Put → Type 0
IsPiece offered (Took count) = (0 < count) × (count ≤ offered)
IsPiece offered Failed = Unit {0}

-- a put of these bytes gives this answer
pub record Puts (bytes : List ℕ) (answer : Put) (old new : Account) : Type 0 where
  pub piece : IsPiece (length bytes) answer
  pub told : new.told ≡ with_more (taken_by answer bytes) old.told
  pub faults : RoseWhere (is_failed answer) old.faults new.faults
