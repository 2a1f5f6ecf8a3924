-- How constructs are nested within others.
use Rattle.std.specs.Prelude.{◌≡◌, ◌+◌, ◌-◌, max, Bool, true, false}
use Rattle.lua_parser_base.specs.declared.nesting.Nesting.{Nesting}

-- one construct deeper
pub record IsWithin (at inner : Nesting) : Type 0 where
  pub depth : inner.depth ≡ at.depth + 1
  pub room : inner.room ≡ at.room
  pub vararg : inner.vararg ≡ at.vararg
  pub in_loop : inner.in_loop ≡ at.in_loop

-- the same for a part of an expression
pub record IsPart (at inner : Nesting) : Type 0 where
  pub depth : inner.depth ≡ at.depth + 1
  pub room : inner.room + 1 ≡ at.room
  pub vararg : inner.vararg ≡ at.vararg

-- for a part that opens no construct of its own
pub record IsNarrower (at inner : Nesting) : Type 0 where
  pub depth : inner.depth ≡ at.depth
  pub room : inner.room ≡ max (at.room - 1) 1
  pub vararg : inner.vararg ≡ at.vararg

-- for an expression that stands in no other
pub record IsFresh (at inner : Nesting) : Type 0 where
  pub depth : inner.depth ≡ at.depth
  pub room : inner.room ≡ 4_000
  pub vararg : inner.vararg ≡ at.vararg
  pub in_loop : inner.in_loop ≡ at.in_loop

-- the same, in a loop
pub record IsLooped (at inner : Nesting) : Type 0 where
  pub depth : inner.depth ≡ at.depth
  pub room : inner.room ≡ at.room
  pub vararg : inner.vararg ≡ at.vararg
  pub in_loop : inner.in_loop ≡ true

-- for the block of a function that takes more arguments, or doesn't
pub record IsOfFunction (more : Bool) (at inner : Nesting) : Type 0 where
  pub depth : inner.depth ≡ at.depth
  pub vararg : inner.vararg ≡ more
  pub in_loop : inner.in_loop ≡ false

-- that of the chunk
pub record IsOutermost (at : Nesting) : Type 0 where
  pub depth : at.depth ≡ 1
  pub vararg : at.vararg ≡ true
  pub in_loop : at.in_loop ≡ false
