-- A body as contracts see it.
use Rattle.std.specs.Prelude.{ℕ, List}
use Rattle.http_bodies.specs.declared.states.BodyState.{BodyState}

-- the most bytes that its content may have, how far it has come, and its content so far
pub record Body : Type 0 where
  pub max : ℕ
  pub state : BodyState
  pub content : List ℕ
