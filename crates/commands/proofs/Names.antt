-- Tests, what holds where something is there, and the names of strands.
use Rattle.std.proofs.Common.{Option, Some, None, IfSome}

-- what follows from what is there, where it is
pub weaker_some : {X : Type 0} (o : Option X) (P Q : X → Type 0) → ((x : X) → P x → Q x) → IfSome o P → IfSome o Q
weaker_some None P Q wider p = tt
weaker_some (Some x) P Q wider p = wider x p

-- the same from two such facts
pub both_some : {X : Type 0} (o : Option X) (P Q R : X → Type 0) → ((x : X) → P x → Q x → R x) → IfSome o P → IfSome o Q → IfSome o R
both_some None P Q R wider p q = tt
both_some (Some x) P Q R wider p q = wider x p q
