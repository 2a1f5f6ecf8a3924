-- Facts of a result that follow from facts of a result.
use Rattle.std.specs.Prelude.{Result, Ok, Err, IfOk}

pub if-ok : {T E : Type 0} (r : Result T E) (P Q : T → Type 0) → IfOk r P → ((v : T) → P v → Q v) → IfOk r Q
if-ok (Ok v) P Q h f = f v h
if-ok (Err e) P Q h f = tt
