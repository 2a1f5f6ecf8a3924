-- What holds where a result is a fault.
use Rattle.std.proofs.Common.{Result, Ok, Err, OnErr}

pub on_err_holds : {T E : Type 0} (r : Result T E) {P : Type 0} → P → OnErr r P
on_err_holds (Ok x) p = tt
on_err_holds (Err y) p = p
