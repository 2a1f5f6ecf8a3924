-- A fault that is handed on.
use Rattle.std.proofs.Common.{◌≡◌, Result, Ok, Err, IfErr, IsErrAnd, sym, subst}
use Rattle.lua_parser_base.specs.declared.faults.ParseFault.{ParseFault}

-- what is said of it is said of what hands it on
pub handed_on : {A : Type 0} (P : ParseFault → Type 0) (r : Result A ParseFault) (fault : ParseFault) → IsErrAnd r (λ same. same ≡ fault) → P fault → IfErr r P
handed_on P (Ok x) fault is h = tt
handed_on P (Err other) fault is h = subst P (sym is) h
