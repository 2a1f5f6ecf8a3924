-- Equal keys.
use Rattle.std.proofs.Common.{◌≡◌, ℕ, ◌&&◌, true, List, [], ◌∷◌, refl}
use Rattle.std.proofs.lemmas.Bool.{and_parts}
use Rattle.std.proofs.lemmas.Cmp.{nat_list_eq_equiv}
use Rattle.shared_rules.specs.Keys.{same_key}

pub same-self : (x : List ℕ) → same_key x x ≡ true
same-self = nat_list_eq_equiv.refl

pub same-back : (x y : List ℕ) → same_key x y ≡ same_key y x
same-back = nat_list_eq_equiv.symm
