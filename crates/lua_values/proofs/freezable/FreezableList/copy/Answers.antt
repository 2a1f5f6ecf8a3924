use Rattle.std.proofs.Common.{refl}
use Rattle.std.proofs.lemmas.List.Elements.{same_from_all_zip}
use Rattle.lua_values.proofs.freezable.FreezableList.copy.Goals as goal

pub returns : goal.returns
returns g c = λ same.
    rw (← c.self.view_is, c.in_ok-base_of_copy.ensures, same_from_all_zip g.T.Clone.is_clone _ _ c.in_ok-clone.ensures.cases.0 same) refl
