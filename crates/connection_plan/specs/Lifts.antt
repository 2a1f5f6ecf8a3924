-- The deeds of a run as moves of its connection: an act is one of its moves, and a word is heard where it stands.
use Rattle.std.specs.Prelude.{suc, List, [], ◌∷◌}
use Rattle.strand_contract.specs.declared.turns.Place.TheVariants as place
use Rattle.strand_plans.specs.Moves.{Move}
use Rattle.strand_plans.specs.Moves as move
use Rattle.run_contract.specs.declared.turns.Said.{Said}
use Rattle.run_contract.specs.Deeds.{Deed, Ready, Unready, Arm, Cancel, HangUp, Send, Log, Say}
use Rattle.connection_plan.specs.Services.{Both}

-- `says` is what a word does, and the moves after it
module _ {J R : Type 0} (says : Said → Move J (Both R) → Move J (Both R)) where
  -- a deed, and these after it
  abbrev pub lifted_deed : Deed → Move J (Both R) → Move J (Both R)
  lifted_deed (Ready k) m = move.Ready k m
  lifted_deed (Unready k) m = move.Unready k m
  lifted_deed (Arm k at) m = move.Arm (suc (suc k)) at m
  lifted_deed (Cancel k) m = move.Cancel (suc (suc k)) m
  lifted_deed (HangUp k) m = move.HangUp (place.Sock k) m
  lifted_deed (Send k bytes) m = move.Send (place.Sock k) bytes m
  lifted_deed (Log line) m = move.Log line m
  lifted_deed (Say w) m = says w m

  -- deeds in order, and these after them
  abbrev pub lifted : List Deed → Move J (Both R) → Move J (Both R)
  lifted [] m = m
  lifted (d ∷ ds) m = lifted_deed d (lifted ds m)
