-- The programs of a site.
use Rattle.std.specs.Prelude.{ℕ, ◌==◌, List, [], ◌∷◌, Option, Some, None, Vec, if◌then◌else◌}
use Rattle.std.specs.Global.{Global}
use Rattle.std.specs.declared.rc.Rc.{Rc}
use Rattle.strand_scripts.specs.declared.program.Op.{Op}
use Rattle.strand_scripts.specs.declared.program.Program.{Program}

-- the operations of the first program of that name; none where there is no such program
abbrev pub ops_of : ℕ → List Program → List Op
ops_of name [] = []
ops_of name (p ∷ ps) = if p.name == name then p.ops.value.items else ops_of name ps

-- those that there are
abbrev pub ops_in : Option (Rc (Vec Op Global) Global) → List Op
ops_in None = []
ops_in (Some ops) = ops.value.items
