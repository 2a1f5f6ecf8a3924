use Rattle.std.proofs.Common.{drop-drop}
use Rattle.strand_scripts.specs.Programs.{ops_in}
use Rattle.strand_scripts.proofs.program.Rest.skip.Goals as goal

pub returns-then-is_some : goal.returns-then-is_some
returns-then-is_some c = let more = drop-drop 1 c.self.inside.next (ops_in c.self.inside.ops) in let view = c.self.view_is in cc
