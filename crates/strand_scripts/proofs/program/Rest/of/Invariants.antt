use Rattle.std.proofs.Common.{◌≡◌, drop}
use Rattle.strand_scripts.specs.Programs.{ops_of}
use Rattle.strand_scripts.proofs.program.Rest.of.Given as goal

abbrev pub invariant-loop-program : goal.invariant-loop-program
invariant-loop-program l = ops_of l.name (drop l.program-index l.site.programs.items) ≡ ops_of l.name l.site.programs.items
