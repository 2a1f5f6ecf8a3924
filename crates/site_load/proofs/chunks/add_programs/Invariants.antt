use Rattle.site_load.specs.Chunks.{JoinsPrograms}
use Rattle.site_load.proofs.chunks.add_programs.Given as goal

-- so many are joined
abbrev pub invariant-loop-program : goal.invariant-loop-program
invariant-loop-program l = JoinsPrograms l.file l.yielded l.initial.set l.set
