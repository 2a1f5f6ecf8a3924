use Rattle.std.proofs.Common.{◌≡◌, length}
use Rattle.strand_scripts.specs.declared.strand.NoJob.{NoJob}
use Rattle.strand_scripts.specs.Turns.{ran}
use Rattle.strand_scripts.proofs.strand.ScriptStrand.run.Given as goal

abbrev pub invariant-loop-op : goal.invariant-loop-op
invariant-loop-op l = ran {J = NoJob} l.now.0 l.self.rest l.self.line l.acts.items ≡ ran l.now.0 l.fn.self.rest l.fn.self.line l.fn.acts.items

abbrev pub decreases-loop-op : goal.decreases-loop-op
decreases-loop-op l = length l.self.rest
