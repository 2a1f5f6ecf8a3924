use Rattle.wakes.specs.Queue.{IsNotBefore}
use Rattle.wakes.proofs.run_queue.index_of.Given as goal

abbrev pub invariant-loop-index : goal.invariant-loop-index
invariant-loop-index l = IsNotBefore (l.strand, l.thread) l.threads.items l.index
