use Rattle.std.proofs.Common.{[], if◌then◌else◌, ap, ◌∙◌}
use Rattle.strand_scripts.specs.declared.strand.ScriptStrand.{ScriptStrand}
use Rattle.strand_scripts.specs.Lines.{next_piece}
use Rattle.strand_scripts.proofs.Turning.{piece-there, no-piece}
use Rattle.strand_scripts.proofs.strand.ScriptStrandStrandContract.queued.Goals as goal

pub returns-in-Client : goal.returns-in-Client
returns-in-Client c = λ es stands execution lives rests.
    rw c.in-Client.is (c.queued.ensures ∙ ap (λ (s : ScriptStrand). if s.line.opened then next_piece s.line else []) stands ∙ piece-there c.args._site.now es execution lives rests)

pub returns-in-Sock : goal.returns-in-Sock
returns-in-Sock c = λ es stands execution lives rests. rw c.in-Sock.is (no-piece c.args._site.now es c.in-Sock.field-0 execution lives rests)
