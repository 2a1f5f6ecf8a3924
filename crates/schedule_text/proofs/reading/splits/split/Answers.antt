use Rattle.std.proofs.Common.{◌∙◌}
use Rattle.schedule_text.proofs.Finding.{before-parts, after-parts, before-none, after-none}
use Rattle.schedule_text.proofs.reading.splits.split.Goals as goal

pub returns-in-Some-clause-before : goal.returns-in-Some-clause-before
returns-in-Some-clause-before c = before-parts c.args.byte c.args.text.now c.in-Some.parts.0.now c.in-Some.parts.1.now c.in-Some.ensures.0 c.in-Some.ensures.1

pub returns-in-Some-clause-after : goal.returns-in-Some-clause-after
returns-in-Some-clause-after c = after-parts c.args.byte c.args.text.now c.in-Some.parts.0.now c.in-Some.parts.1.now c.in-Some.ensures.0 c.in-Some.ensures.1

pub returns-in-None-clause-before : goal.returns-in-None-clause-before
returns-in-None-clause-before c = before-none c.args.byte c.args.text.now c.in-None.ensures

pub returns-in-None-clause-after : goal.returns-in-None-clause-after
returns-in-None-clause-after c = c.bytes_after.ensures ∙ after-none c.args.byte c.args.text.now c.in-None.ensures
