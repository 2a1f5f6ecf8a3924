use Rattle.std.proofs.Common.{sym, ap, ◌∙◌}
use Rattle.http_base.specs.Splitting.{before, after}
use Rattle.http_base.proofs.Pieces.{before_none, after_none, before_at, after_at}
use Rattle.http_base.proofs.splits.split_once.Goals as goal

pub returns-in-Some-clause-before : goal.returns-in-Some-clause-before
returns-in-Some-clause-before c =
    sym (ap (before c.args.separator) c.in-Some.ensures.0 ∙ before_at c.args.separator c.in-Some.before.now c.in-Some.after.now c.in-Some.ensures.1)

pub returns-in-Some-clause-after : goal.returns-in-Some-clause-after
returns-in-Some-clause-after c =
    sym (ap (after c.args.separator) c.in-Some.ensures.0 ∙ after_at c.args.separator c.in-Some.before.now c.in-Some.after.now c.in-Some.ensures.1)

pub returns-in-None-clause-before : goal.returns-in-None-clause-before
returns-in-None-clause-before c = sym (before_none c.args.separator c.args.text.now c.in-None.ensures)

pub returns-in-None-clause-after : goal.returns-in-None-clause-after
returns-in-None-clause-after c = sym (after_none c.args.separator c.args.text.now c.in-None.ensures)
