use Rattle.std.proofs.Common.{[], ◌∷◌, append_assoc, subst, sym, ◌∙◌, arith}
use Rattle.std.proofs.lemmas.Grind.{common_steps}
use Rattle.schedule_text.specs.Reading.{ReadsEntry}
use Rattle.schedule_text.proofs.Histories.{came-finished, came-unread}
use Rattle.schedule_text.proofs.reading.histories.read_entries.Goals as goal

pub returns-in-Ok-None : goal.returns-in-Ok-None
returns-in-Ok-None c =
    came-unread c.args.text.now c.loop-line.rest.now c.in-Some.line.now c.in-Some.after.now c.loop-line.history.entries c.loop-line.number c.loop-line.invariant
    (c.in-Some.ensures.0 ∙ sym (append_assoc c.in-Some.line.now (10 ∷ []) c.in-Some.after.now)) c.in-Some.ensures.1
    (subst (ReadsEntry c.in-Some.line.now) c.in-Ok-None.field-0-is c.in-Ok-None.ensures)

pub returns : goal.returns
returns c =
    came-finished (λ history. history.entries) c.args.text.now c.loop-line.rest.now c.loop-line.history.entries c.loop-line.number c.finish.result c.loop-line.invariant c.in_default.ensures c.finish.ensures

pub loop-line-init : goal.loop-line-init
loop-line-init c = grind (arith, common_steps)

pub returns-then-is_err : goal.returns-then-is_err
returns-then-is_err c = grind (arith, common_steps)

pub returns-in-Err : goal.returns-in-Err
returns-in-Err c = grind (arith, common_steps)

pub loop-line-preserved : goal.loop-line-preserved
loop-line-preserved c = grind (arith, common_steps)
