use Rattle.std.proofs.Common.{◌≡◌, ◌+◌, ◌∷◌, [], ◌++◌, length, append_assoc, refl, subst, sym, ◌∙◌, rules}
use Rattle.schedule_text.specs.Reading.{ReadsNext}
use Rattle.schedule_text.proofs.Reached.{reached-more, reached-end, reached-over, reached-unread, reached-unended, finished}
use Rattle.schedule_text.proofs.reading.read_lines.Goals as goal

pub returns-in-Ok-None : goal.returns-in-Ok-None
returns-in-Ok-None c =
    let reader = c.loop-line.reader in
    reached-unread c.args.text.now c.loop-line.rest.now c.in-Some.line.now c.in-Some.after.now reader.lines.items c.next_number.result c.loop-line.invariant
    (c.in-Some.ensures.0 ∙ sym (append_assoc c.in-Some.line.now (10 ∷ []) c.in-Some.after.now)) c.in-Some.ensures.1
    (subst (ReadsNext reader.lines.items c.in-Some.line.now) c.in-Ok-None.field-0-is c.in-Ok-None.ensures) c.next_number.ensures

pub returns-then-stops : goal.returns-then-stops
returns-then-stops c =
    let reader = c.loop-line.reader in
    let more = c.push.new.self.lines.items in
    let pushed : more ≡ reader.lines.items ++ c.in-Ok-Some.read ∷ [] = search rules in
    let stops = sym c.is_stop-stops.ensures ∙ c.if-stops.true in
    let reads = subst (ReadsNext reader.lines.items c.in-Some.line.now) c.in-Ok-Some.field-0-is c.in-Ok-Some.ensures in
    let split = c.in-Some.ensures.0 ∙ sym (append_assoc c.in-Some.line.now (10 ∷ []) c.in-Some.after.now) in
    finished c.args.text.now c.in-Some.after.now more c.finish.result c.finish.ensures
    (λ none. reached-end c.args.text.now c.loop-line.rest.now c.in-Some.line.now c.in-Some.after.now reader.lines.items more c.in-Ok-Some.read c.loop-line.invariant
    split reads stops pushed none)
    (λ some. reached-over c.args.text.now c.loop-line.rest.now c.in-Some.line.now c.in-Some.after.now reader.lines.items more c.in-Ok-Some.read (length more + 1) c.loop-line.invariant
    split reads stops pushed some refl)

pub loop-line-preserved : goal.loop-line-preserved
loop-line-preserved c =
    let reader = c.loop-line.reader in
    let more = c.push.new.self.lines.items in
    let pushed : more ≡ reader.lines.items ++ c.in-Ok-Some.read ∷ [] = search rules in
    reached-more c.args.text.now c.loop-line.rest.now c.in-Some.line.now c.in-Some.after.now reader.lines.items more c.in-Ok-Some.read c.loop-line.invariant
    (c.in-Some.ensures.0 ∙ sym (append_assoc c.in-Some.line.now (10 ∷ []) c.in-Some.after.now))
    (subst (ReadsNext reader.lines.items c.in-Some.line.now) c.in-Ok-Some.field-0-is c.in-Ok-Some.ensures) (sym c.is_stop-stops.ensures ∙ c.if-stops.false) pushed

pub returns : goal.returns
returns c =
    reached-unended c.args.text.now c.loop-line.rest.now c.loop-line.reader.lines.items c.next_number-2.result c.loop-line.invariant c.in_default.ensures c.next_number-2.ensures
