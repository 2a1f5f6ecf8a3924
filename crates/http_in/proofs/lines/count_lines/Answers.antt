use Rattle.std.proofs.Common.{◌≡◌, false, true, length, ap, sym, ◌∙◌, arith}
use Rattle.resty_base.specs.Ascii.{line_feed}
use Rattle.http_base.specs.Splitting.{before}
use Rattle.http_base.proofs.Pieces.{left_after}
use Rattle.http_in.specs.Lines as spec
use Rattle.http_in.proofs.Counts.{kept_full, kept_empty, count-bound}
use Rattle.http_in.proofs.lines.count_lines.Goals as goal

pub overflow_add-count : goal.overflow_add-count
overflow_add-count c =
    let full : spec.is_empty_line (before line_feed c.in-Some.lines.now) ≡ false = ap spec.is_empty_line (sym c.split_once.ensures.before) ∙ sym c.is_empty_line.ensures ∙ c.if-not-is_empty_line.true in
    let counted = rw c.in-Some.is at c.loop-rest.invariant in
    omega (arith, counted, ap length (kept_full c.in-Some.lines.now full), count-bound c.args.text.now, c.requires)

pub loop-rest-smaller-then-not-is_empty_line : goal.loop-rest-smaller-then-not-is_empty_line
loop-rest-smaller-then-not-is_empty_line c = rw (c.split_once.ensures.after, c.in-Some.is) (left_after _ c.in-Some.lines.now)

pub loop-rest-preserved-then-not-is_empty_line : goal.loop-rest-preserved-then-not-is_empty_line
loop-rest-preserved-then-not-is_empty_line c =
    let full : spec.is_empty_line (before line_feed c.in-Some.lines.now) ≡ false = ap spec.is_empty_line (sym c.split_once.ensures.before) ∙ sym c.is_empty_line.ensures ∙ c.if-not-is_empty_line.true in
    let counted = rw c.in-Some.is at c.loop-rest.invariant in
    rw c.split_once.ensures.after (omega (arith, counted, ap length (kept_full c.in-Some.lines.now full)))

pub loop-rest-smaller : goal.loop-rest-smaller
loop-rest-smaller c = rw (c.split_once.ensures.after, c.in-Some.is) (left_after _ c.in-Some.lines.now)

pub loop-rest-preserved : goal.loop-rest-preserved
loop-rest-preserved c =
    let empty : spec.is_empty_line (before line_feed c.in-Some.lines.now) ≡ true = ap spec.is_empty_line (sym c.split_once.ensures.before) ∙ sym c.is_empty_line.ensures ∙ c.if-not-is_empty_line.false in
    let counted = rw c.in-Some.is at c.loop-rest.invariant in
    rw c.split_once.ensures.after (omega (arith, counted, ap length (kept_empty c.in-Some.lines.now empty)))
