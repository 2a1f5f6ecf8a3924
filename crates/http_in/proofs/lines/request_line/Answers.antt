use Rattle.std.proofs.Common.{◌≡◌, false, true, ap, sym, ◌∙◌}
use Rattle.resty_base.specs.Ascii.{line_feed}
use Rattle.http_base.specs.Splitting.{before}
use Rattle.http_base.proofs.Pieces.{left_after}
use Rattle.http_in.specs.Lines as spec
use Rattle.http_in.proofs.Counts.{kept_full, kept_empty}
use Rattle.http_in.proofs.lines.request_line.Goals as goal

pub returns-then-not-is_empty_line : goal.returns-then-not-is_empty_line
returns-then-not-is_empty_line c =
    let full : spec.is_empty_line (before line_feed c.in-Some.lines.now) ≡ false = ap spec.is_empty_line (sym c.split_once.ensures.before) ∙ sym c.is_empty_line.ensures ∙ c.if-not-is_empty_line.true in
    let kept = rw c.in-Some.is at c.loop-rest.invariant in
    c.without_return.ensures ∙ ap spec.without_return (c.split_once.ensures.before ∙ sym (ap spec.first_line (kept_full c.in-Some.lines.now full)) ∙ kept)

pub loop-rest-smaller : goal.loop-rest-smaller
loop-rest-smaller c = rw (c.split_once.ensures.after, c.in-Some.is) (left_after _ c.in-Some.lines.now)

pub loop-rest-preserved : goal.loop-rest-preserved
loop-rest-preserved c =
    let empty : spec.is_empty_line (before line_feed c.in-Some.lines.now) ≡ true = ap spec.is_empty_line (sym c.split_once.ensures.before) ∙ sym c.is_empty_line.ensures ∙ c.if-not-is_empty_line.false in
    let kept = rw c.in-Some.is at c.loop-rest.invariant in
    rw c.split_once.ensures.after (sym (ap spec.first_line (kept_empty c.in-Some.lines.now empty)) ∙ kept)
