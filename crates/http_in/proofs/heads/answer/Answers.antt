use Rattle.std.proofs.Common.{◌≡◌, false, ap, sym, ◌∙◌, Ok}
use Rattle.http_in.specs.declared.heads.HeadRead.TheVariants.{Whole}
use Rattle.http_in.specs.Framing.{framing}
use Rattle.http_in.specs.Options.{has_bad_host, keeps, expects}
use Rattle.http_in.specs.Standing.{parts_at}
use Rattle.http_in.proofs.Answers.{bad-host, bad-framing, good-parts}
use Rattle.http_in.proofs.heads.answer.Goals as goal

pub returns-then-branch : goal.returns-then-branch
returns-then-branch c =
    let parts = parts_at c.args.head.now c.args.at c.args.spans.now in
    bad-host parts c.args.at.len (ap (has_bad_host c.args.at.version) (sym c.in_ok-headers.ensures) ∙ sym c.in_ok-has_bad_host.ensures ∙ c.if-branch.true)

pub returns-in-Err : goal.returns-in-Err
returns-in-Err c =
    let parts = parts_at c.args.head.now c.args.at c.args.spans.now in
    bad-framing parts c.args.at.len c.in-Err.code (ap (has_bad_host c.args.at.version) (sym c.in_ok-headers.ensures) ∙ sym c.in_ok-has_bad_host.ensures ∙ c.if-branch.false)
    (ap (framing c.args.at.version) (sym c.in_ok-headers.ensures) ∙ sym c.in_ok-code.ensures ∙ c.in-Err.is)

pub returns-in_ok-expects-in-Ok : goal.returns-in_ok-expects-in-Ok
returns-in_ok-expects-in-Ok c =
    let parts = parts_at c.args.head.now c.args.at c.args.spans.now in
    let host : has_bad_host c.args.at.version parts.fields ≡ false = ap (has_bad_host c.args.at.version) (sym c.in_ok-headers.ensures) ∙ sym c.in_ok-has_bad_host.ensures ∙ c.if-branch.false in
    let framed : framing c.args.at.version parts.fields ≡ Ok c.in-Ok.body = ap (framing c.args.at.version) (sym c.in_ok-headers.ensures) ∙ sym c.in_ok-code.ensures ∙ c.in-Ok.is in
    let kept : c.in_ok-keeps-in-Ok.field-0 ≡ keeps c.args.at.version parts.fields = c.in_ok-keeps-in-Ok.ensures ∙ ap (keeps c.args.at.version) c.in_ok-headers.ensures in
    let waits : c.in_ok-expects-in-Ok.field-0 ≡ expects c.args.at.version parts.fields = c.in_ok-expects-in-Ok.ensures ∙ ap (expects c.args.at.version) c.in_ok-headers.ensures in
    (λ i. Whole record { method = c.in_ok-slice-in-Ok.ensures.ok i; target = c.in_ok-slice-in-Ok-2.ensures.ok i; minor = c.args.at.version; headers = c.in_ok-headers.ensures i; body = c.in-Ok.body; keep = kept i; expects = waits i } c.args.at.len)
    ∙ good-parts parts c.args.at.len c.in-Ok.body host framed
