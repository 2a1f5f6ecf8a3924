use Rattle.std.proofs.Common.{◌≡◌, Some, ap, sym, ◌∙◌}
use Rattle.std.proofs.lemmas.List.{length-take-le}
use Rattle.http_in.specs.Ends.{head_end}
use Rattle.http_in.proofs.Scans.{head_end-bound, head_end-take}
use Rattle.http_in.proofs.Answers.{begins-with}
use Rattle.http_in.proofs.heads.head_of.Goals as goal

pub slice_bounds-copied_head-end : goal.slice_bounds-copied_head-end
slice_bounds-copied_head-end c =
    let ends : head_end c.args.bytes.now ≡ Some c.in-Some.end = sym c.end_of.ensures ∙ c.in-Some.is in
    sym (length-take-le c.in-Some.end c.args.bytes.now (head_end-bound c.args.bytes.now c.in-Some.end ends))

pub copied_head-requires : goal.copied_head-requires
copied_head-requires c =
    let ends : head_end c.args.bytes.now ≡ Some c.in-Some.end = sym c.end_of.ensures ∙ c.in-Some.is in
    head_end-take c.args.bytes.now c.in-Some.end ends ∙ ap Some (sym (length-take-le c.in-Some.end c.args.bytes.now (head_end-bound c.args.bytes.now c.in-Some.end ends)))

pub returns-in-Some : goal.returns-in-Some
returns-in-Some c = λ read.
    let ends : head_end c.args.bytes.now ≡ Some c.in-Some.end = sym c.end_of.ensures ∙ c.in-Some.is in
    begins-with c.args.bytes.now c.in-Some.end _ ends (c.copied_head.ensures read)
