use Rattle.std.proofs.Common.{List, sym, ◌∙◌, ap, true, false}
use Rattle.std.specs.Option.{option_copied}
use Rattle.shared_rules.specs.declared.items.Item.{Item}
use Rattle.shared_rules.specs.Items.{found, is_before}
use Rattle.shared_dict.specs.Kept.{content, content_of}
use Rattle.shared_dict.proofs.Entries.{there-none, there-some}
use Rattle.shared_dict.proofs.items.Items.there.Goals as goal

pub returns-in_err-kept : goal.returns-in_err-kept
returns-in_err-kept c =
    ap (λ r. content (option_copied r)) c.from_residual.ensures
    ∙ sym (there-none c.self.inside.flush c.args.now.0 c.args.key.now c.self.inside.recent (sym c.in_err-kept.ensures))
    ∙ ap (λ (l : List Item). content_of (found c.args.now.0 c.args.key.now l)) c.self.view_is

pub returns-then-is_before : goal.returns-then-is_before
returns-then-is_before c =
    sym (there-some c.self.inside.flush c.args.now.0 c.args.key.now c.self.inside.recent c.in_ok-kept.kept.now true (sym c.in_ok-kept.ensures)
    (ap (is_before c.args.now.0) (sym c.expiry_of.ensures) ∙ sym c.if-is_before.ensures))
    ∙ ap (λ (l : List Item). content_of (found c.args.now.0 c.args.key.now l)) c.self.view_is

pub returns-else-is_before : goal.returns-else-is_before
returns-else-is_before c =
    sym (there-some c.self.inside.flush c.args.now.0 c.args.key.now c.self.inside.recent c.in_ok-kept.kept.now false (sym c.in_ok-kept.ensures)
    (ap (is_before c.args.now.0) (sym c.expiry_of.ensures) ∙ sym c.if-is_before.ensures))
    ∙ ap (λ (l : List Item). content_of (found c.args.now.0 c.args.key.now l)) c.self.view_is
