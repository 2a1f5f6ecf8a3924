use Rattle.std.proofs.Common.{◌≡◌, List, map, sym, ap, ◌∙◌, subst}
use Rattle.std.specs.List.{IsDistinct}
use Rattle.std.specs.Map.{keys_of}
use Rattle.shared_rules.specs.declared.items.Item.{Item}
use Rattle.shared_rules.specs.Keys.{same_key}
use Rattle.shared_rules.specs.Items.{used, without}
use Rattle.shared_dict.specs.Zones.{fits_after}
use Rattle.shared_dict.specs.Kept.{Entry, items_of}
use Rattle.shared_dict.proofs.Progress.{keys-are, without-any}
use Rattle.shared_dict.proofs.items.Items.fits.Goals as goal

pub fits-requires-clause-distinct : goal.fits-requires-clause-distinct
fits-requires-clause-distinct c =
    let e : c.in-Some.entries ≡ c.self.inside.recent = c.in-Some.ensures in
    subst (λ (es : List Entry). IsDistinct same_key (keys_of es)) (sym e)
    (subst (IsDistinct same_key) (keys-are c.self.inside.flush c.self.inside.recent) (subst (λ (l : List Item). IsDistinct same_key (map (λ (i : Item). i.key) l)) (sym c.self.view_is) c.requires.distinct))

pub fits-requires-clause-rest : goal.fits-requires-clause-rest
fits-requires-clause-rest c f =
    let e : c.in-Some.entries ≡ c.self.inside.recent = c.in-Some.ensures in
    c.requires.rest ∙ ap (λ (l : List Item). used (without c.args.key.now l)) (sym c.self.view_is) ∙ without-any c.self.inside.flush f c.args.key.now c.self.inside.recent
    ∙ ap (λ (es : List Entry). used (without c.args.key.now (items_of f es))) (sym e)

pub returns-in-Some : goal.returns-in-Some
returns-in-Some c =
    let e : c.in-Some.entries ≡ c.self.inside.recent = c.in-Some.ensures in
    c.fits.ensures c.self.inside.flush
    ∙ ap (λ (es : List Entry). fits_after 30 c.args.size c.args.more (without c.args.key.now (items_of c.self.inside.flush es))) e
    ∙ ap (λ (l : List Item). fits_after 30 c.args.size c.args.more (without c.args.key.now l)) c.self.view_is
