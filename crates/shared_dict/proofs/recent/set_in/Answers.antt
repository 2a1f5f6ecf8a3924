use Rattle.std.proofs.Common.{◌≡◌, ◌∷◌, Some, None, ap, ◌∙◌}
use Rattle.std.specs.Map.{remove_entry}
use Rattle.shared_rules.specs.Keys.{same_key}
use Rattle.shared_dict.specs.declared.kept.Kept.{Kept}
use Rattle.shared_dict.proofs.Entries.{set-first, value-of, test-is}
use Rattle.shared_dict.proofs.recent.set_in.Goals as goal

pub returns-in-Some-clause-entries : goal.returns-in-Some-clause-entries
returns-in-Some-clause-entries c e h =
    let key = c.args.key.now in
    let es = c.args.map.now.entries in
    let g : Some c.in-Some.kept.now ≡ Some e.1 = c.in-Some.ensures.value ∙ value-of key es e h in
    let k : c.in-Some.kept.now ≡ e.1 = cc in
    let written : Kept = record e.1 { value = c.args.value } in
    set-first (same_key key) es e _ h (test-is key es e h)
    ∙ ap (λ (w : Kept). (e.0, w) ∷ remove_entry (same_key key) es) (let same : _ ≡ written = cc in same)

pub returns-in_default-clause-entries : goal.returns-in_default-clause-entries
returns-in_default-clause-entries c e h = absurd (let g : None ≡ Some e.1 = c.in_default.ensures.value ∙ value-of c.args.key.now c.args.map.now.entries e h in cc)
