-- The text of a history, as its lines in order.
use Rattle.std.proofs.Common.{◌≡◌, List, [], ◌∷◌, ◌++◌, reverse, refl, sym, ap, ◌∙◌, append-nil}
use Rattle.std.specs.List.{flat_map}
use Rattle.std.proofs.lemmas.Grind.{flat_map-append}
use Rattle.std.proofs.lemmas.List.{reverse-append}
use Rattle.resty_world.specs.declared.entry.Entry.{Entry}
use Rattle.schedule_text.specs.EntryTexts.{entry_line, history_text}

pub history_lines : (history : List Entry) → history_text history ≡ flat_map entry_line (reverse history)
history_lines [] = refl
history_lines (e ∷ history) =
    ap (λ text. text ++ entry_line e) (history_lines history)
    ∙ ap (λ text. flat_map entry_line (reverse history) ++ text) (sym (append-nil (entry_line e)))
    ∙ sym (flat_map-append entry_line (reverse history) (e ∷ []))
    ∙ ap (flat_map entry_line) (sym (reverse-append (e ∷ []) history))
