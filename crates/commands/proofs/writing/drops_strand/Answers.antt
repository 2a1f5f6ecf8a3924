use Rattle.std.proofs.Common.{sym, ◌∙◌, ap, reverse}
use Rattle.std.specs.List.{list_any}
use Rattle.std.proofs.lemmas.List.Sorted.{list_any-IsPermutation, IsPermutation-reverse}
use Rattle.commands.specs.Run.{is_dropped}
use Rattle.commands.proofs.writing.drops_strand.Goals as goal

pub returns : goal.returns
returns c =
    let entries = c.args.history.now.entries in
    c.any_dropped.ensures ∙ ap (list_any is_dropped) c.as_slice.ensures
    ∙ sym (list_any-IsPermutation is_dropped entries (reverse entries) (IsPermutation-reverse entries))
