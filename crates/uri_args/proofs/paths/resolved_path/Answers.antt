use Rattle.std.proofs.Common.{sym, ◌∙◌}
use Rattle.std.proofs.lemmas.Bool.{cond-false}
use Rattle.uri_args.proofs.Plain.{plain_stays}
use Rattle.uri_args.proofs.paths.resolved_path.Goals as goal

pub returns-then-is_plain : goal.returns-then-is_plain
returns-then-is_plain c =
    let none = sym (rw c.deref.ensures at c.contains.ensures.value) ∙ c.if-contains.false in
    let plain = sym (rw c.deref-2.ensures at c.is_plain.ensures) ∙ c.if-is_plain.true in
    sym (cond-false _ _ _ none ∙ plain_stays c.args.path plain)
