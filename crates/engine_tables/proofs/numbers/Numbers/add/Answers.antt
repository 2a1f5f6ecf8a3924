-- The strand gets one number of its own.
use Rattle.std.proofs.Common.{Some, nat_eq, if◌then◌else◌, ap, ◌∙◌}
use Rattle.std.specs.Map.{lookup}
use Rattle.std.proofs.lemmas.List.{nil_from_length}
use Rattle.engine_tables.proofs.Own.{added}
use Rattle.engine_tables.proofs.numbers.Numbers.add.Goals as goal

pub returns-in-Ok-clause-done : goal.returns-in-Ok-clause-done
returns-in-Ok-clause-done c s j =
    added c.args.self.now.by_strand.entries c.args.who s j c.args.k (Some c.args.number) c.put_own.new.own _ c.requires (c.in-Ok.ensures.updates.0 s)
    (c.in_ok-put_own.ensures.done j ∙ ap (λ o. if nat_eq c.args.k j then Some c.args.number else o) (ap (lookup (nat_eq j)) (nil_from_length c.new-own.result.entries c.new-own.ensures.len)))
