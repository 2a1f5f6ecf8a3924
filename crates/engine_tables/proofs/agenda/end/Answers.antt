-- Each deadline of the strand leaves.
use Rattle.std.proofs.Common.{◌≡◌, ℕ, None, refl, sym, ap, ◌∙◌, rules}
use Rattle.executions.specs.Agenda.{without_those, is_of}
use Rattle.engine_tables.specs.Agenda.{agenda_of}
use Rattle.engine_tables.specs.Numbers.{number_at}
use Rattle.engine_tables.proofs.Kept.{those-one, none-left}
use Rattle.engine_tables.proofs.agenda.end.Goals as goal

pub loop-k-init : goal.loop-k-init
loop-k-init c = record { kept = c.requires; left = refl }

pub loop-k-preserved : goal.loop-k-preserved
loop-k-preserved c = record {
  kept = c.cancel.ensures.kept;
  left = ap (without_those (is_of c.args.who)) c.cancel.ensures.left ∙ those-one c.args.who c.in-Some.k (agenda_of c.loop-k.deadlines.armed) ∙ c.loop-k.invariant.left;
}

pub loop-k-smaller : goal.loop-k-smaller
loop-k-smaller c = c.cancel.ensures.fewer c.in-Some.ensures.some

pub returns-clause-left : goal.returns-clause-left
returns-clause-left c =
    let none : (k : ℕ) → number_at c.loop-k.numbers c.args.who k ≡ None = search rules in
    sym (none-left (number_at c.loop-k.numbers) c.loop-k.deadlines c.args.who c.loop-k.invariant.kept none) ∙ c.loop-k.invariant.left
