-- The strand's own numbers are those that are left, or the strand leaves with its last one.
use Rattle.std.proofs.Common.{None, length, sym, ap, ◌∙◌, rules}
use Rattle.std.proofs.lemmas.List.{nil_from_length}
use Rattle.engine_tables.specs.Numbers.{count_in}
use Rattle.engine_tables.proofs.Own.{written, emptied, fewer, count-written, count-emptied}
use Rattle.engine_tables.proofs.numbers.Numbers.take.Goals as goal

pub returns-then-len-eq0-clause-left : goal.returns-then-len-eq0-clause-left
returns-then-len-eq0-clause-left c s j =
    let own' = c.swap_remove-number.new.self in
    let mid = ((c.get_mut.follows.holds own').3 (search rules)).0 s in
    emptied c.args.self.now.by_strand.entries c.args.who s j c.args.k c.in-Some.own.now own' _ _ (sym c.in-Some.ensures.value) mid (c.swap_remove-empty.ensures.updates.0 s)
    (nil_from_length own'.entries (sym c.len.ensures.len ∙ c.if-len-eq0.true)) (c.swap_remove-number.ensures.updates.0 j)

pub returns-then-len-eq0-clause-fewer : goal.returns-then-len-eq0-clause-fewer
returns-then-len-eq0-clause-fewer c =
    let own' = c.swap_remove-number.new.self in
    fewer c.swap_remove-number.result (length c.in-Some.own.now.entries) (length own'.entries) _ _
    (count-emptied c.args.who _ _ (c.swap_remove-empty.ensures.updates.0 c.args.who) ∙ sym (sym c.len.ensures.len ∙ c.if-len-eq0.true)) (ap count_in (sym c.in-Some.ensures.value)) c.swap_remove-number.ensures.len

pub returns-else-len-eq0-clause-left : goal.returns-else-len-eq0-clause-left
returns-else-len-eq0-clause-left c s j =
    let own' = c.swap_remove-number.new.self in
    written c.args.self.now.by_strand.entries c.args.who s j c.args.k None c.in-Some.own.now own' _ (sym c.in-Some.ensures.value) (((c.get_mut.follows.holds own').3 (search rules)).0 s) (c.swap_remove-number.ensures.updates.0 j)

pub returns-else-len-eq0-clause-fewer : goal.returns-else-len-eq0-clause-fewer
returns-else-len-eq0-clause-fewer c =
    let own' = c.swap_remove-number.new.self in
    fewer c.swap_remove-number.result (length c.in-Some.own.now.entries) (length own'.entries) _ _
    (count-written c.args.who own' _ _ (((c.get_mut.follows.holds own').3 (search rules)).0 c.args.who)) (ap count_in (sym c.in-Some.ensures.value)) c.swap_remove-number.ensures.len
