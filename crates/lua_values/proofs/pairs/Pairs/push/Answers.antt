use Rattle.std.proofs.Common.{◌≡◌, ◌+◌, ◌<◌, ◌++◌, length, sym, ap, ◌∙◌, arith}
use Rattle.std.proofs.lemmas.Result.{on_ok_weaker}
use Rattle.lua_values.specs.Numbered.{numbered_from}
use Rattle.lua_values.specs.Values.{number}
use Rattle.lua_values.proofs.NumberedLemmas.{counted, length-all, push-numbered}
use Rattle.lua_values.proofs.pairs.Pairs.push.Goals as goal
use Rattle.lua_values.proofs.pairs.Pairs.push.Goals.{in-Text+in-Some-3, in-Text+in-None-3, in-Nil-3}

pub invariant_of-self-then-comes_next-3 : goal.invariant_of-self-then-comes_next-3
invariant_of-self-then-comes_next-3 c =
    let room : length c.self.inside.numbered.items + length c.self.inside.others.entries < 32_768 =
    omega (arith, length-all c.self.inside.numbered.items c.self.inside.others.entries, c.len.ensures.len ∙ ap length (sym c.self.view_is), c.if-len-ge-MOST.false) in
    (omega (arith, room, c.push_value.ensures.few), c.self.invariant.1)

pub returns-then-comes_next-clause-done : goal.returns-then-comes_next-clause-done
returns-then-comes_next-clause-done c =
    let is : c.args.key ≡ number (length c.self.inside.numbered.items + 1) = c.comes_next.ensures.next c.if-comes_next.true ∙ ap (λ n. number (n + 1)) (counted c.len-2.result c.self.inside.numbered c.len-2.ensures) in
    let view : c.match-key-3.self ≡ numbered_from 1 c.push_value.new.values.items ++ c.self.inside.others.entries = elim c.match-key-3.branch [
      | in-Text+in-Some-3 w ↦ w.self-is
      | in-Text+in-None-3 w ↦ w.self-is
      | in-Nil-3 w ↦ w.self-is
    ] in
    on_ok_weaker c.push_value.result (λ items. view ∙ ap (λ vs. numbered_from 1 vs ++ c.self.inside.others.entries) items ∙ rw (← c.self.view_is)
    (push-numbered c.self.inside.numbered.items c.self.inside.others.entries c.args.key c.args.value (c.comes_next.ensures.all c.if-comes_next.true) is)) c.push_value.ensures.done
