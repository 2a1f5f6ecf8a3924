use Rattle.std.proofs.Common.{◌≡◌, ◌+◌, [], length, ap, ◌∙◌}
use Rattle.lua_values.specs.Values.{number}
use Rattle.lua_values.proofs.NumberedLemmas.{counted, next-absent, ordered-alone, push-numbered}
use Rattle.lua_values.proofs.pairs.Pairs.push_next.Goals as goal
use Rattle.lua_values.proofs.pairs.Pairs.push_next.Goals.{in-Ok, in-Err}

pub returns-clause-absent : goal.returns-clause-absent
returns-clause-absent c = elim c.match-push.branch [
  | in-Ok w ↦
      let none : c.self.inside.others.entries ≡ [] = c.comes_next.ensures.all c.if-not-comes_next.false in
      let is : c.args.key.now ≡ number (length c.self.inside.numbered.items + 1) = c.comes_next.ensures.next c.if-not-comes_next.false ∙ ap (λ n. number (n + 1)) (counted c.len-count.result c.self.inside.numbered c.len-count.ensures) in
      rw (w.result-is, ← c.self.view_is) (next-absent c.self.inside.numbered.items c.self.inside.others.entries c.args.key.now none is)
  | in-Err w ↦ rw w.result-is tt
]

pub returns-clause-done : goal.returns-clause-done
returns-clause-done c = elim c.match-push.branch [
  | in-Ok w ↦
      let none : c.self.inside.others.entries ≡ [] = c.comes_next.ensures.all c.if-not-comes_next.false in
      let is : c.args.key.now ≡ number (length c.self.inside.numbered.items + 1) = c.comes_next.ensures.next c.if-not-comes_next.false ∙ ap (λ n. number (n + 1)) (counted c.len-count.result c.self.inside.numbered c.len-count.ensures) in
      rw (w.result-is, w.in-Ok.ensures.items, ← c.self.view_is) (push-numbered c.self.inside.numbered.items c.self.inside.others.entries c.args.key.now c.args.value none is)
  | in-Err w ↦ rw w.result-is tt
]

pub returns-clause-ordered : goal.returns-clause-ordered
returns-clause-ordered c = elim c.match-push.branch [
  | in-Ok w ↦
      let none : c.self.inside.others.entries ≡ [] = c.comes_next.ensures.all c.if-not-comes_next.false in
      rw w.result-is (ordered-alone c.push.new.self.items c.self.inside.others.entries none)
  | in-Err w ↦ rw w.result-is tt
]
