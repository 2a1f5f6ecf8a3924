-- The value is at the next number, which was free.
use Rattle.std.proofs.Common.{◌<◌, ◌++◌, ◌∷◌, [], nat_eq, subst, sym, ap, ◌∙◌, arith}
use Rattle.std.specs.Map.{lookup}
use Rattle.indexmap.specs.IndexMap.{get, spare}
use Rattle.engine_tables.specs.Numbered.{NumberedView}
use Rattle.engine_tables.proofs.Rising.{below-none, below-put, done-then, room-spare}
use Rattle.engine_tables.proofs.numbered.Numbered.push.Goals as goal

pub returns-clause-done : goal.returns-clause-done
returns-clause-done g c =
    let n = c.self.inside.next in
    let room = room-spare n (spare c.self.inside.by_number) (subst (λ (w : NumberedView _). 0 < w.room) (sym c.self.view_is) c.requires) in
    let put = done-then c.insert-was.result (c.insert-was.ensures.succeeds room) c.insert-was.ensures.updates in
    below-put (get nat_eq c.self.inside.by_number) (get nat_eq c.insert-was.new.self) n c.args.value put.0 ∙ ap (λ (w : NumberedView _). w.entries ++ (n, c.args.value) ∷ []) c.self.view_is

pub returns-clause-fresh : goal.returns-clause-fresh
returns-clause-fresh g c =
    let n = c.self.inside.next in
    ap (λ (w : NumberedView _). lookup (nat_eq n) w.entries) (sym c.self.view_is) ∙ below-none (get nat_eq c.self.inside.by_number) n n (omega arith)
