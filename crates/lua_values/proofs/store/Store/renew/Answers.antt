use Rattle.std.proofs.Common.{◌≡◌, ◌≤◌, Some, slice_get, sym, ap, ◌∙◌, arith}
use Rattle.lua_values.specs.Heap.{Heap}
use Rattle.lua_values.proofs.RenewLemmas.{renew-seen, renew-allowed, renewed}
use Rattle.lua_values.proofs.store.Store.renew.Goals as goal
use Rattle.lua_values.proofs.store.Store.renew.Goals.{in-Ok, in-Err}

pub returns-clause-allowed : goal.returns-clause-allowed
returns-clause-allowed c = elim c.match-renew.branch [
  | in-Ok w ↦
      let at : slice_get c.args.self.now.heap.tables c.args.t ≡ Some c.item_mut.result.now = rw (← c.self.view_is) c.item_mut.ensures.item in
      let unfrozen : c.args.self.now.heap.base.tables ≤ c.args.t = rw (← c.self.view_is) (omega (arith, c.frozen.ensures, c.if-index-frozen.false)) in
      rw w.result-is (renew-allowed c.args.self.now.heap c.args.t c.args.key.now c.args.value (sym c.is_nil.ensures ∙ c.if-is_nil.false) unfrozen (renew-seen c.args.self.now.heap c.args.t c.args.key.now c.item_mut.result.now at w.in-Ok.ensures.there))
  | in-Err w ↦ rw w.result-is tt
]

pub returns-clause-done : goal.returns-clause-done
returns-clause-done c = elim c.match-renew.branch [
  | in-Ok w ↦
      rw (w.result-is, ← c.self.view_is) (ap (λ (h : Heap). record { heap = h; steps = c.self.inside.steps })
      (renewed (record {
        tables = c.self.inside.tables.items;
        cells = c.self.inside.cells.items;
        closures = c.self.inside.closures.items;
        base = record { tables = c.self.inside.tables.frozen; cells = c.self.inside.cells.frozen; closures = c.self.inside.closures.frozen };
        globals = c.self.inside.globals;
        metatables = c.self.inside.metatables;
        units = c.self.inside.units;
      }) c.args.t c.args.key.now c.args.value c.item_mut.result.now c.renew.new.self c.item_mut.ensures.item w.in-Ok.ensures.there w.in-Ok.ensures.done))
  | in-Err w ↦ rw w.result-is tt
]
