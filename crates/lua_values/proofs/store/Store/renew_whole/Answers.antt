use Rattle.std.proofs.Common.{◌≡◌, ◌≤◌, Some, slice_get, ap, arith, refl}
use Rattle.lua_values.specs.declared.values.Value.TheVariants.{Number}
use Rattle.lua_values.specs.Heap.{Heap}
use Rattle.lua_values.proofs.RenewLemmas.{renew-seen, renew-allowed, renewed}
use Rattle.lua_values.proofs.store.Store.renew_whole.Goals as goal

pub returns-clause-allowed : goal.returns-clause-allowed
returns-clause-allowed c = λ h.
    let at : slice_get c.args.self.now.heap.tables c.args.t ≡ Some c.item_mut.result.now = rw (← c.self.view_is) c.item_mut.ensures.item in
    let unfrozen : c.args.self.now.heap.base.tables ≤ c.args.t = rw (← c.self.view_is) (omega (arith, c.frozen.ensures, c.if-index-frozen.false)) in
    renew-allowed c.args.self.now.heap c.args.t (Number c.args.n) (Number c.args.number) refl unfrozen
    (renew-seen c.args.self.now.heap c.args.t (Number c.args.n) c.item_mut.result.now at (c.renew_whole.ensures.there h))

pub returns-clause-done : goal.returns-clause-done
returns-clause-done c = λ h.
    rw (← c.self.view_is) (ap (λ (heap : Heap). record { heap = heap; steps = c.self.inside.steps })
    (renewed (record {
      tables = c.self.inside.tables.items;
      cells = c.self.inside.cells.items;
      closures = c.self.inside.closures.items;
      base = record { tables = c.self.inside.tables.frozen; cells = c.self.inside.cells.frozen; closures = c.self.inside.closures.frozen };
      globals = c.self.inside.globals;
      metatables = c.self.inside.metatables;
      units = c.self.inside.units;
    }) c.args.t (Number c.args.n) (Number c.args.number) c.item_mut.result.now c.renew_whole.new.self c.item_mut.ensures.item (c.renew_whole.ensures.there h)
    (c.renew_whole.ensures.done h)))
