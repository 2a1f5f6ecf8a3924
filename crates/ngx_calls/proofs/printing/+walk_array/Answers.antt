use Rattle.std.proofs.Common.{◌≡◌, ◌-◌, sym, ◌∙◌, Some, Err}
use Rattle.lua_lib_base.specs.Work.{texts_length}
use Rattle.lua_values.specs.StoreCalls.{pairs_of}
use Rattle.lua_values.specs.declared.values.Value.TheVariants.{Table}
use Rattle.ngx_calls.specs.Printing.{met_in}
use Rattle.ngx_calls.specs.Walks.{seen, after_met}
use Rattle.ngx_calls.proofs.Walking.{comes_some, comes_none, comes_as, array_left, element_ends, element_goes, elements_done, meets_plain, array_none, deep_none}
use Rattle.ngx_calls.proofs.printing.+walk_array.Goals as goal
use Rattle.ngx_calls.proofs.printing.+walk_array.Goals.{in-Table+in_ok-walk_array-in-Table, in_default+in_ok-meet-in_default}

pub returns-then-levels-eq0 : goal.returns-then-levels-eq0
returns-then-levels-eq0 t c = deep_none c.args.levels c.args.number c.args.store.now.heap c.args.t (seen c.args.walk.now) c.args.walk.now c.if-levels-eq0.true

pub returns-in_err-count : goal.returns-in_err-count
returns-in_err-count t c =
    comes_none _ _ _ _ c.from_residual.result c.in_err-count.field-0.0 c.in_err-count.ensures c.from_residual.ensures.1 (λ none. array_none c.args.levels c.args.store.now.heap c.args.t c.args.number _ c.if-levels-eq0.false none)

pub returns-in_err-walk_array-in-Table : goal.returns-in_err-walk_array-in-Table
returns-in_err-walk_array-in-Table t c =
    let begun = comes_some _ c.count.new.walk c.count.result c.in_ok-count.field-0 c.count.ensures c.in_ok-count.was in
    comes_none _ _ _ _ c.from_residual-in_err-walk_array-in-Table.result c.in_err-walk_array-in-Table.field-0.0 c.in_err-walk_array-in-Table.ensures c.from_residual-in_err-walk_array-in-Table.ensures.1
    (λ none. element_ends c.args.levels c.args.store.now.heap c.args.t c.args.number c.loop-index.index c.border-index-end.result (Table c.in-Table.inner) _ _ _ c.if-levels-eq0.false begun c.border-index-end.ensures.least
    c.loop-index.invariant c.loop-index-test.true (sym c.in-Table.is ∙ c.in_ok-other.ensures) none)

pub returns-in_err-meet-in_default : goal.returns-in_err-meet-in_default
returns-in_err-meet-in_default t c =
    let begun = comes_some _ c.count.new.walk c.count.result c.in_ok-count.field-0 c.count.ensures c.in_ok-count.was in
    let met = meets_plain (c.args.levels - 1) c.args.number c.text_length.result c.args.store.now.heap c.in_ok-other.other.now (seen c.loop-index.walk) c.meet.new.walk (Err c.in_err-meet-in_default.field-0.0) c.in_default.not-Table c.text_length.ensures c.in_err-meet-in_default.ensures in
    comes_none _ _ c.meet.new.walk c.meet.new.walk c.from_residual-in_err-meet-in_default.result c.in_err-meet-in_default.field-0.0 met c.from_residual-in_err-meet-in_default.ensures.1
    (λ none. element_ends c.args.levels c.args.store.now.heap c.args.t c.args.number c.loop-index.index c.border-index-end.result c.in_ok-other.other.now _ _ _ c.if-levels-eq0.false begun c.border-index-end.ensures.least
    c.loop-index.invariant c.loop-index-test.true c.in_ok-other.ensures none)

pub loop-index-preserved : goal.loop-index-preserved
loop-index-preserved t c = let went : after_met texts_length c.args.number (met_in (c.args.levels - 1) c.args.store.now.heap c.in_ok-other.other.now) (seen c.loop-index.walk) ≡ Some (seen c.match-branch-3.walk) =
    elim c.match-branch-3.branch [
      | in-Table+in_ok-walk_array-in-Table w ↦ rw (w.in-Table.is, w.walk-is) (comes_some _ w.walk_array.new.walk w.walk_array.result w.in_ok-walk_array-in-Table.field-0 w.walk_array.ensures w.in_ok-walk_array-in-Table.was)
      | in_default+in_ok-meet-in_default w ↦ rw w.walk-is (comes_some _ w.meet.new.walk w.meet.result w.in_ok-meet-in_default.field-0
          (meets_plain (c.args.levels - 1) c.args.number w.text_length.result c.args.store.now.heap c.in_ok-other.other.now _ _ _ w.in_default.not-Table w.text_length.ensures w.meet.ensures) w.in_ok-meet-in_default.was)
    ] in
    element_goes (met_in (c.args.levels - 1) c.args.store.now.heap) c.args.number (pairs_of c.args.store.now.heap c.args.t) c.loop-index.index c.border-index-end.result c.in_ok-other.other.now _ _ _
    c.loop-index.invariant c.loop-index-test.true c.in_ok-other.ensures went

pub returns : goal.returns
returns t c =
    let begun = comes_some _ c.count.new.walk c.count.result c.in_ok-count.field-0 c.count.ensures c.in_ok-count.was in
    comes_as _ c.loop-index.walk tt
    (array_left c.args.levels c.args.store.now.heap c.args.t c.args.number c.loop-index.index c.border-index-end.result _ _ _ c.if-levels-eq0.false begun c.border-index-end.ensures.least c.loop-index.invariant
    ∙ elements_done (met_in (c.args.levels - 1) c.args.store.now.heap) c.args.number (pairs_of c.args.store.now.heap c.args.t) c.loop-index.index c.border-index-end.result _ c.loop-index-test.false)
