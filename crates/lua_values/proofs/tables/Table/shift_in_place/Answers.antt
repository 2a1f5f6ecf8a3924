use Rattle.std.proofs.Common.{◌≡◌, ◌+◌, ◌-◌, arith, refl, sym, ap, subst, ◌∙◌}
use Rattle.lua_values.specs.Heap.{TableView}
use Rattle.lua_values.specs.Values.{number}
use Rattle.lua_values.specs.Pairs.{value_at, has_entry, with_value}
use Rattle.lua_values.specs.Shifts.{place, moved}
use Rattle.lua_values.proofs.ShiftLemmas.{Carries, carries-first, carries-next}
use Rattle.lua_values.proofs.tables.Table.shift_in_place.Goals as goal

pub loop-written-init : goal.loop-written-init
loop-written-init c =
    let ps = c.args.self.now.pairs in
    let shift = c.args.shift in
    let later = c.requires.shift.some in
    let last : c.moves-moves.result ≡ c.moves-moves.result - 1 + 1 = omega (arith, c.moves-moves.ensures) in
    let pairs : c.put_first.new.self.pairs ≡ with_value ps (number (place shift 0)) (moved ps shift 0) = ap (λ (t : TableView). t.pairs) c.in_ok-put_first.ensures.done in (
      subst (λ qs. Carries ps qs shift (c.moves-moves.result - 1)) (sym pairs)
          (carries-first ps shift (moved ps shift 0) (c.moves-moves.result - 1) c.requires.shift c.requires.sources refl (sym last ∙ c.moves-moves.ensures)),
      c.in_ok-carried.ensures,
      ap (λ (t : TableView). t.meta) c.in_ok-put_first.ensures.done,
    )

pub exchange-carried-requires-clause-there : goal.exchange-carried-requires-clause-there
exchange-carried-requires-clause-there c =
    let last : c.moves-moves.result - c.loop-written.written ≡ c.moves-moves.result - (c.loop-written.written + 1) + 1 = omega (arith, c.loop-written-test.true) in
    ap (λ i. has_entry c.loop-written.self.pairs (number (place c.args.shift i))) last
    ∙ c.loop-written.invariant.0.entries (c.moves-moves.result - (c.loop-written.written + 1)) (omega (arith, c.loop-written-test.true))

pub loop-written-preserved : goal.loop-written-preserved
loop-written-preserved c =
    let ps = c.args.self.now.pairs in
    let qs = c.loop-written.self.pairs in
    let shift = c.args.shift in
    let i = c.moves-moves.result - (c.loop-written.written + 1) in
    let last : c.moves-moves.result - c.loop-written.written ≡ c.moves-moves.result - (c.loop-written.written + 1) + 1 = omega (arith, c.loop-written-test.true) in
    let before : Carries ps qs shift (i + 1) = subst (Carries ps qs shift) last c.loop-written.invariant.0 in
    let pairs : c.exchange-carried.new.self.pairs ≡ with_value qs (number (place shift (i + 1))) c.loop-written.carried =
    ap (λ (t : TableView). t.pairs) c.exchange-carried.ensures.done ∙ ap (λ j. with_value qs (number (place shift j)) c.loop-written.carried) last in (
      subst (λ rs. Carries ps rs shift i) (sym pairs)
          (carries-next ps qs shift c.loop-written.carried i c.requires.shift (omega (arith, c.loop-written-test.true, c.moves-moves.ensures)) before (c.loop-written.invariant.1 ∙ ap (moved ps shift) last)),
      c.exchange-carried.ensures.before ∙ ap (λ j. value_at qs (number (place shift j))) last ∙ before.values i (omega arith),
      ap (λ (t : TableView). t.meta) c.exchange-carried.ensures.done ∙ c.loop-written.invariant.2,
    )

pub returns-clause-done : goal.returns-clause-done
returns-clause-done c =
    let some = c.requires.shift.some in
    let end = c.loop-written.auto.written-end (omega (arith, c.moves-moves.ensures)) in
    let none : c.moves-moves.result - c.loop-written.written ≡ 0 = omega (arith, c.loop-written-test.false) in
    let after : Carries c.args.self.now.pairs c.loop-written.self.pairs c.args.shift 0 = subst (Carries c.args.self.now.pairs c.loop-written.self.pairs c.args.shift) none c.loop-written.invariant.0 in
    (λ i. record { pairs = after.rest i; meta = c.loop-written.invariant.2 i })
