use Rattle.std.proofs.Common.{◌≡◌, ◌+◌, true, length, ap, sym, ◌∙◌, length-drop, arith}
use Rattle.http_bodies.specs.States.{is_settled}
use Rattle.http_bodies.proofs.Skipping.{settled-stays, settled-counts, run-on}
use Rattle.http_bodies.proofs.skips.skip.Goals as goal

pub returns-then-is_settled-clause-moved : goal.returns-then-is_settled-clause-moved
returns-then-is_settled-clause-moved c =
    let settled : is_settled c.loop-rest.state ≡ true = sym c.is_settled.ensures ∙ c.if-is_settled.true in
    sym (settled-stays c.loop-rest.state c.loop-rest.rest.now settled) ∙ c.loop-rest.invariant.moved

pub returns-then-is_settled-clause-counted : goal.returns-then-is_settled-clause-counted
returns-then-is_settled-clause-counted c =
    let settled : is_settled c.loop-rest.state ≡ true = sym c.is_settled.ensures ∙ c.if-is_settled.true in
    omega (arith, settled-counts c.loop-rest.state c.loop-rest.rest.now settled, c.loop-rest.invariant.counted)

pub loop-rest-preserved-in-Data : goal.loop-rest-preserved-in-Data
loop-rest-preserved-in-Data c =
    let ran = run-on c.loop-rest.state c.after_run-state.result c.in-Data.more c.in-Data.of c.loop-rest.rest.now c.bytes_after-rest.result.now c.run_length.result
    c.in-Data.is c.run_length.ensures.value c.after_run-state.ensures c.bytes_after-rest.ensures in
    let fewer : length c.bytes_after-rest.result.now + c.run_length.result ≡ length c.loop-rest.rest.now =
    omega (arith, ap length c.bytes_after-rest.ensures, length-drop c.run_length.result c.loop-rest.rest.now, c.run_length.ensures.within) in
    record {
      within = omega (arith, fewer, c.loop-rest.invariant.within);
      moved = ran.0 ∙ c.loop-rest.invariant.moved;
      counted = omega (arith, fewer, ran.1, c.loop-rest.invariant.counted);
    }
