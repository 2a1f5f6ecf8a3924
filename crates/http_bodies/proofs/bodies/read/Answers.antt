use Rattle.std.proofs.Common.{◌≡◌, ◌+◌, ◌++◌, true, length, take, ap, sym, ◌∙◌, length-drop, arith, rules}
use Rattle.http_bodies.specs.States.{is_settled}
use Rattle.http_bodies.proofs.Pieces.{settled-stays, settled-uses}
use Rattle.http_bodies.proofs.Running.{run-on, kept-on}
use Rattle.http_bodies.proofs.bodies.read.Goals as goal

pub returns-then-is_settled-clause-moved : goal.returns-then-is_settled-clause-moved
returns-then-is_settled-clause-moved c =
    let settled : is_settled c.loop-rest.state ≡ true = sym c.is_settled.ensures ∙ c.if-is_settled.true in
    sym (settled-stays c.args.max c.loop-rest.state c.loop-rest.content.items c.loop-rest.rest.now settled) ∙ c.loop-rest.invariant.moved

pub returns-then-is_settled-clause-counted : goal.returns-then-is_settled-clause-counted
returns-then-is_settled-clause-counted c =
    let settled : is_settled c.loop-rest.state ≡ true = sym c.is_settled.ensures ∙ c.if-is_settled.true in
    omega (arith, settled-uses c.args.max c.loop-rest.state c.loop-rest.content.items c.loop-rest.rest.now settled, c.loop-rest.invariant.counted)

pub loop-rest-preserved-in-Data : goal.loop-rest-preserved-in-Data
loop-rest-preserved-in-Data c =
    let grown : c.extend_from_slice.new.self.items ≡ c.loop-rest.content.items ++ take c.run_length-count.result c.loop-rest.rest.now = search rules in
    let ran = run-on c.args.max c.loop-rest.state c.after_run-state.result c.in-Data.more c.in-Data.of c.loop-rest.content.items c.extend_from_slice.new.self.items c.loop-rest.rest.now c.bytes_after-rest.result.now c.run_length-count.result
    c.in-Data.is c.run_length-count.ensures.value c.after_run-state.ensures grown c.bytes_after-rest.ensures in
    let fewer : length c.bytes_after-rest.result.now + c.run_length-count.result ≡ length c.loop-rest.rest.now =
    omega (arith, ap length c.bytes_after-rest.ensures, length-drop c.run_length-count.result c.loop-rest.rest.now, c.run_length-count.ensures.within) in
    record {
      within = omega (arith, fewer, c.loop-rest.invariant.within);
      moved = ran.0 ∙ c.loop-rest.invariant.moved;
      counted = omega (arith, fewer, ran.1, c.loop-rest.invariant.counted);
      kept = kept-on c.args.content.now.items c.loop-rest.content.items (take c.run_length-count.result c.loop-rest.rest.now) c.extend_from_slice.new.self.items c.loop-rest.invariant.kept grown;
    }
