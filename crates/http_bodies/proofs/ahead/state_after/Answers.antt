use Rattle.std.proofs.Common.{◌≡◌, true, sym, subst, ◌∙◌}
use Rattle.http_bodies.specs.States.{is_settled}
use Rattle.http_bodies.proofs.Looking.{LeadsTo, none-left, settled-leads, run-leads, byte-leads}
use Rattle.http_bodies.proofs.ahead.state_after.Goals as goal

pub returns-then-is_settled : goal.returns-then-is_settled
returns-then-is_settled c =
    let settled : is_settled c.loop-rest.state ≡ true = sym c.is_settled.ensures ∙ c.if-is_settled.true in
    c.loop-rest.invariant c.loop-rest.state (settled-leads c.loop-rest.state c.loop-rest.left c.loop-rest.rest.now settled)

pub loop-rest-preserved-in-Data : goal.loop-rest-preserved-in-Data
loop-rest-preserved-in-Data c = λ after h. c.loop-rest.invariant after
    (subst (λ state. LeadsTo state c.loop-rest.left c.loop-rest.rest.now after) (sym c.in-Data.is)
    (run-leads c.in-Data.more c.loop-rest.left c.run_length-count.result c.in-Data.of c.loop-rest.rest.now after c.run_length-count.ensures.value c.run_length-count.ensures.within
    (rw (← c.after_run-state.ensures, ← c.saturating_sub-left.ensures, ← c.bytes_after-rest.ensures) h)))

pub loop-rest-preserved : goal.loop-rest-preserved
loop-rest-preserved c = λ after h. c.loop-rest.invariant after
    (byte-leads c.loop-rest.state c.loop-rest.left c.loop-rest.rest.now after c.in_default-state.not-Data c.in-len1-up.len_at_least (rw (← c.after-state.ensures) h))

pub returns : goal.returns
returns c = c.loop-rest.invariant c.loop-rest.state (none-left c.loop-rest.state c.loop-rest.left c.loop-rest.rest.now c.in_default.len_below)
