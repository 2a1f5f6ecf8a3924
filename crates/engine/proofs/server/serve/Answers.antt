use Rattle.std.proofs.Common.{◌≡◌, ◌<◌, true, false, [], ◌∷◌, if◌then◌else◌, refl, sym, ap, subst, ◌∙◌, arith, rules}
use Rattle.resty_world.specs.declared.entry.Entry.TheVariants as entry
use Rattle.resty_world.specs.declared.event.Event.{Event}
use Rattle.resty_world.specs.declared.event.Event.TheVariants as event
use Rattle.resty_world.specs.Book.{told}
use Rattle.resty_world.specs.Given.{Gave, is_event, is_fault}
use Rattle.engine.specs.Stepping.{is_stop}
use Rattle.engine.proofs.Serving.{engine-right, right-still, event-or, few, stopped, stop-only, spent, spent-few, written, unlogged, still-few, still-written, world-failed, fresh-spent, fresh-written, fault-free}
use Rattle.engine.proofs.server.serve.Goals as goal

pub loop-given-init : goal.loop-given-init
loop-given-init g c = record {
  rests = c.new-engine.ensures c.args.site (g.W.World.book c.args.world.now) c.requires;
  same = g.met.W.World.stays _;
  spent = fresh-spent _ c.requires.history;
  logs = fresh-written _ c.requires.history;
  faults = refl;
  port = refl;
  within = omega arith;
  bound = refl;
}

pub returns-in-Fault-clause-right : goal.returns-in-Fault-clause-right
returns-in-Fault-clause-right g c = right-still _ c.loop-given.engine (g.W.World.book c.loop-given.world) _ event.Fault (g.met.S.StrandContract.keeps c.args.site) c.loop-given.invariant.rests c.in-Fault.ensures.gave refl

pub returns-in-Fault-clause-few : goal.returns-in-Fault-clause-few
returns-in-Fault-clause-few g c =
    let i = c.loop-given.invariant in
    still-few (g.W.World.book c.loop-given.world) (g.W.World.book c.next_event.new.self) event.Fault c.in-Fault.ensures.gave refl c.loop-given.given c.args.events i.within i.spent

pub returns-in-Fault-clause-ended : goal.returns-in-Fault-clause-ended
returns-in-Fault-clause-ended g c =
    let i = c.loop-given.invariant in
    let gave = c.in-Fault.ensures.gave in
    (rw i.faults at gave.faults, world-failed (g.W.World.book c.loop-given.world) (g.W.World.book c.next_event.new.self) event.Fault gave refl gave.caused c.loop-given.given i.spent i.logs)

pub returns-in-BadLine-clause-right : goal.returns-in-BadLine-clause-right
returns-in-BadLine-clause-right g c = right-still _ c.loop-given.engine (g.W.World.book c.loop-given.world) _ (event.BadLine c.in-BadLine.line) (g.met.S.StrandContract.keeps c.args.site) c.loop-given.invariant.rests c.in-BadLine.ensures.gave refl

pub returns-in-BadLine-clause-few : goal.returns-in-BadLine-clause-few
returns-in-BadLine-clause-few g c =
    let i = c.loop-given.invariant in
    still-few (g.W.World.book c.loop-given.world) (g.W.World.book c.next_event.new.self) (event.BadLine c.in-BadLine.line) c.in-BadLine.ensures.gave refl c.loop-given.given c.args.events i.within i.spent

pub returns-in-BadLine-clause-ended : goal.returns-in-BadLine-clause-ended
returns-in-BadLine-clause-ended g c =
    let i = c.loop-given.invariant in
    let gave = c.in-BadLine.ensures.gave in
    (gave.caused, record { faults = gave.faults ∙ i.faults; logs = still-written (g.W.World.book c.loop-given.world) (g.W.World.book c.next_event.new.self) (event.BadLine c.in-BadLine.line) gave refl i.logs })

pub returns-in-Memory-clause-right : goal.returns-in-Memory-clause-right
returns-in-Memory-clause-right g c = right-still _ c.loop-given.engine (g.W.World.book c.loop-given.world) _ event.Memory (g.met.S.StrandContract.keeps c.args.site) c.loop-given.invariant.rests c.in-Memory.ensures.gave refl

pub returns-in-Memory-clause-few : goal.returns-in-Memory-clause-few
returns-in-Memory-clause-few g c =
    let i = c.loop-given.invariant in
    still-few (g.W.World.book c.loop-given.world) (g.W.World.book c.next_event.new.self) event.Memory c.in-Memory.ensures.gave refl c.loop-given.given c.args.events i.within i.spent

pub returns-in-Memory-clause-ended : goal.returns-in-Memory-clause-ended
returns-in-Memory-clause-ended g c =
    let i = c.loop-given.invariant in
    let gave = c.in-Memory.ensures.gave in
    record { faults = gave.faults ∙ i.faults; logs = still-written (g.W.World.book c.loop-given.world) (g.W.World.book c.next_event.new.self) event.Memory gave refl i.logs }

pub returns-in-LogFailed : goal.returns-in-LogFailed
returns-in-LogFailed g c =
    let i = c.loop-given.invariant in
    let s = c.in-LogFailed.ensures in
    let gave : Gave (g.W.World.book c.loop-given.world) (g.W.World.book c.next_event.new.self) c.in_default.event = subst (λ (e : Event). Gave (g.W.World.book c.loop-given.world) (g.W.World.book c.next_event.new.self) e) c.in_default.event-is c.next_event.ensures.gave in
    let kind = subst (λ (e : Event). (is_event e ≡ true) × (is_fault e ≡ false)) c.in_default.event-is (event-or c.next_event.result c.in_default.not-Fault c.in_default.not-BadLine c.in_default.not-Memory) in
    let faults = fault-free c.in_default.event _ _ kind.1 gave.faults ∙ i.faults in
    let gave-history = gave.history ∙ ap (λ v. told (if v then entry.Given c.in_default.event ∷ [] else []) (g.W.World.book c.loop-given.world).history) kind.0 in
    let less : c.loop-given.given < c.args.events = let more = c.loop-given-test.true in let bound = i.bound in omega (arith, more, bound) in
    record {
      right = engine-right _ c.step.new.self (g.W.World.book c.step.new.world) (g.met.S.StrandContract.keeps c.args.site) s.rests;
      few = few c.in_default.event _ _ _ gave-history s.goes.event c.loop-given.given c.args.events less i.spent;
      ended = (rw faults at s.stepped.0, unlogged c.in_default.event _ _ _ gave-history s.goes.event (g.W.World.book c.step.new.world) i.logs s.stepped.1);
      port = s.goes.port ∙ (gave.port ∙ i.port);
      same = g.met.W.World.joins _ _ _ (g.met.W.World.joins _ _ _ i.same c.next_event.ensures.same) s.goes.later;
    }

pub returns-in-Stopped : goal.returns-in-Stopped
returns-in-Stopped g c =
    let i = c.loop-given.invariant in
    let s = c.in-Stopped.ensures in
    let gave : Gave (g.W.World.book c.loop-given.world) (g.W.World.book c.next_event.new.self) c.in_default.event = subst (λ (e : Event). Gave (g.W.World.book c.loop-given.world) (g.W.World.book c.next_event.new.self) e) c.in_default.event-is c.next_event.ensures.gave in
    let kind = subst (λ (e : Event). (is_event e ≡ true) × (is_fault e ≡ false)) c.in_default.event-is (event-or c.next_event.result c.in_default.not-Fault c.in_default.not-BadLine c.in_default.not-Memory) in
    let faults = fault-free c.in_default.event _ _ kind.1 gave.faults ∙ i.faults in
    let gave-history = gave.history ∙ ap (λ v. told (if v then entry.Given c.in_default.event ∷ [] else []) (g.W.World.book c.loop-given.world).history) kind.0 in
    let less : c.loop-given.given < c.args.events = let more = c.loop-given-test.true in let bound = i.bound in omega (arith, more, bound) in
    let stop = stop-only c.in_default.event (ap is_stop (sym c.in_default.event-is) ∙ s.stepped.0) in
    record {
      right = engine-right _ c.step.new.self (g.W.World.book c.step.new.world) (g.met.S.StrandContract.keeps c.args.site) s.rests;
      few = few c.in_default.event _ _ _ gave-history s.goes.event c.loop-given.given c.args.events less i.spent;
      ended = (
        stopped c.in_default.event _ _ _ gave-history s.goes.event stop c.loop-given.given i.spent,
        record { faults = s.stepped.1.0 ∙ faults; logs = written c.in_default.event _ _ _ gave-history s.goes.event s.stepped.1.1 i.logs },
      );
      port = s.goes.port ∙ (gave.port ∙ i.port);
      same = g.met.W.World.joins _ _ _ (g.met.W.World.joins _ _ _ i.same c.next_event.ensures.same) s.goes.later;
    }

pub loop-given-preserved : goal.loop-given-preserved
loop-given-preserved g c =
    let i = c.loop-given.invariant in
    let s = c.in-Went.ensures in
    let gave : Gave (g.W.World.book c.loop-given.world) (g.W.World.book c.next_event.new.self) c.in_default.event = subst (λ (e : Event). Gave (g.W.World.book c.loop-given.world) (g.W.World.book c.next_event.new.self) e) c.in_default.event-is c.next_event.ensures.gave in
    let kind = subst (λ (e : Event). (is_event e ≡ true) × (is_fault e ≡ false)) c.in_default.event-is (event-or c.next_event.result c.in_default.not-Fault c.in_default.not-BadLine c.in_default.not-Memory) in
    let faults = fault-free c.in_default.event _ _ kind.1 gave.faults ∙ i.faults in
    let gave-history = gave.history ∙ ap (λ v. told (if v then entry.Given c.in_default.event ∷ [] else []) (g.W.World.book c.loop-given.world).history) kind.0 in
    record {
      rests = s.rests;
      same = g.met.W.World.joins _ _ _ (g.met.W.World.joins _ _ _ i.same c.next_event.ensures.same) s.goes.later;
      spent = spent c.in_default.event _ _ _ gave-history s.goes.event (ap is_stop (sym c.in_default.event-is) ∙ s.stepped.0) c.loop-given.given i.spent;
      logs = written c.in_default.event _ _ _ gave-history s.goes.event s.stepped.1.1 i.logs;
      faults = s.stepped.1.0 ∙ faults;
      port = s.goes.port ∙ (gave.port ∙ i.port);
      within = let more = c.loop-given-test.true in omega (arith, more);
      bound = i.bound;
    }

pub returns-clause-right : goal.returns-clause-right
returns-clause-right g c = engine-right _ c.loop-given.engine (g.W.World.book c.loop-given.world) (g.met.S.StrandContract.keeps c.args.site) c.loop-given.invariant.rests

pub returns-clause-few : goal.returns-clause-few
returns-clause-few g c =
    let i = c.loop-given.invariant in
    spent-few c.loop-given.given c.args.events i.within (g.W.World.book c.loop-given.world).history i.spent

pub returns-clause-ended : goal.returns-clause-ended
returns-clause-ended g c =
    let i = c.loop-given.invariant in
    let all : c.loop-given.given ≡ c.args.events =
    let no_more = c.loop-given-test.false in let within = i.within in let bound = i.bound in omega (arith, no_more, within, bound) in
    (i.bound, rw all at i.spent, record { faults = i.faults; logs = i.logs })

pub overflow_add-given : goal.overflow_add-given
overflow_add-given g c = search rules

pub loop-given-smaller : goal.loop-given-smaller
loop-given-smaller g c = search rules
