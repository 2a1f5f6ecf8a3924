use Rattle.std.proofs.Common.{◌≡◌, true, false, ◌∷◌, refl, arith, rules}
use Rattle.resty_world.specs.declared.entry.Entry.TheVariants as entry
use Rattle.schedule.proofs.Standing.{answers, same_faults, same_losses, must_fail, must_work, are_bytes}
use Rattle.schedule.specs.Steps.{Logging}
use Rattle.schedule.proofs.replay.world.ReplayWorld.write_log.Goals as goal

pub returns-then-self-gt0-clause-logs : goal.returns-then-self-gt0-clause-logs
returns-then-self-gt0-clause-logs c = record {
  history = search rules;
  offered = refl;
  ids = search rules;
  course = search rules;
  faults = c.one_more-self.ensures.rose;
  losses = refl;
}

pub returns-then-self-gt0-clause-same : goal.returns-then-self-gt0-clause-same
returns-then-self-gt0-clause-same c =
    let world = c.args.self.now in
    let entries : c.push_reserved.new.self.entries ≡ entry.Log c.args.who c.args.line.now false ∷ world.history.entries = search rules in
    record {
      schedule = refl;
      passed = omega arith;
      stands = λ s. answers world _ (entry.Log c.args.who c.args.line.now false) 0 s refl refl entries refl
          (must_fail Logging s.steps world.log_fails s.log_fails (omega arith)) (are_bytes c.args.line.now (λ i. omega (arith, c.type_inv.line i)))
          c.one_more-self.ensures.counted (same_losses world s) (λ x. refl) (λ x. omega arith) (omega arith) (omega arith) refl refl;
    }

pub returns-clause-same : goal.returns-clause-same
returns-clause-same c =
    let world = c.args.self.now in
    let entries : c.push_reserved-2.new.self.entries ≡ entry.Log c.args.who c.args.line.now true ∷ world.history.entries = search rules in
    record {
      schedule = refl;
      passed = omega arith;
      stands = λ s. answers world _ (entry.Log c.args.who c.args.line.now true) 0 s refl refl entries refl
          (must_work Logging s.steps world.log_fails s.log_fails (omega arith)) (are_bytes c.args.line.now (λ i. omega (arith, c.type_inv.line i)))
          (same_faults world s) (same_losses world s) (λ x. refl) (λ x. omega arith) (omega arith) (omega arith) refl refl;
    }
