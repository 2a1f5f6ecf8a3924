use Rattle.std.proofs.Common.{length, refl, sym, ap, ◌∙◌, arith}
use Rattle.resty_world.specs.declared.entry.Entry.TheVariants as entry
use Rattle.schedule.specs.Peers.{room_in, put_fails_in}
use Rattle.schedule.proofs.Standing.{answers, same_faults, same_losses, must_work, offered-more}
use Rattle.schedule.specs.Steps.{Writing}
use Rattle.schedule.proofs.replay.Replay.put_off.Goals as goal

pub returns-clause-later : goal.returns-clause-later
returns-clause-later c =
    let world = c.args.self.now in
    let here = c.requires.here in
    record {
      schedule = refl;
      passed = omega arith;
      stands = λ s. answers world _ (entry.Later c.args.id) (length c.args.bytes.now) s refl refl (rw (c.push_reserved-2.ensures.entries) refl) (offered-more world.offered.items _ _ c.push_reserved.ensures.items)
          (must_work (Writing c.args.id) s.steps c.args.peer.put_fails (sym (ap put_fails_in here) ∙ s.put_fails c.args.id) c.requires.works)
          (sym (s.rooms c.args.id) ∙ ap room_in here ∙ c.requires.full)
          (same_faults world s) (same_losses world s) (λ x. refl) (λ x. omega arith) (omega arith) (omega arith) refl refl;
    }
