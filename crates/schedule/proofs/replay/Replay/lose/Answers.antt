use Rattle.std.proofs.Common.{◌-◌, refl, sym, ap, ◌∙◌, arith}
use Rattle.resty_world.specs.declared.entry.Entry.TheVariants as entry
use Rattle.schedule.specs.Peers.{peer_at, room_in, put_fails_in}
use Rattle.schedule.proofs.KnowingLemmas.{changed, unseen}
use Rattle.schedule.proofs.Standing.{answers, same_faults, must_fail, one-less}
use Rattle.schedule.specs.Steps.{Writing}
use Rattle.schedule.proofs.replay.Replay.lose.Goals as goal

pub returns-clause-later : goal.returns-clause-later
returns-clause-later c =
    let world = c.args.self.now in
    let here = c.requires.here in
    record {
      schedule = refl;
      passed = omega arith;
      stands = λ s. answers world _ (entry.Lost c.args.id) 0 s refl refl (rw c.push_reserved.ensures.entries refl) refl
          (must_fail (Writing c.args.id) s.steps c.args.peer.put_fails (sym (ap put_fails_in here) ∙ s.put_fails c.args.id) c.requires.fails) tt
          (same_faults world s) c.one_more-self.ensures.counted
          (unseen room_in world.peers c.set.new.self c.args.id _ c.set.ensures.set (ap room_in here))
          (λ x. changed put_fails_in world.peers c.set.new.self c.args.id _ c.set.ensures.set x
          ∙ one-less (λ y. put_fails_in (peer_at world.peers y)) c.args.id _ (ap (λ n. n - 1) (sym (ap put_fails_in here))) x)
          (omega arith) (omega arith) refl refl;
    }
