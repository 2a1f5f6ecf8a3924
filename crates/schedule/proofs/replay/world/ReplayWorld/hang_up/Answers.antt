use Rattle.std.proofs.Common.{◌≡◌, Some, refl, sym, ap, ◌∙◌, arith}
use Rattle.std.specs.Bool.{if◌then◌else◌}
use Rattle.resty_world.specs.declared.entry.Entry.TheVariants as entry
use Rattle.resty_world.specs.Ids.{same_id}
use Rattle.resty_world.specs.IdLaws.{same_id-eq}
use Rattle.schedule.specs.Peers.{IsChanged, closed_peer, peer_at, room_in, put_fails_in}
use Rattle.schedule.specs.OpenIds.{open_ids}
use Rattle.schedule.proofs.KnowingLemmas.{knows-changed, ended-elsewhere, unseen}
use Rattle.schedule.proofs.OpenIdsLemmas.{has-without, length-without, distinct-without}
use Rattle.schedule.proofs.Standing.{answers, same_faults, same_losses}
use Rattle.schedule.proofs.replay.world.ReplayWorld.hang_up.Goals as goal

pub invariant_of-self : goal.invariant_of-self
invariant_of-self c =
    let world = c.args.self.now in
    let roll = world.peers in
    let history = world.history.entries in
    let peer = closed_peer c.args.id c.in-Some.peer in
    let at : IsChanged c.args.id (Some peer) roll c.set.new.self = λ x. c.set.ensures.set x ∙ ap (λ p. if same_id x c.args.id then Some p else peer_at roll x) c.hung_up.ensures in
    let fewer = length-without same_id same_id-eq c.args.id (open_ids history) world.known.distinct c.requires.is_open in
    record {
      passed_lines = world.passed_lines;
      few = world.few;
      numbered = c.set.ensures.connections ∙ world.numbered;
      known = rw c.push_reserved.ensures.entries (knows-changed roll c.set.new.self history (entry.Close c.args.id) c.args.id peer world.known
          at c.set.ensures.connections c.set.ensures.sockets (omega arith) (omega arith)
          (λ x. has-without same_id same_id-eq x c.args.id (open_ids history)) (λ x. refl)
          (ended-elsewhere roll c.set.new.self history c.args.id (Some peer) world.known at refl)
          (distinct-without same_id same_id-eq c.args.id (open_ids history) world.known.distinct));
      opened = rw c.push_reserved.ensures.entries (omega (arith, world.opened, fewer));
      strands = world.strands;
      room = omega arith;
      counted = omega arith;
    }

pub returns-clause-same : goal.returns-clause-same
returns-clause-same c =
    let world = c.args.self.now in
    let here : peer_at world.peers c.args.id ≡ Some c.in-Some.peer = sym c.get.ensures ∙ c.in-Some.is in
    let peer = closed_peer c.args.id c.in-Some.peer in
    let at : IsChanged c.args.id (Some peer) world.peers c.set.new.self =
    λ x. c.set.ensures.set x ∙ ap (λ p. if same_id x c.args.id then Some p else peer_at world.peers x) c.hung_up.ensures in
    record {
      schedule = refl;
      passed = omega arith;
      stands = λ s. answers world _ (entry.Close c.args.id) 0 s refl refl (rw c.push_reserved.ensures.entries refl) refl tt tt (same_faults world s) (same_losses world s)
          (unseen room_in world.peers c.set.new.self c.args.id (Some peer) at (ap room_in here))
          (λ x. unseen put_fails_in world.peers c.set.new.self c.args.id (Some peer) at (ap put_fails_in here) x ∙ omega arith)
          (omega arith) (omega arith) refl refl;
    }
