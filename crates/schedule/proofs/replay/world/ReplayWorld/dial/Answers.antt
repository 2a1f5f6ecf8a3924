use Rattle.std.proofs.Common.{◌≡◌, ◌+◌, ◌^◌, ◌<◌, ◌≤◌, ◌∷◌, length, Some, None, refl, sym, ap, ◌∙◌, arith, rules}
use Rattle.std.specs.Bool.{if◌then◌else◌}
use Rattle.resty_base.specs.declared.names.Id.{Id}
use Rattle.resty_base.specs.declared.names.Id.TheVariants as id
use Rattle.resty_world.specs.declared.entry.Entry.TheVariants as entry
use Rattle.resty_world.specs.Ids.{same_id}
use Rattle.schedule.specs.Peers.{peer_at, room_in, put_fails_in, fresh}
use Rattle.schedule.specs.OpenIds.{open_ids}
use Rattle.schedule.proofs.KnowingLemmas.{next-socket, knows-new, unseen}
use Rattle.schedule.proofs.Standing.{answers, same_faults, same_losses, must_fail, must_work}
use Rattle.schedule.specs.Counts.{dials_in}
use Rattle.schedule.specs.Steps.{Dialling}
use Rattle.schedule.proofs.replay.world.ReplayWorld.dial.Goals as goal

pub returns-then-self-gt0-clause-same : goal.returns-then-self-gt0-clause-same
returns-then-self-gt0-clause-same c =
    let world = c.args.self.now in
    let host = c.args.host in
    record {
      schedule = refl;
      passed = omega arith;
      stands = λ s. answers world _ (entry.Dial c.args.who c.args.host c.args.port None) 0 s refl refl (rw (c.push_reserved.ensures.entries, c.make_way.ensures.entries) refl) refl
          (must_fail Dialling s.steps world.dial_fails s.dial_fails (omega arith)) tt
          (same_faults world s) c.one_more-self.ensures.counted (λ x. refl) (λ x. omega arith) (omega arith) (omega arith) refl refl;
    }

pub invariant_of-self-2 : goal.invariant_of-self-2
invariant_of-self-2 c =
    let world = c.args.self.now in
    let roll = world.peers in
    let history = world.history.entries in
    let e = entry.Dial c.args.who c.args.host c.args.port (Some c.in-Some.number) in
    let entries : c.push_reserved-2.new.self.entries ≡ e ∷ history = rw (c.push_reserved-2.ensures.entries, c.make_way.ensures.entries) refl in
    let number : c.in-Some.number ≡ length roll.sockets + 1 = search rules in
    let way : c.set_aside-taken.result + 2 ≤ c.make_way.new.history.room = search rules in
    let bound : c.set_aside-taken.result + 2 < 2 ^ 64 = search rules in
    let connections : length c.add_socket.new.self.connections ≡ length roll.connections = search rules in
    let sockets : length c.add_socket.new.self.sockets ≡ length roll.sockets + 1 = search rules in
    record {
      passed_lines = world.passed_lines;
      few = world.few;
      numbered = connections ∙ world.numbered;
      known = rw entries (knows-new roll c.add_socket.new.self history e (id.Sock (length roll.sockets + 1)) world.known (next-socket roll)
          (search rules) (omega (arith, world.known.arrived, connections)) (omega (arith, world.known.dialled, sockets))
          (ap (λ n. id.Sock n ∷ open_ids history) number) (λ x. refl) (λ x. refl));
      opened = rw entries (omega (arith, world.opened));
      strands = world.strands;
      room = omega arith;
      counted = omega arith;
    }

pub returns-clause-same : goal.returns-clause-same
returns-clause-same c =
    let world = c.args.self.now in
    let roll = world.peers in
    let number : c.in-Some.number ≡ length roll.sockets + 1 = search rules in
    let at : (x : Id) → peer_at c.add_socket.new.self x ≡ (if same_id x (id.Sock (length roll.sockets + 1)) then Some fresh else peer_at roll x) = search rules in
    record {
      schedule = refl;
      passed = omega arith;
      stands = λ s. answers world _ (entry.Dial c.args.who c.args.host c.args.port (Some c.in-Some.number)) 0 s refl refl (rw (c.push_reserved-2.ensures.entries, c.make_way.ensures.entries) refl) refl
          (must_work Dialling s.steps world.dial_fails s.dial_fails (omega arith))
          (number ∙ ap (λ n. n + 1) world.known.dialled ∙ ap (λ h. dials_in h + 1) (sym s.history))
          (same_faults world s) (same_losses world s)
          (unseen room_in roll c.add_socket.new.self (id.Sock (length roll.sockets + 1)) (Some fresh) at (ap room_in (next-socket roll)))
          (λ x. unseen put_fails_in roll c.add_socket.new.self (id.Sock (length roll.sockets + 1)) (Some fresh) at (ap put_fails_in (next-socket roll)) x ∙ omega arith)
          (omega arith) (omega arith) refl refl;
    }
