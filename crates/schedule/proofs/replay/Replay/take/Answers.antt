use Rattle.std.proofs.Common.{◌≡◌, ◌<◌, length, take, refl, sym, ap, ◌∙◌, arith, rules}
use Rattle.std.proofs.lemmas.Grind.{common_steps}
use Rattle.resty_world.specs.declared.entry.Entry.TheVariants as entry
use Rattle.schedule.specs.Peers.{peer_at, room_in, put_fails_in}
use Rattle.std.proofs.lemmas.List.Elements.{All-take}
use Rattle.schedule.proofs.KnowingLemmas.{changed, unseen}
use Rattle.schedule.proofs.Standing.{answers, same_faults, same_losses, must_work, changed_by, offered-more, are_bytes}
use Rattle.schedule.specs.Steps.{Writing, less}
use Rattle.schedule.proofs.replay.Replay.take.Goals as goal

pub returns-clause-later : goal.returns-clause-later
returns-clause-later c =
    let world = c.args.self.now in
    let here = c.requires.here in
    let peer = c.args.peer in
    let count = c.takes-count.result in
    let long : length c.in-Ok.copy ≡ count = search rules in
    let took = c.having_taken.ensures in
    let is : c.in-Ok.copy ≡ take count c.args.bytes.now = search rules in
    record {
      schedule = refl;
      passed = omega arith;
      stands = λ s. answers world _ (entry.Put c.args.id c.in-Ok.copy) (length c.args.bytes.now) s refl refl (rw (c.push_reserved-2.ensures.entries) refl) (offered-more world.offered.items _ _ c.push_reserved.ensures.items)
          (must_work (Writing c.args.id) s.steps peer.put_fails (sym (ap put_fails_in here) ∙ s.put_fails c.args.id) c.requires.works)
          (rw (← s.rooms c.args.id, here, long) c.takes-count.ensures.least, rw is (All-take (λ b. b < 256) count c.args.bytes.now (are_bytes c.args.bytes.now (λ i. omega (arith, c.type_inv.bytes i)))))
          (same_faults world s) (same_losses world s)
          (λ x. changed room_in world.peers c.set.new.self c.args.id _ c.set.ensures.set x
          ∙ changed_by (λ y. room_in (peer_at world.peers y)) (less (length c.in-Ok.copy)) c.args.id _ (rw (here, long, took) refl) x)
          (λ x. unseen put_fails_in world.peers c.set.new.self c.args.id _ c.set.ensures.set (rw (here, took) refl) x ∙ omega arith)
          (omega arith) (omega arith) refl refl;
    }

pub takes-count-requires-clause-some : goal.takes-count-requires-clause-some
takes-count-requires-clause-some c = grind (arith, common_steps)

pub takes-count-requires-clause-free : goal.takes-count-requires-clause-free
takes-count-requires-clause-free c = grind (arith, common_steps)

pub returns-in_default-clause-puts : goal.returns-in_default-clause-puts
returns-in_default-clause-puts c = grind (arith, common_steps)

pub returns-in_default-clause-later : goal.returns-in_default-clause-later
returns-in_default-clause-later c = grind (arith, common_steps)

pub returns-clause-puts : goal.returns-clause-puts
returns-clause-puts c = grind (arith, common_steps)
