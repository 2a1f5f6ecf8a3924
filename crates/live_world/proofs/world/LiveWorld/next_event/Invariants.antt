use Rattle.std.proofs.Common.{◌≡◌}
use Rattle.live_world.specs.Accounts.{book_of}
use Rattle.live_world.proofs.world.LiveWorld.next_event.Given as goal

abbrev pub invariant-loop : goal.invariant-loop
invariant-loop g l = book_of l.self.accounts ≡ book_of l.fn.self.accounts
