use Rattle.std.proofs.Common.{refl}
use Rattle.server_tests.proofs.MuteExchange.{begun, told_stop, byte-comes, stop-ends}
use Rattle.server_tests.proofs.mute.a_mute_strand_hangs_up_at_stop_and_is_gone.Goals as goal

pub given-requires : goal.given-requires
given-requires g c = (begun, c.in_ok-strand.ensures.0, refl, rw c.from_static.ensures byte-comes)

pub given-requires-2 : goal.given-requires-2
given-requires-2 g c = (told_stop, (c.in_ok-acts.ensures.turn begun c.in_ok-strand.ensures.0 refl (rw c.from_static.ensures byte-comes)).0, refl, stop-ends)
