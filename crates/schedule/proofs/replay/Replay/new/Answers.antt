use Rattle.std.proofs.Common.{[], refl, sym, ap, reverse, rules}
use Rattle.schedule.specs.Peers.{room_in, put_fails_in}
use Rattle.schedule.proofs.replay.Replay.new.Goals as goal

pub returns-clause-stands : goal.returns-clause-stands
returns-clause-stands c = record {
  steps = [];
  right = tt;
  passed = refl;
  history = search rules;
  offered = ap reverse (sym c.new-2.ensures.items);
  faults = refl;
  losses = search rules;
  rooms = λ x. ap room_in (c.new-4.ensures.nobody x);
  put_fails = λ x. ap put_fails_in (c.new-4.ensures.nobody x);
  dial_fails = refl;
  log_fails = refl;
  listen_fails = search rules;
  port = refl;
  kept = refl;
}
