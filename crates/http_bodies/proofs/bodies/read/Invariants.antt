use Rattle.std.proofs.Common.{◌≡◌, ◌+◌, ◌≤◌, length, take}
use Rattle.http_bodies.specs.Bodies.{body_at, after_bytes, used}
use Rattle.http_bodies.proofs.bodies.read.Given as goal

abbrev pub invariant-loop-rest : goal.invariant-loop-rest
invariant-loop-rest l = record {
  within : length l.rest ≤ length l.piece;
  moved : after_bytes (body_at l.max l.state l.content.items) l.rest ≡ after_bytes (body_at l.max l.fn.state l.initial.content.items) l.piece;
  counted : length l.piece + used (body_at l.max l.state l.content.items) l.rest ≡ used (body_at l.max l.fn.state l.initial.content.items) l.piece + length l.rest;
  kept : take (length l.initial.content.items) l.content.items ≡ l.initial.content.items;
}

abbrev pub decreases-loop-rest : goal.decreases-loop-rest
decreases-loop-rest l = length l.rest
