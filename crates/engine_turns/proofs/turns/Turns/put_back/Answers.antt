use Rattle.std.proofs.Common.{[], refl, ◌∙◌}
use Rattle.engine_base.proofs.Acts.{near-falls}
use Rattle.engine_turns.proofs.Seats.{busy-done, falls-seats}
use Rattle.engine_turns.proofs.turns.Turns.put_back.Goals as goal

pub say_wanted-requires : goal.say_wanted-requires
say_wanted-requires g c = λ on. c.requires.1.2.near.around.connection ∙ on

pub give_up-requires : goal.give_up-requires
give_up-requires g c =
    let y = c.requires in
    (y.0, (y.1.1, rw (c.say_wanted.ensures.book, c.say_wanted.ensures.seat) (falls-seats _ _ c.args.connection _ _ _ _ y.1.1 (near-falls _ _ c.args.connection [] y.1.0 _ _ _ y.1.1 y.1.2.near) (c.if-not-put_back.ensures.refused refl) refl refl refl refl refl refl refl)))

pub returns-then-not-put_back-clause-standing : goal.returns-then-not-put_back-clause-standing
returns-then-not-put_back-clause-standing g c = λ site y.
    c.give_up.ensures.standing site (y.1, rw (c.say_wanted.ensures.book, c.say_wanted.ensures.seat) (falls-seats _ _ c.args.connection _ _ _ _ y.1 (near-falls _ _ c.args.connection [] y.0 _ _ _ y.1 y.2.near) (c.if-not-put_back.ensures.refused refl) refl refl refl refl refl refl refl))

pub returns-else-not-put_back-clause-standing : goal.returns-else-not-put_back-clause-standing
returns-else-not-put_back-clause-standing g c = λ site y.
    (y.1, busy-done _ _ c.args.connection c.say_wanted.new.seat y.0 _ _ _ y.1 (rw (c.say_wanted.ensures.book, c.say_wanted.ensures.seat) y.2) y.3 (c.if-not-put_back.ensures.done refl) refl refl refl refl refl refl refl)
