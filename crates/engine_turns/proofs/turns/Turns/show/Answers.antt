use Rattle.std.proofs.Common.{sym, None, ◌∷◌}
use Rattle.resty_base.specs.declared.names.StrandId.TheVariants as strand
use Rattle.executions.specs.Executions.{Of}
use Rattle.executions.specs.Executions.{projection}
use Rattle.strand_contract.specs.Calls.{action_of}
use Rattle.engine_base.proofs.Acts.{near-falls}
use Rattle.engine_base.proofs.Turns.{turn-busy}
use Rattle.engine_turns.proofs.turns.Turns.show.Goals as goal

pub carry-requires : goal.carry-requires
carry-requires g c =
    let ms = c.requires.0 in
    let t = c.requires.1 in
    let turn = c.in-Ok.ensures.turn (projection (strand.Conn c.args.connection) ms) t.stands (sym t.moment) t.execution in (
      c.args.site.now,
      (
        Of (strand.Conn c.args.connection) (action_of (g.S.StrandContract.meaning c.args.site.now).behavior (projection (strand.Conn c.args.connection) ms) c.args.seen) None ∷ ms,
        turn-busy _ _ c.args.connection ms c.args.seen c.args.seat.strand _ _ c.args.going c.args.seat.is_open _ _ t turn.0 turn.1,
      ),
    )

pub give_up-requires : goal.give_up-requires
give_up-requires g c =
    let ms = c.requires.0 in
    let t = c.requires.1 in (
      c.args.site.now,
      (
        Of (strand.Conn c.args.connection) (action_of (g.S.StrandContract.meaning c.args.site.now).behavior (projection (strand.Conn c.args.connection) ms) c.args.seen) None ∷ ms,
        near-falls _ _ c.args.connection _ c.args.going _ _ _ _ t.near,
      ),
    )

pub returns-in-Ok-clause-lives : goal.returns-in-Ok-clause-lives
returns-in-Ok-clause-lives g c =
    let ms = c.requires.0 in
    let t = c.requires.1 in
    let turn = c.in-Ok.ensures.turn (projection (strand.Conn c.args.connection) ms) t.stands (sym t.moment) t.execution in
    c.carry.ensures.lives c.args.site.now (
      Of (strand.Conn c.args.connection) (action_of (g.S.StrandContract.meaning c.args.site.now).behavior (projection (strand.Conn c.args.connection) ms) c.args.seen) None ∷ ms,
      turn-busy _ _ c.args.connection ms c.args.seen c.args.seat.strand _ _ c.args.going c.args.seat.is_open _ _ t turn.0 turn.1,
    )

pub returns-in-Err-clause-lives : goal.returns-in-Err-clause-lives
returns-in-Err-clause-lives g c =
    let ms = c.requires.0 in
    let t = c.requires.1 in
    c.give_up.ensures.standing c.args.site.now (
      Of (strand.Conn c.args.connection) (action_of (g.S.StrandContract.meaning c.args.site.now).behavior (projection (strand.Conn c.args.connection) ms) c.args.seen) None ∷ ms,
      near-falls _ _ c.args.connection _ c.args.going _ _ _ _ t.near,
    )
