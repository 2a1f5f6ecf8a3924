use Rattle.std.proofs.Common.{◌∙◌}
use Rattle.strand_contract.specs.MuteLaws.{mute-turns, mute-left}
use Rattle.strand_contract.proofs.Results.{if-ok}
use Rattle.strand_contract.proofs.mute.MuteStrandContract.given.Goals as goal
use Rattle.strand_contract.proofs.mute.MuteStrandContract.given.Goals.{in-Stop, in_default}

pub returns-clause-left : goal.returns-clause-left
returns-clause-left c own =
    let turn = mute-turns c.requires.0 c.args.seen own c.requires.3 in
    elim c.match-seen.branch [
      | in-Stop w ↦ rw (w.result-is, w.self-is) (if-ok w.halt.result _ _ w.halt.ensures.acts
          (λ v e. mute-left v.items c.args.self.now.is_client c.args.self.now.is_over w.halt.new.self.is_over (c.requires.1.1 ∙ turn.1) w.halt.ensures.over e))
      | in_default w ↦ absurd (w.in_default.not-Stop turn.0)
    ]
