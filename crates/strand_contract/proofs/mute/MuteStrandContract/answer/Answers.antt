use Rattle.strand_contract.specs.MuteLaws.{mute-unasked}
use Rattle.strand_contract.proofs.mute.MuteStrandContract.answer.Goals as goal

pub unreachable-requires : goal.unreachable-requires
unreachable-requires c = mute-unasked c.requires.0 c.args._answer c.requires.1 c.requires.5.0 c.requires.4
