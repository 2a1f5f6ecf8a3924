use Rattle.strand_plans.proofs.Calls.{unasked}
use Rattle.strand_scripts.specs.Scripted.{script_plan}
use Rattle.strand_scripts.specs.ConditionLaws.{IsScripted, nothing, meets}
use Rattle.strand_scripts.proofs.strand.ScriptStrandStrandContract.answer.Goals as goal

pub unreachable-requires : goal.unreachable-requires
unreachable-requires c = unasked (script_plan c.args._site.now) IsScripted nothing (meets _ c.args._site.now) (λ q h. h) c.requires.0 c.args._answer c.requires.1 c.requires.5.0 c.requires.4
