use Rattle.commands.specs.Sites.{site_behavior}
use Rattle.site_load.specs.Views.{site_of}
use Rattle.commands.proofs.Served.{tells, runs_to}
use Rattle.commands.proofs.replaying.replayed.Goals as goal

pub returns-in_default : goal.returns-in_default
returns-in_default c =
    let old = c.new-world.result in
    let world = c.serve-ended.new.world in
    let lines = c.args.schedule in
    let told = tells lines old world c.new-world.ensures.fresh c.new-world.ensures.stands c.serve-ended.ensures.same in
    runs_to (site_behavior (site_of c.args.site)) lines old world c.new-world.ensures.fresh told c.stop_ends_the_schedule.ensures c.requires c.serve-ended.ensures.right
    c.args.events c.serve-ended.result c.serve-ended.ensures.few c.serve-ended.ensures.ended c.in_default.not-Memory
