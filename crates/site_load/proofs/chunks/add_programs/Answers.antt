use Rattle.std.proofs.Common.{subst}
use Rattle.lua_linking.specs.Joining.{IsJoined}
use Rattle.lua_modules.specs.Sets.{of_file}
use Rattle.site_load.proofs.Joins.{joins_more}
use Rattle.site_load.proofs.chunks.add_programs.Goals as goal

pub loop-program-preserved : goal.loop-program-preserved
loop-program-preserved c =
    let program = c.in-Some.program in
    let joined = subst (λ file. IsJoined c.loop-program.set.program (of_file file program) c.add_chunk.new.self.program) c.in_ok-clone.ensures.cases c.in_ok-add_chunk.ensures.joined in
    joins_more c.args.file.now c.loop-program.yielded program c.args.set.now c.loop-program.set c.add_chunk.new.self c.loop-program.invariant
    (record { joined = joined; lists = c.in_ok-add_chunk.ensures.lists })
