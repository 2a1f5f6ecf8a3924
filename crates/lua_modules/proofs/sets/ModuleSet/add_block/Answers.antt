use Rattle.lua_modules.proofs.Sound.{after_block}
use Rattle.lua_modules.proofs.sets.ModuleSet.add_block.Goals as goal

pub returns-clause-sound : goal.returns-clause-sound
returns-clause-sound c = λ sound.
    after_block c.args.self.now c.add_chunk.new.self c.args.line c.args.text.now c.args.file c.in_ok-chunk.chunk c.in_ok-chunk.ensures.program
    c.in_ok-chunk.ensures.whole
    c.joined_programs_are_whole.ensures c.a_program_begins_with_its_chunk.ensures c.add_chunk.result c.add_chunk.ensures.joined c.add_chunk.ensures.kept sound
    c.add_chunk.ensures.lists
