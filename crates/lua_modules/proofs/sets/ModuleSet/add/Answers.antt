use Rattle.std.proofs.Common.{◌∙◌, sym}
use Rattle.lua_modules.proofs.Adding.{adds_module, adds_prelude}
use Rattle.lua_modules.proofs.Sound.{after_module, after_prelude}
use Rattle.lua_modules.proofs.sets.ModuleSet.add.Goals as goal

pub returns-then-is_prelude-clause-added : goal.returns-then-is_prelude-clause-added
returns-then-is_prelude-clause-added c =
    adds_prelude c.args.name c.args.file c.args.text.now c.args.self.now c.add_prelude.new.self c.in_ok-chunk.chunk c.in_ok-chunk.ensures.program
    c.add_prelude.result c.add_prelude.ensures.joined (sym c.is_prelude.ensures ∙ c.if-is_prelude.true) c.add_prelude.ensures.lists

pub returns-then-is_prelude-clause-sound : goal.returns-then-is_prelude-clause-sound
returns-then-is_prelude-clause-sound c = λ sound.
    after_prelude c.args.self.now c.add_prelude.new.self 1 c.args.text.now c.args.file c.in_ok-chunk.chunk c.in_ok-chunk.ensures.program
    c.in_ok-chunk.ensures.whole
    c.joined_programs_are_whole.ensures c.a_program_begins_with_its_chunk.ensures c.add_prelude.result c.add_prelude.ensures.joined c.add_prelude.ensures.kept
    sound
    c.add_prelude.ensures.lists

pub returns-else-is_prelude-clause-added : goal.returns-else-is_prelude-clause-added
returns-else-is_prelude-clause-added c =
    adds_module c.args.name c.args.file c.args.text.now c.args.self.now c.add_module.new.self c.in_ok-chunk.chunk c.in_ok-chunk.ensures.program
    c.add_module.result c.add_module.ensures.joined (sym c.is_prelude.ensures ∙ c.if-is_prelude.false) c.add_module.ensures.lists

pub returns-else-is_prelude-clause-sound : goal.returns-else-is_prelude-clause-sound
returns-else-is_prelude-clause-sound c = λ sound.
    after_module c.args.self.now c.add_module.new.self 1 c.args.text.now c.args.file c.in_ok-chunk.chunk c.in_ok-chunk.ensures.program
    c.in_ok-chunk.ensures.whole
    c.joined_programs_are_whole.ensures c.a_program_begins_with_its_chunk.ensures c.add_module.result c.add_module.ensures.joined c.add_module.ensures.kept
    sound
    c.args.name c.add_module.ensures.lists
