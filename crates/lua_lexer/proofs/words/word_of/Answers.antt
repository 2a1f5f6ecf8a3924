use Rattle.lua_lexer.specs.Words.{word_of}
use Rattle.lua_lexer.proofs.Keywords.{word_among}
use Rattle.lua_lexer.proofs.words.word_of.Goals as goal

pub returns : goal.returns
unfolding word_of
returns c = rw (c.word_among.ensures, c.words_from.ensures, c.byte_at.ensures.value) (word_among c.args.name.now)
