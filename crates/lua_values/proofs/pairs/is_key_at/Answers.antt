use Rattle.std.proofs.Common.{sym, ◌∙◌}
use Rattle.lua_values.specs.Values.{same}
use Rattle.lua_values.proofs.NumberedLemmas.{passes-there, passes-nowhere}
use Rattle.lua_values.proofs.pairs.is_key_at.Goals as goal

pub returns-in-Some : goal.returns-in-Some
returns-in-Some c =
    c.eq.ensures ∙ sym (passes-there (same c.args.key.now) c.args.pairs.now.entries c.args.index c.in-Some.other.now c.in-Some.field-0-1.now (sym c.in-Some.ensures.entry))

pub returns-in-None : goal.returns-in-None
returns-in-None c = sym (passes-nowhere (same c.args.key.now) c.args.pairs.now.entries c.args.index (sym c.in-None.ensures.entry))
