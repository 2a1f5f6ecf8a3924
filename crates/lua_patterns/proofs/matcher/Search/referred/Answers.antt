use Rattle.std.proofs.Common.{sym, ◌∙◌, ap}
use Rattle.lua_patterns.specs.Captures.{referenced}
use Rattle.lua_patterns.proofs.Capturing.{none_referred, referred_steps}
use Rattle.lua_patterns.proofs.matcher.Search.referred.Goals as goal

pub returns-in_default : goal.returns-in_default
returns-in_default c = λ expected before other.
    none_referred c.args.self.now c.args.state.now c.args.digit c.args.at c.args.after _ expected (c.referenced.ensures ∙ ap (referenced c.args.digit) c.deref.ensures.value) c.in_default.is before

pub returns : goal.returns
returns c = λ expected before.
    c.advance.ensures expected (referred_steps c.args.self.now c.args.state.now c.args.digit c.args.at c.args.after c.in-Some.cap _ c.bytes_after.result.now expected (sym c.in-Some.is ∙ c.referenced.ensures ∙ ap (referenced c.args.digit) c.deref.ensures.value) c.bytes_after.ensures c.repeated_len-len.ensures.value before)
