use Rattle.lua_lib_base.proofs.AnswerLemmas.{refusal_counted}
use Rattle.lua_lib_base.proofs.answers.count_refusal.Goals as goal

pub returns : goal.returns
returns c = λ args t.
    refusal_counted args c.args.work c.args.taken c.saturating_add-bytes.result c.args.store.now c.add_steps.new.self c.add_steps-2.new.self
    t c.saturating_add-bytes.ensures c.add_steps.ensures c.add_steps-2.ensures
