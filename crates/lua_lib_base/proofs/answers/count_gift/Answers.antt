use Rattle.lua_lib_base.proofs.AnswerLemmas.{gift_counted}
use Rattle.lua_lib_base.proofs.answers.count_gift.Goals as goal

pub returns : goal.returns
returns c = λ args t.
    gift_counted args c.args.work c.args.taken c.saturating_add-all_taken.result c.saturating_add-bytes.result c.args.store.now c.add_steps.new.self c.add_steps-2.new.self c.add_steps-3.new.self
    t c.saturating_add-all_taken.ensures c.saturating_add-bytes.ensures c.add_steps.ensures c.add_steps-2.ensures c.add_steps-3.ensures
