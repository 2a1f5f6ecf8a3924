use Rattle.commands.proofs.Taken.{took-all}
use Rattle.commands.proofs.laws.each_reply_is_taken.Goals as goal

pub returns : goal.returns
returns g c = λ site lines h run takes.
    let b = (g.S.StrandContract.meaning site).behavior in
    took-all b (λ q es. c.what_was_taken.ensures.all b q es) (g.met.S.StrandContract.grows site) (g.met.S.StrandContract.keeps site) lines h run takes
