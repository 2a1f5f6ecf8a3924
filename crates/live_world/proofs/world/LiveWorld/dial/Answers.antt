use Rattle.std.proofs.Common.{subst}
use Rattle.resty_world.specs.Contract.{Dials}
use Rattle.resty_world.specs.declared.answers.Dial.TheVariants as dial
use Rattle.live_world.specs.declared.accounts.Accounts.{Accounts}
use Rattle.live_world.specs.Accounts.{book_of}
use Rattle.live_world.proofs.world.LiveWorld.dial.Goals as goal

pub returns-in-Ok-clause-dials : goal.returns-in-Ok-clause-dials
returns-in-Ok-clause-dials g c =
    subst (λ (a : Accounts). Dials c.args._who c.args.host c.args.port c.dials.result (book_of a) (book_of c.dials.new.self))
    c.connect.ensures (c.dials.ensures c.args._who c.args.host c.args.port)

pub returns-in-Err-Failed-clause-dials : goal.returns-in-Err-Failed-clause-dials
returns-in-Err-Failed-clause-dials g c =
    subst (λ (a : Accounts). Dials c.args._who c.args.host c.args.port dial.Failed (book_of a) (book_of c.dials_in_vain.new.self))
    c.connect.ensures (c.dials_in_vain.ensures c.args._who c.args.host c.args.port)
