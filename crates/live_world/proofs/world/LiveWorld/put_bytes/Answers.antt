use Rattle.std.proofs.Common.{subst}
use Rattle.resty_world.specs.Contract.{Puts}
use Rattle.live_world.specs.declared.accounts.Accounts.{Accounts}
use Rattle.live_world.specs.Accounts.{book_of}
use Rattle.live_world.proofs.world.LiveWorld.put_bytes.Goals as goal

pub returns-clause-puts : goal.returns-clause-puts
returns-clause-puts g c =
    subst (λ (a : Accounts). Puts c.args.id c.args.bytes.now c.write-answer.result (book_of a) (book_of c.wrote.new.self))
    c.write-answer.ensures.accounts (c.wrote.ensures c.args.id c.args.bytes.now c.write-answer.ensures.piece)
