use Rattle.live_world.proofs.accounts.Accounts.gives.Goals as goal

pub returns-else-fits-clause-none : goal.returns-else-fits-clause-none
returns-else-fits-clause-none c = c.fits.ensures.no c.if-fits.false
