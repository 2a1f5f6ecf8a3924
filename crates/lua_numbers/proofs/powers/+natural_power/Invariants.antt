use Rattle.lua_numbers.proofs.powers.+natural_power.Given as goal

abbrev pub decreases-natural_power : goal.decreases-natural_power
decreases-natural_power l = l.exponent
