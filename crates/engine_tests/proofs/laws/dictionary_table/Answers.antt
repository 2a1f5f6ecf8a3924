-- By computation.
use Rattle.std.proofs.Common.{refl}
use Rattle.engine_tests.proofs.laws.dictionary_table.Goals as goal

pub returns : goal.returns
returns c = record { two = refl; times = refl; last = refl; large = refl; evicts_29 = refl; evicts_30 = refl; evicts_no_31 = refl }
