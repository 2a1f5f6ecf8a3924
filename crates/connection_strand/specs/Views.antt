-- A site as its connections see it.
use Rattle.strand_plans.specs.Moves.{State}
use Rattle.run_contract.specs.Calls.{Meaning}
use Rattle.connection_plan.specs.Services.{Service, Both}
use Rattle.connection_plan.specs.Conditions.{Knows}
use Rattle.connection_plan.specs.Serving.{Serving, service_of}

-- what its runs do and know, and to what one may have come; and what it is to its connections beside them
pub record View (R J I : Type 0) : Type 1 where
  pub meaning : Meaning R J I
  pub serving : Serving

abbrev pub view_of : {R J I : Type 0} → Meaning R J I → Serving → View R J I
view_of meaning serving = record { meaning = meaning; serving = serving }

abbrev pub service : {R J I : Type 0} → View R J I → Service J I
service v = service_of v.meaning.plan v.serving

-- what is known of its states
abbrev pub Known : {R J I : Type 0} → View R J I → State J (Both I) → Type 0
Known v = Knows v.meaning.plan v.meaning.holds
