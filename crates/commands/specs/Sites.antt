-- What the strands of a site do: connections, whose requests are answered by the handlers of their locations.
use Rattle.strand_contract.specs.Behaviors.{Behavior}
use Rattle.run_contract.specs.declared.stored.NoJob.{NoJob}
use Rattle.connection_plan.specs.Connections.{connection_behavior}
use Rattle.lua_run.specs.Answers.{Site}
use Rattle.lua_run.specs.Services.{lua_service}

abbrev pub site_behavior : Site → Behavior NoJob
site_behavior site = connection_behavior (lua_service site)
