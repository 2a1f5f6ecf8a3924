use Rattle.std.proofs.Common.{◌≡◌, map}
use Rattle.conf.specs.Meaning as spec
use Rattle.conf.proofs.meaning.location_confs.Given as goal

abbrev pub invariant-loop-location : goal.invariant-loop-location
invariant-loop-location l = l.made ≡ map (spec.location_conf l.server l.http) l.yielded
