use Rattle.std.proofs.Common.{◌≡◌, map}
use Rattle.conf.specs.Meaning as spec
use Rattle.conf.proofs.meaning.server_confs.Given as goal

abbrev pub invariant-loop-server : goal.invariant-loop-server
invariant-loop-server l = l.made ≡ map (spec.server_conf l.http) l.yielded
