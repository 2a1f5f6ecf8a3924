use Rattle.std.proofs.Common.{◌≡◌, ◌<◌, ◌≤◌, ℕ, slice_get, Some, MatchOption}
use Rattle.conf.specs.Routes.{IsFirst, rank}
use Rattle.conf.specs.declared.sites.LocationConf.{LocationConf}
use Rattle.conf.proofs.routes.location_for.Given as goal

abbrev pub invariant-loop-index : goal.invariant-loop-index
invariant-loop-index l = record {
  best : (k : ℕ) (other : LocationConf) → k < l.index → slice_get l.locations k ≡ Some other → rank l.path other.kind ≤ l.best;
  found : MatchOption l.found (l.best ≡ 0) (λ index. IsFirst l.locations l.path index l.best);
}
