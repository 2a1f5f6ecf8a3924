use Rattle.std.proofs.Common.{◌≡◌, drop}
use Rattle.http_in.specs.Scanning.{after_bytes}
use Rattle.http_in.proofs.Scans.{end_from, later}
use Rattle.http_in.proofs.scan.HeadScan.read.Given as goal

abbrev pub invariant-loop-index : goal.invariant-loop-index
invariant-loop-index l = record {
  moved : after_bytes l.self (drop l.index l.piece) ≡ after_bytes l.fn.self l.fn.piece;
  found : later l.index (end_from l.self (drop l.index l.piece)) ≡ end_from l.fn.self l.fn.piece;
}
