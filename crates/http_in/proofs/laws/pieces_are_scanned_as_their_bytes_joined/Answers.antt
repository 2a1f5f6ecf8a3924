use Rattle.std.proofs.Common.{sym}
use Rattle.http_in.specs.declared.scan.HeadScan.TheVariants.{Empty}
use Rattle.http_in.proofs.Scans.{after_bytes-append}
use Rattle.http_in.proofs.laws.pieces_are_scanned_as_their_bytes_joined.Goals as goal

pub returns : goal.returns
returns c xs ys = sym (after_bytes-append Empty xs ys)
