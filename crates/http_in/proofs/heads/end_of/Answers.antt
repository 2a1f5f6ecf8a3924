use Rattle.std.proofs.Common.{[], refl, sym, ◌∙◌}
use Rattle.http_in.proofs.Scans.{later-none}
use Rattle.http_in.proofs.heads.end_of.Goals as goal

pub returns : goal.returns
returns c = later-none c.read.result ∙ sym (c.read.ensures.found [] c.new.ensures refl)
