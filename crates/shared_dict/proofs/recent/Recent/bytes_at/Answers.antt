use Rattle.std.proofs.Common.{sym, ◌∙◌}
use Rattle.shared_dict.proofs.Entries.{bytes-found, bytes-none}
use Rattle.shared_dict.proofs.recent.Recent.bytes_at.Goals as goal

pub returns-in-Some : goal.returns-in-Some
returns-in-Some c = c.size_of.ensures.size ∙ sym (bytes-found c.args.key.now c.args.self.now c.in-Some.kept.now (sym c.in-Some.ensures))

pub returns-in-None : goal.returns-in-None
returns-in-None c = sym (bytes-none c.args.key.now c.args.self.now (sym c.in-None.ensures))
