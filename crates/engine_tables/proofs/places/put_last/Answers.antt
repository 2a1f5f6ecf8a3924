-- A new place goes last.
use Rattle.std.proofs.Common.{nat_eq, ◌∙◌}
use Rattle.indexmap.proofs.CallerLemmas.{insert_entry-new}
use Rattle.engine_tables.proofs.Rising.{done-then}
use Rattle.engine_tables.proofs.places.put_last.Goals as goal

pub returns : goal.returns
returns c =
    done-then c.insert-was.result (c.insert-was.ensures.succeeds c.requires.room) c.insert-was.ensures.entries
    ∙ insert_entry-new nat_eq c.args.own.now c.args.at c.args.number c.requires.free
