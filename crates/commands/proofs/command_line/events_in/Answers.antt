use Rattle.std.proofs.Common.{rules, ◌≡◌, true, [], ◌∷◌, codes, map, string_bytes, ap}
use Rattle.std.proofs.lemmas.List.{nil_from_length as no_items}
use Rattle.commands.specs.Words.{texts}
use Rattle.commands.proofs.Commands.{counted}
use Rattle.commands.proofs.command_line.events_in.Goals as goal

pub returns : goal.returns
returns c =
    let option = c.in-Some.option.now in
    let word = c.in-Some-split_first.word.now in
    let on : c.args.counts_events ≡ true = search rules in
    let name : string_bytes option ≡ codes "--events" = search rules in
    let one : c.args.words.now ≡ option ∷ c.in-Some.rest.now = search rules in
    let two : c.in-Some.rest.now ≡ word ∷ c.in-Some-split_first.rest.now = search rules in
    let three : c.in-Some-split_first.rest.now ≡ [] = no_items c.in-Some-split_first.rest.now (search rules) in
    let items : c.args.words.now ≡ option ∷ word ∷ [] = cc in
    let same : c.as_str-2.result.now ≡ string_bytes word = search rules in
    counted c.count_in.result c.args.counts_events (texts c.args.words.now) (string_bytes option) (string_bytes word) on name (ap (map string_bytes) items) (rw same at c.count_in.ensures)
