use Rattle.std.proofs.Common.{rules, ◌≡◌, ◌∷◌, codes}
use Rattle.commands.specs.Words.{texts, mode_name}
use Rattle.commands.proofs.Commands.{no_form}
use Rattle.commands.proofs.command_line.command_of.Goals as goal

pub returns-in_default-events_in-clause-none : goal.returns-in_default-events_in-clause-none
returns-in_default-events_in-clause-none c =
    let mode = c.in-Some-named.mode in
    let conf = c.in-Some-value_of.conf in
    let schedule = c.in-Some-schedule_in.schedule in
    let form : texts c.args.words.now ≡ mode_name mode ∷ codes "--conf" ∷ conf.value.now ∷ texts conf.rest.now = search rules in
    no_form (texts c.args.words.now) (texts conf.rest.now) (texts schedule.rest.now) mode conf.value.now schedule.value.now form
    (search rules) (λ count asks. c.in_default-events_in.ensures count (rw c.row-row.ensures asks))
