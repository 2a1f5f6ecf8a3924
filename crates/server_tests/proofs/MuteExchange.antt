-- A client that sends a byte to a mute strand, and Stop.
use Rattle.std.proofs.Common.{List, [], ◌∷◌, refl, inl, lit<}
use Rattle.strand_contract.specs.declared.mute.NoJob.{NoJob}
use Rattle.strand_contract.specs.declared.turns.Place.TheVariants as place
use Rattle.strand_contract.specs.declared.turns.Start.TheVariants as start
use Rattle.strand_contract.specs.Actions.{Stop, Began, Bytes, Halted, LocalAction, Told, Did}
use Rattle.strand_contract.specs.Alone.{IsExecution}
use Rattle.strand_contract.specs.Mute.{mute_behavior}

abbrev pub begun : List (LocalAction NoJob)
begun = Did (Began 3 (start.Client 1)) ∷ []

abbrev pub byte_came : List (LocalAction NoJob)
byte_came = Did (Bytes place.Client (120 ∷ [])) ∷ begun

abbrev pub told_stop : List (LocalAction NoJob)
told_stop = Told Stop ∷ byte_came

pub byte-comes : IsExecution {J = NoJob} mute_behavior byte_came
byte-comes = (
  (tt, refl),
  (record { living = refl; idle = record { no_act = refl; no_thread = refl; no_place = refl; no_offer = refl; no_deadline = λ h. refl; no_stop = refl; no_end = refl }; opened = refl }, refl, lit< tt),
)

pub stop-ends : IsExecution {J = NoJob} mute_behavior (Did Halted ∷ told_stop)
stop-ends = (
  (byte-comes, (refl, record { no_act = refl; no_thread = refl; no_place = refl; no_offer = refl; no_deadline = λ h. refl; no_stop = refl; no_end = refl })),
  (record { living = refl; no_act = refl; no_offer = refl }, inl refl),
)
