-- What one line more brings.
use Rattle.std.proofs.Common.{◌≡◌, ℕ, ◌+◌, max, false, cond, List, [], ◌∷◌, ◌++◌, refl, sym, ap, ◌∙◌, arith}
use Rattle.std.proofs.lemmas.List.Sums.{sum_by-append}
use Rattle.resty_world.specs.declared.event.Event.TheVariants as event
use Rattle.resty_world.specs.declared.schedule_line.SchedLine.{SchedLine}
use Rattle.resty_world.specs.declared.schedule_line.SchedLine.TheVariants as line
use Rattle.schedule_text.specs.Fitting.{Follows}
use Rattle.schedule_text.specs.Lines.{arrivals_in, is_arrival, latest_in, moment_of}
use Rattle.schedule_text.specs.Reading.{arrived_after, latest_after}

pub arrivals-push : (lines : List SchedLine) (l : SchedLine) → arrivals_in (lines ++ l ∷ []) ≡ arrivals_in lines + cond (is_arrival l) 1 0
arrivals-push lines l = sum_by-append (λ x. cond (is_arrival x) 1 0) lines (l ∷ []) ∙ omega arith

pub latest-push : (lines : List SchedLine) (l : SchedLine) → latest_in (lines ++ l ∷ []) ≡ max (latest_in lines) (moment_of l)
latest-push [] l = omega arith
latest-push (x ∷ lines) l = ap (max (moment_of x)) (latest-push lines l) ∙ omega arith

-- how many arrived and the latest moment, with the line
pub record More (lines : List SchedLine) (l : SchedLine) : Type 0 where
  pub arrived : arrived_after l (arrivals_in lines) ≡ arrivals_in (lines ++ l ∷ [])
  pub latest : latest_after l (latest_in lines) ≡ latest_in (lines ++ l ∷ [])

-- a line that brings neither
neither : (lines : List SchedLine) (l : SchedLine) → is_arrival l ≡ false → moment_of l ≡ 0 → (arrivals_in lines ≡ arrivals_in (lines ++ l ∷ [])) × (latest_in lines ≡ latest_in (lines ++ l ∷ []))
neither lines l plain still =
    let none = ap {B = ℕ} (λ b. cond b 1 0) plain in (omega (arith, arrivals-push lines l, none), omega (arith, latest-push lines l))

pub more : (lines : List SchedLine) (l : SchedLine) → Follows lines l → More lines l
more lines (line.Given (event.Arrive k)) follows = record { arrived = omega (arith, arrivals-push lines (line.Given (event.Arrive k))); latest = omega (arith, latest-push lines (line.Given (event.Arrive k))) }
more lines (line.Given (event.Bytes i b)) follows = let n = neither lines (line.Given (event.Bytes i b)) refl refl in record { arrived = n.0; latest = n.1 }
more lines (line.Given (event.Ended i)) follows = let n = neither lines (line.Given (event.Ended i)) refl refl in record { arrived = n.0; latest = n.1 }
more lines (line.Given (event.Broken i)) follows = let n = neither lines (line.Given (event.Broken i)) refl refl in record { arrived = n.0; latest = n.1 }
more lines (line.Given (event.Ready i)) follows = let n = neither lines (line.Given (event.Ready i)) refl refl in record { arrived = n.0; latest = n.1 }
more lines (line.Given (event.Dialled m)) follows = let n = neither lines (line.Given (event.Dialled m)) refl refl in record { arrived = n.0; latest = n.1 }
more lines (line.Given (event.Refused m)) follows = let n = neither lines (line.Given (event.Refused m)) refl refl in record { arrived = n.0; latest = n.1 }
more lines (line.Given (event.Moment t)) follows = record { arrived = omega (arith, arrivals-push lines (line.Given (event.Moment t))); latest = omega (arith, latest-push lines (line.Given (event.Moment t))) }
more lines (line.Given event.Stop) follows = let n = neither lines (line.Given event.Stop) refl refl in record { arrived = n.0; latest = n.1 }
more lines (line.Given event.Fault) follows = let n = neither lines (line.Given event.Fault) refl refl in record { arrived = n.0; latest = n.1 }
more lines (line.Given (event.BadLine m)) follows = let n = neither lines (line.Given (event.BadLine m)) refl refl in record { arrived = n.0; latest = n.1 }
more lines (line.Given event.Memory) follows = let n = neither lines (line.Given event.Memory) refl refl in record { arrived = n.0; latest = n.1 }
more lines (line.Room i r) follows = let n = neither lines (line.Room i r) refl refl in record { arrived = n.0; latest = n.1 }
more lines line.FailNext follows = let n = neither lines line.FailNext refl refl in record { arrived = n.0; latest = n.1 }
more lines line.FailDial follows = let n = neither lines line.FailDial refl refl in record { arrived = n.0; latest = n.1 }
more lines line.FailLog follows = let n = neither lines line.FailLog refl refl in record { arrived = n.0; latest = n.1 }
more lines line.FailListen follows = let n = neither lines line.FailListen refl refl in record { arrived = n.0; latest = n.1 }
more lines (line.FailPut i) follows = let n = neither lines (line.FailPut i) refl refl in record { arrived = n.0; latest = n.1 }

-- the same of what was counted before
pub arrived-more : (lines all : List SchedLine) (l : SchedLine) (n : ℕ) → Follows lines l → n ≡ arrivals_in lines → all ≡ lines ++ l ∷ [] → arrived_after l n ≡ arrivals_in all
arrived-more lines all l n follows was is = ap (arrived_after l) was ∙ (more lines l follows).arrived ∙ ap arrivals_in (sym is)

pub latest-more : (lines all : List SchedLine) (l : SchedLine) (n : ℕ) → Follows lines l → n ≡ latest_in lines → all ≡ lines ++ l ∷ [] → latest_after l n ≡ latest_in all
latest-more lines all l n follows was is = ap (latest_after l) was ∙ (more lines l follows).latest ∙ ap latest_in (sym is)
