-- The words and the files have verdicts of one status, and one where nothing is refused.
use Rattle.std.proofs.Common.{◌≡◌, ℕ, Bool, true, false, ◌⊎◌, inl, inr, List, length, Option, Some, None, refl, sym, ◌∙◌, ap, subst, arith}
use Rattle.resty_base.specs.FileMap.{FileMap}
use Rattle.resty_world.specs.declared.schedule_line.SchedLine.{SchedLine}
use Rattle.schedule_text.specs.Accepted.{IsRead, IsRefusedAt}
use Rattle.schedule_text.specs.Fitting.{IsSchedule}
use Rattle.schedule_text.specs.LineTexts.{schedule_text}
use Rattle.lua_modules.specs.TextsOfFiles.{Holds, IsTooLong}
use Rattle.site_load.specs.Loading.{IsFault}
use Rattle.site_load.specs.Same.{SitesAreKnown, NoSiteIsRefused, FaultsAreAlike, is_unread}
use Rattle.site_load.specs.declared.faults.SiteFault.{SiteFault}
use Rattle.site_load.specs.declared.faults.SiteFault.TheVariants as fault
use Rattle.commands.specs.declared.endings.Ending.TheVariants as ending
use Rattle.commands.specs.declared.endings.Status.{Status}
use Rattle.commands.specs.declared.endings.Status.TheVariants as status
use Rattle.commands.specs.Ending.{site_status, status_of}
use Rattle.commands.specs.Ends.{AreOfOneStatus, IsOneVerdict}
use Rattle.commands.specs.Verdict.{Verdict, Usage, NoSite, Missing, TooLong, BadLine, Checks, Runs, Serves, HasSchedule, IsChecked, IsOf, IsVerdict, ending_of, most_bytes}
use Rattle.commands.specs.declared.command_line.Mode.{Mode}
use Rattle.commands.specs.declared.command_line.Mode.TheVariants as mode
use Rattle.commands.specs.Words.{Command, Says, IsForm}
use Rattle.commands.proofs.ByWords.{no_fault_done}
use Rattle.commands.proofs.Commands.{same_command}

-- what a schedule is: missing, too long, refused, or accepted
pub data Kind : Type 0 where
  missing : Kind
  too_long : Kind
  refused : Kind
  accepted_ : Kind

-- a text that is no schedule, and one that is
abbrev IsBad : List ℕ → Type 0
IsBad text = (n : ℕ) × IsRefusedAt text n

abbrev IsGood : List ℕ → Type 0
IsGood text = (lines : List SchedLine) × IsRead text lines

abbrev IsKind : FileMap → List ℕ → Kind → Type 0
IsKind held name missing = held name ≡ None
IsKind held name too_long = IsTooLong held name most_bytes
IsKind held name refused = (text : List ℕ) × Holds held name most_bytes text × IsBad text
IsKind held name accepted_ = (text : List ℕ) × Holds held name most_bytes text × IsGood text

absent : {C : Type 0} {held : Option (List ℕ)} (text : List ℕ) → held ≡ None → held ≡ Some text → C
absent text none some = absurd (let no : None ≡ Some text = sym none ∙ some in cc)

same_text : {held : Option (List ℕ)} (x y : List ℕ) → held ≡ Some x → held ≡ Some y → x ≡ y
same_text x y p q = let both : Some x ≡ Some y = sym p ∙ q in cc

long_and_short : {C : Type 0} (held : FileMap) (name : List ℕ) (text : List ℕ) → IsTooLong held name most_bytes → Holds held name most_bytes text → C
long_and_short held name text long holds =
    let same = ap length (same_text long.text text long.here holds.here) in
    absurd (omega (arith, long.long, holds.short, same))

-- no text of a schedule is refused, and it is that of one schedule
abbrev pub SchedulesAreRead : Type 0
SchedulesAreRead = (text : List ℕ) (lines : List SchedLine) (n : ℕ) → IsRead text lines → ¬ (IsRefusedAt text n)

abbrev pub SchedulesAreKnown : Type 0
SchedulesAreKnown = (lines others : List SchedLine) → IsSchedule lines → IsSchedule others → schedule_text lines ≡ schedule_text others → lines ≡ others

-- a file is a schedule of one kind
one_kind : SchedulesAreRead → (held : FileMap) (name : List ℕ) (k l : Kind) → IsKind held name k → IsKind held name l → k ≡ l
one_kind read held name missing missing p q = refl
one_kind read held name missing too_long p q = absent q.text p q.here
one_kind read held name missing refused p q = absent q.0 p q.1.here
one_kind read held name missing accepted_ p q = absent q.0 p q.1.here
one_kind read held name too_long missing p q = absent p.text q p.here
one_kind read held name too_long too_long p q = refl
one_kind read held name too_long refused p q = long_and_short held name q.0 p q.1
one_kind read held name too_long accepted_ p q = long_and_short held name q.0 p q.1
one_kind read held name refused missing p q = absent p.0 q p.1.here
one_kind read held name refused too_long p q = long_and_short held name p.0 q p.1
one_kind read held name refused refused p q = refl
one_kind read held name refused accepted_ p q =
    let bad : IsBad q.0 = subst IsBad (same_text p.0 q.0 p.1.here q.1.here) p.2 in
    let good : IsGood q.0 = q.2 in
    absurd (read q.0 good.0 bad.0 good.1 bad.1)
one_kind read held name accepted_ missing p q = absent p.0 q p.1.here
one_kind read held name accepted_ too_long p q = long_and_short held name p.0 q p.1
one_kind read held name accepted_ refused p q =
    let bad : IsBad p.0 = subst IsBad (same_text q.0 p.0 q.1.here p.1.here) q.2 in
    let good : IsGood p.0 = p.2 in
    absurd (read p.0 good.0 bad.0 good.1 bad.1)
one_kind read held name accepted_ accepted_ p q = refl

-- the kind that a verdict says the schedule is of, and the status by it
abbrev schedule_kind : Verdict → Kind
schedule_kind Missing = missing
schedule_kind TooLong = too_long
schedule_kind (BadLine n) = refused
schedule_kind v = accepted_

abbrev kind_status : Kind → Status
kind_status missing = status.ReadFault
kind_status too_long = status.ReadFault
kind_status refused = status.Schedule
kind_status accepted_ = status.Done

-- the status by the kind of a fault
abbrev fault_status : Bool → Status
fault_status true = status.ReadFault
fault_status false = status.Conf

by_fault : (held : FileMap) (name : List ℕ) (why : SiteFault) → IsFault held name why → site_status why ≡ fault_status (is_unread why)
by_fault held name (fault.Missing file) of = refl
by_fault held name (fault.TooLong file) of = refl
by_fault held name (fault.Unreadable file) of = absurd of
by_fault held name (fault.Refused file wrong) of = refl
by_fault held name (fault.NotBuilt file line) of = refl
by_fault held name fault.TooManyModules of = refl
by_fault held name (fault.Init message) of = refl
by_fault held name fault.Memory of = absurd of

-- a verdict on files that hold a site
abbrev IsSited : Verdict → Type 0
IsSited (NoSite why) = ⊥
IsSited v = Unit {0}

sited_or_not : (v : Verdict) → ((why : SiteFault) × (v ≡ NoSite why)) ⊎ IsSited v
sited_or_not Usage = inr tt
sited_or_not (NoSite why) = inl (why, refl)
sited_or_not Missing = inr tt
sited_or_not TooLong = inr tt
sited_or_not (BadLine n) = inr tt
sited_or_not Checks = inr tt
sited_or_not (Runs site lines) = inr tt
sited_or_not (Serves site) = inr tt

site_there : (c : Command) (held : FileMap) (v : Verdict) → IsSited v → IsOf c held v → IsChecked held c.conf
site_there c held Usage s of = absurd of
site_there c held (NoSite why) s of = absurd s
site_there c held Missing s of = of.1
site_there c held TooLong s of = of.1
site_there c held (BadLine n) s of = of.1
site_there c held Checks s of = of.1
site_there c held (Runs site lines) s of = (site, of.1)
site_there c held (Serves site) s of = (site, of.1)

sited_status : (c : Command) (held : FileMap) (v : Verdict) → IsSited v → IsOf c held v → status_of (ending_of v) ≡ kind_status (schedule_kind v)
sited_status c held Usage s of = absurd of
sited_status c held (NoSite why) s of = absurd s
sited_status c held Missing s of = refl
sited_status c held TooLong s of = refl
sited_status c held (BadLine n) s of = refl
sited_status c held Checks s of = refl
sited_status c held (Runs site lines) s of = refl
sited_status c held (Serves site) s of = refl

-- the schedule is of some kind, or none is read
abbrev IsAfterSite : Command → FileMap → Kind → Type 0
IsAfterSite c held k = ((c.mode ≡ mode.Replay) × IsKind held c.schedule k) ⊎ (¬ (c.mode ≡ mode.Replay) × (k ≡ accepted_))

no_replay : (m n : Mode) → m ≡ n → (n ≡ mode.Replay → ⊥) → m ≡ mode.Replay → ⊥
no_replay m n is not replay = not (sym is ∙ replay)

schedule_is : (c : Command) (held : FileMap) (v : Verdict) → IsSited v → IsOf c held v → IsAfterSite c held (schedule_kind v)
schedule_is c held Usage s of = absurd of
schedule_is c held (NoSite why) s of = absurd s
schedule_is c held Missing s of = inl (of.0, of.2)
schedule_is c held TooLong s of = inl (of.0, of.2)
schedule_is c held (BadLine n) s of = inl (of.0, (of.2.text, of.2.holds, (n, of.2.refused)))
schedule_is c held Checks s of = inr (no_replay c.mode mode.Check of.0 (λ e. let no : mode.Check ≡ mode.Replay = e in cc), refl)
schedule_is c held (Runs site lines) s of = inl (of.0, (of.2.text, of.2.holds, (lines, of.2.accepted)))
schedule_is c held (Serves site) s of = inr (no_replay c.mode mode.Serve of.0 (λ e. let no : mode.Serve ≡ mode.Replay = e in cc), refl)

one_mode : {C : Type 0} (m : Mode) → m ≡ mode.Replay → m ≡ mode.Serve → C
one_mode m r s = absurd (let no : mode.Replay ≡ mode.Serve = sym r ∙ s in cc)

check_replay : {C : Type 0} (m : Mode) → m ≡ mode.Check → m ≡ mode.Replay → C
check_replay m k r = absurd (let no : mode.Check ≡ mode.Replay = sym k ∙ r in cc)

check_serve : {C : Type 0} (m : Mode) → m ≡ mode.Check → m ≡ mode.Serve → C
check_serve m k s = absurd (let no : mode.Check ≡ mode.Serve = sym k ∙ s in cc)

module _ (known : SitesAreKnown) (none_refused : NoSiteIsRefused) (alike : FaultsAreAlike) (read : SchedulesAreRead) (schedule_alone : SchedulesAreKnown) where
  schedules_same : (c : Command) (held : FileMap) (k l : Kind) → IsAfterSite c held k → IsAfterSite c held l → k ≡ l
  schedules_same c held k l p q = elim p [
    | inl replay ↦ elim q [
      | inl too ↦ one_kind read held c.schedule k l replay.1 too.1
      | inr not ↦ absurd (not.0 replay.0)
    ]
    | inr not ↦ elim q [
      | inl replay ↦ absurd (not.0 replay.0)
      | inr too ↦ not.1 ∙ sym too.1
    ]
  ]

  same_fault : (c : Command) (held : FileMap) (f g : SiteFault) → IsFault held c.conf f → IsFault held c.conf g → site_status f ≡ site_status g
  same_fault c held f g p q =
      by_fault held c.conf f p ∙ ap fault_status (alike held c.conf f g p q) ∙ sym (by_fault held c.conf g q)

  -- files don't hold a site and have a fault
  apart : (c : Command) (held : FileMap) (v : Verdict) (why : SiteFault) → IsSited v → IsOf c held v → IsFault held c.conf why → ⊥
  apart c held v why s of wrong = let there = site_there c held v s of in none_refused held c.conf there.0 why there.1 wrong

  both_sited : (c : Command) (held : FileMap) (v w : Verdict) → IsSited v → IsSited w → IsOf c held v → IsOf c held w → status_of (ending_of v) ≡ status_of (ending_of w)
  both_sited c held v w s t p q =
      sited_status c held v s p
      ∙ ap kind_status (schedules_same c held (schedule_kind v) (schedule_kind w) (schedule_is c held v s p) (schedule_is c held w t q))
      ∙ sym (sited_status c held w t q)

  command_status : (c : Command) (held : FileMap) (v w : Verdict) → IsOf c held v → IsOf c held w → status_of (ending_of v) ≡ status_of (ending_of w)
  command_status c held v w p q = elim (sited_or_not v) [
    | inl f ↦ elim (sited_or_not w) [
      | inl g ↦ rw (f.1, g.1) (same_fault c held f.0 g.0 (subst (IsOf c held) f.1 p) (subst (IsOf c held) g.1 q))
      | inr t ↦ absurd (apart c held w f.0 t q (subst (IsOf c held) f.1 p))
    ]
    | inr s ↦ elim (sited_or_not w) [
      | inl g ↦ absurd (apart c held v g.0 s p (subst (IsOf c held) g.1 q))
      | inr t ↦ both_sited c held v w s t p q
    ]
  ]

  one_schedule : (held : FileMap) (name : List ℕ) (xs ys : List SchedLine) → HasSchedule held name xs → HasSchedule held name ys → xs ≡ ys
  one_schedule held name xs ys p q =
      schedule_alone xs ys p.accepted.made q.accepted.made (sym p.accepted.whole ∙ same_text p.text q.text p.holds.here q.holds.here ∙ q.accepted.whole)

  -- where nothing is refused there is one verdict
  same_done : (c : Command) (held : FileMap) (v w : Verdict) → IsOf c held v → IsOf c held w → ending_of v ≡ ending.Done → status_of (ending_of w) ≡ status.Done → v ≡ w
  same_done c held Usage w p q done also = absurd p
  same_done c held (NoSite why) w p q done also = absurd (let no : ending.NoSite why ≡ ending.Done = done in cc)
  same_done c held Missing w p q done also = absurd (let no : ending.Missing ≡ ending.Done = done in cc)
  same_done c held TooLong w p q done also = absurd (let no : ending.TooLong ≡ ending.Done = done in cc)
  same_done c held (BadLine n) w p q done also = absurd (let no : ending.BadLine n ≡ ending.Done = done in cc)
  same_done c held Checks Usage p q done also = absurd q
  same_done c held Checks (NoSite why) p q done also = no_fault_done why also
  same_done c held Checks Missing p q done also = absurd (let no : status.ReadFault ≡ status.Done = also in cc)
  same_done c held Checks TooLong p q done also = absurd (let no : status.ReadFault ≡ status.Done = also in cc)
  same_done c held Checks (BadLine n) p q done also = absurd (let no : status.Schedule ≡ status.Done = also in cc)
  same_done c held (Runs site lines) Usage p q done also = absurd q
  same_done c held (Runs site lines) (NoSite why) p q done also = no_fault_done why also
  same_done c held (Runs site lines) Missing p q done also = absurd (let no : status.ReadFault ≡ status.Done = also in cc)
  same_done c held (Runs site lines) TooLong p q done also = absurd (let no : status.ReadFault ≡ status.Done = also in cc)
  same_done c held (Runs site lines) (BadLine n) p q done also = absurd (let no : status.Schedule ≡ status.Done = also in cc)
  same_done c held (Serves site) Usage p q done also = absurd q
  same_done c held (Serves site) (NoSite why) p q done also = no_fault_done why also
  same_done c held (Serves site) Missing p q done also = absurd (let no : status.ReadFault ≡ status.Done = also in cc)
  same_done c held (Serves site) TooLong p q done also = absurd (let no : status.ReadFault ≡ status.Done = also in cc)
  same_done c held (Serves site) (BadLine n) p q done also = absurd (let no : status.Schedule ≡ status.Done = also in cc)
  same_done c held Checks Checks p q done also = refl
  same_done c held Checks (Runs site lines) p q done also = check_replay c.mode p.0 q.0
  same_done c held Checks (Serves site) p q done also = check_serve c.mode p.0 q.0
  same_done c held (Runs site lines) Checks p q done also = check_replay c.mode q.0 p.0
  same_done c held (Runs site lines) (Serves other) p q done also = one_mode c.mode p.0 q.0
  same_done c held (Runs site lines) (Runs other others) p q done also =
      let same = known held c.conf site other p.1 q.1 in
      let lines_same = one_schedule held c.schedule lines others p.2 q.2 in
      cc
  same_done c held (Serves site) Checks p q done also = check_serve c.mode q.0 p.0
  same_done c held (Serves site) (Runs other lines) p q done also = one_mode c.mode q.0 p.0
  same_done c held (Serves site) (Serves other) p q done also = let same = known held c.conf site other p.1 q.1 in cc

  command_verdict : (c : Command) (held : FileMap) (v w : Verdict) → IsOf c held v → IsOf c held w → IsOneVerdict v w
  command_verdict c held v w p q =
      let same = command_status c held v w p q in
      (same, λ done. same_done c held v w p q done (sym same ∙ ap status_of done))

  form_verdict : (words : List (List ℕ)) (held : FileMap) (v w : Verdict) → (c : Command) × Says words c × IsOf c held v → (c : Command) × Says words c × IsOf c held w → IsOneVerdict v w
  form_verdict words held v w p q = command_verdict p.0 held v w p.2 (subst (λ (c : Command). IsOf c held w) (same_command words q.0 p.0 q.1 p.1) q.2)

  -- a verdict of words that are a form
  has_form : (words : List (List ℕ)) (held : FileMap) (v : Verdict) → (c : Command) × Says words c × IsOf c held v → IsForm words
  has_form words held v p = (p.0, p.1)

  after_form : (words : List (List ℕ)) (held : FileMap) (v w : Verdict) → (c : Command) × Says words c × IsOf c held v → IsVerdict words held w → IsOneVerdict v w
  after_form words held v Usage p q = absurd (q (has_form words held v p))
  after_form words held v (NoSite why) p q = form_verdict words held v (NoSite why) p q
  after_form words held v Missing p q = form_verdict words held v Missing p q
  after_form words held v TooLong p q = form_verdict words held v TooLong p q
  after_form words held v (BadLine n) p q = form_verdict words held v (BadLine n) p q
  after_form words held v Checks p q = form_verdict words held v Checks p q
  after_form words held v (Runs site lines) p q = form_verdict words held v (Runs site lines) p q
  after_form words held v (Serves site) p q = form_verdict words held v (Serves site) p q

  pub one_status : AreOfOneStatus
  one_status words held Usage Usage p q = (refl, λ done. refl)
  one_status words held Usage (NoSite why) p q = absurd (p (has_form words held (NoSite why) q))
  one_status words held Usage Missing p q = absurd (p (has_form words held Missing q))
  one_status words held Usage TooLong p q = absurd (p (has_form words held TooLong q))
  one_status words held Usage (BadLine n) p q = absurd (p (has_form words held (BadLine n) q))
  one_status words held Usage Checks p q = absurd (p (has_form words held Checks q))
  one_status words held Usage (Runs site lines) p q = absurd (p (has_form words held (Runs site lines) q))
  one_status words held Usage (Serves site) p q = absurd (p (has_form words held (Serves site) q))
  one_status words held (NoSite why) w p q = after_form words held (NoSite why) w p q
  one_status words held Missing w p q = after_form words held Missing w p q
  one_status words held TooLong w p q = after_form words held TooLong w p q
  one_status words held (BadLine n) w p q = after_form words held (BadLine n) w p q
  one_status words held Checks w p q = after_form words held Checks w p q
  one_status words held (Runs site lines) w p q = after_form words held (Runs site lines) w p q
  one_status words held (Serves site) w p q = after_form words held (Serves site) w p q
