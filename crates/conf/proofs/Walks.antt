-- Items that fit one after another.
use Rattle.std.proofs.Common.{◌≡◌, ℕ, List, [], ◌∷◌, ◌++◌, Result, Ok, Err, refl, sym, ap, subst, ◌∙◌, append_assoc}
use Rattle.conf_text.specs.Items.{IsItems}
use Rattle.conf_text.specs.declared.items.Item.{Item}
use Rattle.conf.specs.Blocks.{start}
use Rattle.conf.specs.Steps.{step}
use Rattle.conf.specs.Meaning.{conf_of}
use Rattle.conf.specs.Reading.{Fit, AreRefused, IsFaultIn, IsConf, IsRefusedAt}
use Rattle.conf.specs.declared.blocks.Nest.{Nest}
use Rattle.conf.specs.declared.sites.Conf.{Conf}
use Rattle.conf.specs.declared.faults.ConfFault.{ConfFault}
use Rattle.conf.specs.declared.faults.ConfFault.TheVariants.{At, Unknown, Twice, Value, Place, Block, Memory}
use Rattle.conf.specs.Outcomes.{Refuses}

-- one more item fits
pub fit_more : (items : List Item) (from mid to : Nest) (item : Item) → Fit from items mid → step mid item ≡ Ok to → Fit from (items ++ item ∷ []) to
fit_more [] from mid to item fit taken = (to, (subst (λ n. step n item ≡ Ok to) (sym fit) taken, refl))
fit_more (first ∷ items) from mid to item (next, (first_taken, fit)) taken = (next, (first_taken, fit_more items next mid to item fit taken))

-- what is left of a list after one more item of it
pub left_here : (before left rest all : List Item) (item : Item) → before ++ left ≡ all → left ≡ item ∷ rest → all ≡ before ++ item ∷ rest
left_here before left rest all item whole here = sym whole ∙ ap (λ l. before ++ l) here

-- one more item of a list
pub one_by_one : (before left rest all : List Item) (item : Item) → before ++ left ≡ all → left ≡ item ∷ rest → (before ++ item ∷ []) ++ rest ≡ all
one_by_one before left rest all item whole here =
    append_assoc before (item ∷ []) rest ∙ sym (left_here before left rest all item whole here)

are_refused : (items before after : List Item) (item : Item) (nest : Nest) (fault : ConfFault) → items ≡ before ++ item ∷ after → Fit start before nest
    → step nest item ≡ Err fault → AreRefused items fault
are_refused items before after item nest fault whole fit refused =
    record { before = before; item = item; after = after; nest = nest; all = whole; fit = fit; refused = refused }

-- the first item that doesn't fit
pub fault_in : (items before after : List Item) (item : Item) (nest : Nest) (fault : ConfFault) → items ≡ before ++ item ∷ after → Fit start before nest
    → Refuses (step nest item) fault → IsFaultIn items fault
fault_in items before after item nest Memory whole fit refused = tt
fault_in items before after item nest (At line) whole fit refused = are_refused items before after item nest (At line) whole fit refused
fault_in items before after item nest (Unknown line) whole fit refused = are_refused items before after item nest (Unknown line) whole fit refused
fault_in items before after item nest (Twice line) whole fit refused = are_refused items before after item nest (Twice line) whole fit refused
fault_in items before after item nest (Value line) whole fit refused = are_refused items before after item nest (Value line) whole fit refused
fault_in items before after item nest (Place line) whole fit refused = are_refused items before after item nest (Place line) whole fit refused
fault_in items before after item nest (Block line) whole fit refused = are_refused items before after item nest (Block line) whole fit refused

-- the last of the items that fit
pub fit_last : (items : List Item) (from to : Nest) (item : Item) → Fit from (items ++ item ∷ []) to → (mid : Nest) × (step mid item ≡ Ok to)
fit_last [] from to item (next, (taken, fit)) = (from, subst (λ n. step from item ≡ Ok n) fit taken)
fit_last (first ∷ items) from to item (next, (taken, fit)) = fit_last items next to item fit

-- the outcome of items after an outcome
abbrev run : Result Nest ConfFault → List Item → Result Nest ConfFault
run outcome [] = outcome
run (Ok nest) (item ∷ items) = run (step nest item) items
run (Err fault) (item ∷ items) = Err fault

run_fit : (items : List Item) (from to : Nest) → Fit from items to → run (Ok from) items ≡ Ok to
run_fit [] from to fit = ap (λ n. Ok n) fit
run_fit (item ∷ items) from to (next, (taken, fit)) = ap (λ r. run r items) taken ∙ run_fit items next to fit

run_fault : (items : List Item) (fault : ConfFault) → run (Err fault) items ≡ Err fault
run_fault [] fault = refl
run_fault (item ∷ items) fault = refl

run_walk : (before after : List Item) (from nest : Nest) (item : Item) (fault : ConfFault) → Fit from before nest → step nest item ≡ Err fault
    → run (Ok from) (before ++ item ∷ after) ≡ Err fault
run_walk [] after from nest item fault fit refused =
    ap (λ r. run r after) (ap (λ n. step n item) fit ∙ refused) ∙ run_fault after fault
run_walk (first ∷ before) after from nest item fault (next, (taken, fit)) refused =
    ap (λ r. run r (before ++ item ∷ after)) taken ∙ run_walk before after next nest item fault fit refused

run_refused : (items : List Item) (fault : ConfFault) → AreRefused items fault → run (Ok start) items ≡ Err fault
run_refused items fault are =
    ap (λ i. run (Ok start) i) are.all ∙ run_walk are.before are.after start are.nest are.item fault are.fit are.refused

-- a text has one list of items
abbrev pub Unique : Type 0
Unique = (text : List ℕ) (items others : List Item) → IsItems text items → IsItems text others → items ≡ others

pub one_conf : Unique → (text : List ℕ) (conf other : Conf) → IsConf text conf → IsConf text other → conf ≡ other
one_conf unique text conf other is are =
    let items = unique text is.items are.items is.has are.has in
    let outcomes : ◌≡◌ {A = Result Nest ConfFault} (Ok is.nest) (Ok are.nest) =
    sym (run_fit is.items start is.nest is.fit) ∙ ap (λ i. run (Ok start) i) items ∙ run_fit are.items start are.nest are.fit in
    let nests : is.nest ≡ are.nest = cc in
    is.says ∙ ap conf_of nests ∙ sym are.says

pub none_refused : Unique → (text : List ℕ) (conf : Conf) (fault : ConfFault) → IsConf text conf → IsRefusedAt text fault → ⊥
none_refused unique text conf fault is at =
    let items = unique text is.items at.items is.has at.has in
    let outcomes : ◌≡◌ {A = Result Nest ConfFault} (Ok is.nest) (Err fault) =
    sym (run_fit is.items start is.nest is.fit) ∙ ap (λ i. run (Ok start) i) items ∙ run_refused at.items fault at.refused in
    cc

pub one_fault : Unique → (text : List ℕ) (fault other : ConfFault) → IsRefusedAt text fault → IsRefusedAt text other → fault ≡ other
one_fault unique text fault other at there =
    let items = unique text at.items there.items at.has there.has in
    let outcomes : ◌≡◌ {A = Result Nest ConfFault} (Err fault) (Err other) =
    sym (run_refused at.items fault at.refused) ∙ ap (λ i. run (Ok start) i) items ∙ run_refused there.items other there.refused in
    cc
