-- A text whose items fit ends where a server is there.
use Rattle.std.proofs.Common.{◌≡◌, ◌<◌, ◌==◌, ℕ, zero, suc, Bool, true, false, not, ◌&&◌, cond, List, [], ◌∷◌, length, Result, Ok, Err, refl, subst, arith}
use Rattle.conf_rules.specs.Directives.{form_of}
use Rattle.conf_rules.specs.Effects.{effect_of}
use Rattle.conf_rules.specs.declared.directives.Directive.{Directive}
use Rattle.conf_rules.specs.declared.directives.Form.{Form}
use Rattle.conf_rules.specs.declared.directives.Form.TheVariants as form
use Rattle.conf_rules.specs.declared.effects.Effect.{Effect}
use Rattle.conf_text.specs.Items.{IsItems, is_last_ending}
use Rattle.conf_text.specs.declared.endings.Ending.{Ending}
use Rattle.conf_text.specs.declared.endings.Ending.TheVariants as ending
use Rattle.conf_text.specs.declared.items.Item.{Item}
use Rattle.conf.specs.Blocks.{start}
use Rattle.conf.specs.Steps.{ends, valued, reads, said_by, ended, directed, bare, worded, is_main, directive_at}
use Rattle.conf.specs.Reading.{Fit}
use Rattle.conf.specs.declared.blocks.Said.{Said}
use Rattle.conf.specs.declared.blocks.Nest.{Nest}
use Rattle.conf.specs.declared.faults.ConfFault.{ConfFault}
use Rattle.conf.proofs.Walks.{fit_last}

positive : (n : ℕ) → (n == 0) ≡ false → 0 < n
positive zero is = let no : true ≡ false = is in cc
positive (suc n) is = omega arith

-- where it may end
may_end : (main empty : Bool) (nest to : Nest) (fault : ConfFault) → cond (main && not empty) (Ok nest) (Err fault) ≡ Ok to → (empty ≡ false) × (nest ≡ to)
may_end true false nest to fault is = let same : ◌≡◌ {A = Result Nest ConfFault} (Ok nest) (Ok to) = is in (refl, cc)
may_end true true nest to fault is = let no : ◌≡◌ {A = Result Nest ConfFault} (Err fault) (Ok to) = is in cc
may_end false empty nest to fault is = let no : ◌≡◌ {A = Result Nest ConfFault} (Err fault) (Ok to) = is in cc

bare_served : (nest to : Nest) (end : Ending) (line : ℕ) → bare nest end line ≡ Ok to → is_last_ending end ≡ true → 0 < length to.servers
bare_served nest to ending.Semicolon line is last = let no : false ≡ true = last in cc
bare_served nest to ending.Open line is last = let no : false ≡ true = last in cc
bare_served nest to ending.Close line is last = let no : false ≡ true = last in cc
bare_served nest to (ending.Lua text) line is last = let no : false ≡ true = last in cc
bare_served nest to ending.Unclosed line is last = cc
bare_served nest to ending.Broken line is last = cc
bare_served nest to ending.End line is last =
    let may = may_end (is_main nest.place) (length nest.servers == 0) nest to _ is in
    subst (λ n. 0 < length n.servers) may.1 (positive (length nest.servers) may.0)

-- a last ending isn't one of a directive that is taken
never_ends : (nest to : Nest) (directive : Directive) (effect : Effect) (item : Item) (f : Form) (end : Ending) → ends f end ≡ true → is_last_ending end ≡ true
    → ended nest directive effect item end ≡ Ok to → ⊥
never_ends nest to directive effect item f ending.Semicolon right last is = let no : false ≡ true = last in cc
never_ends nest to directive effect item f ending.Open right last is = let no : false ≡ true = last in cc
never_ends nest to directive effect item f ending.Close right last is = let no : false ≡ true = last in cc
never_ends nest to directive effect item f (ending.Lua text) right last is = let no : false ≡ true = last in cc
never_ends nest to directive effect item f ending.Unclosed right last is = cc
never_ends nest to directive effect item form.Simple ending.End right last is = let no : false ≡ true = right in cc
never_ends nest to directive effect item form.Block ending.End right last is = let no : false ≡ true = right in cc
never_ends nest to directive effect item form.Lua ending.End right last is = let no : false ≡ true = right in cc
never_ends nest to directive effect item form.Simple ending.Broken right last is = let no : false ≡ true = right in cc
never_ends nest to directive effect item form.Block ending.Broken right last is = let no : false ≡ true = right in cc
never_ends nest to directive effect item form.Lua ending.Broken right last is = let no : false ≡ true = right in cc

chosen : (b : Bool) (outcome : Result Said ConfFault) (fault : ConfFault) (said : Said) → cond b outcome (Err fault) ≡ Ok said → b ≡ true
chosen true outcome fault said is = refl
chosen false outcome fault said is = let no : ◌≡◌ {A = Result Said ConfFault} (Err fault) (Ok said) = is in cc

-- what is read of an item ends as its directive wants
reads_ends : (item : Item) (words : List (List ℕ)) (read : Result Directive ConfFault) (said : Said) → reads item words read ≡ Ok said
    → (f : Form) × (ends f item.ending ≡ true)
reads_ends item words (Err fault) said is = let no : ◌≡◌ {A = Result Said ConfFault} (Err fault) (Ok said) = is in cc
reads_ends item words (Ok directive) said is = (form_of directive, chosen (ends (form_of directive) item.ending) (valued item directive (effect_of directive words)) _ said is)

directed_never : (nest to : Nest) (item : Item) (words : List (List ℕ)) (read : Result Directive ConfFault) (outcome : Result Said ConfFault) → reads item words read ≡ outcome
    → directed nest item outcome ≡ Ok to → is_last_ending item.ending ≡ true → ⊥
directed_never nest to item words read (Err fault) same is last = let no : ◌≡◌ {A = Result Nest ConfFault} (Err fault) (Ok to) = is in cc
directed_never nest to item words read (Ok said) same is last =
    let right = reads_ends item words read said same in
    never_ends nest to said.directive said.effect item right.0 item.ending right.1 last is

worded_served : (nest to : Nest) (item : Item) (words : List (List ℕ)) → worded nest item words ≡ Ok to → is_last_ending item.ending ≡ true → 0 < length to.servers
worded_served nest to item [] is last = bare_served nest to item.ending item.ending_line is last
worded_served nest to item (name ∷ words) is last =
    absurd (directed_never nest to item words (directive_at nest name item.line) (said_by nest name words item) refl is last)

pub served : (text : List ℕ) (items : List Item) (nest : Nest) → IsItems text items → Fit start items nest → 0 < length nest.servers
served text items nest is fit =
    let last = fit_last is.before start nest is.item (subst (λ i. Fit start i nest) is.all fit) in
    worded_served last.0 nest is.item is.item.words last.1 is.nothing
