-- Parts of comparisons.
use Rattle.std.specs.Prelude.{◌≡◌, Bool, true, false, List, if◌then◌else◌}
use Rattle.lua_values.specs.declared.values.Value.{Value}
use Rattle.lua_values.specs.Values.{is_nil}
use Rattle.lua_values.specs.Heap.{StoreView}
use Rattle.lua_operators.specs.declared.comparison.ComparisonOperator.{ComparisonOperator}
use Rattle.lua_operators.specs.declared.events.Event.TheVariants.{Eq}
use Rattle.lua_operators.specs.Comparison.{compared, equality}
use Rattle.lua_meaning.specs.Works.{Caller, Slots, Work, Look}
use Rattle.lua_meaning.specs.Evaluator.{Resume, Spent, do_work}
use Rattle.lua_meaning.specs.Setting.{Setting}
use Rattle.lua_meaning.specs.Metatables.{handler_of_both}
use Rattle.lua_meaning.specs.Arithmetic.{outcome_work}
use Rattle.lua_meaning.specs.Comparison.{count_texts, give_truth, call_for_truth, truth_work, less_by_handler, at_most_by_handler, compared_by_handler}
use Rattle.lua_meaning.specs.Nodes.{eval}

-- the bytes of two texts are counted, and what is compared goes on, or no step is left
abbrev pub CountsTexts : Value → Value → StoreView → StoreView → Bool → Type 0
CountsTexts a b before store true = (S : Setting) (q : Work) (resumes : List Resume)
    → do_work (eval S) (count_texts a b q) (record { store = before; resumes = resumes }) ≡ do_work (eval S) q (record { store = store; resumes = resumes })
CountsTexts a b before store false = (S : Setting) (q : Work) (resumes : List Resume)
    → do_work (eval S) (count_texts a b q) (record { store = before; resumes = resumes }) ≡ Spent

-- `a == b` of two tables that aren't the same, by the handler that both have
abbrev pub equality_handled : List Caller → Bool → Value → Value → Slots → Work
equality_handled callers wanted a b s =
    Look (λ h. if is_nil (handler_of_both h a b Eq) then give_truth wanted false s else call_for_truth callers (handler_of_both h a b Eq) a b wanted s)

-- `a == b` once its bytes are counted
abbrev pub equality_told : Setting → List Caller → Bool → Value → Value → Slots → Work
equality_told S callers wanted a b s = truth_work S callers wanted (equality a b) s (equality_handled callers wanted a b s)

-- `a < b`, and `a <= b`, of values that are no numbers and no texts, by the handlers that both have
abbrev pub less_handled : Setting → List Caller → Value → Value → Slots → Work
less_handled S callers a b s = Look (λ h. less_by_handler S callers h a b s)

abbrev pub at_most_handled : Setting → List Caller → Value → Value → Slots → Work
at_most_handled S callers a b s = Look (λ h. at_most_by_handler S callers h a b s)

-- `a < b` or `a <= b` once its bytes are counted
abbrev pub comparison_told : Setting → List Caller → ComparisonOperator → Value → Value → Slots → Work
comparison_told S callers operator a b s = outcome_work S callers (compared operator a b) s (Look (λ h. compared_by_handler operator S callers h a b s))
