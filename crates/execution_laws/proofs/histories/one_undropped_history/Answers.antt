use Rattle.std.proofs.Common.{sym, ◌∙◌, ap}
use Rattle.executions.specs.Histories.{external}
use Rattle.execution_laws.specs.Inputs.{inputs, drops}
use Rattle.execution_laws.proofs.histories.one_undropped_history.Goals as goal
use Rattle.execution_laws.proofs.Decided.{one-of-inputs, undropped}

pub returns : goal.returns
returns g c b h k quiet u v none also e = sym u.history
    ∙ ap (external b) (one-of-inputs b quiet u.execution v.execution u.allowed v.allowed (ap inputs u.history ∙ e ∙ sym (ap inputs v.history))
    (λ index. undropped b index u.execution (ap drops u.history ∙ none) ∙ sym (undropped b index v.execution (ap drops v.history ∙ also))))
    ∙ v.history
