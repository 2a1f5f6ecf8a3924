-- The body of a short string in which no backslash is stands for its own bytes.
use Rattle.std.proofs.Common.{◌≡◌, ℕ, ◌+◌, false, List, [], ◌∷◌, take, Ok, refl, ap, ◌∙◌, arith, lit<}
use Rattle.std.specs.Prelude.{◌==◌}
use Rattle.std.specs.List.{list_any}
use Rattle.std.proofs.lemmas.Bool.{or_parts}
use Rattle.lua_lexer.specs.Characters.{line_ends}
use Rattle.lua_lexer.specs.Strings.{decoded, decoded_after}
use Rattle.lua_lexer.proofs.Bodies.{decoded_step}
use Rattle.lua_lexer.proofs.Fronts.{with_front}
use Rattle.lua_lexer.proofs.StringPieces.{plain_element}

pub plain_body : (line : ℕ) (body : List ℕ) → list_any (λ c. c == 92) body ≡ false → decoded line body ≡ Ok body
unfolding decoded_after
plain_body line [] none = refl
plain_body line (c ∷ cs) none =
    let parts = or_parts (c == 92) (list_any (λ byte. byte == 92) cs) none in
    decoded_step line (c ∷ cs) (record { byte = c; size = 1 }) (omega arith) (plain_element line c cs parts.0) (lit< tt)
    ∙ ap (with_front (c ∷ [])) (plain_body (line + line_ends (take 1 (c ∷ cs))) cs parts.1)
