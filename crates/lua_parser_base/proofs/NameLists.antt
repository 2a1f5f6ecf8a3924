-- Where lists of names and parameters are refused.
use Rattle.std.proofs.Common.{◌≡◌, ◌≤◌, ◌<◌, ◌+◌, ℕ, List, [], ◌∷◌, ◌++◌, length, length-append, refl, sym, ap, subst, arith, ◌∙◌}
use Rattle.lua_lexer.specs.declared.tokens.TokenKind.{TokenKind}
use Rattle.lua_lexer.specs.declared.tokens.TokenKind.TheVariants.{Name as NameKind, Sign as SignKind}
use Rattle.lua_lexer.specs.declared.signs.Sign.TheVariants.{Comma, CloseParenthesis, Ellipsis}
use Rattle.lua_grammar.specs.Tree.{Line, Bytes, NameList, Params, FuncBody, Block}
use Rattle.lua_grammar.specs.Tree as tree
use Rattle.lua_grammar.specs.Printing.{Lexeme, a_sign, print_names, print_params}
use Rattle.lua_grammar.specs.Waiting.{Reader, IsWaiting, failed, token, more_names, close_parenthesis}
use Rattle.lua_grammar.specs.Reading.{params, body_after, next_name, no_rest, feed, run}
use Rattle.lua_grammar.specs.Resolution.{names_of, names_of_params}
use Rattle.lua_grammar.specs.Dead.{IsDead, NamesFrom}
use Rattle.lua_grammar.specs.Stopping.{ComesNext, IsNoComma}
use Rattle.lua_grammar.proofs.Before.{names_before, params_before}
use Rattle.lua_grammar.proofs.Stopping.{names_end}
use Rattle.lua_grammar.proofs.DeadParts.{dead_close_parenthesis, dead_to_end}
use Rattle.lua_grammar.proofs.ReadingTrees.{names_read, params_read}
use Rattle.lua_grammar.proofs.StillWaiting.{waits_as}
use Rattle.lua_parser_base.specs.declared.faults.ParseFault.{ParseFault}
use Rattle.lua_parser_base.specs.declared.faults.ParseFault.TheVariants.{At, Locals, Memory}
use Rattle.lua_parser_base.specs.States.{State, Takes}
use Rattle.lua_parser_base.specs.Next.{Begin, IsKind, IsName, IsNext, Misses, MissesName, ahead, first_kind}
use Rattle.lua_parser_base.specs.ReadsNames.{ReadsNames, ParametersEnd}
use Rattle.lua_parser_base.specs.Readers.{Moves, Refuses}
use Rattle.lua_parser_base.specs.StatementRefusals.{RefusesNames, RefusesParameters}
use Rattle.lua_parser_base.proofs.Moving.{by_token, dead_stuck, fails, on, refused_on, waits_before}
use Rattle.lua_parser_base.proofs.Printed.{after_on, names_moves, over}

-- ---- what a fault says

-- no such token is next, and the reader fails at the one that is
pub missed_by : (line : ℕ) (P : TokenKind → Type 0) (r : Reader) (s t : State) → Misses P s t line → ((l : ℕ) → feed r (ahead s) l ≡ failed) → IsWaiting r → Refuses (At line) r s t
missed_by line P r s t m none waits = subst (λ z. Refuses (At line) r s z) (sym m.same) (record { sticks = fails (At line) r s none waits; reports = m.reported })

-- too many locals
pub too_many : (line : ℕ) (r : Reader) (s : State) → IsDead r → Refuses (Locals line) r s s
too_many line r s dead = record { sticks = dead_stuck (Locals line) r s (λ b c. c) dead tt; reports = tt }

no_name_ahead : (left : List Lexeme) → (Begin IsName left → ⊥) → IsName (first_kind left) → ⊥
no_name_ahead [] missing = λ is. is
no_name_ahead (first ∷ after) missing = missing

-- ---- names

-- a list of names only grows
names_longer : (ns those : NameList) → NamesFrom ns those → length (names_of ns) ≤ length (names_of those)
names_longer ns those NamesFrom.alone = omega arith
names_longer ns those (NamesFrom.more a c l n from) =
    let h = names_longer ns a from in
    let e = length-append (names_of a) (n ∷ []) in
    omega (arith, h, e)

next_name_fails : (ns : NameList) (c : Line) (k : NameList → Reader) (kind : TokenKind) (l : Line) → (IsName kind → ⊥) → next_name ns c k no_rest kind l ≡ failed
next_name_fails ns c k (NameKind n) l h = absurd (h tt)
next_name_fails ns c k (SignKind Ellipsis) l h = refl
next_name_fails ns c k kind l h = refl

-- over names and a comma
over_comma : (ns : NameList) (r : Reader) (k : NameList → Reader) (vararg : NameList → Line → Line → Reader) (s m n : State) (line : ℕ) → s.left ≡ print_names ns m.left →
    ((b : Bytes) (l : Line) → feed r (NameKind b) l ≡ more_names (tree.first_name l b) k vararg) → Takes (SignKind Comma) line m n →
    Moves r s (token (next_name ns line k vararg)) n
over_comma ns r k vararg s m n line printed begins comma =
    on (names_moves ns r k vararg s m printed begins) (by_token (more_names ns k vararg) (SignKind Comma) line m n comma)

pub first_name_refused : (taken : ℕ) (fault : ParseFault) (s t : State) → MissesName taken s t fault → RefusesNames taken s t fault
first_name_refused taken (At line) s t m = λ r k begins none suppose.
    missed_by line IsName r s t m (λ l. none l (no_name_ahead s.left m.missing)) (waits_before r (NameKind []) 1 (waits_as _ (more_names (tree.first_name 1 []) k no_rest) (begins [] 1) tt))
first_name_refused taken (Locals line) s t (name, next, many) = λ r k begins none suppose.
    refused_on (by_token r (NameKind name) line s t next)
    (too_many line (feed r (NameKind name) line) t (subst IsDead (sym (begins name line)) (λ those from.
    let long = names_longer (tree.first_name line name) those from in
    (suppose those (omega (arith, long, many)), λ c d. tt))))
first_name_refused taken Memory s t m = λ r k begins none suppose. absurd suppose
first_name_refused taken other s t m = absurd m

pub next_name_refused : (taken count : ℕ) (fault : ParseFault) (s m n t : State) (names : List Bytes) (line : ℕ) → ReadsNames [] s names m → Takes (SignKind Comma) line m n →
    count ≡ taken + length names → MissesName count n t fault → RefusesNames taken s t fault
next_name_refused taken count (At line) s m n t names c read comma same missing = λ r k begins none suppose.
    refused_on (over_comma read.tree r k no_rest s m n c read.printed begins comma)
    (missed_by line IsName _ n t missing (λ l. next_name_fails read.tree c k (ahead n) l (no_name_ahead n.left missing.missing)) tt)
next_name_refused taken count (Locals line) s m n t names c read comma same (name, next, many) = λ r k begins none suppose.
    refused_on (on (over_comma read.tree r k no_rest s m n c read.printed begins comma) (by_token (token (next_name read.tree c k no_rest)) (NameKind name) line n t next))
    (too_many line (more_names (tree.next_name read.tree c line name) k no_rest) t (λ those from.
    let long = names_longer (tree.next_name read.tree c line name) those from in
    let one = length-append (names_of read.tree) (name ∷ []) in
    let all : length names ≡ length (names_of read.tree) = ap length read.listed in
    (suppose those (omega (arith, long, many, one, all, same)), λ c d. tt)))
next_name_refused taken count Memory s m n t names c read comma same missing = λ r k begins none suppose. absurd suppose
next_name_refused taken count other s m n t names c read comma same missing = absurd missing

-- ---- parameters

params_fails : (o : Line) (k : FuncBody → Reader) (kind : TokenKind) (l : Line) → (IsName kind → ⊥) → (IsKind (SignKind CloseParenthesis) kind → ⊥) → (IsKind (SignKind Ellipsis) kind → ⊥) →
    params o k kind l ≡ failed
params_fails o k (NameKind n) l name close dots = absurd (name tt)
params_fails o k (SignKind CloseParenthesis) l name close dots = absurd (close refl)
params_fails o k (SignKind Ellipsis) l name close dots = absurd (dots refl)
params_fails o k kind l name close dots = refl

params_fail_there : (o : Line) (k : FuncBody → Reader) (left : List Lexeme) (l : Line) → (Begin IsName left → ⊥) → (Begin (IsKind (SignKind CloseParenthesis)) left → ⊥) →
    (Begin (IsKind (SignKind Ellipsis)) left → ⊥) → params o k (first_kind left) l ≡ failed
params_fail_there o k [] l name close dots = refl
params_fail_there o k (first ∷ after) l name close dots = params_fails o k first.kind l name close dots

-- after names
abbrev close_names : Line → (FuncBody → Reader) → NameList → Reader
close_names o k ns = token (close_parenthesis (body_after o k (tree.names ns)))

abbrev close_vararg : Line → (FuncBody → Reader) → NameList → Line → Line → Reader
close_vararg o k ns c d = token (close_parenthesis (body_after o k (tree.names_and_vararg ns c d)))

next_param_fails : (ns : NameList) (c : Line) (o : Line) (k : FuncBody → Reader) (kind : TokenKind) (l : Line) → (IsName kind → ⊥) → (IsKind (SignKind Ellipsis) kind → ⊥) →
    next_name ns c (close_names o k) (close_vararg o k) kind l ≡ failed
next_param_fails ns c o k (NameKind n) l name dots = absurd (name tt)
next_param_fails ns c o k (SignKind Ellipsis) l name dots = absurd (dots refl)
next_param_fails ns c o k kind l name dots = refl

next_param_fails_there : (ns : NameList) (c : Line) (o : Line) (k : FuncBody → Reader) (left : List Lexeme) (l : Line) → (Begin IsName left → ⊥) →
    (Begin (IsKind (SignKind Ellipsis)) left → ⊥) → next_name ns c (close_names o k) (close_vararg o k) (first_kind left) l ≡ failed
next_param_fails_there ns c o k [] l name dots = refl
next_param_fails_there ns c o k (first ∷ after) l name dots = next_param_fails ns c o k first.kind l name dots

-- a function with too many parameters
abbrev Crowded : List Bytes → Line → (FuncBody → Reader) → Type 0
Crowded first o k = (ps : Params) (c : Line) (b : Block) (e : Line) → 200 < length (first ++ names_of_params ps) → IsDead (k (tree.function_body o ps c b e))

dead_close : (first : List Bytes) (o : Line) (k : FuncBody → Reader) (ps : Params) → Crowded first o k → 200 < length (first ++ names_of_params ps) →
    (kind : TokenKind) (l : Line) → IsDead (close_parenthesis (body_after o k ps) kind l)
dead_close first o k ps crowded many =
    dead_close_parenthesis (body_after o k ps) (λ c. dead_to_end (λ b e. k (tree.function_body o ps c b e)) (λ b e. crowded ps c b e many))

dead_names : (first : List Bytes) (o : Line) (k : FuncBody → Reader) (ns : NameList) → Crowded first o k → 200 < length first + length (names_of ns) →
    IsDead (more_names ns (close_names o k) (close_vararg o k))
dead_names first o k ns crowded many those from =
    let long = names_longer ns those from in
    let all = length-append first (names_of those) in (
      dead_close first o k (tree.names those) crowded (omega (arith, long, all, many)),
      λ c d. dead_close first o k (tree.names_and_vararg those c d) crowded (omega (arith, long, all, many)),
    )

pub first_parameter_refused : (first : List Bytes) (count : ℕ) (fault : ParseFault) (s t : State) → (IsNext (SignKind CloseParenthesis) s → ⊥) → (IsNext (SignKind Ellipsis) s → ⊥) →
    count ≡ length first → MissesName count s t fault → RefusesParameters first s t fault
first_parameter_refused first count (At line) s t close dots same m = λ o k suppose.
    missed_by line IsName _ s t m (λ l. params_fail_there o k s.left l m.missing close dots) tt
first_parameter_refused first count (Locals line) s t close dots same (name, next, many) = λ o k suppose.
    refused_on (by_token (token (params o k)) (NameKind name) line s t next)
    (too_many line (more_names (tree.first_name line name) (close_names o k) (close_vararg o k)) t
    (dead_names first o k (tree.first_name line name) suppose (omega (arith, many, same))))
first_parameter_refused first count Memory s t close dots same m = λ o k suppose. absurd suppose
first_parameter_refused first count other s t close dots same m = absurd m

-- from the first parameter over the others and a comma
over_parameters : (ns : NameList) (o : Line) (k : FuncBody → Reader) (s m n : State) (line : ℕ) → s.left ≡ print_names ns m.left → Takes (SignKind Comma) line m n →
    Moves (token (params o k)) s (token (next_name ns line (close_names o k) (close_vararg o k))) n
over_parameters ns o k s m n line printed comma = over_comma ns (token (params o k)) (close_names o k) (close_vararg o k) s m n line printed (λ b l. refl) comma

pub next_parameter_refused : (first : List Bytes) (count : ℕ) (fault : ParseFault) (s m n t : State) (names : List Bytes) (line : ℕ) → ReadsNames first s names m →
    Takes (SignKind Comma) line m n → (IsNext (SignKind Ellipsis) n → ⊥) → count ≡ length names → MissesName count n t fault → RefusesParameters first s t fault
next_parameter_refused first count (At line) s m n t names c read comma dots same missing = λ o k suppose.
    refused_on (over_parameters read.tree o k s m n c read.printed comma)
    (missed_by line IsName _ n t missing (λ l. next_param_fails_there read.tree c o k n.left l missing.missing dots) tt)
next_parameter_refused first count (Locals line) s m n t names c read comma dots same (name, next, many) = λ o k suppose.
    refused_on (on (over_parameters read.tree o k s m n c read.printed comma) (by_token (token (next_name read.tree c (close_names o k) (close_vararg o k))) (NameKind name) line n t next))
    (too_many line (more_names (tree.next_name read.tree c line name) (close_names o k) (close_vararg o k)) t
    (dead_names first o k (tree.next_name read.tree c line name) suppose (
    let one = length-append (names_of read.tree) (name ∷ []) in
    let all : length names ≡ length (first ++ names_of read.tree) = ap length read.listed in
    let both = length-append first (names_of read.tree) in
    omega (arith, many, one, all, both, same))))
next_parameter_refused first count Memory s m n t names c read comma dots same missing = λ o k suppose. absurd suppose
next_parameter_refused first count other s m n t names c read comma dots same missing = absurd missing

-- over parameters, up to their `)`
close_names_run : (ns : NameList) (o : Line) (k : FuncBody → Reader) (xs : List Lexeme) → ComesNext IsNoComma xs →
    run (token (params o k)) (print_names ns xs) ≡ run (close_names o k ns) xs
close_names_run ns o k xs last = names_read ns _ (close_names o k) (close_vararg o k) xs (λ b l. refl) ∙ names_end ns (close_names o k) (close_vararg o k) xs last

pub parameters_moved : (ps : Params) (o : Line) (k : FuncBody → Reader) (s t : State) → s.left ≡ print_params ps t.left → ParametersEnd ps (ahead t) →
    (ahead t ≡ SignKind CloseParenthesis → ⊥) → Moves (token (params o k)) s (token (close_parenthesis (body_after o k ps))) t
parameters_moved tree.no_params o k s t printed ends not = absurd (not ends)
parameters_moved (tree.names ns) o k s t printed ends not =
    over (print_names ns) _ _ s t (names_before ns) printed (λ xs h. close_names_run ns o k xs (after_on IsNoComma t.left xs h ends))
    (λ w. waits_as _ (more_names ns (close_names o k) (close_vararg o k)) (names_read ns _ (close_names o k) (close_vararg o k) [] (λ b l. refl)) tt)
parameters_moved (tree.names_and_vararg ns c d) o k s t printed ends not =
    over (print_params (tree.names_and_vararg ns c d)) _ _ s t (params_before (tree.names_and_vararg ns c d)) printed (λ xs h.
    names_read ns _ (close_names o k) (close_vararg o k) _ (λ b l. refl))
    (λ w. waits_as _ (close_vararg o k ns c d) (names_read ns _ (close_names o k) (close_vararg o k) (a_sign Comma c (a_sign Ellipsis d [])) (λ b l. refl)) tt)
parameters_moved (tree.only_vararg d) o k s t printed ends not =
    over (print_params (tree.only_vararg d)) _ _ s t (params_before (tree.only_vararg d)) printed (λ xs h. refl) (λ w. tt)

-- over parameters and their `)`
pub over_parameters_and_close : (ps : Params) (o : Line) (k : FuncBody → Reader) (s m t : State) (c : ℕ) → s.left ≡ print_params ps m.left →
    Takes (SignKind CloseParenthesis) c m t → Moves (token (params o k)) s (body_after o k ps c) t
over_parameters_and_close ps o k s m t c printed close =
    over (λ xs. print_params ps (a_sign CloseParenthesis c xs)) _ _ s t (record { splits = λ xs ys. (params_before ps).splits (a_sign CloseParenthesis c xs) ys })
    (printed ∙ ap (print_params ps) close.printed) (λ xs h. params_read ps o k c xs) (λ w. waits_as _ (body_after o k ps c) (params_read ps o k c []) tt)
