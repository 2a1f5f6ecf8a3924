use Rattle.std.specs.Prelude.{Some}
use Rattle.std.proofs.Common.{◌≡◌, length, drop, take, ap, sym, ◌∙◌, rules}
use Rattle.http_bodies.specs.Skips.{skipped}
use Rattle.client_line.specs.Lines.{taken_count}
use Rattle.client_line.specs.Views.{taken_of}
use Rattle.client_line.proofs.Taking.{takes-some}
use Rattle.client_line.proofs.bodies.read_on.Goals as goal

pub returns-in-Some-clause-taken : goal.returns-in-Some-clause-taken
returns-in-Some-clause-taken c not =
    let bytes = c.args.held.now.items in
    let some : taken_of c.feed-read.result (length bytes) ≡ Some c.in-Some.count = search rules in
    let left : c.advance.new.bytes.items ≡ drop c.in-Some.count bytes = search rules in
    let count : taken_count c.args.body.now bytes ≡ c.in-Some.count = takes-some c.args.body.now bytes c.feed-read.result c.in-Some.count (search rules) some in
    left ∙ ap (λ n. drop n bytes) (sym count)

pub returns-in-Some-clause-skipped : goal.returns-in-Some-clause-skipped
returns-in-Some-clause-skipped c not =
    let bytes = c.args.held.now.items in
    let some : taken_of c.feed-read.result (length bytes) ≡ Some c.in-Some.count = search rules in
    let moved : c.skip-next.result.0 ≡ skipped c.args.skips.now (take c.in-Some.count bytes) = search rules in
    let count : taken_count c.args.body.now bytes ≡ c.in-Some.count = takes-some c.args.body.now bytes c.feed-read.result c.in-Some.count (search rules) some in
    moved ∙ ap (λ n. skipped c.args.skips.now (take n bytes)) (sym count)
