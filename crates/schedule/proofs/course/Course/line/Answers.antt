use Rattle.std.proofs.Common.{◌<◌, length, refl, ap, arith}
use Rattle.std.proofs.lemmas.Option.{slice_get_read}
use Rattle.schedule.proofs.course.Course.line.Goals as goal

pub returns-clause-fits : goal.returns-clause-fits
returns-clause-fits c =
    let lines = c.as_slice-lines.result.now in
    let within : c.args.index < length lines = omega (arith, ap length c.as_slice-lines.ensures, ap length c.self.view_is) in
    let here = slice_get_read lines (length lines) c.args.index c.index-lines-index.result refl within c.index-lines-index.is in
    rw (← c.self.view_is) (c.self.invariant.fit c.args.index c.index-lines-index.result (rw c.as_slice-lines.ensures at here))
