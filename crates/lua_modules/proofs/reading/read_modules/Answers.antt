use Rattle.std.proofs.Common.{refl, arith, ◌∙◌}
use Rattle.std.proofs.lemmas.Result.{err_from_is_err_and}
use Rattle.lua_modules.specs.Reading.{progress, start}
use Rattle.lua_modules.proofs.GoingOn.{all_read, reads_later, reads_start, stops_later, stops_start, well_still, well_then}
use Rattle.lua_modules.proofs.reading.read_modules.Goals as goal

pub returns-in_err-names-clause-stops : goal.returns-in_err-names-clause-stops
returns-in_err-names-clause-stops g c =
    let p = err_from_is_err_and c.from_residual.result c.from_residual.ensures.1 in
    rw (p.1, p.2) (stops_start (g.F.Files.account c.args.files.now).told c.args.pattern.now c.args.set.now c.in_err-names.field-0.0 c.in_err-names.ensures.fault)

pub loop-read-init : goal.loop-read-init
loop-read-init g c = record {
  reads = reads_start (g.F.Files.account c.args.files.now).told c.args.pattern.now c.args.set.now c.in_ok-names.names.items c.in_ok-names.ensures.found;
  few = c.in_ok-names.ensures.few;
  within = omega arith;
  well = well_still (g.F.Files.account c.args.files.now);
  blocks = refl;
  sound = λ s. s;
}

pub returns-in_err-read_next-clause-stops : goal.returns-in_err-read_next-clause-stops
returns-in_err-read_next-clause-stops g c =
    let p = err_from_is_err_and c.from_residual-in_err-read_next.result c.from_residual-in_err-read_next.ensures.1 in
    let i = c.loop-read.invariant in
    rw (p.1, p.2) (stops_later (g.F.Files.account c.args.files.now).told c.args.pattern.now (g.F.Files.account c.loop-read.files).told (start c.args.set.now)
    (progress c.loop-read.set c.loop-read.names.items c.loop-read.read) c.read_next.new.set c.in_err-read_next.field-0.0 i.well.told i.reads c.in_err-read_next.ensures.stops)

pub loop-read-preserved : goal.loop-read-preserved
loop-read-preserved g c =
    let i = c.loop-read.invariant in
    let e = c.in_ok-read_next.ensures in record {
      reads = reads_later (g.F.Files.account c.args.files.now).told c.args.pattern.now (g.F.Files.account c.loop-read.files).told (start c.args.set.now)
          (progress c.loop-read.set c.loop-read.names.items c.loop-read.read) (progress c.read_next.new.set c.read_next.new.names.items _) i.well.told i.reads e.read;
      few = e.few;
      within = omega (arith, e.grows);
      well = well_then (g.F.Files.account c.args.files.now) (g.F.Files.account c.loop-read.files) (g.F.Files.account c.read_next.new.files) i.well e.fares;
      blocks = e.blocks ∙ i.blocks;
      sound = λ s. e.sound (i.sound s);
    }

pub returns-clause-read : goal.returns-clause-read
returns-clause-read g c =
    let i = c.loop-read.invariant in
    let within = i.within in
    all_read (g.F.Files.account c.args.files.now).told c.args.pattern.now c.args.set.now c.loop-read.set c.loop-read.names.items c.loop-read.read (omega (arith, within)) i.few i.reads
