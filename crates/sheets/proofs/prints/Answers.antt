-- The output stands at the buffer's start, and `==` on slices decides whether two are the same.
use Rattle.std.proofs.Common.{◌≡◌, take, sym}
use Rattle.std.proofs.lemmas.Bool.Decides.{Decides-eqb}
use Rattle.std.proofs.lemmas.List.{take_at}
use Rattle.std.proofs.lemmas.Slice.Eq.{slice_eq-Decides}
use Rattle.run.specs.Output.{output}
use Rattle.sheets.proofs.prints.Goals as goal

pub returns : goal.returns
returns c =
    let printed = c.print_sheet-end.ensures in
    let starts : take c.print_sheet-end.result c.print_sheet-end.new.out ≡ output c.args.sheet.now = rw printed.printed (take_at _ _ _ (sym printed.counted)) in
    rw (← starts) (slice_eq-Decides Decides-eqb _ _ _ c.eq.ensures)
