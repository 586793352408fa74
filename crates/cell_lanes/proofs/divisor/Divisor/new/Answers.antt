use Rattle.std.proofs.Common.{sym, subst, ◌<◌, ◌-◌, ◌/◌, w64, unsigned_abs, to_z, of_z}
use Rattle.cell_lanes.proofs.ReciprocalFacts.{cast-size, made-fits, scale-is}
use Rattle.cell_lanes.proofs.divisor.Divisor.new.Goals as goal

pub overflow_cast-result-2 : goal.overflow_cast-result-2
overflow_cast-result-2 c =
    let k = c.ilog2-shift.result in
    let v = unsigned_abs (to_z w64 (of_z w64 c.args.value)) in
    record { fits = subst (λ n. (n - 1) / v < 18446744073709551616) (sym (scale-is k c.ilog2-shift.ensures.bound)) (made-fits v k c.ilog2-shift.ensures.power_le (cast-size c.args.value c.requires).0) }
