use Rattle.std.proofs.Common.{◌∙◌, refl, sym, arith, rules}
use Rattle.std.proofs.lemmas.Bool.{eq-eqb}
use Rattle.part_geometry.proofs.MakingFacts.{parts_kept, totals_fit, shape_of}
use Rattle.part_geometry.proofs.geometry.Geometry.new.Goals as goal

pub overflow_mul-send_total : goal.overflow_mul-send_total
overflow_mul-send_total c = let t = totals_fit c.args.send_parts c.args.send_bytes c.args.recv_parts c.args.recv_bytes (sym c.check_parts.ensures ∙ c.in_ok-check_parts.was) in omega arith

pub overflow_mul-recv_total : goal.overflow_mul-recv_total
overflow_mul-recv_total c = let t = totals_fit c.args.send_parts c.args.send_bytes c.args.recv_parts c.args.recv_bytes (sym c.check_parts.ensures ∙ c.in_ok-check_parts.was) in omega arith

pub returns-then-not-both_in-clause-exact : goal.returns-then-not-both_in-clause-exact
returns-then-not-both_in-clause-exact c =
    let p = parts_kept c.args.send_parts c.args.send_bytes c.args.recv_parts c.args.recv_bytes (sym c.check_parts.ensures ∙ c.in_ok-check_parts.was) in
    rw (p.0, p.1, sym c.if-not-both_in.ensures) refl

pub returns-then-send_total-recv_total-clause-exact : goal.returns-then-send_total-recv_total-clause-exact
returns-then-send_total-recv_total-clause-exact c = search rules

pub returns-then-not-both_in-2-clause-exact : goal.returns-then-not-both_in-2-clause-exact
returns-then-not-both_in-2-clause-exact c =
    let p = parts_kept c.args.send_parts c.args.send_bytes c.args.recv_parts c.args.recv_bytes (sym c.check_parts.ensures ∙ c.in_ok-check_parts.was) in
    rw (p.0, p.1, sym c.if-not-both_in.ensures, eq-eqb _ _ c.if-send_total-recv_total.false, sym c.if-not-both_in-2.ensures) refl

pub returns-then-not-both_in-3-clause-exact : goal.returns-then-not-both_in-3-clause-exact
returns-then-not-both_in-3-clause-exact c =
    let p = parts_kept c.args.send_parts c.args.send_bytes c.args.recv_parts c.args.recv_bytes (sym c.check_parts.ensures ∙ c.in_ok-check_parts.was) in
    rw (p.0, p.1, sym c.if-not-both_in.ensures, eq-eqb _ _ c.if-send_total-recv_total.false, sym c.if-not-both_in-2.ensures, sym c.if-not-both_in-3.ensures) refl

pub invariant_of-result : goal.invariant_of-result
invariant_of-result c =
    shape_of _ (sym c.check_parts.ensures ∙ c.in_ok-check_parts.was) (sym c.if-not-both_in.ensures) c.if-send_total-recv_total.false
    (sym c.if-not-both_in-2.ensures) (sym c.if-not-both_in-3.ensures)

pub returns-clause-exact : goal.returns-clause-exact
returns-clause-exact c =
    let p = parts_kept c.args.send_parts c.args.send_bytes c.args.recv_parts c.args.recv_bytes (sym c.check_parts.ensures ∙ c.in_ok-check_parts.was) in
    rw (p.0, p.1, sym c.if-not-both_in.ensures, eq-eqb _ _ c.if-send_total-recv_total.false, sym c.if-not-both_in-2.ensures, sym c.if-not-both_in-3.ensures) refl

pub returns-clause-limits : goal.returns-clause-limits
returns-clause-limits c = invariant_of-result c
