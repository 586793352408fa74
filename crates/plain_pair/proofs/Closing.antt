-- What a closed pair tells is what its records say: the pieces out, reckoned by what is missing of each, are those of
-- the record.
use Rattle.std.proofs.Common.{◌≡◌, ℕ, ◌+◌, ◌-◌, ◌*◌, ◌≤◌, ◌==◌, if◌then◌else◌, List, length, count_by, ap, ◌∙◌, arith}
use Rattle.part_geometry.specs.declared.TheConstants.{MAX_TOTAL}
use Rattle.part_geometry.proofs.Bounds.{cells-le}
use Rattle.part_geometry.proofs.PieceFacts.{pieces-le}
use Rattle.plain_pair.specs.Record.{Record}
use Rattle.plain_pair.specs.Kept.{Kept}
use Rattle.plain_pair.specs.Sound.{IsSound}
use Rattle.plain_pair.specs.StandsFor.{StandsFor}
use Rattle.plain_pair.specs.Closing.{closed_answer}
use Rattle.plain_pair.proofs.Outs.{out-missing}

-- the counts of what is missing, one a piece, are at most as many as a message has bytes
pub few_missing : (k : Kept) (missing passed : List ℕ) → IsSound k missing → passed ≡ missing → length passed ≤ MAX_TOTAL
few_missing k missing passed s same =
    let e = ap length same in let size = s.sizes.missing_size in
    let p = pieces-le k.shape in let c = cells-le k.shape s.shape in let l = s.shape.length in omega arith

-- the numbers that a closed pair tells are those of each record that it stands for
pub closed_is : (k : Kept) (missing passed : List ℕ) (out : ℕ) → IsSound k missing → passed ≡ missing
    → out ≡ (if k.sent == 0 then 0 else (k.sent - 1) * length passed + count_by (λ m. m == 0) passed)
    → (r : Record) → StandsFor k r
    → record { send_round = k.sent; recv_round = k.received; released = k.released; pieces_out = out } ≡ closed_answer k.shape r
closed_is k missing passed out s same is r st =
    let all = is ∙ ap (λ xs. if k.sent == 0 then 0 else (k.sent - 1) * length xs + count_by (λ m. m == 0) xs) same ∙ out-missing k missing s ∙ st.out in
    λ i. record { send_round = st.sent i; recv_round = st.received i; released = st.released i; pieces_out = all i }
