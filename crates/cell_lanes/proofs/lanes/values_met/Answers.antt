use Rattle.std.proofs.Common.{◌+◌, ◌*◌, refl, arith}
use Rattle.cell_lanes.specs.Window.{met}
use Rattle.cell_lanes.proofs.TwoFacts.{two-back}
use Rattle.cell_lanes.proofs.WindowFacts.{value-at, met-two}
use Rattle.cell_lanes.proofs.lanes.values_met.Goals as goal

pub returns : goal.returns
returns c =
    two-back _ (λ i. met c.args.window.now c.args.width (c.args.x + i) c.args.a c.args.b)
    (met-two c.args.window.now c.args.width c.args.x c.args.a c.args.b _ refl c.requires.place)
    (λ i. let q = value-at c.args.window.now (c.args.a * c.args.width + (c.args.x + i + c.args.b)) c.requires.values in omega arith)
