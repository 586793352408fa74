use Rattle.stencil_top.proofs.Output.{tiles_last}
use Rattle.stencil_top.proofs.stencil.run.Goals as goal

pub returns-in-Ranks-clause-last : goal.returns-in-Ranks-clause-last
returns-in-Ranks-clause-last c = c.run_in_ranks.ensures.last

pub returns-in-Tiles-clause-last : goal.returns-in-Tiles-clause-last
returns-in-Tiles-clause-last c =
    tiles_last c.args.words.now c.args.inputs.now c.args.rule c.args.sharing c.in-Tiles.plan c.run_in_tiles.result
    c.requires.limits c.requires.sharing c.in-Tiles.is c.run_in_tiles.ensures.last
