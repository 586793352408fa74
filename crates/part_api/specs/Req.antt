-- A request as contracts see it.
use Rattle.part_geometry.specs.declared.answers.Side.{Side}
use Rattle.part_api.specs.declared.request.ReqState.{ReqState}

pub record Req : Type 0 where
  pub side : Side
  pub state : ReqState
