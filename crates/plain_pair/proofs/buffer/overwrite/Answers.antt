use Rattle.plain_pair.proofs.Writing.{put_mid-written}
use Rattle.plain_pair.proofs.buffer.overwrite.Goals as goal

pub returns : goal.returns
returns c = put_mid-written _ _ _ _ c.copy_from_slice.ensures.after
