use Rattle.std.proofs.Common.{ℕ}
use denote.Param.{param}
use denote.Param.Send.{IsSend, param_send, sendable}
use Rattle.std.proofs.Crossing.{crosses}
use Rattle.crossbeam_queue.proofs.array_queue.Slotted.TheSendSync as queue
use Rattle.rank_pool.specs.contracts.ticket.Parcel as Parcel
use Rattle.rank_pool.proofs.Sent.{parcel_send, worker_send}
use Rattle.rank_pool.proofs.threads.run_workers.Goals as goal

-- the row at the call has other lifetimes, so it isn't the same term, but its two facts are
pub for_each_mut-requires-send-T : goal.for_each_mut-requires-send-T
for_each_mut-requires-send-T g c κs within =
    let s = param_send 1 _ (worker_send (param 0 g.row.J) (param 3 g.row.J-Shared) g.J.Job (param_send 0 _ c.type_bounds.send-J)) in
    record { owned = s.owned; leaving = s.leaving }

pub for_each_mut-requires-sync-F : goal.for_each_mut-requires-sync-F
for_each_mut-requires-sync-F g c κs within =
    let j = c.type_bounds.send-J in
    let b = c.type_bounds.sync-G in
    let r = c.type_bounds.sync-R in
    let s = c.type_bounds.sync-J-Shared in
    let p : (i k : ℕ) → IsSend (Parcel.the_row (param i g.row.J) (param k g.row.J-Shared) g.J.Job) = λ i k. parcel_send (param i g.row.J) (param k g.row.J-Shared) g.J.Job (param_send i _ c.type_bounds.send-J) in
    search (queue.the_sync, p, sendable, crosses) depth 40
