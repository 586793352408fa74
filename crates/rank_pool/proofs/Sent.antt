-- A worker may go to another thread where its jobs may, and so may what goes through the queue.
use denote.RattleType.{RattleType}
use denote.Param.Send.{IsSend, sendable}
use Rattle.std.proofs.Crossing.{crosses, send, frees}
use Rattle.std.specs.contracts.alloc.Global as Heap
use Rattle.std.specs.contracts.impls.GlobalAllocator.TheImpl.{ghosts}
use Rattle.std.specs.contracts.collections.LinkedList as LinkedList
use Rattle.std.proofs.collections.LinkedList.TheSendSync as list
use Rattle.atomic_table.proofs.shared.Seat.TheSendSync as seat
use Rattle.rank_pool.specs.declared.job.Job as job
use Rattle.rank_pool.specs.contracts.ticket.Parcel as Parcel
use Rattle.rank_pool.specs.contracts.ticket.Ticket as Ticket
use Rattle.rank_pool.specs.contracts.worker.Worker as Worker

-- a ticket may go where its job may
pub ticket_send : (J S : RattleType) → IsSend J → IsSend (Ticket.the_row J S)
ticket_send A S j = search (sendable, crosses) depth 30

-- a list may go where its values may
pub list_send : (T : RattleType) → IsSend T → IsSend (LinkedList.the_row T Heap.the_row ghosts)
list_send T s = list.the_send T Heap.the_row ghosts s send frees

-- a ticket in a block of its own may go where its job may
pub parcel_send : (J S : RattleType) (g : job.Ghosts J.Denot S.Denot) → IsSend J → IsSend (Parcel.the_row J S g)
parcel_send A S g j = let t = ticket_send A S j in let l = list_send (Ticket.the_row A S) t in search (sendable, crosses) depth 30

-- a worker may go where its jobs may
pub worker_send : (J S : RattleType) (g : job.Ghosts J.Denot S.Denot) → IsSend J → IsSend (Worker.the_row J S g)
worker_send A S g j = let t = ticket_send A S j in let l = list_send (Ticket.the_row A S) t in search (sendable, crosses, seat.the_send) depth 30
