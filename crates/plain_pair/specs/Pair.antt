-- A pair of one thread as contracts see it.
use Rattle.plain_pair.specs.declared.pair.PlainPair.TheInside.{Inside}
use Rattle.plain_pair.specs.Kept.{Kept}
use Rattle.plain_pair.specs.Sound.{IsSound}

abbrev pub kept_of : Inside → Kept
kept_of p = record {
  shape = p.tables;
  sent = p.sent;
  received = p.received;
  released = p.released;
  sending = p.sending;
  receiving = p.receiving;
  marked = p.marked.items;
  taken = p.taken.items;
  back = p.back.items;
  buffers = p.buffers.items;
}

abbrev pub IsPair : Inside → Type 0
IsPair p = IsSound (kept_of p) p.missing.items
