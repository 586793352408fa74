-- The marks of a range and of a list: one mark after another, until one is refused (MPI 4.0, 4.2.2).
use Rattle.std.specs.Prelude.{ℕ, ◌+◌, ◌-◌, ◌*◌, ◌||◌, ◌==◌, not, nat_lt, if◌then◌else◌, Result, Ok, Err, Option, Some, None, is_some, List, length, map, fold, slice_index, slice_range}
use Rattle.std.specs.List.{range_with_len}
use Rattle.std.specs.Option.{option_map_or}
use Rattle.part_geometry.specs.declared.answers.Marked.{Marked}
use Rattle.part_geometry.specs.declared.answers.Marks.{Marks}
use Rattle.part_geometry.specs.Shape.{Shape}
use Rattle.plain_pair.specs.declared.answers.PlainRefusal.{PlainRefusal}
use Rattle.plain_pair.specs.declared.answers.PlainRefusal.TheVariants.{BadLength, BadRange}
use Rattle.plain_pair.specs.declared.answers.PlainStop.{PlainStop}
use Rattle.plain_pair.specs.Record.{Record}
use Rattle.plain_pair.specs.Moves.{marked, pready_answer}

-- the i-th of the parts that bytes are cut into, one part for each entry
abbrev pub part_of : Shape → List ℕ → ℕ → List ℕ
part_of g bytes i = slice_range bytes (i * g.send_bytes) (i * g.send_bytes + g.send_bytes)

-- each partition that is to be marked, with its part of the bytes
abbrev pub entries : Shape → List ℕ → List ℕ → List (ℕ × List ℕ)
entries g parts bytes = map (λ i. (slice_index parts i, part_of g bytes i)) (range_with_len 0 (length parts))

-- how far the marks came: the record after them, how many partitions were marked, how many pieces these marks sent
-- out, and why the next one was refused
pub record Progress : Type 0 where
  pub after : Record
  pub count : ℕ
  pub sent : ℕ
  pub refused : Option PlainRefusal

abbrev pub no_progress : Record → Progress
no_progress r = record { after = r; count = 0; sent = 0; refused = None }

-- a mark is counted, and a refusal ends the call
abbrev pub counted : Progress → Record → Result Marked PlainRefusal → Progress
counted done next (Ok m) = record { after = next; count = done.count + 1; sent = done.sent + m.sent; refused = None }
counted done next (Err cause) = record done { refused = Some cause }

abbrev pub mark_one_more : Shape → ℕ → Progress → ℕ × List ℕ → Progress
mark_one_more g k done e =
    if is_some done.refused then done
    else counted done (marked done.after e.0 e.1) (pready_answer g done.after k e.0 e.1)

-- the entries, marked in order
abbrev pub progress : Shape → Record → ℕ → List (ℕ × List ℕ) → Progress
progress g r k es = fold (mark_one_more g k) (no_progress r) es

-- what is answered at the end of the marks
abbrev pub told : ℕ → Progress → Result Marks PlainStop
told k done =
    option_map_or (λ cause. Err record { at = done.count; cause = cause }) done.refused
    (Ok record { round = k; count = done.count; sent = done.sent })

-- a list is refused as a whole where the bytes aren't as many as its entries have
abbrev pub whole_length : Shape → List ℕ → List ℕ → Option PlainRefusal
whole_length g parts bytes = if length bytes == length parts * g.send_bytes then None else Some BadLength

-- and a range before that where it has no partition or ends past the last one
abbrev pub whole_range : Shape → ℕ → ℕ → List ℕ → List ℕ → Option PlainRefusal
whole_range g low high parts bytes =
    if nat_lt high low || not (nat_lt high g.send_parts) then Some BadRange else whole_length g parts bytes

-- the progress of a call, which is none where it is refused as a whole
abbrev pub progress_unless : Option PlainRefusal → Shape → Record → ℕ → List (ℕ × List ℕ) → Progress
progress_unless (Some cause) g r k es = record { after = r; count = 0; sent = 0; refused = Some cause }
progress_unless None g r k es = progress g r k es

-- the partitions from low to high, both included
abbrev pub range_parts : ℕ → ℕ → List ℕ
range_parts low high = range_with_len low (high + 1 - low)

abbrev pub range_progress : Shape → Record → ℕ → ℕ → ℕ → List ℕ → Progress
range_progress g r k low high bytes =
    progress_unless (whole_range g low high (range_parts low high) bytes) g r k (entries g (range_parts low high) bytes)

abbrev pub list_progress : Shape → Record → ℕ → List ℕ → List ℕ → Progress
list_progress g r k parts bytes = progress_unless (whole_length g parts bytes) g r k (entries g parts bytes)

-- the answers, and the records after the calls
abbrev pub pready_range_answer : Shape → Record → ℕ → ℕ → ℕ → List ℕ → Result Marks PlainStop
pready_range_answer g r k low high bytes = told k (range_progress g r k low high bytes)

abbrev pub after_pready_range : Shape → Record → ℕ → ℕ → ℕ → List ℕ → Record
after_pready_range g r k low high bytes = (range_progress g r k low high bytes).after

abbrev pub pready_list_answer : Shape → Record → ℕ → List ℕ → List ℕ → Result Marks PlainStop
pready_list_answer g r k parts bytes = told k (list_progress g r k parts bytes)

abbrev pub after_pready_list : Shape → Record → ℕ → List ℕ → List ℕ → Record
after_pready_list g r k parts bytes = (list_progress g r k parts bytes).after
