use Rattle.std.proofs.Common.{◌≡◌, ◌≤◌, ◌-◌, ◌++◌, [], length, map, take}
use Rattle.csv.specs.Records.{fields_of}
use Rattle.grid_text.specs.Faults.{field_faults, numbered, value_of}
use Rattle.grid_text.proofs.rows.push_numbers.Given as goal

abbrev pub invariant-loop-field : goal.invariant-loop-field
invariant-loop-field l = record {
  within : l.col ≤ length (fields_of l.fields);
  values : l.values.items ≡ l.initial.values.items ++ map value_of (take l.col (fields_of l.fields));
  faultless : numbered (field_faults l.limit l.row) (take l.col (fields_of l.fields)) ≡ [];
}

abbrev pub decreases-loop-field : goal.decreases-loop-field
decreases-loop-field l = length (fields_of l.fields) - l.col
