-- The texts that a grid is printed as.
use Rattle.std.specs.Prelude.{ℕ, ◌+◌, ◌%◌, ◌==◌, if◌then◌else◌, ℤ, pos, ◌+ℤ◌, ◌*ℤ◌, List, [], ◌∷◌, ◌++◌, map, fold}
use Rattle.std.specs.Prelude.{codes, slice_index_or}
use Rattle.std.specs.Fmt.{decimal, signed_decimal}
use Rattle.std.specs.Int.{int_max, int_min}
use Rattle.std.specs.List.{enumerate_from, flat_map, join_with_byte, range_with_len}
use Rattle.stencil_def.specs.Plane.{Plane, row_of}

-- the comma before the number in a column, counted from 0
abbrev pub comma_before : ℕ → List ℕ
comma_before col = if col == 0 then [] else 44 ∷ []

-- the numbers of a row with a comma between each two, and an LF
unfoldable pub row_text : List ℤ → List ℕ
row_text values = join_with_byte 44 (map signed_decimal values) ++ 10 ∷ []

-- the rows of a grid
unfoldable pub grid_text : Plane → List ℕ
grid_text g = flat_map (λ row. row_text (row_of g row)) (range_with_len 0 g.rows)

-- the sum
abbrev pub total : List ℤ → ℤ
total values = fold ◌+ℤ◌ (pos 0) values

-- the least and the greatest
abbrev pub least : List ℤ → ℤ
least values = fold int_min (slice_index_or values 0 (pos 0)) values

abbrev pub greatest : List ℤ → ℤ
greatest values = fold int_max (slice_index_or values 0 (pos 0)) values

-- the value at place n, counted from 0, n mod 1000 + 1 times
abbrev pub weighted : ℕ → ℤ → ℤ
weighted n value = pos (n % 1000 + 1) *ℤ value

-- the sum in which the values count so often
abbrev pub check_sum : List ℤ → ℤ
check_sum values = fold (λ sum p. sum +ℤ weighted p.0 p.1) (pos 0) (enumerate_from 0 values)

-- the first line of the summary, without its LF
unfoldable pub head_text : ℕ → ℕ → ℕ → List ℕ
head_text rows cols steps =
    codes "grid " ++ decimal rows ++ codes " " ++ decimal cols ++ codes " steps " ++ decimal steps

-- its LF and the other lines
unfoldable pub tail_text : List ℤ → List ℕ
tail_text values =
    codes "\nsum " ++ signed_decimal (total values)
    ++ codes "\nmin " ++ signed_decimal (least values)
    ++ codes "\nmax " ++ signed_decimal (greatest values)
    ++ codes "\ncheck " ++ signed_decimal (check_sum values)
    ++ codes "\n"

-- the five lines of the summary of a grid after a number of steps
unfoldable pub summary_text : Plane → ℕ → List ℕ
summary_text g steps = head_text g.rows g.cols steps ++ tail_text g.values
