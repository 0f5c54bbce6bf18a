-- For private functions and proofs alone: where rows stand by their places and starts.
use Rattle.std.specs.Prelude.{◌≡◌, ℕ, ◌+◌, ◌*◌, ◌^◌, ◌<◌, ◌≤◌, Bool, true, ◌&&◌, nat_lt, List, [], length, position, slice_index_or, All, Option, Some, None, is_some}
use Rattle.std.specs.Str.{bytes_eq}
use Rattle.std.specs.Ordering.{nat_cmp}
use Rattle.std.specs.BTreeMap.{BTreeMap, get}
use Rattle.std.proofs.Common.{◌⊎◌}
use Rattle.graphite_time.specs.declared.interval.Interval.{Interval}
use Rattle.graphite_time.specs.Interval.{start_of, end_of, holds}
use Rattle.graphite_text.specs.declared.limits.TheConstants.{PROPERTY_LIMIT}
use Rattle.graphite_props.specs.declared.row.PropRow.{PropRow}
use Rattle.graphite_props.specs.Properties.{keys_of}
use Rattle.graphite_props.specs.Rows.{properties_of}
use Rattle.graphite_props.specs.Store.{Place, PlaceTimelines, timeline_value}
use Rattle.graphite_props.specs.Turn.{place_of, has_place}

-- a place and a start as one number, which rises with the owner first, then with the key
abbrev pub code_at : Place → ℕ → ℕ
code_at place start = place.0 * 2 ^ 96 + place.1 * 2 ^ 64 + start

abbrev pub code_of : PropRow → ℕ
code_of row = code_at (place_of row) (start_of row.over)

-- two rows of one place hold no instant together
abbrev pub IsApart : PropRow → PropRow → Type 0
IsApart x y = place_of x ≡ place_of y → (end_of x.over ≤ start_of y.over) ⊎ (end_of y.over ≤ start_of x.over)

-- the row has this place, and holds an instant of the interval
abbrev pub is_met_by : Place → Interval → PropRow → Bool
is_met_by place over row = has_place place row && (nat_lt (start_of row.over) (end_of over) && nat_lt (start_of over) (end_of row.over))

-- rows of which no two are met by each other
pub record AreRows (rows : List PropRow) : Type 0 where
  pub small : (k : ℕ) (d : PropRow) → k < length rows → (slice_index_or rows k d).key < 2 ^ 32
  pub apart : (i j : ℕ) (d : PropRow) → i < j → j < length rows → IsApart (slice_index_or rows i d) (slice_index_or rows j d)

-- each row comes behind those before it
abbrev pub AreRising : List PropRow → Type 0
AreRising rows = (i j : ℕ) (d : PropRow) → i < j → j < length rows → code_of (slice_index_or rows i d) < code_of (slice_index_or rows j d)

-- no row has the code of this one
abbrev pub IsOther : List PropRow → PropRow → Type 0
IsOther rows row = (k : ℕ) (d : PropRow) → k < length rows → code_of (slice_index_or rows k d) ≡ code_of row → ⊥

-- the table has the number of each row, and nothing else
pub record IsTaken (rows : List PropRow) (taken : BTreeMap ℕ ℕ) : Type 0 where
  pub there : (k : ℕ) (d : PropRow) → k < length rows → get nat_cmp taken (code_of (slice_index_or rows k d)) ≡ Some k
  pub within : (code k : ℕ) → get nat_cmp taken code ≡ Some k → k < length rows
  pub same : (code k : ℕ) (d : PropRow) → get nat_cmp taken code ≡ Some k → code ≡ code_of (slice_index_or rows k d)

-- rows that rise need no table
abbrev pub IsFound : List PropRow → Option (BTreeMap ℕ ℕ) → Type 0
IsFound rows None = AreRising rows
IsFound rows (Some taken) = IsTaken rows taken

-- the row with the greatest of the codes that are at most this one
pub record IsLastUpTo (rows : List PropRow) (most : ℕ) (n : ℕ) : Type 0 where
  pub within : n < length rows
  pub up_to : (d : PropRow) → code_of (slice_index_or rows n d) ≤ most
  pub last : (k : ℕ) (d : PropRow) → k < length rows → code_of (slice_index_or rows k d) ≤ most → code_of (slice_index_or rows k d) ≤ code_of (slice_index_or rows n d)

-- the codes of the first n rows are at most this one, and all others are greater
pub record IsLow (rows : List PropRow) (most : ℕ) (n : ℕ) : Type 0 where
  pub within : n ≤ length rows
  pub low : (k : ℕ) (d : PropRow) → k < n → code_of (slice_index_or rows k d) ≤ most
  pub high : (k : ℕ) (d : PropRow) → n ≤ k → k < length rows → most < code_of (slice_index_or rows k d)

-- all codes are greater
abbrev pub AreAbove : List PropRow → ℕ → Type 0
AreAbove rows most = (k : ℕ) (d : PropRow) → k < length rows → most < code_of (slice_index_or rows k d)

-- the keys and the rows belong together, and what the rows take of time is known
pub record AreTaken (keys : List (List ℕ)) (rows : List PropRow) (taken : Option (BTreeMap ℕ ℕ)) : Type 0 where
  pub in_limit : length rows ≤ PROPERTY_LIMIT
  pub fewer_keys : length keys ≤ length rows
  pub keys_are : keys ≡ keys_of (properties_of keys rows)
  pub numbered : All (λ row. position (bytes_eq (slice_index_or keys row.key [])) keys ≡ Some row.key) rows
  pub are_rows : AreRows rows
  pub found : IsFound rows taken

-- a row of this place
pub record HasRow (rows : List PropRow) (place : Place) : Type 0 where
  pub at : ℕ
  pub within : at < length rows
  pub same : (d : PropRow) → place_of (slice_index_or rows at d) ≡ place

-- a row of this place that holds the instant with this value
pub record HasValue (rows : List PropRow) (place : Place) (t value : ℕ) : Type 0 where
  pub at : ℕ
  pub within : at < length rows
  pub same : (d : PropRow) → place_of (slice_index_or rows at d) ≡ place
  pub inside : (d : PropRow) → holds (slice_index_or rows at d).over t ≡ true
  pub value_is : (d : PropRow) → (slice_index_or rows at d).value ≡ value

-- the timelines of those rows that are done
pub record ArePainted (rows : List PropRow) (is_done : ℕ → Type 0) (timelines : PlaceTimelines) : Type 0 where
  pub there : (k : ℕ) (d : PropRow) → k < length rows → is_done k → is_some (timelines (place_of (slice_index_or rows k d))) ≡ true
  pub known : (place : Place) → is_some (timelines place) ≡ true → HasRow rows place
  pub has : (k t : ℕ) (d : PropRow) → k < length rows → is_done k → holds (slice_index_or rows k d).over t ≡ true
      → timeline_value (timelines (place_of (slice_index_or rows k d))) t ≡ Some (slice_index_or rows k d).value
  pub comes_from : (place : Place) (t value : ℕ) → timeline_value (timelines place) t ≡ Some value → HasValue rows place t value
