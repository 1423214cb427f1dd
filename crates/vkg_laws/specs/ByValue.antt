-- The order of dates, moments, times of day and octets by the values that their fields write.
use Rattle.std.specs.Prelude.{◌≡◌, ℕ, ◌-◌, ◌*◌, ◌^◌, List, [], length, Option, Some, None, Ok}
use Rattle.std.specs.Option.{option_or}
use Rattle.std.specs.Result.{result_ok}
use Rattle.std.specs.Ordering.{nat_cmp, ordering_then}
use Rattle.std.specs.declared.cmp.Ordering.{Ordering}
use Rattle.hex.specs.Hex.{decode_of}
use Rattle.vkg_lists.specs.Texts.{bytes_cmp}
use Rattle.vkg_cells.specs.declared.cell.Cell.{Cell}
use Rattle.vkg_cells.specs.declared.cell.SqlType.{SqlType}
use Rattle.vkg_cells.specs.declared.cell.SqlType.TheVariants as kind
use Rattle.vkg_cells.specs.declared.moment.Clock.{Clock}
use Rattle.vkg_cells.specs.declared.moment.Day.{Day}
use Rattle.vkg_cells.specs.Field.{cell_of_field}
use Rattle.vkg_cells.specs.Moment.{clock_of_text, cut, day_of_text}
use Rattle.vkg_cells.specs.Number.{digits_value}
use Rattle.vkg_cells.specs.Order.{order}

-- XML Schema 1.1 Part 2, 3.3.9, in the calendar of ISO 8601: by the year, then the month, then the day
abbrev pub date_cmp : Day → Day → Ordering
date_cmp a b = ordering_then (nat_cmp a.year b.year) (ordering_then (nat_cmp a.month b.month) (nat_cmp a.day b.day))

-- ISO 8601, the time of day: by the hour, then the minute, then the second
abbrev pub clock_cmp : Clock → Clock → Ordering
clock_cmp a b = ordering_then (nat_cmp a.hour b.hour) (ordering_then (nat_cmp a.minute b.minute) (nat_cmp a.second b.second))

-- XML Schema 1.1 Part 2, 3.3.7, without a zone: a date, a time of day and a fraction of a second
pub record Moment : Type 0 where
  pub date : Day
  pub clock : Clock
  pub nanoseconds : ℕ

-- XML Schema 1.1 Part 2, 3.3.7: how much of a second the digits after the point write, of which a field has nine at most
abbrev pub nanoseconds_of : List ℕ → ℕ
nanoseconds_of fraction = digits_value fraction * 10 ^ (9 - length fraction)

-- the moment of its parts
abbrev pub moment_if : Option Day → Option Clock → ℕ → Option Moment
moment_if (Some date) (Some clock) nanoseconds = Some (record { date = date; clock = clock; nanoseconds = nanoseconds })
moment_if date clock nanoseconds = None

-- of a date, and of a time of day with or without digits after a point
abbrev pub moment_at : List ℕ → List ℕ → Option (List ℕ × List ℕ) → Option Moment
moment_at date rest None = moment_if (day_of_text date) (clock_of_text rest) (nanoseconds_of [])
moment_at date rest (Some p) = moment_if (day_of_text date) (clock_of_text p.0) (nanoseconds_of p.1)

-- of what stands round the `T` or the space
abbrev pub moment_of_parts : Option (List ℕ × List ℕ) → Option Moment
moment_of_parts None = None
moment_of_parts (Some p) = moment_at p.0 p.1 (cut 46 p.1)

-- XML Schema 1.1 Part 2, 3.3.7: a date, a `T` (84), for which a field may have a space (32), and a time of day, in which a point (46) may stand
abbrev pub moment_value : List ℕ → Option Moment
moment_value text = moment_of_parts (option_or (cut 84 text) (cut 32 text))

-- XML Schema 1.1 Part 2, 3.3.7, without a zone: by the date, then the time of day, then the fraction
abbrev pub moment_cmp : Moment → Moment → Ordering
moment_cmp a b = ordering_then (date_cmp a.date b.date) (ordering_then (clock_cmp a.clock b.clock) (nat_cmp a.nanoseconds b.nanoseconds))

-- XML Schema 1.1 Part 2, 3.3.8, without a zone: a time of day and a fraction of a second
pub record TimeOfDay : Type 0 where
  pub clock : Clock
  pub nanoseconds : ℕ

abbrev pub time_if : Option Clock → ℕ → Option TimeOfDay
time_if (Some clock) nanoseconds = Some (record { clock = clock; nanoseconds = nanoseconds })
time_if None nanoseconds = None

-- with or without digits after a point
abbrev pub time_at : List ℕ → Option (List ℕ × List ℕ) → Option TimeOfDay
time_at text None = time_if (clock_of_text text) (nanoseconds_of [])
time_at text (Some p) = time_if (clock_of_text p.0) (nanoseconds_of p.1)

-- XML Schema 1.1 Part 2, 3.3.8: a time of day, in which a point (46) may stand
abbrev pub time_value : List ℕ → Option TimeOfDay
time_value text = time_at text (cut 46 text)

-- XML Schema 1.1 Part 2, 3.3.8, without a zone: by the time of day, then the fraction
abbrev pub time_cmp : TimeOfDay → TimeOfDay → Ordering
time_cmp a b = ordering_then (clock_cmp a.clock b.clock) (nat_cmp a.nanoseconds b.nanoseconds)

-- XML Schema 1.1 Part 2, 3.3.15: the octets, of which two digits each write one
abbrev pub octets_value : List ℕ → Option (List ℕ)
octets_value text = result_ok (decode_of text)

-- The fields of a kind have values, and the cells of two fields are ordered as their values. Each cell of the kind is of a field,
-- and of its own lexical form too, so the same holds of the forms.
abbrev pub IsByValue : {V : Type 0} → SqlType → (List ℕ → Option V) → (V → V → Ordering) → Type 0
IsByValue {V = V} k value cmp =
    (s t : List ℕ) (c d : Cell) → cell_of_field k s ≡ Ok c → cell_of_field k t ≡ Ok d
    → (a : V) × (b : V) × (value s ≡ Some a) × (value t ≡ Some b) × (order c d ≡ cmp a b)

-- the order of cells is that of the values of dates, of moments, of times of day and of octets
pub record OrderIsByValue : Type 0 where
  pub dates : IsByValue kind.Date day_of_text date_cmp
  pub moments : IsByValue kind.Stamp moment_value moment_cmp
  pub times : IsByValue kind.Time time_value time_cmp
  -- XML Schema has no order of octets; own: that of texts, by the first that differ, and a beginning before the whole
  pub octets : IsByValue kind.Bin octets_value bytes_cmp
