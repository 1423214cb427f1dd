-- RFC 3986, 5.2.4, in its own words: the routine `remove_dot_segments`, with its two buffers and its rules A to E.
use Rattle.std.specs.Prelude.{ℕ, zero, suc, nat_eq, ◌==◌, Bool, ◌||◌, List, [], ◌∷◌, ◌++◌, codes, drop, length, if◌then◌else◌}
use Rattle.std.specs.List.{before_first, before_last, starts_with}
use Rattle.std.specs.Str.{bytes_eq}
use Rattle.vkg_lists.specs.Lists.{is_empty}
use Rattle.vkg_terms.specs.Resolve.{from_slash}

pub record Buffers : Type 0 where
  pub input : List ℕ
  pub output : List ℕ

abbrev pub begins_with : List ℕ → List ℕ → Bool
begins_with text prefix = starts_with nat_eq text prefix

-- the first segment, with the `/` (47) that it begins with, if any, and the characters up to the next `/` or the end
abbrev pub first_segment : List ℕ → List ℕ
first_segment [] = []
first_segment (c ∷ cs) = c ∷ before_first (λ b. b == 47) cs

abbrev pub after_first_segment : List ℕ → List ℕ
after_first_segment [] = []
after_first_segment (c ∷ cs) = from_slash cs

-- without the last segment and the `/` before it, if any
abbrev pub before_last_segment : List ℕ → List ℕ
before_last_segment text = before_last (λ b. b == 47) text

-- Step 2, once. A segment `.` or `..` is complete where a `/` follows it, or nothing.
abbrev pub turn : Buffers → Buffers
turn b =
    -- A: the prefix `../` or `./` goes
    if begins_with b.input (codes "../") then record b { input = drop 3 b.input }
    else if begins_with b.input (codes "./") then record b { input = drop 2 b.input }
    -- B: the prefix `/./` becomes `/`, and `/.` too, where its `.` is complete
    else if begins_with b.input (codes "/./") then record b { input = codes "/" ++ drop 3 b.input }
    else if bytes_eq b.input (codes "/.") then record b { input = codes "/" }
    -- C: the prefix `/../` becomes `/`, and `/..` too, where its `..` is complete, and the last segment of the output goes
    else if begins_with b.input (codes "/../") then record { input = codes "/" ++ drop 4 b.input; output = before_last_segment b.output }
    else if bytes_eq b.input (codes "/..") then record { input = codes "/"; output = before_last_segment b.output }
    -- D: an input that is only `.` or `..` goes
    else if bytes_eq b.input (codes ".") || bytes_eq b.input (codes "..") then record b { input = [] }
    -- E: the first segment moves to the end of the output
    else record { input = after_first_segment b.input; output = b.output ++ first_segment b.input }

-- step 2, while the input is not empty, n times at most
abbrev pub turns : ℕ → Buffers → Buffers
turns zero b = b
turns (suc n) b = if is_empty b.input then b else turns n (turn b)

-- The buffers at the end. Each turn shortens the input, so the input is empty then.
abbrev pub remove_dot_segments : List ℕ → Buffers
remove_dot_segments path = turns (length path) (record { input = path; output = [] })
