-- The values of fields, and the routine of RFC 3986, 5.2.4, at examples.
use Rattle.std.specs.Prelude.{◌≡◌, refl, codes, [], ◌∷◌, Some, None}
use Rattle.hex.proofs.OnLiterals.{hex_on_literals}
use Rattle.vkg_cells.specs.Moment.{clock_of_text, day_of_text}
use Rattle.vkg_laws.specs.ByValue.{moment_value, octets_value, time_value}
use Rattle.vkg_laws.specs.RemoveDots.{remove_dot_segments, turns}

leap : day_of_text (codes "2024-02-29") ≡ Some (record { year = 2024; month = 2; day = 29 })
unfolding day_of_text
leap = refl

none : day_of_text (codes "2023-02-29") ≡ None
unfolding day_of_text
none = refl

tenths : moment_value (codes "2024-02-29 23:59:58.50") ≡ Some (record {
  date = record { year = 2024; month = 2; day = 29 };
  clock = record { hour = 23; minute = 59; second = 58 };
  nanoseconds = 500000000;
})
unfolding day_of_text clock_of_text
tenths = refl

whole : moment_value (codes "2024-02-29T23:59:58") ≡ Some (record {
  date = record { year = 2024; month = 2; day = 29 };
  clock = record { hour = 23; minute = 59; second = 58 };
  nanoseconds = 0;
})
unfolding day_of_text clock_of_text
whole = refl

time : time_value (codes "23:59:58.50") ≡ Some (record { clock = record { hour = 23; minute = 59; second = 58 }; nanoseconds = 500000000 })
unfolding clock_of_text
time = refl

octets : octets_value (codes "0aFF") ≡ Some (10 ∷ 255 ∷ [])
unfolding hex_on_literals
octets = refl

-- RFC 3986, 5.2.4
d_1 : remove_dot_segments (codes "/a/b/c/./../../g") ≡ record { input = []; output = codes "/a/g" }
d_1 = refl

d_2 : turns 4 (record { input = codes "/a/b/c/./../../g"; output = [] }) ≡ record { input = codes "/../../g"; output = codes "/a/b/c" }
d_2 = refl

d_3 : remove_dot_segments (codes "mid/content=5/../6") ≡ record { input = []; output = codes "mid/6" }
d_3 = refl

d_4 : turns 3 (record { input = codes "mid/content=5/../6"; output = [] }) ≡ record { input = codes "/6"; output = codes "mid" }
d_4 = refl

d_5 : remove_dot_segments (codes ".././a/..") ≡ record { input = []; output = codes "/" }
d_5 = refl

d_6 : remove_dot_segments (codes "./..") ≡ record { input = []; output = [] }
d_6 = refl
