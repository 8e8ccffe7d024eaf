-- The first line of a model run's answer, in letters.
use Rattle.std.specs.Prelude.{◌≡◌, refl, [], ◌++◌}
use Rattle.text.specs.Chars.{chars}
use Rattle.writing.specs.Written.{decimal, pairs_of}
use Rattle.udid.specs.Bytes.{bytes_of, udid_bytes}
use Rattle.pieces.specs.Pieces.{newline}
use Rattle.answers.specs.Runs.{first_text, run_text}

-- it ends in the last pick
pub line_of_0 : first_text (record { answer = 0; place = 0; udid = record { high = 0; low = 0 }; bound = record { low = 0; high = 0 }; count = 1; gets = 2; picked = 0x0D })
    ≡ chars "0 bound 1 get 2 last 0x0d" ++ newline
unfolding decimal
line_of_0 = refl

pub line_of_13 : first_text (record { answer = 13; place = 0; udid = record { high = 0; low = 1 }; bound = record { low = 0; high = 0 }; count = 3; gets = 4; picked = 0x7F })
    ≡ chars "13 udid 00000000000000000000000000000001 bound 3 get 4 last 0x7f" ++ newline
unfolding decimal pairs_of udid_bytes bytes_of
line_of_13 = refl

-- 1 is a line by itself
pub line_of_1 : run_text (record { answer = 1; place = 0; udid = record { high = 0; low = 0 }; bound = record { low = 0; high = 0 }; count = 0; gets = 0; picked = 0 }) [] [] ≡ chars "1" ++ newline
unfolding run_text decimal
line_of_1 = refl
