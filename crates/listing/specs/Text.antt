-- What the listing program prints for a file. A text is the list of its bytes, in ASCII.
-- Assumes nothing.
use Rattle.std.specs.Prelude.{cond, List, [], ◌∷◌, ◌++◌, ℕ, zero, suc, ◌+◌, ◌/◌, ◌%◌, eqb, ltb, Ok, Err}
use Rattle.record.specs.Records.{message_at, field_at}
use Rattle.record.specs.declared.Field.{Field}
use Rattle.layout.specs.Numbers.{number_of, byte_of}
use Rattle.layout.specs.Verdict.{Verdict, verdict}
use Rattle.layout.specs.declared.Refusal.{Refusal}

-- a number in decimal: its last digit after those of a tenth of it; the first number only counts the digits down
unfoldable pub digits : ℕ → ℕ → List ℕ
digits zero n = []
digits (suc k) n = cond (ltb n 10) [] (digits k (n / 10)) ++ ((48 + n % 10) ∷ [])

abbrev pub decimal : ℕ → List ℕ
decimal n = digits (suc n) n

-- a space, and the end of a line
abbrev pub space : List ℕ
space = 32 ∷ []

abbrev pub newline : List ℕ
newline = 10 ∷ []

-- the status bit's place, or `-`
unfoldable pub status_text : Field → List ℕ
status_text r = cond (eqb r.status 1) (decimal r.place) (45 ∷ [])

-- message, frame, start bit, message width, status bit place or `-`, one space between
unfoldable pub line_of : Field → ℕ → List ℕ
line_of r width =
    decimal r.message ++ (space ++ (decimal r.frame ++ (space ++ (decimal r.start ++ (space
    ++ (decimal width ++ (space ++ (status_text r ++ newline))))))))

-- the line of field d, in a file of F frames and M messages
unfoldable pub line_at : List ℕ → ℕ → ℕ → ℕ → List ℕ
line_at s F M d = line_of (field_at s (F + M + d)) (message_at s (F + (field_at s (F + M + d)).message)).width

-- a line for each field below D, in file order
unfoldable pub lines : List ℕ → ℕ → ℕ → ℕ → List ℕ
lines s F M zero = []
lines s F M (suc d) = lines s F M d ++ line_at s F M d

-- `message frame start width status` and the end of the line
abbrev pub heading : List ℕ
heading =
    109 ∷ 101 ∷ 115 ∷ 115 ∷ 97 ∷ 103 ∷ 101 ∷ 32 ∷ 102 ∷ 114 ∷ 97 ∷ 109 ∷ 101 ∷ 32 ∷ 115 ∷ 116 ∷ 97 ∷ 114 ∷ 116 ∷ 32 ∷ 119 ∷ 105 ∷ 100 ∷ 116 ∷ 104
    ∷ 32 ∷ 115 ∷ 116 ∷ 97 ∷ 116 ∷ 117 ∷ 115 ∷ 10 ∷ []

-- `refused `, ` record ` and ` byte `
abbrev pub refused_word : List ℕ
refused_word = 114 ∷ 101 ∷ 102 ∷ 117 ∷ 115 ∷ 101 ∷ 100 ∷ 32 ∷ []

abbrev pub record_word : List ℕ
record_word = 32 ∷ 114 ∷ 101 ∷ 99 ∷ 111 ∷ 114 ∷ 100 ∷ 32 ∷ []

abbrev pub byte_word : List ℕ
byte_word = 32 ∷ 98 ∷ 121 ∷ 116 ∷ 101 ∷ 32 ∷ []

-- ` byte B` where a byte is given: byte 0 never is
unfoldable pub byte_text : ℕ → List ℕ
byte_text byte = cond (eqb byte 0) [] (byte_word ++ decimal byte)

-- `refused N record R` and the byte
unfoldable pub refusal_text : Refusal → ℕ → List ℕ
refusal_text refusal at = refused_word ++ (decimal (number_of refusal) ++ (record_word ++ (decimal at ++ (byte_text (byte_of refusal) ++ newline))))

abbrev pub listing_of : List ℕ → Verdict → List ℕ
listing_of s (Ok c) = heading ++ lines s c.frames c.messages c.fields
listing_of s (Err r) = refusal_text r.refusal r.«record»

-- what the program prints
unfoldable pub listing : List ℕ → List ℕ
listing s = listing_of s (verdict s)
