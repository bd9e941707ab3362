-- What holds of the text of a listing. Each line is a theorem; proofs/Claims.antt says where it is proved.
-- Assumes nothing.
use Rattle.std.specs.Prelude.{◌≡◌, List, [], ◌∷◌, ◌++◌, ℕ, ◌+◌, ◌-◌, ◌*◌}
use Rattle.ranges.specs.Ranges.{wrong_byte}
use Rattle.ranges.specs.declared.Fault.{Fault}
use Rattle.layout.specs.Paper.{paper}
use Rattle.layout.specs.declared.Refusal.{Refusal}
use Rattle.listing.specs.Text.{decimal, heading, refused_word, record_word, refusal_text, listing}

-- the number that a text of digits says, after digits that say n
unfoldable pub said_from : ℕ → List ℕ → ℕ
said_from n [] = n
said_from n (d ∷ t) = said_from (n * 10 + (d - 48)) t

abbrev pub said : List ℕ → ℕ
said t = said_from 0 t

-- `0 0 3 10 -` and the end of the line
abbrev pub paper_line : List ℕ
paper_line = 48 ∷ 32 ∷ 48 ∷ 32 ∷ 51 ∷ 32 ∷ 49 ∷ 48 ∷ 32 ∷ 45 ∷ 10 ∷ []

pub record Claims : Type 0 where
  -- Decimal: the digits of a number, read again, say the number
  pub decimal_reads : (n : ℕ) → said (decimal n) ≡ n
  -- The paper's example: the listing of its file is the text that it shows
  pub example : listing paper ≡ heading ++ paper_line
  -- `refused 10 record 191 byte 16` and `refused 4 record 2`, each with the end of the line
  pub refused_with_byte : refusal_text (Refusal.Byte (wrong_byte Fault.Width 16)) 191
      ≡ refused_word ++ (49 ∷ 48 ∷ []) ++ record_word ++ (49 ∷ 57 ∷ 49 ∷ []) ++ (32 ∷ 98 ∷ 121 ∷ 116 ∷ 101 ∷ 32 ∷ 49 ∷ 54 ∷ 10 ∷ [])
  pub refused : refusal_text Refusal.Ref 2 ≡ refused_word ++ (52 ∷ []) ++ record_word ++ (50 ∷ 10 ∷ [])
