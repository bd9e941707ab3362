-- Rows for agreement on floats, each as IEEE 754's arithmetic has it. antt computes each from the definitions.
-- Assumes nothing.
use Rattle.std.specs.Prelude.{Option, Some, None, ◌≡◌, List, [], ◌∷◌, ℕ, ℤ, pos}
use Rattle.agreement.specs.Floats.{floats_agreed}

-- the values of some patterns
abbrev pub values : List ℕ → List ℤ
values [] = []
values (x ∷ l) = pos x ∷ values l

-- what they agree on: pick any, average, vote
abbrev pub any : List ℕ → Option ℤ
any l = floats_agreed 0 (values l)

abbrev pub mean : List ℕ → Option ℤ
mean l = floats_agreed 1 (values l)

abbrev pub voted : List ℕ → Option ℤ
voted l = floats_agreed 2 (values l)

pub record Rows : Type 0 where
  -- the mean of 1 and 2 is 1.5
  pub of_two : mean (0x3f80_0000 ∷ 0x4000_0000 ∷ []) ≡ Some (pos 0x3fc0_0000)
  -- the mean of -0 alone is -0, and so is that of two; of -0 and +0 it is +0
  pub minus_zero : mean (0x8000_0000 ∷ []) ≡ Some (pos 0x8000_0000)
  pub minus_zeros : mean (0x8000_0000 ∷ 0x8000_0000 ∷ []) ≡ Some (pos 0x8000_0000)
  pub mixed_zeros : mean (0x8000_0000 ∷ 0 ∷ []) ≡ Some (pos 0)
  -- a partial sum that overflows has no mean, whatever follows
  pub overflowed : mean (0x7f7f_ffff ∷ 0x7f7f_ffff ∷ 0xff7f_ffff ∷ []) ≡ None
  -- the order of addition shows: 2^24 + 1 + 1 and 1 + 1 + 2^24, each divided by 3; a sum of more digits would not tell them apart
  pub large_first : mean (0x4b80_0000 ∷ 0x3f80_0000 ∷ 0x3f80_0000 ∷ []) ≡ Some (pos 0x4aaa_aaab)
  pub large_last : mean (0x3f80_0000 ∷ 0x3f80_0000 ∷ 0x4b80_0000 ∷ []) ≡ Some (pos 0x4aaa_aaac)
  -- a NaN and an infinity are no instances: the mean of 1 and 3 among them is 2
  pub left_out : mean (0x7fc0_0000 ∷ 0x3f80_0000 ∷ 0xff80_0000 ∷ 0x4040_0000 ∷ []) ≡ Some (pos 0x4000_0000)
  pub none_left : mean (0x7f80_0001 ∷ 0xff80_0000 ∷ []) ≡ None
  -- in a vote two NaNs of one pattern do not win over 1, and -0 is another value than +0
  pub nan_voted : voted (0x7fc0_0000 ∷ 0x7fc0_0000 ∷ 0x3f80_0000 ∷ []) ≡ Some (pos 0x3f80_0000)
  pub zeros_tied : voted (0x8000_0000 ∷ 0 ∷ []) ≡ None
  -- pick any takes the first that is left
  pub nan_first : any (0x7fc0_0000 ∷ 0x3f80_0000 ∷ []) ≡ Some (pos 0x3f80_0000)
