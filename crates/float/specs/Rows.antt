-- Rows for numbers, ranks, sums and quotients of floats, each as IEEE 754's arithmetic has it; agreement specs/FloatRows has means. antt computes each
-- from the definitions.
-- Assumes nothing.
use Rattle.std.specs.Prelude.{◌≡◌, ◌^◌, pos, negsuc}
use Rattle.float.specs.Patterns.{float_number, rank_of}
use Rattle.float.specs.Rounding.{plus, over}

pub record Rows : Type 0 where
  -- the smallest number is one unit, 1.0 is 2^149 of them, and -0 is none
  pub smallest : float_number 1 ≡ pos 1
  pub one : float_number 0x3f80_0000 ≡ pos (2 ^ 149)
  pub minus_zero : float_number 0x8000_0000 ≡ pos 0
  -- by rank -2 is below -1, whose pattern is smaller, and -0 is +0
  pub minus_two_ranked : rank_of 0xc000_0000 ≡ negsuc 0x3fff_ffff
  pub minus_one_ranked : rank_of 0xbf80_0000 ≡ negsuc 0x3f7f_ffff
  pub zeros_ranked : rank_of 0x8000_0000 ≡ rank_of 0
  -- 1 + 2 = 3
  pub one_and_two : plus 0x3f80_0000 0x4000_0000 ≡ 0x4040_0000
  -- -0 + 0 and 1 - 1 are +0; -0 + -0 is -0
  pub mixed_zeros : plus 0x8000_0000 0 ≡ 0
  pub cancelled : plus 0xbf80_0000 0x3f80_0000 ≡ 0
  pub minus_zeros : plus 0x8000_0000 0x8000_0000 ≡ 0x8000_0000
  -- two subnormals make a normal
  pub subnormals : plus 0x007f_ffff 1 ≡ 0x0080_0000
  -- 2^24 + 1 is a tie and goes down to 2^24; 2^24 + 2 + 1 is a tie and goes up to 2^24 + 4
  pub tie_down : plus 0x4b80_0000 0x3f80_0000 ≡ 0x4b80_0000
  pub tie_up : plus 0x4b80_0001 0x3f80_0000 ≡ 0x4b80_0002
  -- half a last digit past the largest is infinite, and anything less is the largest; what is infinite stays so
  pub half_past : plus 0x7f7f_ffff 0x7300_0000 ≡ 0x7f80_0000
  pub less_than_half_past : plus 0x7f7f_ffff 0x72ff_ffff ≡ 0x7f7f_ffff
  pub stays_infinite : plus 0x7f80_0000 0xff7f_ffff ≡ 0x7f80_0000
  -- the smallest number divided by 2 is a tie, which goes to the even 0 and keeps its sign; thrice it is nearer to twice it
  pub smallest_halved : over 0x8000_0001 2 ≡ 0x8000_0000
  pub thrice_halved : over 3 2 ≡ 2
  -- a third of 1
  pub third : over 0x3f80_0000 3 ≡ 0x3eaa_aaab
