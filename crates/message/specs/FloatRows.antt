-- Rows for a message of sign 2: what it can hold, what a closing settles, what its filter passes and compares with. antt computes each from the definitions.
-- Assumes nothing.
use Rattle.std.specs.Prelude.{◌≡◌, Bool, true, false, List, [], ◌∷◌, ℕ, pos, negsuc}
use Rattle.store.specs.declared.Message.{Message}
use Rattle.store.specs.declared.MessageState.{MessageState}
use Rattle.store.specs.Node.{is_valid}
use Rattle.start.specs.Start.{at_first}
use Rattle.message.specs.Messages.{can_hold, offered, settled}

-- a float of that agreement and filter, with x1 and x2 -1000 and 1000
abbrev pub float : ℕ → ℕ → Message
float agreement filter =
    record {
      width = 32;
      sign = 2;
      direction = 0;
      agreement = agreement;
      filter = filter;
      statusbit = 0;
      first = 0;
      fields = 3;
      x1 = 0xc47a_0000;
      x2 = 0x447a_0000;
    }

-- it holds +0
abbrev pub zero : MessageState
zero = at_first 0 0

-- whether one with that filter is valid after each of some patterns is sent, one after the other
unfoldable pub validities : ℕ → MessageState → List ℕ → List Bool
validities filter s [] = []
validities filter s (x ∷ l) = is_valid (offered (float 0 filter) s (pos x)) ∷ validities filter (offered (float 0 filter) s (pos x)) l

-- and its status after each of some rounds in which one instance counts
unfoldable pub statuses : ℕ → MessageState → List ℕ → List ℕ
statuses filter s [] = []
statuses filter s (x ∷ l) = (settled (float 0 filter) s false (pos x ∷ [])).status ∷ statuses filter (settled (float 0 filter) s false (pos x ∷ [])) l

-- 10, 4, 7; 4, 2, -0, -1, -0.5; and -1, -0.5, -0, 1, 0.5
abbrev pub ten_four_seven : List ℕ
ten_four_seven = 0x4120_0000 ∷ 0x4080_0000 ∷ 0x40e0_0000 ∷ []

abbrev pub four_down : List ℕ
four_down = 0x4080_0000 ∷ 0x4000_0000 ∷ 0x8000_0000 ∷ 0xbf80_0000 ∷ 0xbf00_0000 ∷ []

abbrev pub minus_one_up : List ℕ
minus_one_up = 0xbf80_0000 ∷ 0xbf00_0000 ∷ 0x8000_0000 ∷ 0x3f80_0000 ∷ 0x3f00_0000 ∷ []

pub record Rows : Type 0 where
  -- -0 can be held; infinities, NaNs and what is no pattern cannot
  pub held : can_hold (float 0 0) (pos 0x8000_0000) ≡ true
  pub infinite : can_hold (float 0 0) (pos 0x7f80_0000) ≡ false
  pub not_a_number : can_hold (float 0 0) (pos 0xffc0_0000) ≡ false
  pub too_large : can_hold (float 0 0) (pos 0x1_0000_0000) ≡ false
  pub negative : can_hold (float 0 0) (negsuc 0) ≡ false
  -- the average of 1 and 2 is 1.5
  pub mean : (settled (float 1 0) zero false (pos 0x3f80_0000 ∷ pos 0x4000_0000 ∷ [])).held ≡ 0x3fc0_0000
  -- a NaN alone is 20, no counting instance 22, no frame 21
  pub all_aside : (settled (float 1 0) zero false (pos 0x7fc0_0000 ∷ [])).status ≡ 20
  pub none_counts : (settled (float 1 0) zero false []).status ≡ 22
  pub none_came : (settled (float 1 0) zero true []).status ≡ 21
  -- filter 8 passes 120.5 and -1000, and not the next float below that
  pub within : (settled (float 0 8) zero false (pos 0x42f1_0000 ∷ [])).status ≡ 0
  pub at_limit : (settled (float 0 8) zero false (pos 0xc47a_0000 ∷ [])).status ≡ 0
  pub below : (settled (float 0 8) zero false (pos 0xc47a_0001 ∷ [])).status ≡ 21
  -- against +0, -0 is not less (12) and at least as large (13), but not equal as a pattern (4, 5)
  pub not_less : is_valid (offered (float 0 12) zero (pos 0x8000_0000)) ≡ false
  pub not_above : is_valid (offered (float 0 13) zero (pos 0x8000_0000)) ≡ true
  pub not_equal : is_valid (offered (float 0 4) zero (pos 0x8000_0000)) ≡ false
  pub unequal : is_valid (offered (float 0 5) zero (pos 0x8000_0000)) ≡ true
  -- filters 10 to 13 compare with the number of the held pattern, +0 at start and then the last one that passed
  pub above : validities 10 zero ten_four_seven ≡ true ∷ false ∷ false ∷ []
  pub at_most_lem : validities 11 zero four_down ≡ false ∷ false ∷ true ∷ true ∷ false ∷ []
  pub less : validities 12 zero four_down ≡ false ∷ false ∷ false ∷ true ∷ false ∷ []
  pub at_least : validities 13 zero minus_one_up ≡ false ∷ false ∷ true ∷ true ∷ false ∷ []
  pub above_closed : statuses 10 zero ten_four_seven ≡ 0 ∷ 21 ∷ 21 ∷ []
  pub at_most_closed : statuses 11 zero four_down ≡ 21 ∷ 21 ∷ 0 ∷ 0 ∷ 21 ∷ []
  pub less_closed : statuses 12 zero four_down ≡ 21 ∷ 21 ∷ 21 ∷ 0 ∷ 21 ∷ []
  pub at_least_closed : statuses 13 zero minus_one_up ≡ 21 ∷ 21 ∷ 0 ∷ 0 ∷ 21 ∷ []
