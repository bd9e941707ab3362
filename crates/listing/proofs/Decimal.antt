-- A number in decimal. The count that `digits` takes down does not matter as long as it is above the number, so the text is the last digit after the
-- text of a tenth. From this come that the library prints the same text, and that every text, read as a number again, is the number written.
-- Assumes nothing.
use mathlib.Core.Path.{◌≡◌, refl}
use mathlib.Core.List.{List, [], ◌∷◌, ◌++◌}
use Prim.Native.Nat.{ℕ, zero, suc, ◌+◌, ◌-◌, ◌*◌, ◌/◌, ◌%◌, ◌^◌, ◌<◌, ◌≤◌}
use native.Mathlib.Omega.{arith}
use native.Mathlib.Decide.{dec_lt}
use borrow.Author.Tests.{lt-ltb, le-ltb}
use Rattle.std.proofs.lemmas.Fmt.{decimal_digit, decimal_step}
use Rattle.std.specs.Fmt as Printed
use Rattle.listing.specs.Text.{digits, decimal}
use Rattle.listing.specs.Claims.{said_from, said}

same_digits : (k j n : ℕ) → n < k → n < j → digits k n ≡ digits j n
unfolding digits
same_digits zero j n a b = absurd (omega arith)
same_digits (suc k) zero n a b = absurd (omega arith)
same_digits (suc k) (suc j) n a b = go (dec_lt n 10) (same_digits k j (n / 10))
  where
    go : Dec (n < 10) → (n / 10 < k → n / 10 < j → digits k (n / 10) ≡ digits j (n / 10)) → digits (suc k) n ≡ digits (suc j) n
    go (yes l) tenth = rw (lt-ltb n 10 l)
    go (no l) tenth = rw (le-ltb n 10 (omega arith), tenth (omega arith) (omega arith))

one_digit : (n : ℕ) → n < 10 → decimal n ≡ (48 + n) ∷ []
unfolding digits
one_digit n l = let e : 48 + n % 10 ≡ 48 + n = omega arith in rw (lt-ltb n 10 l, e)

last_digit : (n : ℕ) → 10 ≤ n → decimal n ≡ decimal (n / 10) ++ ((48 + n % 10) ∷ [])
unfolding digits
last_digit n l = rw (le-ltb n 10 l, same_digits n (suc (n / 10)) (n / 10) (omega arith) (omega arith))

-- ---- the text that the library prints

-- by recursion over a number k above n
printed_below : (k n : ℕ) → n < k → n < 2 ^ 64 → Printed.decimal n ≡ decimal n
printed_below zero n l w = absurd (omega arith)
printed_below (suc k) n l w = go (dec_lt n 10) (printed_below k (n / 10))
  where
    go : Dec (n < 10) → (n / 10 < k → n / 10 < 2 ^ 64 → Printed.decimal (n / 10) ≡ decimal (n / 10)) → Printed.decimal n ≡ decimal n
    go (yes b) tenth = rw (decimal_digit n b, one_digit n b)
    go (no b) tenth = rw (decimal_step n (omega arith) w, last_digit n (omega arith), tenth (omega arith) (omega arith))

pub decimal_printed : (n : ℕ) → n < 2 ^ 64 → Printed.decimal n ≡ decimal n
decimal_printed n w = printed_below (suc n) n (omega arith) w

-- ---- a text read as a number

said_append : (n : ℕ) (t : List ℕ) (d : ℕ) → said_from n (t ++ (d ∷ [])) ≡ said_from n t * 10 + (d - 48)
unfolding said_from
said_append n [] d = refl
said_append n (x ∷ t) d = said_append (n * 10 + (x - 48)) t d

-- by recursion over a number k above n
reads_below : (k n : ℕ) → n < k → said (decimal n) ≡ n
unfolding said_from
reads_below zero n l = absurd (omega arith)
reads_below (suc k) n l = go (dec_lt n 10) (reads_below k (n / 10))
  where
    go : Dec (n < 10) → (n / 10 < k → said (decimal (n / 10)) ≡ n / 10) → said (decimal n) ≡ n
    go (yes b) tenth = rw (one_digit n b) (omega arith)
    go (no b) tenth =
        rw (last_digit n (omega arith), said_append 0 (decimal (n / 10)) (48 + n % 10), tenth (omega arith)) (omega arith)

pub decimal_reads : (n : ℕ) → said (decimal n) ≡ n
decimal_reads n = reads_below (suc n) n (omega arith)
