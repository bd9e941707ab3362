-- What the paper demands of a refusal and its record. SIZE comes first, with record 0; then the first record that fails a test decides, and of its
-- tests the first that it fails, where of its wrong bytes the lowest does; then the lowest message without a field. proofs/Demands.antt shows that
-- exactly these are given.
-- Assumes nothing.
use Rattle.std.specs.Prelude.{◌≡◌, true, false, List, ℕ, ◌+◌, ◌/◌, ◌<◌, ◌≤◌, length}
use Rattle.ranges.specs.Ranges.{wrong_byte, finding_at, LowestWrong, AllRight}
use Rattle.ranges.specs.declared.Fault.{Fault}
use Rattle.layout.specs.Counts.{counts_before}
use Rattle.layout.specs.Verdict.{size_fault, order_fault, ref_fault, fields_among, group_fault, place_fault}
use Rattle.layout.specs.declared.Counts.{Counts}
use Rattle.layout.specs.declared.Refusal.{Refusal}

-- record i passes its tests; c counts the records before it
pub record Passes (s : List ℕ) (i : ℕ) (c : Counts) : Type 0 where
  pub order : order_fault s i c ≡ false
  pub bytes : AllRight (finding_at s i)
  pub ref : ref_fault s i c ≡ false
  pub group : group_fault s i c ≡ false
  pub place : place_fault s i c ≡ false

-- it fails the test of refusal n, and passes those before
pub data Fails (s : List ℕ) (i : ℕ) (c : Counts) (n : Refusal) : Type 0 where
  order : order_fault s i c ≡ true → n ≡ Refusal.Order → Fails s i c n
  byte : order_fault s i c ≡ false → (fault : Fault) (k : ℕ) → LowestWrong (finding_at s i) fault k → n ≡ Refusal.Byte (wrong_byte fault k) → Fails s i c n
  ref : order_fault s i c ≡ false → AllRight (finding_at s i) → ref_fault s i c ≡ true → n ≡ Refusal.Ref → Fails s i c n
  group : order_fault s i c ≡ false → AllRight (finding_at s i) → ref_fault s i c ≡ false → group_fault s i c ≡ true → n ≡ Refusal.Group → Fails s i c n
  place :
      order_fault s i c ≡ false → AllRight (finding_at s i) → ref_fault s i c ≡ false → group_fault s i c ≡ false → place_fault s i c ≡ true → n ≡ Refusal.Place
      → Fails s i c n

-- how many records the file has, and how many of each kind
abbrev pub records : List ℕ → ℕ
records s = length s / 24

abbrev pub totals : List ℕ → Counts
totals s = counts_before s (records s)

-- the first n records pass their tests
abbrev pub AllPass : List ℕ → ℕ → Type 0
AllPass s n = (i : ℕ) → i < n → Passes s i (counts_before s i)

-- message m has no field, and each message below it has one
pub record Lacking (s : List ℕ) (m : ℕ) : Type 0 where
  pub message : m < (totals s).messages
  pub no_field_lem : fields_among s m (records s) ≡ 0
  pub lowest : (k : ℕ) → k < m → 1 ≤ fields_among s k (records s)

-- refusal n at record r
pub data Demanded (s : List ℕ) (n : Refusal) (r : ℕ) : Type 0 where
  size : size_fault s ≡ true → n ≡ Refusal.Size → r ≡ 0 → Demanded s n r
  test : size_fault s ≡ false → r < records s → AllPass s r → Fails s r (counts_before s r) n → Demanded s n r
  no_field_lem :
      size_fault s ≡ false → AllPass s (records s) → (m : ℕ) → Lacking s m → n ≡ Refusal.NoField → r ≡ (totals s).frames + m
      → Demanded s n r
