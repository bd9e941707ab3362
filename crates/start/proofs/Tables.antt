-- Tables, over any element. A table that is filled in place: a loop sets element k of a list to f k; after k turns the first k elements are the
-- table's, and the others are the list's, which are right already where they hold what f says of them. A table with one element replaced is that
-- of a function which differs at one number.
-- Assumes nothing.
use mathlib.Core.Path.{◌≡◌, refl, ap, ap₂, sym, ◌∙◌}
use mathlib.Core.List.{List, ◌∷◌, ◌++◌}
use Prim.Native.Nat.{ℕ, zero, suc, ◌+◌, ◌<◌, ◌≤◌}
use native.Mathlib.Decide.{dec_lt, ℕ_discrete}
use native.Mathlib.Nat.{zero-add}
use native.Mathlib.Numerals.{add-one}
use native.Mathlib.Omega.{arith}
use lib.ListN.{length, get_or, set, drop, replicate, length-set, get_or-eq_default}
use lib.Seq.{drop-cons, set_at, ext_get_or, get_or-set_same, get_or-set_other}
use Rattle.start.specs.Start.{table}

module _ {A : Type 0} (f : ℕ → A) where
  pub length_table : (i k : ℕ) → length (table f i k) ≡ k
  unfolding table
  length_table i zero = refl
  length_table i (suc k) = ap suc (length_table (suc i) k)

  -- each place has what the function says of its number
  cell_from : (none : A) (i k j : ℕ) → j < k → get_or (table f i k) j none ≡ f (i + j)
  unfolding table
  cell_from none i zero j l = absurd (omega arith)
  cell_from none i (suc k) zero l = ap f (omega arith)
  cell_from none i (suc k) (suc j) l = cell_from none (suc i) k j (omega arith) ∙ ap f (omega arith)

  pub table_at : (none : A) (k j : ℕ) → j < k → get_or (table f 0 k) j none ≡ f j
  table_at none k j l = rw (zero-add j) at (cell_from none 0 k j l)

  -- ---- filled in place

  abbrev pub filled_to : ℕ → List A → List A
  filled_to k l = table f 0 k ++ drop k l

  table_more : (i k : ℕ) (l : List A) → table f i k ++ f (i + k) ∷ l ≡ table f i (suc k) ++ l
  unfolding table
  table_more i zero l = let e : i + 0 ≡ i = omega arith in rw e refl
  table_more i (suc k) l = let e : i + suc k ≡ suc i + k = omega arith in ap (λ (r : List A). f i ∷ r) (rw e (table_more (suc i) k l))

  pub fill_turn : (k n : ℕ) (l : List A) → length l ≡ n → k < n → set (filled_to k l) k (f k) ≡ filled_to (k + 1) l
  fill_turn k n l size h =
      rw (add-one, drop-cons l k (f k) (omega arith))
      (set_at (table f 0 k) (get_or l k (f k)) (drop (suc k) l) (f k) k (length_table 0 k)
      ∙ rw zero-add at (table_more 0 k (drop (suc k) l)))

  module _ (x : A) where
    -- a table of one value
    pub alike : (i n : ℕ) → ((j : ℕ) → i ≤ j → f j ≡ x) → table f i n ≡ replicate n x
    unfolding table
    alike i zero none = refl
    alike i (suc n) none = ap₂ (λ (y : A) (r : List A). y ∷ r) (none i (omega arith)) (alike (suc i) n (λ j l. none j (omega arith)))

    fill_from : (i k n : ℕ) → k ≤ n → ((j : ℕ) → i + k ≤ j → f j ≡ x) → table f i k ++ drop k (replicate n x) ≡ table f i n
    unfolding table
    fill_from i zero n h none = sym (alike i n (λ j l. none j (omega arith)))
    fill_from i (suc k) zero h none = absurd (omega arith)
    fill_from i (suc k) (suc n) h none = ap (λ (r : List A). f i ∷ r) (fill_from (suc i) k n (omega arith) (λ j l. none j (omega arith)))

    -- a list of x, filled as far as f says anything else
    pub fill_end : (k n : ℕ) (l : List A) → l ≡ replicate n x → k ≤ n → ((j : ℕ) → k ≤ j → f j ≡ x) → filled_to k l ≡ table f 0 n
    fill_end k n l e h none = rw e (fill_from 0 k n h (λ j l. none j (omega arith)))

-- ---- two tables

module _ {A : Type 0} (f g : ℕ → A) where
  same_from : (i n : ℕ) → ((j : ℕ) → i ≤ j → j < i + n → f j ≡ g j) → table f i n ≡ table g i n
  unfolding table
  same_from i zero same = refl
  same_from i (suc n) same =
      ap₂ (λ (y : A) (r : List A). y ∷ r) (same i (omega arith) (omega arith)) (same_from (suc i) n (λ j a b. same j (omega arith) (omega arith)))

  pub same_table : (n : ℕ) → ((j : ℕ) → j < n → f j ≡ g j) → table f 0 n ≡ table g 0 n
  same_table n same = same_from 0 n (λ j a b. same j (omega arith))

  -- with element k replaced, or none where there is no such element
  pub replaced : (k n : ℕ) (v : A) → ((j : ℕ) → j < n → (j ≡ k → ⊥) → f j ≡ g j) → (k < n → v ≡ g k) → set (table f 0 n) k v ≡ table g 0 n
  replaced k n v other here =
      ext_get_or v (set (table f 0 n) k v) (table g 0 n) (size ∙ sym (length_table g 0 n)) (λ j h. element j (rw size at h) (ℕ_discrete j k))
    where
      size : length (set (table f 0 n) k v) ≡ n
      size = length-set (table f 0 n) k v ∙ length_table f 0 n

      element : (j : ℕ) → j < n → Dec (j ≡ k) → get_or (set (table f 0 n) k v) j v ≡ get_or (table g 0 n) j v
      element j h (yes e) =
          rw (e, get_or-set_same (table f 0 n) k v v (rw (length_table f 0 n, ← e) h), table_at g v n k (rw (← e) h)) (here (rw (← e) h))
      element j h (no e) = rw (get_or-set_other (table f 0 n) k j v v e, table_at f v n j h, table_at g v n j h) (other j h e)

-- a table of numbers that are at most b has no greater one, past its end neither
pub table_within : (f : ℕ → ℕ) (b k n : ℕ) → ((j : ℕ) → f j ≤ b) → get_or (table f 0 n) k 0 ≤ b
table_within f b k n within = go (dec_lt k n)
  where
    go : Dec (k < n) → get_or (table f 0 n) k 0 ≤ b
    go (yes l) = rw (table_at f 0 n k l) (within k)
    go (no l) = rw (get_or-eq_default (table f 0 n) 0 {n = k} (rw (length_table f 0 n) (omega arith))) (omega arith)

-- a list is the table of its elements
pub table_of : (l : List ℕ) → table (λ i. get_or l i 0) 0 (length l) ≡ l
table_of l =
    let n : ℕ = length l in
    let size = length_table (λ i. get_or l i 0) 0 n in
    ext_get_or 0 (table (λ i. get_or l i 0) 0 n) l size (λ i h. table_at (λ i. get_or l i 0) 0 n i (rw size at h))
