-- The region law, said once over the cell's size, its decoder and the region's place: cell k of a region is decoded from the part of the memory
-- where it lies. Cells are parts that share no byte, so a write of one replaces that one element, and a write outside the region leaves it. The
-- bytes of a region and its list of cells determine each other where a cell and its bytes do.
-- Assumes nothing.
use mathlib.Core.Path.{◌≡◌, refl, ap, ap₂, sym, ◌∙◌}
use mathlib.Core.List.{List, [], ◌∷◌, ◌++◌, append_assoc}
use mathlib.Core.Logic.{inl, inr}
use Prim.Native.Nat.{ℕ, zero, suc, ◌+◌, ◌*◌, ◌≤◌, ◌<◌, suc-le-suc}
use native.Mathlib.Nat.{add_comm, zero-mul, suc-mul, mul-le-mul_right, not-suc-le-zero, le_of_suc-le-suc}
use native.Mathlib.Decide.{dec_lt, ℕ_discrete}
use native.Mathlib.Omega.{arith}
use lib.ListN.{length, get_or, set, take, drop, length-append, length-drop, length-set, take-append-drop}
use lib.Seq.{drop_at, drop-drop, ext_get_or, get_or-set_other, get_or-set_same, length-take-le, take-add, take_at}
use Rattle.whole.specs.Whole.{Bytes}
use Rattle.store.specs.Memory.{part, overwritten, cells, uncells}
use Rattle.store.proofs.Parts.{Apart, bytes_drop, bytes_take, part_written, part_stays}

-- ---- the cells of a memory

cell_ends : (s j k : ℕ) → j < k → j * s + s ≤ k * s
cell_ends s j k h = rw suc-mul at (mul-le-mul_right s h)

cells_apart : (s base j k : ℕ) → (j ≡ k → ⊥) → Apart (base + j * s) s (base + k * s) s
cells_apart s base j k other = go (dec_lt j k)
  where
    go : Dec (j < k) → Apart (base + j * s) s (base + k * s) s
    go (yes h) = inl (omega (arith, cell_ends s j k h))
    go (no h) = let later : k < j = omega arith in inr (omega (arith, cell_ends s k j later))

module _ {A : Type 0} (decode : List ℕ → A) (s : ℕ) where
  length_uncells : (n : ℕ) (b : List ℕ) → length (uncells decode s n b) ≡ n
  unfolding uncells
  length_uncells zero b = refl
  length_uncells (suc n) b = ap suc (length_uncells n (drop s b))

  at_uncells : (n : ℕ) (b : List ℕ) (k : ℕ) (d : A) → k < n → get_or (uncells decode s n b) k d ≡ decode (part b (k * s) s)
  unfolding uncells
  at_uncells zero b k d h = absurd (not-suc-le-zero h)
  at_uncells (suc n) b zero d h = rw zero-mul refl
  at_uncells (suc n) b (suc k) d h =
      at_uncells n (drop s b) k d (le_of_suc-le-suc h) ∙ rw (drop-drop, add_comm s (k * s), suc-mul) refl

-- ---- the region of n cells at base

module _ {A : Type 0} (decode : List ℕ → A) (s n base : ℕ) where
  abbrev pub region : List ℕ → List A
  region b = uncells decode s n (drop base b)

  pub length_region : (b : List ℕ) → length (region b) ≡ n
  length_region b = length_uncells decode s n (drop base b)

  -- cell k is read where it lies
  pub cell_read : (b : List ℕ) (k : ℕ) (d : A) → k < n → get_or (region b) k d ≡ decode (part b (base + k * s) s)
  cell_read b k d h = at_uncells decode s n (drop base b) k d h ∙ ap (λ (r : List ℕ). decode (take s r)) (drop-drop (k * s) base b)

  same_region : (b : List ℕ) (l : List A) → length l ≡ n → ((j : ℕ) → j < n → decode (part b (base + j * s) s) ≡ get_or l j (decode []))
      → region b ≡ l
  same_region b l size same =
      ext_get_or (decode []) (region b) l (length_region b ∙ sym size)
      (λ j h. let i : j < n = rw length_region at h in cell_read b j (decode []) i ∙ same j i)

  -- cell k is written: element k is another, and no other is
  pub cell_written : (b : List ℕ) (k : ℕ) (c : List ℕ) → base + n * s ≤ length b → k < n → length c ≡ s
      → region (overwritten b (base + k * s) s c) ≡ set (region b) k (decode c)
  cell_written b k c fits h sized =
      same_region (overwritten b (base + k * s) s c) (set (region b) k (decode c)) (length-set (region b) k (decode c) ∙ length_region b)
      (λ j i. element j i (ℕ_discrete j k))
    where
      inside : base + k * s + s ≤ length b
      inside = omega (arith, cell_ends s k n h)

      element : (j : ℕ) → j < n → Dec (j ≡ k)
          → decode (part (overwritten b (base + k * s) s c) (base + j * s) s) ≡ get_or (set (region b) k (decode c)) j (decode [])
      element j i (yes same) =
          rw same
          (ap decode (part_written b (base + k * s) s c inside sized)
          ∙ sym (get_or-set_same (region b) k (decode c) (decode []) (rw length_region h)))
      element j i (no other) =
          ap decode (part_stays b (base + k * s) s c inside sized (base + j * s) s (cells_apart s base j k other))
          ∙ sym (get_or-set_other (region b) k j (decode c) (decode []) other ∙ cell_read b j (decode []) i)

  -- bytes outside the region are written: it is as it was
  pub region_stays : (b : List ℕ) (at t : ℕ) (c : List ℕ) → at + t ≤ length b → length c ≡ t → Apart base (n * s) at t
      → region (overwritten b at t c) ≡ region b
  region_stays b at t c inside sized apart =
      same_region (overwritten b at t c) (region b) (length_region b)
      (λ j i. ap decode (part_stays b at t c inside sized (base + j * s) s (cell_apart j i apart)) ∙ sym (cell_read b j (decode []) i))
    where
      cell_apart : (j : ℕ) → j < n → Apart base (n * s) at t → Apart (base + j * s) s at t
      cell_apart j i (inl before) = inl (omega (arith, cell_ends s j n i))
      cell_apart j i (inr behind) = inr (omega arith)

-- ---- a region and its bytes

-- bytes, decoded and encoded again
module _ {A : Type 0} (encode : A → List ℕ) (decode : List ℕ → A) (s : ℕ) (back : (c : List ℕ) → length c ≡ s → Bytes c → encode (decode c) ≡ c) where
  cells_uncells : (n : ℕ) (b : List ℕ) → n * s ≤ length b → Bytes b → cells encode (uncells decode s n b) ≡ take (n * s) b
  unfolding uncells cells
  cells_uncells zero b h y = rw zero-mul refl
  cells_uncells (suc n) b h y =
      let fits : n * s + s ≤ length b = rw suc-mul at h in
      let rest : n * s ≤ length (drop s b) = rw length-drop (omega arith) in
      ap₂ (λ (t u : List ℕ). t ++ u) (back (take s b) (length-take-le s b (omega arith)) (bytes_take b s y))
      (cells_uncells n (drop s b) rest (bytes_drop b s y))
      ∙ sym (take-add s (n * s) b)
      ∙ ap (λ (k : ℕ). take k b) (add_comm s (n * s) ∙ sym (suc-mul n s))

  pub region_bytes : (n base : ℕ) (b : List ℕ) → base + n * s ≤ length b → Bytes b
      → cells encode (region decode s n base b) ++ drop (base + n * s) b ≡ drop base b
  region_bytes n base b fits y =
      let room : n * s ≤ length (drop base b) = rw length-drop (omega arith) in
      ap₂ (λ (t u : List ℕ). t ++ u) (cells_uncells n (drop base b) room (bytes_drop b base y)) (sym (drop-drop (n * s) base b))
      ∙ take-append-drop (n * s) (drop base b)

module _ {A : Type 0} (encode : A → List ℕ) (s : ℕ) (sized : (x : A) → length (encode x) ≡ s) where
  pub length_cells : (l : List A) → length (cells encode l) ≡ length l * s
  unfolding cells
  length_cells [] = sym (zero-mul s)
  length_cells (x ∷ l) = rw (length-append, sized, length_cells l, suc-mul) (add_comm s (length l * s))

  -- cells, encoded and decoded again, before other bytes
  uncells_cells : (decode : List ℕ → A) (l : List A) (q : List ℕ) (d : A)
      → ((k : ℕ) → k < length l → decode (encode (get_or l k d)) ≡ get_or l k d) → uncells decode s (length l) (cells encode l ++ q) ≡ l
  unfolding cells uncells
  uncells_cells decode [] q d back = refl
  uncells_cells decode (x ∷ l) q d back =
      rw append_assoc
      (ap₂ (λ (y : A) (r : List A). y ∷ r)
      (ap decode (take_at (encode x) (cells encode l ++ q) s (sized x)) ∙ back zero (omega arith))
      (ap (uncells decode s (length l)) (drop_at (encode x) (cells encode l ++ q) s (sized x))
      ∙ uncells_cells decode l q d (λ k i. back (suc k) (suc-le-suc i))))

  -- cells that lie in a memory at base, before q, are its region there, and q lies behind the region
  pub region_cells : (decode : List ℕ → A) (n base : ℕ) (b : List ℕ) (l : List A) (q : List ℕ) (d : A) → drop base b ≡ cells encode l ++ q
      → length l ≡ n → ((k : ℕ) → k < n → decode (encode (get_or l k d)) ≡ get_or l k d) → (region decode s n base b ≡ l) × (drop (base + n * s) b ≡ q)
  region_cells decode n base b l q d there size back =
      let end : length (cells encode l) ≡ n * s = rw (length_cells, size) refl in (
        rw (there, ← size) (uncells_cells decode l q d (λ k h. back k (rw size at h))),
        sym (drop-drop (n * s) base b) ∙ ap (drop (n * s)) there ∙ drop_at (cells encode l) q (n * s) end,
      )
