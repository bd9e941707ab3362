-- What holds of the table of used bits. Each line is a theorem; proofs/Claims.antt says where it is proved.
-- Assumes nothing.
use Rattle.std.specs.Prelude.{◌≡◌, Bool, true, false, ◌&&◌, ◌||◌, List, ◌↔◌, ℕ, ◌+◌, ◌<◌, ◌≤◌, eqb, length, replicate}
use Rattle.record.specs.Numbers.{any_below}
use Rattle.record.specs.Runs.{meet}
use Rattle.record.specs.declared.Run.{Run}
use Rattle.used.specs.Used.{table_size, is_used, in_run, any_used, with_run}

-- a run that lies in row f of a table
pub record MayAdd (t : List ℕ) (f : ℕ) (a : Run) : Type 0 where
  pub frame : f < 32
  pub few : a.width ≤ 32
  pub inside : a.start + a.width ≤ 256
  pub size : length t ≡ table_size

-- u is the table t with the run's bits of frame f used too, and every other bit as it was
pub record Added (t : List ℕ) (f : ℕ) (a : Run) (u : List ℕ) : Type 0 where
  pub size : length u ≡ length t
  pub bits : (g b : ℕ) → g < 32 → b < 256 → is_used u g b ≡ (is_used t g b || (eqb g f && in_run a b))

pub record Claims : Type 0 where
  -- A table of zeros: no bit is used
  pub none_used : (f b : ℕ) → is_used (replicate table_size 0) f b ≡ false
  pub none_any : (f : ℕ) (a : Run) → any_used (replicate table_size 0) f a ≡ false
  -- A run has a used bit exactly if one of its bits is used
  pub some_bit : (t : List ℕ) (f : ℕ) (a : Run) → (any_used t f a ≡ true) ↔ ((b : ℕ) × (in_run a b ≡ true) × (is_used t f b ≡ true))
  -- and whether it has one is known by its own bits alone
  pub by_bits : (t : List ℕ) (f : ℕ) (a : Run) (p : ℕ → Bool) → ((b : ℕ) → in_run a b ≡ true → is_used t f b ≡ p b)
      → any_used t f a ≡ any_below (λ k. p (a.start + k)) a.width
  -- After run a of frame f is with_run, its bits are used too, and every other bit is as it was
  pub added_bits : (t : List ℕ) (f : ℕ) (a : Run) → MayAdd t f a → Added t f a (with_run t f a)
  -- so that a run has a used bit exactly if it had one, or is of the same frame and meets a
  pub added_any :
      (t : List ℕ) (f : ℕ) (a : Run) → MayAdd t f a → (g : ℕ) (c : Run) → g < 32 → c.start + c.width ≤ 256
      → any_used (with_run t f a) g c ≡ (any_used t g c || (eqb g f && meet c a))
