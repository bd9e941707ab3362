-- Where the function of a table says none, the table has none; a list of one element throughout has it at every place; a test that everything passes
-- is passed by all cells of a list; and a test of all images is one of all elements. By induction on the cells.
-- Assumes nothing.
use mathlib.Core.Path.{◌≡◌, refl, ◌∙◌}
use mathlib.Core.Bool.{Bool, true}
use mathlib.Core.List.{List, [], ◌∷◌, map}
use Prim.Native.Nat.{ℕ, zero, suc, ◌<◌}
use native.Mathlib.Decide.{dec_lt}
use native.Mathlib.Omega.{arith}
use lib.ListN.{get_or, replicate, get_or-eq_default}
use Rattle.whole.specs.Whole.{all_of}
use Rattle.start.specs.Start.{table}
use Rattle.start.proofs.Tables.{length_table, table_at}

module _ {A : Type 0} (f : ℕ → A) where
  -- where the function says none, the table has none, past its end too
  pub table_past : (none : A) (k j : ℕ) → f j ≡ none → get_or (table f 0 k) j none ≡ none
  table_past none k j e = go (dec_lt j k)
    where
      go : Dec (j < k) → get_or (table f 0 k) j none ≡ none
      go (yes h) = table_at f none k j h ∙ e
      go (no h) = get_or-eq_default (table f 0 k) none (rw (length_table f 0 k) (omega arith))

-- past the end too, where it stands for what is missing
pub alike_at : {A : Type 0} (a : A) (k j : ℕ) → get_or (replicate k a) j a ≡ a
alike_at a zero j = refl
alike_at a (suc k) zero = refl
alike_at a (suc k) (suc j) = alike_at a k j

pub all_pass : {A : Type 0} (p : A → Bool) → ((x : A) → p x ≡ true) → (l : List A) → all_of p l ≡ true
unfolding all_of
all_pass p h [] = refl
all_pass p h (x ∷ l) = rw (h x) (all_pass p h l)

pub all_map : {A B : Type 0} (f : A → B) (p : B → Bool) (l : List A) → all_of p (map f l) ≡ all_of (λ x. p (f x)) l
unfolding all_of
all_map f p [] = refl
all_map f p (x ∷ l) = rw (all_map f p l)
