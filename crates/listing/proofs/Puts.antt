-- Laws of a text written into a buffer: of no text, of one that is copied whole, and of two texts one after the other, which is as good as the appended
-- text. What is said of `Put` and `Adds` comes from the same said of `put_all`, by recursion over the text.
-- Assumes nothing.
use mathlib.Core.Path.{◌≡◌, refl, ◌∙◌}
use mathlib.Core.List.{List, [], ◌∷◌, ◌++◌, append_assoc}
use Prim.Native.Nat.{ℕ, suc, ◌+◌, ◌≤◌}
use native.Mathlib.Nat.{add-zero}
use native.Mathlib.Omega.{arith}
use lib.ListN.{length, take, drop, set, length-set, length-append}
use Rattle.std.proofs.lemmas.List.{take-append-drop, drop-drop, take_more_set, drop-set-lt}
use Rattle.listing.specs.declared.Text.{Text}
use Rattle.listing.specs.Put.{put_all, Put, Adds}

put_parts : (l : List ℕ) (at : ℕ) (t : List ℕ) → at + length t ≤ length l → take at l ++ (t ++ drop (at + length t) l) ≡ put_all l at t
unfolding put_all
put_parts l at [] fits = rw add-zero (take-append-drop at l)
put_parts l at (x ∷ t) fits =
    let e : at + suc (length t) ≡ at + 1 + length t = omega arith in
    let rest = put_parts (set l at x) (at + 1) t (omega (arith, length-set l at x)) in
    rw e (rw (take_more_set l at x (omega arith), drop-set-lt (at + 1 + length t) l at x (omega arith), append_assoc) at rest)

-- a whole text, copied into its part of the buffer
pub put_copied : (l : List ℕ) (at k : ℕ) (t : List ℕ) → at + length t ≤ length l → k ≡ length t → Put l (take at l ++ (t ++ drop k (drop at l))) at (at + length t) t (length t)
put_copied l at k t fits e =
    record { written = rw (e, drop-drop (length t) at l) (put_parts l at t fits); after = refl; short = omega arith }

put_append : (l : List ℕ) (at : ℕ) (a b : List ℕ) → put_all (put_all l at a) (at + length a) b ≡ put_all l at (a ++ b)
unfolding put_all
put_append l at [] b = rw add-zero
put_append l at (x ∷ a) b =
    let e : at + suc (length a) ≡ at + 1 + length a = omega arith in
    rw e (put_append (set l at x) (at + 1) a b)

pub adds_none : (l : Text) → Adds l l [] 0
unfolding put_all
adds_none l =
    record { put = record { written = refl; after = omega arith; short = omega arith }; same = refl }

module _ {k l : Text} {a : List ℕ} {x : ℕ} (first : Adds k l a x) where
  -- another text after it
  pub adds_both : {m : Text} {b : List ℕ} {y : ℕ} → Adds l m b y → Adds k m (a ++ b) (x + y)
  adds_both {b = b} second =
      record {
        put = record {
          written = second.put.written ∙ rw (first.put.written, first.put.after) (put_append k.out.now k.at a b);
          after = rw length-append (omega (arith, first.put.after, second.put.after));
          short = rw length-append (omega (arith, first.put.short, second.put.short));
        };
        same = second.same ∙ first.same;
      }

  -- a wider bound
  pub adds_within : {y : ℕ} → x ≤ y → Adds k l a y
  adds_within h =
      record { put = record { written = first.put.written; after = first.put.after; short = omega (arith, first.put.short) }; same = first.same }
