-- Agreement on a message's counting instances. They come as a list of whole numbers in frame order, the lowest frame number first.
-- Assumes nothing.
use Rattle.std.specs.Prelude.{Option, Some, None, ◌≡◌, Bool, cond, ◌&&◌, ◌||◌, List, [], ◌∷◌, ℕ, ◌+◌, ◌-◌, ◌<◌, ◌^◌, ltb, leb, ℤ, pos, neg_ℤ, ◌+ℤ◌, length, get_or}
use Rattle.std.specs.Int.Signed.{le_z, quot_z}
use Rattle.whole.specs.Whole.{eq_z, all_of}

-- ---- agreement 0, pick any

-- the counting instance with the lowest frame number
abbrev pub pick_any : List ℤ → Option ℤ
pick_any [] = None
pick_any (v ∷ l) = Some v

-- ---- agreement 1, average

-- the exact sum
unfoldable pub sum_of : List ℤ → ℤ
sum_of [] = pos 0
sum_of (v ∷ l) = v +ℤ sum_of l

-- divided by the count, the fraction dropped toward zero
unfoldable pub mean_of : List ℤ → ℤ
mean_of l = quot_z (sum_of l) (pos (length l))

-- a number lies between two others, or is one of them
abbrev pub between : ℤ → ℤ → ℤ → Bool
between lo hi v = le_z lo v && le_z v hi

-- a number that a message of at most 32 bits holds, signed or not
unfoldable pub message_value : ℤ → Bool
message_value v = between (neg_ℤ (pos (2 ^ 31))) (pos (2 ^ 32 - 1)) v

-- one to eight instances, as a message has fields, each of them such a number
unfoldable pub message_values : List ℤ → Bool
message_values l = (leb 1 (length l) && leb (length l) 8) && all_of message_value l

-- anything else has no mean
unfoldable pub average : List ℤ → Option ℤ
average l = cond (message_values l) (Some (mean_of l)) None

-- ---- agreement 2, vote

-- how many instances carry a value
unfoldable pub count_of : ℤ → List ℤ → ℕ
count_of v [] = 0
count_of v (u ∷ l) = cond (eq_z u v) 1 0 + count_of v l

-- the paper's rule: v is carried by more counting instances than every other value
abbrev pub Ahead : List ℤ → ℤ → Type 0
Ahead l v = (u : ℤ) → (u ≡ v → ⊥) → count_of u l < count_of v l

-- the same as a test of an instance v: no other instance's value is carried by as many
unfoldable pub ahead : List ℤ → ℤ → Bool
ahead l v = all_of (λ u. eq_z u v || ltb (count_of u l) (count_of v l)) l

-- an instance that passes a test, if there is one
unfoldable pub one_that : (ℤ → Bool) → List ℤ → Option ℤ
one_that p [] = None
one_that p (v ∷ l) = cond (p v) (Some v) (one_that p l)

-- the value that is ahead of every other: there is at most one, and this finds it (`one_ahead`, `vote_value`, specs/Claims)
unfoldable pub vote : List ℤ → Option ℤ
vote l = one_that (ahead l) l

-- ---- by number

-- agreements 0 to 2; a larger number is none
unfoldable pub agreed : ℕ → List ℤ → Option ℤ
agreed k l = get_or (pick_any l ∷ average l ∷ vote l ∷ []) k None
