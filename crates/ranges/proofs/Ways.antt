-- The four ways in which a byte of a record is wrong, in the paper's words. Of each byte the lists say at most one: that it is right, that it has a
-- range, that it is reserved, or that a word begins there; and which of these decides in which way it can be wrong.
-- Assumes nothing.
use mathlib.Core.Path.{◌≡◌, refl, sym, ap, ◌∙◌}
use mathlib.Core.Bool.{Bool, true, false, not, cond, ◌&&◌, true≢false}
use mathlib.Core.List.{List}
use mathlib.Core.Logic.{◌↔◌, ◌⊎◌, inl, inr, ⊎_elim}
use Prim.Native.Nat.{ℕ, ◌<◌, ◌≤◌}
use native.Mathlib.Omega.{arith}
use lib.Dec.{eqb, ltb}
use lib.ListN.{get_or}
use borrow.Author.Tests.{ne_eqb, eqb-true, ltb-true, lt-leb, le-leb}
use Rattle.std.specs.Prelude.{Ok, Err}
use Rattle.record.specs.Records.{byte_at, is_message, frame_at, message_at, field_at}
use Rattle.ranges.specs.Ranges.{
  Finding,
  wrong_if,
  uses_x1,
  uses_x2,
  word_fits,
  word_finding,
  frame_findings,
  message_findings,
  field_findings,
  frame_finding,
  message_finding,
  field_finding,
  finding_of,
  nonzero_at,
  finding_at,
}
use Rattle.ranges.specs.Claims.{named, WordAt, UnusedWord, UnfitWord, Claims}
use Rattle.record.proofs.Tests.{meanings}
use Rattle.ranges.proofs.Lowest.{if_clear, if_holds, listed}
use Rattle.record.specs.declared.Frame.{Frame}
use Rattle.record.specs.declared.Message.{Message}
use Rattle.record.specs.declared.Field.{Field}
use Rattle.ranges.specs.declared.Fault.{Fault}

-- ---- what is said of a byte

-- of byte k, where f is found; `other` says that the byte is not zero, and `message` that the record is a message, which is g
data Said (message : Bool) (g : Message) (other : Bool) (k : ℕ) (f : Finding) : Type 0 where
  right : f ≡ Ok tt → named message k ≡ true → Said message g other k f
  range : (t : Bool) → f ≡ wrong_if t Fault.Range → named message k ≡ true → k < 8 → Said message g other k f
  reserved : f ≡ wrong_if other Fault.Reserved → named message k ≡ false → Said message g other k f
  word : (used : Bool) (x : ℕ) → f ≡ word_finding g used x → named message k ≡ true → message ≡ true → WordAt g k used x → Said message g other k f

-- the entries of four bytes, and of those after them
four : {A B C D E : Type 0} → A → B → C → D → E → A × (B × (C × (D × E)))
four a b c d later = (a, (b, (c, (d, later))))

-- the entries of the lists
module _ {message : Bool} {g : Message} {other : Bool} where
  right_at : (k : ℕ) → named message k ≡ true → Said message g other k (Ok tt)
  right_at k = Said.right refl

  range_at : (t : Bool) (k : ℕ) → named message k ≡ true → ltb k 8 ≡ true → Said message g other k (wrong_if t Fault.Range)
  range_at t k n l = Said.range t refl n (ltb-true k 8 l)

  reserved_at : (k : ℕ) → named message k ≡ false → Said message g other k (wrong_if other Fault.Reserved)
  reserved_at k = Said.reserved refl

frame_said : (h : Frame) (g : Message) (k : ℕ) (other : Bool) → Said false g other k (frame_finding h k other)
unfolding frame_finding
frame_said h g k other =
    listed (Said false g other) (frame_findings h) (search (right_at, range_at) depth 20) k (wrong_if other Fault.Reserved)
    (λ past. reserved_at k (lt-leb k 5 past))

message_said : (g : Message) (k : ℕ) (other : Bool) → Said true g other k (message_finding g k other)
unfolding message_finding
message_said g k other =
    let x1 : Said true g other 8 (word_finding g (uses_x1 g.filter) g.x1) = Said.word _ _ refl refl refl (WordAt.x1 refl refl refl) in
    let x2 : Said true g other 12 (word_finding g (uses_x2 g.filter) g.x2) = Said.word _ _ refl refl refl (WordAt.x2 refl refl refl) in
    let initial : Said true g other 16 (word_finding g true g.initial) = Said.word _ _ refl refl refl (WordAt.initial refl refl refl) in
    listed (Said true g other) (message_findings g other)
    (four (right_at 0 refl) (range_at _ 1 refl refl) (range_at _ 2 refl refl) (range_at _ 3 refl refl)
    (four (range_at _ 4 refl refl) (range_at _ 5 refl refl) (range_at _ 6 refl refl) (reserved_at 7 refl)
    (four x1 (right_at 9 refl) (right_at 10 refl) (right_at 11 refl)
    (four x2 (right_at 13 refl) (right_at 14 refl) (right_at 15 refl)
    (four initial (right_at 17 refl) (right_at 18 refl) (right_at 19 refl) tt)))))
    k (wrong_if other Fault.Reserved)
    (λ past. reserved_at k (rw (lt-leb k 6 (omega arith), lt-leb k 19 past, le-leb 8 k (omega arith)) refl))

field_said : (r : Field) (g : Message) (k : ℕ) (other : Bool) → Said false g other k (field_finding r k other)
unfolding field_finding
field_said r g k other =
    listed (Said false g other) (field_findings r) (search (right_at, range_at) depth 20) k (wrong_if other Fault.Reserved)
    (λ past. reserved_at k (lt-leb k 5 past))

said : (s : List ℕ) (i k : ℕ) → Said (is_message s i) (message_at s i) (nonzero_at s i k) k (finding_at s i k)
unfolding finding_at finding_of is_message
said s i k = go _ _ refl refl
  where
    go :
        (a b : Bool) → eqb (byte_at s i 0) 1 ≡ a → eqb (byte_at s i 0) 2 ≡ b
        → Said b (message_at s i) (nonzero_at s i k) k
        (cond a (frame_finding (frame_at s i) k (nonzero_at s i k))
        (cond b (message_finding (message_at s i) k (nonzero_at s i k)) (field_finding (field_at s i) k (nonzero_at s i k))))
    go true true first second = absurd (omega (arith, eqb-true (byte_at s i 0) 1 first, eqb-true (byte_at s i 0) 2 second))
    go true false first second = frame_said (frame_at s i) (message_at s i) k (nonzero_at s i k)
    go false true first second = message_said (message_at s i) k (nonzero_at s i k)
    go false false first second = field_said (field_at s i) (message_at s i) k (nonzero_at s i k)

-- ---- the four ways

-- the ways told apart by a number, and right from wrong
abbrev tag : Finding → ℕ
tag (Ok u) = 0
tag (Err Fault.Range) = 1
tag (Err Fault.Reserved) = 2
tag (Err Fault.Unused) = 3
tag (Err Fault.Width) = 4

-- what a test finds is right, or its own fault where it holds
found_wrong : (t : Bool) (fault : Fault) → ((wrong_if t fault ≡ Ok tt) × (t ≡ false)) ⊎ ((wrong_if t fault ≡ Err fault) × (t ≡ true))
found_wrong true fault = inr (if_holds true fault refl, refl)
found_wrong false fault = inl (if_clear false fault refl, refl)

-- a word is right, not used and not zero, or else does not fit
data Told (g : Message) (used : Bool) (x : ℕ) : Type 0 where
  right : word_finding g used x ≡ Ok tt → word_fits g x ≡ true → (used ≡ false → x ≡ 0) → Told g used x
  unused : word_finding g used x ≡ Err Fault.Unused → used ≡ false → (x ≡ 0 → ⊥) → Told g used x
  width : word_finding g used x ≡ Err Fault.Width → word_fits g x ≡ false → (used ≡ false → x ≡ 0) → Told g used x

told : (g : Message) (used : Bool) (x : ℕ) → Told g used x
unfolding word_finding
told g used x = go _ _ refl refl
  where
    go : (u e : Bool) → (not used && not (eqb x 0)) ≡ u → word_fits g x ≡ e → Told g used x
    go true e first fits = let both = simp meanings at first in Told.unused (rw first refl) both.0 both.1
    go false true first fits = Told.right (rw (first, fits) (if_clear false Fault.Width refl)) fits (simp meanings at first)
    go false false first fits = Told.width (rw (first, fits) (if_holds true Fault.Width refl)) fits (simp meanings at first)

-- ---- byte k of record i

module _ (s : List ℕ) (i k : ℕ) where
  abbrev is_named : Bool
  is_named = named (is_message s i) k

  data Way : Type 0 where
    right : finding_at s i k ≡ Ok tt → (is_named ≡ true) ⊎ (nonzero_at s i k ≡ false) → Way
    range : finding_at s i k ≡ Err Fault.Range → is_named ≡ true → k < 8 → Way
    reserved : finding_at s i k ≡ Err Fault.Reserved → is_named ≡ false → nonzero_at s i k ≡ true → Way
    unused : finding_at s i k ≡ Err Fault.Unused → is_named ≡ true → UnusedWord s i k → Way
    width : finding_at s i k ≡ Err Fault.Width → is_named ≡ true → UnfitWord s i k → Way

  way : Way
  way = go (said s i k)
    where
      go : Said (is_message s i) (message_at s i) (nonzero_at s i k) k (finding_at s i k) → Way
      go (Said.right e n) = Way.right e (inl n)
      go (Said.range t e n l) = ⊎_elim (λ h. Way.right (e ∙ h.0) (inl n)) (λ h. Way.range (e ∙ h.0) n l) (found_wrong t Fault.Range)
      go (Said.reserved e n) = ⊎_elim (λ h. Way.right (e ∙ h.0) (inr h.1)) (λ h. Way.reserved (e ∙ h.0) n h.1) (found_wrong _ Fault.Reserved)
      go (Said.word used x e n message at) = word (told (message_at s i) used x)
        where
          word : Told (message_at s i) used x → Way
          word (Told.right f fits none) = Way.right (e ∙ f) (inl n)
          word (Told.unused f off nonzero) =
              Way.unused (e ∙ f) n (record { message = message; used = used; value = x; word = at; not_used = off; not_zero = nonzero })
          word (Told.width f wide none) =
              Way.width (e ∙ f) n (record { message = message; used = used; value = x; word = at; unfit = wide; not_unused = none })

  -- two findings that differ
  differ : {f g : Finding} {A : Type 0} → finding_at s i k ≡ f → finding_at s i k ≡ g → (tag f ≡ tag g → ⊥) → A
  differ e h apart = absurd (apart (ap tag (sym e ∙ h)))

  reserved_way : (finding_at s i k ≡ Err Fault.Reserved) ↔ ((is_named ≡ false) × (byte_at s i k ≡ 0 → ⊥))
  reserved_way = (to way, λ h. from way h.0 h.1)
    where
      to : Way → finding_at s i k ≡ Err Fault.Reserved → (is_named ≡ false) × (byte_at s i k ≡ 0 → ⊥)
      to (Way.right e n) w = differ e w (λ z. omega arith)
      to (Way.range e n l) w = differ e w (λ z. omega arith)
      to (Way.reserved e n o) w = (n, simp meanings at o)
      to (Way.unused e n u) w = differ e w (λ z. omega arith)
      to (Way.width e n u) w = differ e w (λ z. omega arith)

      from : Way → is_named ≡ false → (byte_at s i k ≡ 0 → ⊥) → finding_at s i k ≡ Err Fault.Reserved
      from (Way.right e n) other nonzero = ⊎_elim (λ y. absurd (true≢false (sym y ∙ other))) (λ z. absurd (nonzero (simp meanings at z))) n
      from (Way.range e n l) other nonzero = absurd (true≢false (sym n ∙ other))
      from (Way.reserved e n o) other nonzero = e
      from (Way.unused e n u) other nonzero = absurd (true≢false (sym n ∙ other))
      from (Way.width e n u) other nonzero = absurd (true≢false (sym n ∙ other))

  -- a word begins at byte 8 or after it
  word_after : {g : Message} {used : Bool} {x : ℕ} → WordAt g k used x → 8 ≤ k
  word_after (WordAt.x1 e u w) = omega arith
  word_after (WordAt.x2 e u w) = omega arith
  word_after (WordAt.initial e u w) = omega arith

  range_way :
      (finding_at s i k ≡ Err Fault.Range) ↔ ((is_named ≡ true) × (k < 8) × (finding_at s i k ≡ Ok tt → ⊥))
  range_way = (to way, λ h. from way h.0 h.1 h.2)
    where
      to : Way → finding_at s i k ≡ Err Fault.Range → (is_named ≡ true) × (k < 8) × (finding_at s i k ≡ Ok tt → ⊥)
      to (Way.right e n) w = differ e w (λ z. omega arith)
      to (Way.range e n l) w = (n, l, λ right. differ e right (λ z. omega arith))
      to (Way.reserved e n o) w = differ e w (λ z. omega arith)
      to (Way.unused e n u) w = differ e w (λ z. omega arith)
      to (Way.width e n u) w = differ e w (λ z. omega arith)

      from : Way → is_named ≡ true → k < 8 → (finding_at s i k ≡ Ok tt → ⊥) → finding_at s i k ≡ Err Fault.Range
      from (Way.right e n) there l wrong = absurd (wrong e)
      from (Way.range e n b) there l wrong = e
      from (Way.reserved e n o) there l wrong = absurd (true≢false (sym there ∙ n))
      from (Way.unused e n u) there l wrong = absurd (omega (arith, word_after u.word))
      from (Way.width e n u) there l wrong = absurd (omega (arith, word_after u.word))

  -- where a word begins, what is found is what the word says
  word_found : {used : Bool} {x : ℕ} → is_message s i ≡ true → WordAt (message_at s i) k used x → finding_at s i k ≡ word_finding (message_at s i) used x
  unfolding finding_at finding_of is_message message_finding
  word_found message at =
      let first : eqb (byte_at s i 0) 1 ≡ false = ne_eqb (byte_at s i 0) 1 (λ e. omega (arith, e, eqb-true (byte_at s i 0) 2 message)) in
      rw (first, message) (go at)
    where
      go : {used : Bool} {x : ℕ} → WordAt (message_at s i) k used x
          → get_or (message_findings (message_at s i) (nonzero_at s i k)) k (wrong_if (nonzero_at s i k) Fault.Reserved) ≡ word_finding (message_at s i) used x
      go (WordAt.x1 e u w) = rw (e, u, w) refl
      go (WordAt.x2 e u w) = rw (e, u, w) refl
      go (WordAt.initial e u w) = rw (e, u, w) refl

  unused_way : (finding_at s i k ≡ Err Fault.Unused) ↔ UnusedWord s i k
  unused_way = (to way, λ u. word_found u.message u.word ∙ from u.not_used u.not_zero (told _ _ _))
    where
      to : Way → finding_at s i k ≡ Err Fault.Unused → UnusedWord s i k
      to (Way.right e n) w = differ e w (λ z. omega arith)
      to (Way.range e n l) w = differ e w (λ z. omega arith)
      to (Way.reserved e n o) w = differ e w (λ z. omega arith)
      to (Way.unused e n u) w = u
      to (Way.width e n u) w = differ e w (λ z. omega arith)

      from : {g : Message} {used : Bool} {x : ℕ} → used ≡ false → (x ≡ 0 → ⊥) → Told g used x → word_finding g used x ≡ Err Fault.Unused
      from off nonzero (Told.right e fits none) = absurd (nonzero (none off))
      from off nonzero (Told.unused e a b) = e
      from off nonzero (Told.width e wide none) = absurd (nonzero (none off))

  width_way : (finding_at s i k ≡ Err Fault.Width) ↔ UnfitWord s i k
  width_way = (to way, λ u. word_found u.message u.word ∙ from u.unfit u.not_unused (told _ _ _))
    where
      to : Way → finding_at s i k ≡ Err Fault.Width → UnfitWord s i k
      to (Way.right e n) w = differ e w (λ z. omega arith)
      to (Way.range e n l) w = differ e w (λ z. omega arith)
      to (Way.reserved e n o) w = differ e w (λ z. omega arith)
      to (Way.unused e n u) w = differ e w (λ z. omega arith)
      to (Way.width e n u) w = u

      from :
          {g : Message} {used : Bool} {x : ℕ} → word_fits g x ≡ false → (used ≡ false → x ≡ 0) → Told g used x
          → word_finding g used x ≡ Err Fault.Width
      from wide zeros (Told.right e fits none) = absurd (true≢false (sym fits ∙ wide))
      from wide zeros (Told.unused e off nonzero) = absurd (nonzero (zeros off))
      from wide zeros (Told.width e also none) = e

pub claims : Claims
claims = record { reserved = reserved_way; unused = unused_way; width = width_way; range = range_way }
