-- The flag's history. The flag asks whether all fields of its message are gone, and each field is gone exactly if its frame has gone out since the
-- send that made it waiting. In a sound layout the frames that carry a message are those of its fields.
-- Assumes nothing.
use mathlib.Core.Path.{◌≡◌, refl, sym, ap, ◌∙◌}
use mathlib.Core.Bool.{Bool, true, false, cond, false≢true}
use mathlib.Core.List.{List, [], ◌∷◌}
use mathlib.Core.Logic.{◌↔◌}
use Prim.Native.Nat.{ℕ}
use native.Mathlib.Omega.{arith}
use lib.IntN.{ℤ}
use borrow.Author.Tests.{lt-ltb}
use Rattle.whole.specs.Whole.{all_of}
use Rattle.store.specs.Node.{Layout, Node, message_count, message_at, laid_at}
use Rattle.own.specs.declared.Owner.{Owner}
use Rattle.own.specs.Own.{cells_of}
use Rattle.node.specs.Calls.{send_answer, send_of, flag_answer, gone_at, flag_of, flag_place}
use Rattle.own.specs.SoundLayout.{SoundLayout}
use Rattle.node.specs.Sound.{Sound}
use Rattle.node.proofs.Answers.{send_tests, send_access}
use Rattle.calls.specs.Relations.{Call, send, read_flag, Seen, answer_of, seen_of, next, final}
use Rattle.order.specs.Flag.{Sent, GoesOut, AllOut, shows}
use Rattle.order.proofs.Among.{in_none, before_in}
use Rattle.order.proofs.Kept.{kept_sound, final_layout}
use Rattle.order.proofs.Carried.{FieldOf, all_fields, carried}
use Rattle.order.proofs.Stages.{send_waiting, field_history}

-- ---- the flag

-- a message that was sent with answer 0 has a flag
send_flag : {l : Layout} → SoundLayout l → (m : ℕ) (v : ℤ) → send_answer l m v ≡ 0 → flag_answer l m ≡ 0
unfolding flag_answer
send_flag {l} s m v e = rw (lt-ltb m (message_count l) (omega (arith, (send_tests l m v e).0, s.few_messages)), send_access l m v e) refl

-- reading it shows it set or cleared
reads : (n : Node) (m p : ℕ) → flag_answer n.layout m ≡ 0
    → seen_of n (read_flag m p) ≡ shows (cond (all_of (gone_at n.state) (cells_of n.layout (Owner.Message m))) 1 0)
unfolding flag_of flag_place
reads n m p a = rw a refl

-- set and cleared are two
apart : shows 1 ≡ shows 0 → ⊥
apart e = let same = ap (λ (x : Seen). x.lent) e in let z : ◌≡◌ {A = ℕ} 0 1 = cc in omega arith

either : (t : Bool) {A : Type 0} {x : Seen} → x ≡ shows (cond t 1 0) → ((t ≡ true) ↔ A) → ((x ≡ shows 1) ↔ A) × ((x ≡ shows 0) ↔ (A → ⊥))
either true e a = ((λ z. a.0 refl, λ h. e), (λ z h. apart (sym e ∙ z), λ h. absurd (h (a.0 refl))))
either false e a = ((λ z. absurd (apart (sym z ∙ e)), λ h. absurd (false≢true (a.1 h))), (λ z h. false≢true (a.1 h), λ h. e))

-- ---- since a send

module _ {n : Node} (s : Sound n) (m : ℕ) (v : ℤ) (ok : answer_of n (send m v) ≡ 0) where
  abbrev start : Node
  start = next n (send m v)

  module _ (l : List Call) (latest : Sent start m l → ⊥) where
    field_gone : {d f : ℕ} → FieldOf n.layout d m f → (gone_at (final start l).state d ≡ true) ↔ GoesOut start f l
    unfolding send_of
    field_gone x = rw (send_waiting s x v ok) at (field_history (kept_sound s (send m v)) x l latest)

    all_gone : (all_of (gone_at (final start l).state) (cells_of n.layout (Owner.Message m)) ≡ true) ↔ AllOut start m l
    unfolding send_of
    all_gone =
        let gone = all_fields s.layout m (gone_at (final start l).state) in
        let carry = carried s.layout m in (
          λ t f c. let (d, x) = (carry f).0 c in (field_gone x).0 (gone.0 t d f x),
          λ h. gone.1 (λ d f x. (field_gone x).1 (h f ((carry f).1 (d, x)))),
        )

-- After the latest send of a message that answered 0, filtered or not, its flag is set exactly if each frame that carries it has been assembled
-- with answer 0 and later consumed since that send, and cleared exactly if not. Other calls between them don't matter: l is any list of calls.
pub flag_history : {n : Node} → Sound n → (m : ℕ) (v : ℤ) → answer_of n (send m v) ≡ 0
    → (l : List Call) → (Sent (next n (send m v)) m l → ⊥) → (p : ℕ)
    → ((seen_of (final n (send m v ∷ l)) (read_flag m p) ≡ shows 1) ↔ AllOut (next n (send m v)) m l)
    × ((seen_of (final n (send m v ∷ l)) (read_flag m p) ≡ shows 0) ↔ (AllOut (next n (send m v)) m l → ⊥))
unfolding send_of
flag_history {n} s m v ok l latest p =
    let end = final n (send m v ∷ l) in
    let layout = final_layout n (send m v ∷ l) in
    either (all_of (gone_at end.state) (cells_of end.layout (Owner.Message m))) (reads end m p (rw layout (send_flag s.layout m v ok)))
    (rw layout (all_gone s m v ok l latest))

-- so the send itself clears it: a message has a field, and no frame has gone out yet
pub send_clears : {n : Node} → Sound n → (m : ℕ) (v : ℤ) → answer_of n (send m v) ≡ 0 → (p : ℕ) → seen_of (next n (send m v)) (read_flag m p) ≡ shows 0
unfolding send_of
send_clears {n} s m v ok p =
    (flag_history s m v ok [] (λ t. in_none t.1) p).1.1
    (λ h. in_none (before_in (h _ ((carried s.layout m _).1 ((message_at n.layout m).first, first_field))).1))
  where
    first_field : FieldOf n.layout (message_at n.layout m).first m (laid_at n.layout (message_at n.layout m).first).frame
    first_field =
        let known = (send_tests n.layout m v ok).0 in
        let message = s.layout.messages m known in
        record {
          known = omega (arith, message.in_count, message.some_field);
          message = s.layout.run m (message_at n.layout m).first known (omega arith) (omega (arith, message.some_field));
          frame = refl;
        }
