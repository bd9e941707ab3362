-- The node of an accepted layout file is sound, and so is the node after every load that answers 0. Its layout part is (own proofs/Starts); in its state
-- each message holds the initial value, which its record demands to be one that it can hold. A refusal's number is not 0, so a load that answers 0 has
-- accepted the file.
-- Assumes nothing.
use mathlib.Core.Path.{◌≡◌, refl}
use mathlib.Core.Bool.{Bool, true}
use mathlib.Core.List.{List}
use mathlib.Core.Logic.{inl, inr}
use Prim.Native.Nat.{ℕ, ◌+◌, ◌^◌, ◌<◌, ◌≤◌}
use native.Mathlib.Omega.{arith}
use lib.Dec.{eqb}
use borrow.Author.Tests.{lt-ltb, le-ltb, eqb-true, not-true, not-false}
use Rattle.packing.specs.Values.{in_range, value_of, extended}
use Rattle.packing.proofs.Values.{pattern_below, extended_pattern, extended_value}
use Rattle.layout.specs.Verdict.{Verdict, verdict}
use Rattle.std.specs.Prelude.{Ok, Err}
use Rattle.layout.specs.WellLaid.{WellLaid}
use Rattle.layout.proofs.Accepted.{accepted}
use Rattle.layout.proofs.Node.{few_messages}
use Rattle.layout.proofs.Numbers.{number_to_ten}
use Rattle.store.specs.Node.{State, Node, no_delivery, no_state, no_stage, state_at}
use Rattle.start.specs.Start.{
  start_status_bit,
  start_message,
  start_message_or_none,
  initial_state,
  state_or_none,
  start_states,
  start_layout,
  start_state,
  start_of,
}
use Rattle.start.proofs.Tables.{length_table, table_at}
use Rattle.message.proofs.Held.{word_held}
use Rattle.own.proofs.Starts.{message_at_lem, sound_layout}
use Rattle.own.proofs.Tables.{table_past, alike_at}
use Rattle.node.specs.Load.{loaded, load_of}
use Rattle.node.specs.Sound.{SoundMessageState, SoundState, Sound}
use Rattle.node.proofs.Kept.{at_most_one, none_delivered}

-- an extended word is a pattern of 32 bits, and that of a value in the range
extended_word : (signed : Bool) (w x : ℕ) → extended signed w x ≡ true → x < 2 ^ 32
extended_word signed w x t = let (z, e, _) = (extended_pattern signed w x).0 t in rw e (pattern_below 32 z)

extended_held : (signed : Bool) (w x : ℕ) → extended signed w x ≡ true → in_range signed w (value_of signed 32 x) ≡ true
extended_held signed w x t = rw (← extended_value signed w x (extended_word signed w x t)) t

module _ (s : List ℕ) (F M D : ℕ) (w : WellLaid s F M D) where
  abbrev state : State
  state = start_state s F M D

  abbrev status_bit : ℕ → ℕ
  status_bit m = start_status_bit s (F + M) D m

  -- what the node holds of message m
  pub state_at_lem : (m : ℕ) → m < M → state_at state m ≡ initial_state s F (status_bit m) m
  unfolding start_state start_states state_or_none start_message_or_none start_message
  state_at_lem m l =
      let inside : m < 32 = omega (arith, few_messages s F M D w) in
      rw (table_at (λ m. state_or_none s F M (start_message_or_none s F M D m).statusbit m) no_state 32 m inside, lt-ltb m M l)

  no_state_lem : (m : ℕ) → M ≤ m → state_at state m ≡ no_state
  unfolding start_state start_states state_or_none
  no_state_lem m past =
      table_past (λ m. state_or_none s F M (start_message_or_none s F M D m).statusbit m) no_state 32 m (rw (le-ltb m M past) refl)

  initial_sound : (m : ℕ) → m < M → SoundMessageState (start_message s F (F + M) D m) (initial_state s F (status_bit m) m)
  unfolding start_message
  initial_sound m l =
      let r = (w.messages m l).initial in
      record {
        valid = at_most_one (eqb (status_bit m) 0);
        always_valid = λ none. rw (not-false (eqb (status_bit m) 0) none) refl;
        received_valid = λ received bit. rw (not-true (eqb (status_bit m) 0) bit) refl;
        sent_status = λ sent. refl;
        status = inr (inr (inl refl));
        held_word = extended_word _ _ _ r.fits;
        held = word_held (start_message s F (F + M) D m) _ (extended_held _ _ _ r.fits) (λ float. r.finite (eqb-true _ _ float));
      }

  sound_state : SoundState (start_layout s F M D) state
  unfolding start_layout start_state start_states
  sound_state =
      record {
        delivery_cells = refl;
        message_cells = length_table _ 0 32;
        stage_cells = refl;
        deliveries = λ f l. rw (alike_at no_delivery 32 f) (none_delivered _);
        no_deliveries = λ f past. alike_at no_delivery 32 f;
        messages = λ m l. rw (message_at_lem s F M D w m l, state_at_lem m l) (initial_sound m l);
        no_states = no_state_lem;
        stages = λ d l. rw (alike_at no_stage 128 d) (record { stage = inr (inr refl); always_gone = λ received. refl });
        no_stages = λ d past. alike_at no_stage 128 d;
      }

  sound_start : Sound (start_of s F M D)
  sound_start = record { layout = sound_layout s F M D w; state = sound_state }

-- ---- a load

-- the file is well laid out, and the load makes its node
pub record Makes (n : Node) (s : List ℕ) : Type 0 where
  pub frames : ℕ
  pub messages : ℕ
  pub fields : ℕ
  pub well_laid : WellLaid s frames messages fields
  pub node : (load_of n s).node ≡ start_of s frames messages fields

pub load_makes : (n : Node) (s : List ℕ) → (load_of n s).answer ≡ 0 → Makes n s
unfolding load_of
load_makes n s = go (verdict s) refl
  where
    go : (v : Verdict) → verdict s ≡ v → (loaded n s v).answer ≡ 0 → Makes n s
    go (Ok c) e done =
        record { frames = c.frames; messages = c.messages; fields = c.fields; well_laid = (accepted s c.frames c.messages c.fields).0 e; node = rw e }
    go (Err r) e done = absurd (omega (arith, number_to_ten r.refusal))

pub sound_load : (n : Node) (s : List ℕ) → (load_of n s).answer ≡ 0 → Sound (load_of n s).node
sound_load n s done =
    let made = load_makes n s done in
    rw made.node (sound_start s made.frames made.messages made.fields made.well_laid)
