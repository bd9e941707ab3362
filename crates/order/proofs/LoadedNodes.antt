-- The nodes for examples are loaded from their files, whose verdicts are computed, and so they are sound.
-- Assumes nothing.
use mathlib.Core.Path.{◌≡◌, refl}
use mathlib.Core.List.{List}
use Prim.Native.Nat.{ℕ}
use Rattle.std.specs.Prelude.{Ok}
use Rattle.packing.specs.Values.{is_width, extend, extended}
use Rattle.record.specs.Numbers.{tally, any_below}
use Rattle.record.specs.Records.{byte_at, word_at, is_frame, is_message, is_field, frame_at, message_at, field_at, pair_below}
use Rattle.ranges.specs.Ranges.{wrong_if, word_fits, word_finding, frame_finding, message_finding, field_finding}
use Rattle.ranges.specs.Ranges.{finding_of, finding_at, wrong_at, lowest_fault, range_fault}
use Rattle.record.specs.Runs.{past_end, meet}
use Rattle.layout.specs.Counts.{counts, counts_before}
use Rattle.layout.specs.Verdict.{
  size_fault,
  order_fault,
  ref_fault,
  is_field_of,
  unlike,
  group_fault,
  clash_at,
  place_fault,
  fails,
  no_field,
  complete,
  fails_at,
  judged,
  verdict,
}
use Rattle.layout.specs.Paper.{record_of}
use Rattle.store.specs.Node.{Node}
use Rattle.start.specs.Start.{start_of}
use Rattle.node.specs.Load.{load_of}
use Rattle.node.specs.Sound.{Sound}
use Rattle.node.proofs.Starts.{sound_load}
use Rattle.order.specs.Example.{sent_file, received_file}
use Rattle.order.specs.LoadedNodes.{sender_file, alone_file, among_file, twice_file, sender, receiver_alone, receiver_among, receiver_twice, EachLoaded}

pub accepted : (verdict sender_file ≡ Ok (counts 1 1 1))
    × (verdict (alone_file 0 188) ≡ Ok (counts 1 1 1))
    × (verdict (alone_file 1 188) ≡ Ok (counts 1 1 1)) × (verdict (alone_file 0 88) ≡ Ok (counts 1 1 1))
    × (verdict among_file ≡ Ok (counts 2 2 2))
    × (verdict (twice_file 1 2) ≡ Ok (counts 2 1 2)) × (verdict (twice_file 2 1) ≡ Ok (counts 2 1 2))
    × (verdict sent_file ≡ Ok (counts 2 2 2)) × (verdict received_file ≡ Ok (counts 1 1 1))
unfolding
    sender_file alone_file among_file twice_file sent_file received_file record_of
    extended is_width extend
    tally any_below
    byte_at word_at is_frame is_message is_field frame_at message_at field_at pair_below counts_before
    wrong_if word_fits word_finding frame_finding message_finding field_finding finding_of finding_at wrong_at lowest_fault range_fault
    size_fault order_fault ref_fault is_field_of unlike group_fault
    past_end meet clash_at place_fault fails no_field complete fails_at judged verdict
accepted = (refl, refl, refl, refl, refl, refl, refl, refl, refl)

-- a file that is accepted loads on every node, and leaves its node at start
pub loads : (file : List ℕ) (F M D : ℕ) → verdict file ≡ Ok (counts F M D) → (n : Node)
    → load_of n file ≡ record { answer = 0; node = start_of file F M D }
unfolding load_of
loads file F M D e n = rw e refl

-- which is sound
pub loaded_sound : (file : List ℕ) (F M D : ℕ) → verdict file ≡ Ok (counts F M D) → Sound (start_of file F M D)
loaded_sound file F M D e =
    let n = start_of file F M D in
    let load = loads file F M D e n in
    rw load at (sound_load n file (rw load refl))

pub loaded : (n : Node) → EachLoaded n
unfolding sender receiver_alone receiver_among receiver_twice
loaded n =
    record {
      sending = loads sender_file 1 1 1 accepted.0 n;
      alone = loads (alone_file 0 188) 1 1 1 accepted.1 n;
      big = loads (alone_file 1 188) 1 1 1 accepted.2 n;
      word = loads (alone_file 0 88) 1 1 1 accepted.3 n;
      among = loads among_file 2 2 2 accepted.4 n;
      one_two = loads (twice_file 1 2) 2 1 2 accepted.5 n;
      two_one = loads (twice_file 2 1) 2 1 2 accepted.6 n;
    }

pub sender_sound : Sound sender
unfolding sender
sender_sound = loaded_sound sender_file 1 1 1 accepted.0

pub alone_sound : Sound (receiver_alone 0 188)
unfolding receiver_alone
alone_sound = loaded_sound (alone_file 0 188) 1 1 1 accepted.1

pub among_sound : Sound receiver_among
unfolding receiver_among
among_sound = loaded_sound among_file 2 2 2 accepted.4
