-- What every call keeps: the layout, as each outcome has that of the node before, and soundness.
-- Assumes nothing.
use mathlib.Core.Path.{◌≡◌, refl, ◌∙◌}
use mathlib.Core.List.{List, [], ◌∷◌}
use lib.ListN.{length}
use Rattle.store.specs.Node.{Node}
use Rattle.node.specs.Calls.{send_of, invalidate_of, assemble_of, consumed_of, deliver_of}
use Rattle.node.specs.Sound.{Sound}
use Rattle.node.proofs.Kept.{send_kept, invalidate_kept, assemble_kept, consumed_kept, deliver_kept, close_kept}
use Rattle.calls.specs.Relations.{Call, send, invalidate, assemble, consumed, read_flag, deliver, close, receive, next, final}

pub kept_layout : (n : Node) (c : Call) → (next n c).layout ≡ n.layout
unfolding send_of invalidate_of assemble_of consumed_of deliver_of
kept_layout n (send m v) = refl
kept_layout n (invalidate m) = refl
kept_layout n (assemble f b) = refl
kept_layout n (consumed f) = refl
kept_layout n (read_flag m p) = refl
kept_layout n (deliver f valid d) = refl
kept_layout n close = refl
kept_layout n (receive m p) = refl

pub kept_sound : {n : Node} → Sound n → (c : Call) → Sound (next n c)
kept_sound s (send m v) = send_kept s m v
kept_sound s (invalidate m) = invalidate_kept s m
kept_sound s (assemble f b) = assemble_kept s f (length b)
kept_sound s (consumed f) = consumed_kept s f
kept_sound s (read_flag m p) = s
kept_sound s (deliver f valid d) = deliver_kept s f valid d
kept_sound s close = close_kept s
kept_sound s (receive m p) = s

-- of a list of calls
pub final_layout : (n : Node) (l : List Call) → (final n l).layout ≡ n.layout
final_layout n [] = refl
final_layout n (c ∷ l) = final_layout (next n c) l ∙ kept_layout n c

pub final_sound : {n : Node} → Sound n → (l : List Call) → Sound (final n l)
final_sound s [] = s
final_sound {n = n} s (c ∷ l) = final_sound {n = next n c} (kept_sound s c) l
