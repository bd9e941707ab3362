-- `store::clear` meets its contract: both parts of the memory come back as one byte throughout, and there is nothing behind them.
-- Assumes nothing.
use mathlib.Core.Path.{◌≡◌, ap, ap₂, ◌∙◌}
use mathlib.Core.List.{List, ◌++◌, append-nil}
use Prim.Native.Nat.{ℕ}
use native.Mathlib.Omega.{arith}
use lib.ListN.{length, replicate, drop, length-append, length-drop, length-replicate, drop_of_length-le}
use lib.Seq.{take_at}
use borrow.Author.Rules.{rules}
use borrow.Rule.Slice.PartMut.{put_mid}
use Rattle.store.specs.Memory.{overwritten}
use Rattle.store.specs.Node.{node_size, node_of}
use Rattle.store.proofs.Parts.{length_part, part_back}
use Rattle.store.proofs.Empty.{nothing_read}
use Rattle.store.proofs.clear.Goals as goal

-- the two parts, one after the other
both : (b x y : List ℕ) → length b ≡ node_size → length x ≡ 2723 → length y ≡ 128 → overwritten (overwritten b 0 2723 x) 2723 128 y ≡ x ++ y
both b x y size first second =
    let all : List ℕ = x ++ drop 2723 b in
    let whole : length all ≡ node_size = rw (length-append, length-drop) (omega arith) in
    ap₂ (λ (s t : List ℕ). s ++ (y ++ t)) (take_at x (drop 2723 b) 2723 first) (drop_of_length-le all {i = 2851} (omega arith))
    ∙ ap (λ (t : List ℕ). x ++ t) (append-nil y)

pub returns : goal.returns
returns c =
    let b = c.args.node.now in
    let zeros : List ℕ = replicate 2723 0 in
    let twos : List ℕ = replicate 128 2 in
    let front : c.fill.new.c ≡ zeros = c.fill.ensures ∙ ap (λ (n : ℕ). replicate n 0) (length_part b 0 2723 (omega arith)) in
    let half : List ℕ = put_mid 0 2723 b c.fill.new.c in
    let rest : c.fill-2.new.c ≡ twos =
    c.fill-2.ensures ∙ ap (λ (n : ℕ). replicate n 2) (length_part half 2723 128 (search rules)) in
    ap node_of
    (part_back half 2723 128 rest ∙ ap (λ (m : List ℕ). overwritten m 2723 128 twos) (part_back b 0 2723 front)
    ∙ both b zeros twos (omega arith) (length-replicate {A = ℕ} 2723 0) (length-replicate {A = ℕ} 128 2))
    ∙ nothing_read
